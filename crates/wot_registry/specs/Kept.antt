-- Inside the crate: how the code keeps the times of entries, and the order in which they expire.
use Rattle.std.specs.Prelude.{◌≡◌, ◌≤◌, ◌<◌, slice_get, ℕ, List, Option, Some, None, Bool, true, false, cond, map, String, string_bytes}
use Rattle.std.specs.declared.alloc.Global.{Global}
use Rattle.std.specs.BTreeMap as tree
use Rattle.std.specs.BTreeSet as sorted
use Rattle.std.specs.BTreeMap.{BTreeMap, is_at}
use Rattle.std.specs.BTreeSet.{BTreeSet}
use Rattle.std.specs.String.{string_cmp}
use Rattle.std.specs.Ordering.{nat_cmp, ordering_then, is_eq}
use Rattle.std.specs.declared.cmp.Ordering.{Ordering}
use Rattle.wot_registry.specs.Times.{Times, expiry}

-- times as the map keeps them
abbrev pub kept_times : List (String Global × Times) → List (List ℕ × Times)
kept_times = map (λ entry. (string_bytes entry.0, entry.1))

-- a moment of expiry with an id, in order: by the moment, then by the id
abbrev pub Placed : Type 0
Placed = ℕ × String Global

abbrev pub placed_cmp : Placed → Placed → Ordering
placed_cmp p q = ordering_then (nat_cmp p.0 q.0) (string_cmp p.1 q.1)

-- this is a moment of expiry
abbrev pub is_moment : ℕ → Option ℕ → Bool
is_moment moment None = false
is_moment moment (Some other) = is_eq (nat_cmp other moment)

-- an entry with these times expires at this moment
abbrev pub expires_at : ℕ → Option Times → Bool
expires_at moment None = false
expires_at moment (Some t) = is_moment moment (expiry t)

-- ids are in order, and the order of expiry has each entry with a time to live at its moment, and no other
pub record AreKept (by_id : BTreeMap (String Global) Times) (order : BTreeSet Placed) : Type 0 where
  pub ordered : tree.IsOrdered string_cmp by_id
  pub placed : (q : Placed) → sorted.contains placed_cmp order q ≡ expires_at q.0 (tree.get string_cmp by_id q.1)

-- ---- inside the calls

-- an id at a moment is in the order once it was put there, or taken away, where there is a moment
abbrev pub with_placed : Option ℕ → String Global → Placed → Bool → Bool
with_placed None id q there = there
with_placed (Some moment) id q there = cond (is_at (placed_cmp (moment, id)) q) true there

abbrev pub without_placed : Option ℕ → String Global → Placed → Bool → Bool
without_placed None id q there = there
without_placed (Some moment) id q there = cond (is_at (placed_cmp (moment, id)) q) false there

-- the first in the order is due at this moment, or nothing is
abbrev pub IsFirstDue : ℕ → BTreeSet Placed → Bool → Type 0
IsFirstDue now order true = (q : Placed) × (slice_get order.keys 0 ≡ Some q) × (q.0 ≤ now)
IsFirstDue now order false = (q : Placed) → sorted.contains placed_cmp order q ≡ true → now < q.0
