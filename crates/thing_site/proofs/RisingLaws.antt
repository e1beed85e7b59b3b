-- The affordances of a description rise.
use Rattle.std.proofs.Common.{◌≡◌, ℕ, ◌<◌, ◌≤◌, List, [], ◌∷◌, ◌++◌, Bool, true, false, cond, refl, sym, subst, arith}
use Rattle.std.specs.Prelude.{Option, Some, None, ◌&&◌}
use Rattle.std.specs.List.{AllByRecursion}
use Rattle.std.specs.Option.{option_map_or}
use Rattle.std.specs.Str.{bytes_eq}
use Rattle.std.specs.Ordering.{nat_cmp, is_lt}
use Rattle.std.specs.declared.cmp.Ordering.{Ordering}
use Rattle.std.specs.declared.cmp.Ordering.TheVariants.{Less, Equal, Greater}
use Rattle.std.specs.Cmp.Lexicographic.{slice_cmp}
use Rattle.std.proofs.lemmas.Bool.Decides.{nat_tests}
use Rattle.std.proofs.lemmas.Option.{same_Some}
use Rattle.wot_json.specs.Tree.{Json, object, Members, no_members, member, AreOrdered}
use Rattle.wot_json.specs.Lookup.{member_list, value_under}
use Rattle.wot_json.specs.WellFormed.{IsWellFormed, MembersAreWellFormed}
use Rattle.wot_terms.specs.declared.kind.Kind.{Kind}
use Rattle.wot_terms.specs.declared.kind.Kind.TheVariants as kind
use Rattle.wot_terms.specs.declared.affordance.Affordance.{Affordance}
use Rattle.wot_terms.specs.Faults.{holder}
use Rattle.wot_terms.specs.Affordances.{named_affordances, held_affordances, affordances_in, affordances_of}
use Rattle.thing_site.specs.Order.{rank, key, key_of, are_rising}

-- each is before the next
abbrev pub AreRising : List Affordance → Type 0
AreRising [] = Unit {0}
AreRising (a ∷ []) = Unit {0}
AreRising (a ∷ b ∷ more) = (slice_cmp nat_cmp (key_of a) (key_of b) ≡ Less) × AreRising (b ∷ more)

tested : (list : List Affordance) → AreRising list → are_rising list ≡ true
tested [] rising = refl
tested (a ∷ []) rising = refl
tested (a ∷ b ∷ more) rising = rw rising.0 (tested (b ∷ more) rising.1)

pub from_test : (list : List Affordance) → are_rising list ≡ true → AreRising list
from_test [] test = tt
from_test (a ∷ []) test = tt
from_test (a ∷ b ∷ more) test = by_order (from_test (b ∷ more)) (slice_cmp nat_cmp (key_of a) (key_of b)) refl test
  where
    by_order : (are_rising (b ∷ more) ≡ true → AreRising (b ∷ more)) → (o : Ordering) → slice_cmp nat_cmp (key_of a) (key_of b) ≡ o → (is_lt o && are_rising (b ∷ more)) ≡ true
        → (slice_cmp nat_cmp (key_of a) (key_of b) ≡ Less) × AreRising (b ∷ more)
    by_order further Less is test = (is, further test)
    by_order further Equal is test = absurd cc
    by_order further Greater is test = absurd cc

-- ---- those of one kind

same_kind : (k : Kind) (m n : List ℕ) → slice_cmp nat_cmp m n ≡ Less → slice_cmp nat_cmp (key k m) (key k n) ≡ Less
same_kind kind.Property m n before = before
same_kind kind.Action m n before = before
same_kind kind.Event m n before = before

named_rise : (k : Kind) (ms : Members) → AreOrdered (member_list ms) → AreRising (named_affordances k ms)
named_rise k no_members ordered = tt
named_rise k (member m v no_members) ordered = tt
named_rise k (member m v (member n w ms)) ordered = (same_kind k m n ordered.0, named_rise k (member n w ms) ordered.1)

-- all of them are of this kind
abbrev AreOf : Kind → List Affordance → Type 0
AreOf k affordances = AllByRecursion (λ a. a.kind ≡ k) affordances

named_are : (k : Kind) (ms : Members) → AreOf k (named_affordances k ms)
named_are k no_members = tt
named_are k (member m v ms) = (refl, named_are k ms)

-- a member of a value that is well formed is well formed too
under_well : (name : List ℕ) (ms : Members) (v : Json) → MembersAreWellFormed ms → value_under name ms ≡ Some v → IsWellFormed v
under_well name no_members v well e = absurd cc
under_well name (member m w ms) v well e = by_test (under_well name ms v well.2) (bytes_eq name m) e
  where
    by_test : (value_under name ms ≡ Some v → IsWellFormed v) → (b : Bool) → cond b (Some w) (value_under name ms) ≡ Some v → IsWellFormed v
    by_test further true is = subst (λ (x : Json). IsWellFormed x) (same_Some w v is) well.1
    by_test further false is = further is

held_rise : (k : Kind) (v : Json) → IsWellFormed v → AreRising (held_affordances k v)
held_rise k (object ms) well = named_rise k ms well.0
held_rise k v well = tt

held_are : (k : Kind) (v : Json) → AreOf k (held_affordances k v)
held_are k (object ms) = named_are k ms
held_are k v = tt

kind_rises : (k : Kind) (ms : Members) → MembersAreWellFormed ms → AreRising (affordances_in k ms) × AreOf k (affordances_in k ms)
kind_rises k ms well = by_value (value_under (holder k) ms) refl
  where
    by_value : (o : Option Json) → value_under (holder k) ms ≡ o → AreRising (option_map_or (held_affordances k) o []) × AreOf k (option_map_or (held_affordances k) o [])
    by_value None e = (tt, tt)
    by_value (Some v) e = (held_rise k v (under_well (holder k) ms v well e), held_are k v)

-- ---- one kind after another

-- these are of kinds from this rank on, and those of kinds below it
abbrev AreFrom : ℕ → List Affordance → Type 0
AreFrom r affordances = AllByRecursion (λ a. r ≤ rank a.kind) affordances

abbrev AreBelow : ℕ → List Affordance → Type 0
AreBelow r affordances = AllByRecursion (λ a. rank a.kind < r) affordances

lower : (x y : ℕ) (m n : List ℕ) → x < y → slice_cmp nat_cmp (x ∷ m) (y ∷ n) ≡ Less
lower x y m n below = grind (arith, nat_tests)

rise_on : (r : ℕ) (list later : List Affordance) → AreRising list → AreRising later → AreBelow r list → AreFrom r later → AreRising (list ++ later)
rise_on r [] later one other below from = other
rise_on r (a ∷ []) [] one other below from = tt
rise_on r (a ∷ []) (b ∷ later) one other below from = (lower (rank a.kind) (rank b.kind) a.name b.name (omega (arith, below.0, from.0)), other)
rise_on r (a ∷ c ∷ list) later one other below from = (one.0, rise_on r (c ∷ list) later one.1 other below.1 from)

of_kind_below : (k : Kind) (r : ℕ) (list : List Affordance) → rank k < r → AreOf k list → AreBelow r list
of_kind_below k r [] low all = tt
of_kind_below k r (a ∷ list) low all = (subst (λ (x : Kind). rank x < r) (sym all.0) low, of_kind_below k r list low all.1)

of_kind_from : (k : Kind) (r : ℕ) (list : List Affordance) → r ≤ rank k → AreOf k list → AreFrom r list
of_kind_from k r [] high all = tt
of_kind_from k r (a ∷ list) high all = (subst (λ (x : Kind). r ≤ rank x) (sym all.0) high, of_kind_from k r list high all.1)

both_from : (r : ℕ) (list later : List Affordance) → AreFrom r list → AreFrom r later → AreFrom r (list ++ later)
both_from r [] later one other = other
both_from r (a ∷ list) later one other = (one.0, both_from r list later one.1 other)

members_rise : (ms : Members) → MembersAreWellFormed ms → AreRising (affordances_in kind.Property ms ++ (affordances_in kind.Action ms ++ affordances_in kind.Event ms))
members_rise ms well =
    let properties = kind_rises kind.Property ms well in
    let actions = kind_rises kind.Action ms well in
    let events = kind_rises kind.Event ms well in
    rise_on 1 (affordances_in kind.Property ms) (affordances_in kind.Action ms ++ affordances_in kind.Event ms) properties.0
    (rise_on 2 (affordances_in kind.Action ms) (affordances_in kind.Event ms) actions.0 events.0
    (of_kind_below kind.Action 2 (affordances_in kind.Action ms) (omega arith) actions.1) (of_kind_from kind.Event 2 (affordances_in kind.Event ms) (omega arith) events.1))
    (of_kind_below kind.Property 1 (affordances_in kind.Property ms) (omega arith) properties.1)
    (both_from 1 (affordances_in kind.Action ms) (affordances_in kind.Event ms) (of_kind_from kind.Action 1 (affordances_in kind.Action ms) (omega arith) actions.1)
    (of_kind_from kind.Event 1 (affordances_in kind.Event ms) (omega arith) events.1))

all_rise : (v : Json) → IsWellFormed v → AreRising (affordances_of v)
all_rise (object ms) well = members_rise ms well.1
all_rise v well = tt

pub affordances_rise : (v : Json) → IsWellFormed v → are_rising (affordances_of v) ≡ true
affordances_rise v well = tested (affordances_of v) (all_rise v well)
