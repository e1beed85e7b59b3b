-- The order of expiry, once the times of an entry were changed.
use Rattle.std.proofs.Common.{◌≡◌, ℕ, List, refl, sym, ap, ◌∙◌, Bool, true, false, cond}
use Rattle.std.specs.Prelude.{Option, Some, None, option_map, String, string_bytes}
use Rattle.std.specs.declared.alloc.Global.{Global}
use Rattle.std.specs.declared.cmp.Ordering.{Ordering}
use Rattle.std.specs.declared.cmp.Ordering.TheVariants.{Less, Equal, Greater}
use Rattle.std.specs.Ordering.{nat_cmp, ordering_then, is_eq}
use Rattle.std.specs.Cmp.Lexicographic.{slice_cmp}
use Rattle.std.specs.String.{string_cmp}
use Rattle.std.specs.Map.{lookup}
use Rattle.std.specs.BTreeMap as tree
use Rattle.std.specs.BTreeSet as sorted
use Rattle.std.specs.BTreeMap.{BTreeMap, is_at}
use Rattle.std.specs.BTreeSet.{BTreeSet}
use Rattle.std.proofs.lemmas.Map.Lookups.{exact_unsigned, exact_bytes}
use Rattle.wot_registry.specs.Times.{Times, expiry}
use Rattle.wot_registry.specs.Kept.{Placed, placed_cmp, is_moment, expires_at, with_placed, without_placed, AreKept}
use Rattle.wot_registry.proofs.KeptTimes.{found_in}

then_eq : (a b : Ordering) → is_eq (ordering_then a b) ≡ cond (is_eq a) (is_eq b) false
then_eq Less b = refl
then_eq Equal b = refl
then_eq Greater b = refl

-- the same choice, by whether the id is the one
abbrev pub with_here : Option ℕ → ℕ → Bool → Bool → Bool
with_here None x here there = there
with_here (Some m) x here there = cond (cond (is_eq (nat_cmp m x)) here false) true there

abbrev pub without_here : Option ℕ → ℕ → Bool → Bool → Bool
without_here None x here there = there
without_here (Some m) x here there = cond (cond (is_eq (nat_cmp m x)) here false) false there

pub by_here : (e : Option ℕ) (id : String Global) (q : Placed) (there : Bool) → with_placed e id q there ≡ with_here e q.0 (is_eq (string_cmp id q.1)) there
by_here None id q there = refl
by_here (Some m) id q there = ap (λ (b : Bool). cond b true there) (then_eq (nat_cmp m q.0) (string_cmp id q.1))

pub out_here : (e : Option ℕ) (id : String Global) (q : Placed) (there : Bool) → without_placed e id q there ≡ without_here e q.0 (is_eq (string_cmp id q.1)) there
out_here None id q there = refl
out_here (Some m) id q there = ap (λ (b : Bool). cond b false there) (then_eq (nat_cmp m q.0) (string_cmp id q.1))

cond_true : (b : Bool) → cond (cond b true false) true false ≡ b
cond_true true = refl
cond_true false = refl

cond_out : (b : Bool) → cond (cond b true false) false b ≡ false
cond_out true = refl
cond_out false = refl

neutral : (b x there : Bool) → cond (cond b false false) x there ≡ there
neutral true x there = refl
neutral false x there = refl

with_true : (e : Option ℕ) (x : ℕ) → with_here e x true false ≡ is_moment x e
with_true None x = refl
with_true (Some m) x = cond_true (is_eq (nat_cmp m x))

with_false : (e : Option ℕ) (x : ℕ) (there : Bool) → with_here e x false there ≡ there
with_false None x there = refl
with_false (Some m) x there = neutral (is_eq (nat_cmp m x)) true there

without_true : (e : Option ℕ) (x : ℕ) → without_here e x true (is_moment x e) ≡ false
without_true None x = refl
without_true (Some m) x = cond_out (is_eq (nat_cmp m x))

without_false : (e : Option ℕ) (x : ℕ) (there : Bool) → without_here e x false there ≡ there
without_false None x there = refl
without_false (Some m) x there = neutral (is_eq (nat_cmp m x)) false there

-- ---- an entry is added

pub added_here : (here : Bool) (x : ℕ) (t : Times) (was : Option Times) → (here ≡ true → was ≡ None) → with_here (expiry t) x here (expires_at x was) ≡ expires_at x (cond here (Some t) was)
added_here true x t was none = ap (λ (o : Option Times). with_here (expiry t) x true (expires_at x o)) (none refl) ∙ with_true (expiry t) x
added_here false x t was none = with_false (expiry t) x (expires_at x was)

-- ---- an entry is removed

pub removed_here : (here : Bool) (x : ℕ) (u : Times) (was : Option Times) → (here ≡ true → was ≡ Some u) → without_here (expiry u) x here (expires_at x was) ≡ expires_at x (cond here None was)
removed_here true x u was some = ap (λ (o : Option Times). without_here (expiry u) x true (expires_at x o)) (some refl) ∙ without_true (expiry u) x
removed_here false x u was some = without_false (expiry u) x (expires_at x was)

-- ---- an entry gets other times

equal_moments : (m n x : ℕ) (a b : Bool) → is_eq (nat_cmp m x) ≡ a → is_eq (nat_cmp n x) ≡ b → (m ≡ n → ⊥) → cond (cond a true false) false (cond (cond b true false) true a) ≡ b
equal_moments m n x true true one other apart = absurd (apart (same m x one ∙ sym (same n x other)))
  where
    by : (o : Ordering) → is_eq o ≡ true → o ≡ Equal
    by Less h = absurd (cc (h))
    by Equal h = refl
    by Greater h = absurd (cc (h))

    same : (k x : ℕ) → is_eq (nat_cmp k x) ≡ true → k ≡ x
    same k x h = exact_unsigned k x (by (nat_cmp k x) h)
equal_moments m n x true false one other apart = refl
equal_moments m n x false true one other apart = refl
equal_moments m n x false false one other apart = refl

moved : (before e : Option ℕ) (x : ℕ) → (e ≡ before → ⊥) → without_here before x true (with_here e x true (is_moment x before)) ≡ is_moment x e
moved None e x apart = with_true e x
moved (Some m) None x apart = cond_out (is_eq (nat_cmp m x))
moved (Some m) (Some n) x apart = equal_moments m n x (is_eq (nat_cmp m x)) (is_eq (nat_cmp n x)) refl refl (λ same. apart (ap (λ (k : ℕ). Some k) (sym same)))

expires_mapped : (x : ℕ) (was : Option Times) (before : Option ℕ) → option_map expiry was ≡ Some before → expires_at x was ≡ is_moment x before
expires_mapped x None before is = absurd (cc (is))
expires_mapped x (Some u) before is = ap (λ (e : Option ℕ). is_moment x e) (some_same (expiry u) before is)
  where
    of : Option (Option ℕ) → Option ℕ
    of None = None
    of (Some e) = e

    some_same : (a b : Option ℕ) → Some a ≡ Some b → a ≡ b
    some_same a b e = ap (λ (o : Option (Option ℕ)). of o) e

pub changed_here : (here : Bool) (x : ℕ) (t : Times) (was : Option Times) (before : Option ℕ) → (here ≡ true → option_map expiry was ≡ Some before) → (expiry t ≡ before → ⊥)
    → without_here before x here (with_here (expiry t) x here (expires_at x was)) ≡ expires_at x (cond here (Some t) was)
changed_here true x t was before some apart = ap (λ (b : Bool). without_here before x true (with_here (expiry t) x true b)) (expires_mapped x was before (some refl)) ∙ moved before (expiry t) x apart
changed_here false x t was before some apart = without_false before x (with_here (expiry t) x false (expires_at x was)) ∙ with_false (expiry t) x (expires_at x was)

pub kept_here : (here : Bool) (x : ℕ) (t : Times) (was : Option Times) (before : Option ℕ) → (here ≡ true → option_map expiry was ≡ Some before) → expiry t ≡ before
    → expires_at x was ≡ expires_at x (cond here (Some t) was)
kept_here true x t was before some same = expires_mapped x was before (some refl) ∙ ap (λ (e : Option ℕ). is_moment x e) (sym same)
kept_here false x t was before some same = refl

-- an entry that was put is taken away again
undone : (e : Option ℕ) (x : ℕ) (b : Bool) → without_here e x true (with_here e x true false) ≡ false
undone e x b = ap (λ (c : Bool). without_here e x true c) (with_true e x) ∙ without_true e x

pub undone_here : (here : Bool) (x : ℕ) (e : Option ℕ) (was : Option Times) → (here ≡ true → was ≡ None) → without_here e x here (with_here e x here (expires_at x was)) ≡ expires_at x was
undone_here true x e was none =
    ap (λ (o : Option Times). without_here e x true (with_here e x true (expires_at x o))) (none refl) ∙ undone e x true ∙ ap (λ (o : Option Times). expires_at x o) (sym (none refl))
undone_here false x e was none = without_false e x (with_here e x false (expires_at x was)) ∙ with_false e x (expires_at x was)

-- ---- maps

pub is_equal : (o : Ordering) → is_eq o ≡ true → o ≡ Equal
is_equal Less h = absurd (cc (h))
is_equal Equal h = refl
is_equal Greater h = absurd (cc (h))

abbrev Map : Type 0
Map = BTreeMap (String Global) Times

-- a key that is equal has the same bytes
same_bytes : (a b : List ℕ) → is_eq (slice_cmp nat_cmp a b) ≡ true → a ≡ b
same_bytes a b h = exact_bytes a b (is_equal (slice_cmp nat_cmp a b) h)

same_get : (m : Map) (id : List ℕ) (k : String Global) → is_eq (slice_cmp nat_cmp id (string_bytes k)) ≡ true → tree.get string_cmp m k ≡ found_in id m.entries
same_get m id k h = ap (λ (bs : List ℕ). found_in bs m.entries) (sym (same_bytes id (string_bytes k) h))

same_test : (a b : String Global) (q : Placed) → string_bytes a ≡ string_bytes b → is_eq (string_cmp a q.1) ≡ is_eq (string_cmp b q.1)
same_test a b q same = ap (λ (bs : List ℕ). is_eq (slice_cmp nat_cmp bs (string_bytes q.1))) same

-- ---- what the calls leave

pub kept_after_add : (by_id after_id : Map) (order after_order : BTreeSet Placed) (key placed : String Global) (t : Times) → AreKept by_id order
    → string_bytes placed ≡ string_bytes key → found_in (string_bytes key) by_id.entries ≡ None
    → ((q : Placed) → sorted.contains placed_cmp after_order q ≡ with_placed (expiry t) placed q (sorted.contains placed_cmp order q))
    → ((k : String Global) → tree.get string_cmp after_id k ≡ cond (is_eq (string_cmp key k)) (Some t) (tree.get string_cmp by_id k))
    → tree.IsOrdered string_cmp after_id → AreKept after_id after_order
kept_after_add by_id after_id order after_order key placed t kept same absent put updated ordered = record {
  ordered = ordered;
  placed = λ q.
      put q ∙ by_here (expiry t) placed q (sorted.contains placed_cmp order q)
      ∙ ap (λ (b : Bool). with_here (expiry t) q.0 b (sorted.contains placed_cmp order q)) (same_test placed key q same)
      ∙ ap (λ (b : Bool). with_here (expiry t) q.0 (is_eq (string_cmp key q.1)) b) (kept.placed q)
      ∙ added_here (is_eq (string_cmp key q.1)) q.0 t (tree.get string_cmp by_id q.1) (λ h. same_get by_id (string_bytes key) q.1 h ∙ absent)
      ∙ ap (λ (o : Option Times). expires_at q.0 o) (sym (updated q.1));
}

pub kept_after_undoing : (by_id after_id : Map) (order middle after_order : BTreeSet Placed) (key placed back : String Global) (e : Option ℕ) → AreKept by_id order
    → string_bytes placed ≡ string_bytes key → string_bytes back ≡ string_bytes key → found_in (string_bytes key) by_id.entries ≡ None
    → ((q : Placed) → sorted.contains placed_cmp middle q ≡ with_placed e placed q (sorted.contains placed_cmp order q))
    → ((q : Placed) → sorted.contains placed_cmp after_order q ≡ without_placed e back q (sorted.contains placed_cmp middle q))
    → after_id.entries ≡ by_id.entries → tree.IsOrdered string_cmp after_id → AreKept after_id after_order
kept_after_undoing by_id after_id order middle after_order key placed back e kept same same_back absent put taken unchanged ordered = record {
  ordered = ordered;
  placed = λ q.
      taken q ∙ out_here e back q (sorted.contains placed_cmp middle q)
      ∙ ap (λ (b : Bool). without_here e q.0 b (sorted.contains placed_cmp middle q)) (same_test back key q same_back)
      ∙ ap (λ (b : Bool). without_here e q.0 (is_eq (string_cmp key q.1)) b)
      (put q ∙ by_here e placed q (sorted.contains placed_cmp order q)
      ∙ ap (λ (b : Bool). with_here e q.0 b (sorted.contains placed_cmp order q)) (same_test placed key q same)
      ∙ ap (λ (b : Bool). with_here e q.0 (is_eq (string_cmp key q.1)) b) (kept.placed q))
      ∙ undone_here (is_eq (string_cmp key q.1)) q.0 e (tree.get string_cmp by_id q.1) (λ h. same_get by_id (string_bytes key) q.1 h ∙ absent)
      ∙ ap (λ (es : List (String Global × Times)). expires_at q.0 (lookup (is_at (string_cmp q.1)) es)) (sym unchanged);
}

pub kept_after_change : (by_id after_id : Map) (order middle after_order : BTreeSet Placed) (key placed back : String Global) (t : Times) (before : Option ℕ) → AreKept by_id order
    → string_bytes placed ≡ string_bytes key → string_bytes back ≡ string_bytes key → option_map expiry (found_in (string_bytes key) by_id.entries) ≡ Some before
    → (expiry t ≡ before → ⊥)
    → ((q : Placed) → sorted.contains placed_cmp middle q ≡ with_placed (expiry t) placed q (sorted.contains placed_cmp order q))
    → ((q : Placed) → sorted.contains placed_cmp after_order q ≡ without_placed before back q (sorted.contains placed_cmp middle q))
    → ((k : String Global) → tree.get string_cmp after_id k ≡ cond (is_eq (string_cmp key k)) (Some t) (tree.get string_cmp by_id k))
    → tree.IsOrdered string_cmp after_id → AreKept after_id after_order
kept_after_change by_id after_id order middle after_order key placed back t before kept same same_back there apart put taken updated ordered = record {
  ordered = ordered;
  placed = λ q.
      taken q ∙ out_here before back q (sorted.contains placed_cmp middle q)
      ∙ ap (λ (b : Bool). without_here before q.0 b (sorted.contains placed_cmp middle q)) (same_test back key q same_back)
      ∙ ap (λ (b : Bool). without_here before q.0 (is_eq (string_cmp key q.1)) b)
      (put q ∙ by_here (expiry t) placed q (sorted.contains placed_cmp order q)
      ∙ ap (λ (b : Bool). with_here (expiry t) q.0 b (sorted.contains placed_cmp order q)) (same_test placed key q same)
      ∙ ap (λ (b : Bool). with_here (expiry t) q.0 (is_eq (string_cmp key q.1)) b) (kept.placed q))
      ∙ changed_here (is_eq (string_cmp key q.1)) q.0 t (tree.get string_cmp by_id q.1) before
      (λ h. ap (λ (o : Option Times). option_map expiry o) (same_get by_id (string_bytes key) q.1 h) ∙ there) apart
      ∙ ap (λ (o : Option Times). expires_at q.0 o) (sym (updated q.1));
}

pub kept_after_write : (by_id after_id : Map) (order : BTreeSet Placed) (key : String Global) (t : Times) → AreKept by_id order
    → option_map expiry (found_in (string_bytes key) by_id.entries) ≡ Some (expiry t)
    → ((k : String Global) → tree.get string_cmp after_id k ≡ cond (is_eq (string_cmp key k)) (Some t) (tree.get string_cmp by_id k))
    → tree.IsOrdered string_cmp after_id → AreKept after_id order
kept_after_write by_id after_id order key t kept there updated ordered = record {
  ordered = ordered;
  placed = λ q.
      kept.placed q
      ∙ kept_here (is_eq (string_cmp key q.1)) q.0 t (tree.get string_cmp by_id q.1) (expiry t)
      (λ h. ap (λ (o : Option Times). option_map expiry o) (same_get by_id (string_bytes key) q.1 h) ∙ there) refl
      ∙ ap (λ (o : Option Times). expires_at q.0 o) (sym (updated q.1));
}

pub kept_after_removal : (by_id after_id : Map) (order after_order : BTreeSet Placed) (id : List ℕ) (back : String Global) (u : Times) → AreKept by_id order
    → string_bytes back ≡ id → found_in id by_id.entries ≡ Some u
    → ((q : Placed) → sorted.contains placed_cmp after_order q ≡ without_placed (expiry u) back q (sorted.contains placed_cmp order q))
    → ((k : String Global) → tree.get string_cmp after_id k ≡ cond (is_eq (slice_cmp nat_cmp id (string_bytes k))) None (tree.get string_cmp by_id k))
    → tree.IsOrdered string_cmp after_id → AreKept after_id after_order
kept_after_removal by_id after_id order after_order id back u kept same there taken updated ordered = record {
  ordered = ordered;
  placed = λ q.
      taken q ∙ out_here (expiry u) back q (sorted.contains placed_cmp order q)
      ∙ ap (λ (bs : List ℕ). without_here (expiry u) q.0 (is_eq (slice_cmp nat_cmp bs (string_bytes q.1))) (sorted.contains placed_cmp order q)) same
      ∙ ap (λ (b : Bool). without_here (expiry u) q.0 (is_eq (slice_cmp nat_cmp id (string_bytes q.1))) b) (kept.placed q)
      ∙ removed_here (is_eq (slice_cmp nat_cmp id (string_bytes q.1))) q.0 u (tree.get string_cmp by_id q.1) (λ h. same_get by_id id q.1 h ∙ there)
      ∙ ap (λ (o : Option Times). expires_at q.0 o) (sym (updated q.1));
}

-- a key under which something is isn't absent
pub not_absent : (found : Option Times) (before : Option ℕ) → found ≡ None → option_map expiry found ≡ Some before → ⊥
not_absent None before none there = absurd (cc (there))
not_absent (Some t) before none there = absurd (cc (none))
