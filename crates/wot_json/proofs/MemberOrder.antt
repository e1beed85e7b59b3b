-- Names of members in byte order.
use Rattle.std.proofs.Common.{◌≡◌, ℕ, List, [], ◌∷◌, true, false, refl, sym, ap, ◌∙◌}
use Rattle.std.specs.Ordering.{nat_cmp, ordering_reverse, is_eq}
use Rattle.std.specs.declared.cmp.Ordering.{Ordering}
use Rattle.std.specs.declared.cmp.Ordering.TheVariants.{Less, Equal, Greater}
use Rattle.std.specs.Cmp.Lexicographic.{slice_cmp, nat_list_cmp_total}
use Rattle.std.specs.Str.{bytes_eq}
use Rattle.std.proofs.lemmas.Map.Text.{is_eq-slice_cmp}
use Rattle.std.proofs.lemmas.Slice.Eq.{bytes_eq-Decides}
use Rattle.wot_json.specs.Tree.{Json, AreOrdered}
use Rattle.wot_json.specs.Cutting.{IsBefore, IsBeforeAll}

abbrev Field : Type 0
Field = List ℕ × Json

-- two names compare, and test, in one of these ways
pub data Compares (m n : List ℕ) : Type 0 where
  less : slice_cmp nat_cmp m n ≡ Less → bytes_eq m n ≡ false → Compares m n
  equal : slice_cmp nat_cmp m n ≡ Equal → m ≡ n → bytes_eq m n ≡ true → Compares m n
  greater : slice_cmp nat_cmp m n ≡ Greater → IsBefore n m → bytes_eq m n ≡ false → Compares m n

compares_by : (m n : List ℕ) (o : Ordering) → slice_cmp nat_cmp m n ≡ o → Compares m n
compares_by m n Less is = less is (sym (is_eq-slice_cmp m n) ∙ ap is_eq is)
compares_by m n Equal is =
    let test : bytes_eq m n ≡ true = sym (is_eq-slice_cmp m n) ∙ ap is_eq is in
    equal is ((bytes_eq-Decides m n).0 test) test
compares_by m n Greater is = greater is (nat_list_cmp_total.antisymm n m ∙ ap ordering_reverse is) (sym (is_eq-slice_cmp m n) ∙ ap is_eq is)

pub compares : (m n : List ℕ) → Compares m n
compares m n = compares_by m n (slice_cmp nat_cmp m n) refl

-- a name after another compares as greater, and tests as another
pub behind_Greater : (m n : List ℕ) → IsBefore m n → slice_cmp nat_cmp n m ≡ Greater
behind_Greater m n before = nat_list_cmp_total.antisymm n m ∙ ap ordering_reverse before

pub behind_other : (m n : List ℕ) → IsBefore m n → bytes_eq n m ≡ false
behind_other m n before = sym (is_eq-slice_cmp n m) ∙ ap is_eq (behind_Greater m n before)

pub before_other : (m n : List ℕ) → IsBefore m n → bytes_eq m n ≡ false
before_other m n before = sym (is_eq-slice_cmp m n) ∙ ap is_eq before

-- the members after the first are in order
pub rest_ordered : (m : Field) (ms : List Field) → AreOrdered (m ∷ ms) → AreOrdered ms
rest_ordered m [] ordered = tt
rest_ordered m (n ∷ ms) ordered = ordered.1

-- a name before another is before all that the other is before
pub before_all : (name other : List ℕ) (ms : List Field) → IsBefore name other → IsBeforeAll other ms → IsBeforeAll name ms
before_all name other [] before others = tt
before_all name other (m ∷ ms) before others =
    (nat_list_cmp_total.trans name other m.0 before others.0, before_all name other ms before others.1)

-- the name of the first is before all others
pub before_others : (m : Field) (ms : List Field) → AreOrdered (m ∷ ms) → IsBeforeAll m.0 ms
before_others m [] ordered = tt
before_others m (n ∷ ms) ordered = (ordered.0, before_all m.0 n.0 ms ordered.0 (before_others n ms ordered.1))

-- a member before all others, which are in order
pub ordered_with : (m : Field) (ms : List Field) → IsBeforeAll m.0 ms → AreOrdered ms → AreOrdered (m ∷ ms)
ordered_with m [] before ordered = tt
ordered_with m (n ∷ ms) before ordered = (before.0, ordered)
