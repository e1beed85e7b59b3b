-- The members of an object with one member changed, and each member where it stands.
use Rattle.std.proofs.Common.{◌≡◌, ℕ, List, [], ◌∷◌, false, Some, None, refl, sym, ap, ◌∙◌}
use Rattle.std.specs.List.{AllByRecursion}
use Rattle.std.specs.Str.{bytes_eq}
use Rattle.wot_json.specs.Tree.{Json, AreOrdered}
use Rattle.wot_json.specs.Lookup.{member_named}
use Rattle.wot_json.specs.Cutting.{IsBeforeAll}
use Rattle.wot_json.specs.Merge.{with_member, without_member}
use Rattle.wot_json.proofs.MemberOrder.{less, equal, greater, compares, behind_other, before_others, rest_ordered}
use Rattle.wot_json.proofs.MergeLaws.{itself}

abbrev pub Field : Type 0
Field = List ℕ × Json

pub named_with : (name : List ℕ) (w : Json) (ms : List Field) → member_named name (with_member name w ms) ≡ Some w
named_with name w [] = rw (itself name).1 refl
named_with name w (m ∷ ms) = elim (compares name m.0) [
  | less is test ↦ rw is (rw (itself name).1 refl)
  | equal is same test ↦ rw is (rw (itself name).1 refl)
  | greater is behind test ↦ rw is (rw test (named_with name w ms))
]

same_test : (name other third : List ℕ) → bytes_eq name other ≡ false → other ≡ third → bytes_eq name third ≡ false
same_test name other third differ same = ap (bytes_eq name) (sym same) ∙ differ

pub named_with_other : (name other : List ℕ) (w : Json) (ms : List Field) → bytes_eq name other ≡ false → member_named name (with_member other w ms) ≡ member_named name ms
named_with_other name other w [] differ = rw differ refl
named_with_other name other w (m ∷ ms) differ = elim (compares other m.0) [
  | less is test ↦ rw is (rw differ refl)
  | equal is same test ↦ rw is (rw (differ, same_test name other m.0 differ same) refl)
  | greater is behind test ↦ rw is (rw (named_with_other name other w ms differ) refl)
]

pub named_without : (name : List ℕ) (ms : List Field) → member_named name (without_member name ms) ≡ None
named_without name [] = refl
named_without name (m ∷ ms) = elim (compares name m.0) [
  | less is test ↦ rw test (rw test (named_without name ms))
  | equal is same test ↦ rw test (named_without name ms)
  | greater is behind test ↦ rw test (rw test (named_without name ms))
]

pub named_without_other : (name other : List ℕ) (ms : List Field) → bytes_eq name other ≡ false → member_named name (without_member other ms) ≡ member_named name ms
named_without_other name other [] differ = refl
named_without_other name other (m ∷ ms) differ =
    let rest = named_without_other name other ms differ in
    elim (compares other m.0) [
      | less is test ↦ rw test (rw rest refl)
      | equal is same test ↦ rw (test, same_test name other m.0 differ same) rest
      | greater is behind test ↦ rw test (rw rest refl)
    ]

-- ---- each member of an object is found by its name

pub each_of : {A : Type 0} (P Q : A → Type 0) → ((x : A) → P x → Q x) → (xs : List A) → AllByRecursion P xs → AllByRecursion Q xs
each_of P Q f [] all = tt
each_of P Q f (x ∷ xs) all = (f x all.0, each_of P Q f xs all.1)

pub both_of : {A : Type 0} (P Q : A → Type 0) (xs : List A) → AllByRecursion P xs → AllByRecursion Q xs → AllByRecursion (λ x. P x × Q x) xs
both_of P Q [] all other = tt
both_of P Q (x ∷ xs) all other = ((all.0, other.0), both_of P Q xs all.1 other.1)

abbrev pub IsFound : List Field → Field → Type 0
IsFound ms m = member_named m.0 ms ≡ Some m.1

behind_first : (first : Field) (ms : List Field) (m : Field) → bytes_eq m.0 first.0 ≡ false → IsFound ms m → IsFound (first ∷ ms) m
behind_first first ms m other is = rw other is

pub each_found : (ms : List Field) → AreOrdered ms → AllByRecursion (IsFound ms) ms
each_found [] ordered = tt
each_found (m ∷ ms) ordered = (
  rw (itself m.0).1 refl,
  each_of (λ (n : Field). (bytes_eq n.0 m.0 ≡ false) × IsFound ms n) (IsFound (m ∷ ms)) (λ n is. behind_first m ms n is.0 is.1) ms
      (both_of (λ (n : Field). bytes_eq n.0 m.0 ≡ false) (IsFound ms) ms (differ ms (before_others m ms ordered)) (each_found ms (rest_ordered m ms ordered))),
)
  where
    differ : (ns : List Field) → IsBeforeAll m.0 ns → AllByRecursion (λ (n : Field). bytes_eq n.0 m.0 ≡ false) ns
    differ [] before = tt
    differ (n ∷ ns) before = (behind_other m.0 n.0 before.0, differ ns before.1)
