-- Of more numbers than a directory has entries, one is not used.
use Rattle.std.proofs.Common.{◌≡◌, ◌≤◌, ◌<◌, ◌+◌, ℕ, zero, suc, List, [], ◌∷◌, length, refl, sym, ap, subst, arith, inl, inr, Bool, true, false, cond}
use Rattle.std.specs.Prelude.{Option, Some, is_some, IsSome, decimal, drop}
use Rattle.std.specs.Str.{bytes_eq}
use Rattle.std.proofs.lemmas.Bool.{cases_Bool}
use Rattle.std.proofs.lemmas.Slice.Eq.{bytes_eq-Decides}
use Rattle.wot_json.specs.Tree.{Json}
use Rattle.wot_json.specs.Lookup.{member_named}
use Rattle.wot_json.specs.Merge.{without_member}
use Rattle.std.proofs.lemmas.Fmt.{decimal_injective}
use Rattle.wot_directory.specs.Contents.{Entries}
use Rattle.wot_directory.specs.Directory.{local_id, AreAllUsed}

abbrev Entry : Type 0
Entry = List ℕ × Json

-- a name is found as before once another was taken away
pub named_without_other : (name other : List ℕ) (ms : List Entry) → bytes_eq name other ≡ false → member_named name (without_member other ms) ≡ member_named name ms
named_without_other name other [] differ = refl
named_without_other name other (m ∷ ms) differ = elim (cases_Bool (bytes_eq other m.0)) [
  | inl same ↦
      let is : other ≡ m.0 = (bytes_eq-Decides other m.0).0 same in
      let apart : bytes_eq name m.0 ≡ false = subst (λ (x : List ℕ). bytes_eq name x ≡ false) is differ in
      rw (same, apart) (named_without_other name other ms differ)
  | inr apart ↦ rw apart (ap (λ (r : Option Json). cond (bytes_eq name m.0) (Some m.1) r) (named_without_other name other ms differ))
]

-- the rest is no longer, and shorter where the name was found
no_longer : (name : List ℕ) (ms : List Entry) → length (without_member name ms) ≤ length ms
no_longer name [] = omega arith
no_longer name (m ∷ ms) =
    let later : length (without_member name ms) ≤ length ms = no_longer name ms in
    elim (cases_Bool (bytes_eq name m.0)) [
      | inl same ↦ rw same (omega arith)
      | inr apart ↦ rw apart (omega arith)
    ]

shorter : (name : List ℕ) (ms : List Entry) → IsSome (member_named name ms) → length (without_member name ms) < length ms
shorter name [] found = absurd (cc (found))
shorter name (m ∷ ms) found = elim (cases_Bool (bytes_eq name m.0)) [
  | inl same ↦ let later : length (without_member name ms) ≤ length ms = no_longer name ms in rw same (omega arith)
  | inr apart ↦
      let later : length (without_member name ms) < length ms = shorter name ms (subst (λ (b : Bool). is_some (cond b (Some m.1) (member_named name ms)) ≡ true) apart found) in
      rw apart (omega arith)
]

-- the names of n numbers from a first on differ, each from those after it
abbrev pub AreApart : (ℕ → List ℕ) → ℕ → ℕ → Type 0
AreApart name first count = (i j : ℕ) → first ≤ i → i < j → j < first + count → bytes_eq (name j) (name i) ≡ false

-- where all names of n numbers are found, there are as many entries
pub found_are_few : (name : ℕ → List ℕ) (count first : ℕ) (es : List Entry) → AreApart name first count → ((k : ℕ) → first ≤ k → k < first + count → IsSome (member_named (name k) es)) → count ≤ length es
found_are_few name zero first es apart found = omega arith
found_are_few name (suc count) first es apart found =
    let later : count ≤ length (without_member (name first) es) =
    found_are_few name count (first + 1) (without_member (name first) es)
    (λ i j from less to. apart i j (omega arith) less (omega arith))
    (λ k from to. subst (λ (r : Option Json). IsSome r) (sym (named_without_other (name k) (name first) es (apart first k (omega arith) (omega arith) (omega arith)))) (found k (omega arith) (omega arith))) in
    let here : length (without_member (name first) es) < length es = shorter (name first) es (found first (omega arith) (omega arith)) in
    omega arith

-- the ids of two numbers of so few differ
ids_apart : AreApart local_id 1 4097
ids_apart i j from less to = elim (cases_Bool (bytes_eq (local_id j) (local_id i))) [
  | inl same ↦
      let ids : local_id j ≡ local_id i = (bytes_eq-Decides (local_id j) (local_id i)).0 same in
      let numbers : decimal j ≡ decimal i = ap (λ (x : List ℕ). drop 6 x) ids in
      let is : j ≡ i = decimal_injective j i (omega arith) (omega arith) numbers in
      absurd (omega arith)
  | inr apart ↦ apart
]

-- not all numbers are used in a directory
pub not_all_used : (es : Entries) → length es ≤ 4096 → AreAllUsed 1 es → ⊥
not_all_used es few used =
    let many : 4097 ≤ length es = found_are_few local_id 4097 1 es ids_apart (λ k from to. used k from (omega arith)) in
    omega arith
