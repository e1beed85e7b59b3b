-- The rows of the table, which have consecutive numbers, one after the other.
use Rattle.std.proofs.Common.{◌≡◌, ◌≤◌, ◌<◌, ◌+◌, ◌++◌, ℕ, List, [], ◌∷◌, length, map, Some, Err, refl, sym, ap, subst, ◌∙◌, ◌⊎◌, inl, inr, arith, if◌then◌else◌}
use Rattle.std.specs.Prelude.{slice_get, ◌≢◌, ◌==◌, Bool, true, false}
use Rattle.std.proofs.lemmas.Bool.{eq-eqb, ne_eqb}
use Rattle.std.specs.List.{flat_map}
use Rattle.wot_json.specs.Tree.{object, Members}
use Rattle.wot_terms.specs.declared.fault.RowFault.{RowFault}
use Rattle.wot_terms.specs.declared.fault.RowFault.TheVariants as row_fault
use Rattle.wot_terms.specs.Faults.{Places, row_faults, table, faults_of, IsCheckRefusal}
use Rattle.wot_terms.specs.Rows.{IsFinding, places_in, row_places, fault_in}

abbrev pub AreNumbered : ℕ → List (ℕ × Places) → Type 0
AreNumbered n [] = Unit {0}
AreNumbered n (row ∷ rows) = (row.0 ≡ n) × AreNumbered (n + 1) rows

-- the rows from this number on, up to another, have no wrong place
abbrev pub AreMet : ℕ → ℕ → List (ℕ × Places) → Type 0
AreMet n k rows = (j : ℕ) → n ≤ j → j < k → places_in j rows ≡ []

places_here : (j : ℕ) (row : ℕ × Places) (rows : List (ℕ × Places)) → j ≡ row.0 → places_in j (row ∷ rows) ≡ row.1
places_here j row rows is = ap (λ b. if b then row.1 else places_in j rows) (eq-eqb j row.0 is)

places_later : (j : ℕ) (row : ℕ × Places) (rows : List (ℕ × Places)) → (j ≡ row.0 → ⊥) → places_in j (row ∷ rows) ≡ places_in j rows
places_later j row rows other = ap (λ b. if b then row.1 else places_in j rows) (ne_eqb j row.0 other)

later_met : (n k : ℕ) (row : ℕ × Places) (rows : List (ℕ × Places)) → row.0 ≡ n → AreMet n k (row ∷ rows) → AreMet (n + 1) k rows
later_met n k row rows number met j above below =
    let other : j ≡ row.0 → ⊥ = λ same. absurd (omega (arith, same, number, above)) in
    sym (places_later j row rows other) ∙ met j (omega (arith, above)) below

first_met : (n k : ℕ) (row : ℕ × Places) (rows : List (ℕ × Places)) → row.0 ≡ n → n < k → AreMet n k (row ∷ rows) → row.1 ≡ []
first_met n k row rows number below met = sym (places_here n row rows (sym number)) ∙ met n (omega arith) below

none_before : (row : ℕ × Places) (rest : List (ℕ × List ℕ)) → row.1 ≡ [] → row_faults row ++ rest ≡ rest
none_before row rest none = ap (λ (ps : Places). map (λ p. (row.0, p)) ps ++ rest) none

-- rows none of which has a wrong place have no fault
no_faults : (n : ℕ) (rows : List (ℕ × Places)) → AreNumbered n rows → AreMet n (n + length rows) rows → flat_map row_faults rows ≡ []
no_faults n [] numbered met = refl
no_faults n (row ∷ rows) numbered met =
    none_before row (flat_map row_faults rows) (first_met n (n + length (row ∷ rows)) row rows numbered.0 (omega arith) met)
    ∙ no_faults (n + 1) rows numbered.1 (λ j above below. later_met n (n + length (row ∷ rows)) row rows numbered.0 met j above (omega (arith, below)))

first_of_row : (row : ℕ × Places) (rest : List (ℕ × List ℕ)) (p : List ℕ) → slice_get row.1 0 ≡ Some p → slice_get (row_faults row ++ rest) 0 ≡ Some (row.0, p)
first_of_row row rest p first = of_places row.0 row.1 rest p first
  where
    of_places : (n : ℕ) (places : Places) (rest : List (ℕ × List ℕ)) (p : List ℕ) → slice_get places 0 ≡ Some p → slice_get (map (λ (q : List ℕ). (n, q)) places ++ rest) 0 ≡ Some (n, p)
    of_places n [] rest p first = absurd cc
    of_places n (q ∷ places) rest p first =
        let same : q ≡ p = cc in ap (λ x. Some (n, x)) same

-- the first wrong place of the first row that has one is the first fault
first_fault : (n k : ℕ) (rows : List (ℕ × Places)) (p : List ℕ) → AreNumbered n rows → n ≤ k → AreMet n k rows → slice_get (places_in k rows) 0 ≡ Some p → slice_get (flat_map row_faults rows) 0 ≡ Some (k, p)
first_fault n k [] p numbered within met first = absurd cc
first_fault n k (row ∷ rows) p numbered within met first =
    elim (cases n k within) [
      | inl same ↦
          let number : k ≡ row.0 = omega (arith, same, numbered.0) in
          let of_row : slice_get row.1 0 ≡ Some p = subst (λ ps. slice_get ps 0 ≡ Some p) (places_here k row rows number) first in
          first_of_row row (flat_map row_faults rows) p of_row ∙ ap (λ m. Some (m, p)) (sym number)
      | inr later ↦
          let other : k ≡ row.0 → ⊥ = λ same. absurd (omega (arith, same, numbered.0, later)) in
          ap (λ fs. slice_get fs 0) (none_before row (flat_map row_faults rows) (first_met n k row rows numbered.0 later met))
          ∙ first_fault (n + 1) k rows p numbered.1 (omega (arith, later)) (later_met n k row rows numbered.0 met) (subst (λ ps. slice_get ps 0 ≡ Some p) (places_later k row rows other) first)
    ]
  where
    cases : (n k : ℕ) → n ≤ k → (n ≡ k) ⊎ (n < k)
    cases n k within = grind arith

row_has_fault : (row : ℕ × Places) (rest : List (ℕ × List ℕ)) → row.1 ≢ [] → row_faults row ++ rest ≢ []
row_has_fault row rest some = of_places row.0 row.1 rest some
  where
    of_places : (n : ℕ) (places : Places) (rest : List (ℕ × List ℕ)) → places ≢ [] → map (λ (q : List ℕ). (n, q)) places ++ rest ≢ []
    of_places n [] rest some = absurd (some refl)
    of_places n (q ∷ places) rest some = λ none. absurd cc

right_some : (before rest : List (ℕ × List ℕ)) → rest ≢ [] → before ++ rest ≢ []
right_some [] rest some = some
right_some (f ∷ before) rest some = λ none. absurd cc

-- where a row has a wrong place there is a fault
fault_of_row : (n k : ℕ) (rows : List (ℕ × Places)) → places_in k rows ≢ [] → flat_map row_faults rows ≢ []
fault_of_row n k [] some = absurd (some refl)
fault_of_row n k (row ∷ rows) some =
    elim (cases (k == row.0) refl) [
      | inl here ↦ row_has_fault row (flat_map row_faults rows) (λ none. some (ap (λ b. if b then row.1 else places_in k rows) here ∙ none))
      | inr later ↦ right_some (row_faults row) (flat_map row_faults rows) (fault_of_row n k rows (λ none. some (ap (λ b. if b then row.1 else places_in k rows) later ∙ none)))
    ]
  where
    cases : (b : Bool) → k == row.0 ≡ b → (k == row.0 ≡ true) ⊎ (k == row.0 ≡ false)
    cases true is = inl is
    cases false is = inr is

numbered : (ms : Members) → AreNumbered 2 (table ms)
numbered ms = (refl, (refl, (refl, (refl, (refl, (refl, (refl, (refl, (refl, (refl, (refl, (refl, (refl, (refl, (refl, (refl, (refl, tt)))))))))))))))))

-- a description all of whose rows are met is valid
pub all_met : (ms : Members) (k : ℕ) → 19 ≤ k → AreMet 2 k (table ms) → faults_of (object ms) ≡ []
all_met ms k whole met = no_faults 2 (table ms) (numbered ms) (λ j above below. met j above (omega (arith, below)))

-- the first fault of a row is that of the description, where the rows before it are met
pub first_of_all : (ms : Members) (k : ℕ) (e : RowFault) → 2 ≤ k → AreMet 2 k (table ms) → IsFinding (row_places k ms) (Err e) → IsCheckRefusal (faults_of (object ms)) (fault_in k e)
first_of_all ms k row_fault.NoMemory within met some = fault_of_row 2 k (table ms) some
first_of_all ms k (row_fault.At p) within met first = first_fault 2 k (table ms) p (numbered ms) within met first

-- one more row is met
pub met_more : (ms : Members) (n : ℕ) → AreMet 2 n (table ms) → row_places n ms ≡ [] → AreMet 2 (n + 1) (table ms)
met_more ms n met one j above below =
    elim (cases j n below) [
      | inl same ↦ subst (λ m. places_in m (table ms) ≡ []) (sym same) one
      | inr before ↦ met j above before
    ]
  where
    cases : (j n : ℕ) → j < n + 1 → (j ≡ n) ⊎ (j < n)
    cases j n below = grind arith
