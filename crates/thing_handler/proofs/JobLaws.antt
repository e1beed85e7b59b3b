-- The place of an invocation in the list of those that run.
use Rattle.std.proofs.Common.{◌≡◌, ℕ, zero, suc, ◌+◌, ◌-◌, ◌<◌, ◌≤◌, List, [], ◌∷◌, length, get_or, set, Bool, true, false, cond, not, eqb, ltb, leb, refl, sym, ap, subst, ◌∙◌, arith}
use Rattle.std.specs.Prelude.{Some, None}
use Rattle.std.proofs.lemmas.Bool.{ltb-true, ltb-false, lt-leb}
use Rattle.std.proofs.lemmas.Option.{slice_get_read}
use Rattle.std.specs.List.{position, position_or_len}
use Rattle.thing_handler.specs.declared.job.Run.{Run}
use Rattle.thing_handler.specs.declared.handler.Answer.TheVariants.{Running}
use Rattle.thing_handler.specs.InMemory.{run_of, query_answer, query_after}
use Rattle.thing_handler.specs.JobChanges.{queried_at, StandsAt}

-- the place of the earliest invocation of an id, or how many run
abbrev place_or_all : ℕ → List Run → ℕ
place_or_all id runs = position_or_len (λ r. eqb r.id id) runs

-- where it is below the length, the earliest is there; else none is
record Earliest (id : ℕ) (runs : List Run) (place : ℕ) : Type 0 where
  there : place < length runs → StandsAt id runs (Some place)
  nowhere : length runs ≤ place → StandsAt id runs None

first : (id : ℕ) (r : Run) (runs : List Run) → eqb r.id id ≡ true → Earliest id (r ∷ runs) 0
first id r runs same = record {
  there = λ within. (within, rw same refl, rw same refl, rw same refl);
  nowhere = λ none. absurd (omega arith);
}

further : (id : ℕ) (r : Run) (runs : List Run) (place : ℕ) → eqb r.id id ≡ false → Earliest id runs place → Earliest id (r ∷ runs) (1 + place)
further id r runs place other rest =
    let e : suc place ≡ 1 + place = omega arith in
    subst (λ n. Earliest id (r ∷ runs) n) e (record {
      there = λ within.
          let h : StandsAt id runs (Some place) = rest.there (omega arith) in
          (within, rw other h.1, rw other (ap (λ rs. r ∷ rs) h.2), rw other (ap (λ rs. r ∷ rs) h.3));
      nowhere = λ none.
          let h : StandsAt id runs None = rest.nowhere (omega arith) in
          (rw other h.0, rw other (ap (λ rs. r ∷ rs) h.1));
    })

earliest : (id : ℕ) (runs : List Run) → Earliest id runs (place_or_all id runs)
earliest id [] = record { there = λ within. absurd (omega arith); nowhere = λ none. (refl, refl) }
earliest id (r ∷ runs) = by_test (earliest id runs) (eqb r.id id) refl
  where
    by_test : Earliest id runs (place_or_all id runs) → (b : Bool) → eqb r.id id ≡ b → Earliest id (r ∷ runs) (cond (not b) (1 + place_or_all id runs) 0)
    by_test rest true same = first id r runs same
    by_test rest false other = further id r runs (place_or_all id runs) other rest

pub stands_at_first : (id : ℕ) (runs : List Run) → StandsAt id runs (position (λ r. eqb r.id id) runs)
stands_at_first id runs = by_test (ltb (place_or_all id runs) (length runs)) refl
  where
    by_test : (b : Bool) → ltb (place_or_all id runs) (length runs) ≡ b → StandsAt id runs (cond b (Some (place_or_all id runs)) None)
    by_test true below = (earliest id runs).there (ltb-true (place_or_all id runs) (length runs) below)
    by_test false above = (earliest id runs).nowhere (ltb-false (place_or_all id runs) (length runs) above)

-- one query fewer at a place, as the code reads and writes it
pub queried_by_write : (runs : List Run) (place left : ℕ) (r q : Run) → r ≡ get_or runs place r → q ≡ get_or runs place q → left ≡ q.left - 1 → set runs place (record r { left = left }) ≡ queried_at place runs
queried_by_write [] place left r q at from fewer = refl
queried_by_write (x ∷ runs) zero left r q at from fewer =
    ap (λ (n : ℕ). record r { left = n } ∷ runs) (fewer ∙ ap (λ (y : Run). y.left - 1) from)
    ∙ ap (λ (y : Run). record y { left = x.left - 1 } ∷ runs) at
queried_by_write (x ∷ runs) (suc place) left r q at from fewer =
    ap (λ (rs : List Run). x ∷ rs) (queried_by_write runs place left r q at from fewer)

-- a query that isn't an invocation's last one
pub runs_on : (id : ℕ) (runs : List Run) (place : ℕ) (r : Run) → StandsAt id runs (Some place) → r ≡ get_or runs place r → 1 < r.left → (Running ≡ query_answer (run_of id runs)) × (queried_at place runs ≡ query_after (run_of id runs) id runs)
runs_on id runs place r stands at more =
    let e : run_of id runs ≡ Some r = stands.1 ∙ slice_get_read runs (length runs) place r refl stands.0 at in
    let f : leb r.left 1 ≡ false = lt-leb r.left 1 more in
    (rw (e, f) refl, rw (e, f) (sym stands.3))
