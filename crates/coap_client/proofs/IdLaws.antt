-- Ids counted on from one of them.
use Rattle.std.proofs.Common.{◌≡◌, ◌⊎◌, ℕ, ◌+◌, ◌-◌, ◌<◌, ◌≤◌, ◌%◌, Bool, true, inl, inr, sym, ap, ◌∙◌, arith}
use Rattle.std.proofs.lemmas.Bool.{cases_lt}

-- every id is some number ahead of every other
ahead_at : (next id : ℕ) → next < 65536 → id < 65536 → (id < next) ⊎ (next ≤ id) → (k : ℕ) × (k < 65536) × ((next + k) % 65536 ≡ id)
ahead_at next id n i (inl h) = (id + 65536 - next, omega arith, omega arith)
ahead_at next id n i (inr h) = (id - next, omega arith, omega arith)

-- where all that are ahead pass a test, all ids do
pub all_from_ahead : (p : ℕ → Bool) (next : ℕ) → next < 65536 → ((k : ℕ) → k < 65536 → p ((next + k) % 65536) ≡ true)
    → (id : ℕ) → id < 65536 → p id ≡ true
all_from_ahead p next n all id i =
    let k = ahead_at next id n i (cases_lt id next) in
    sym (ap p k.2) ∙ all k.0 k.1
