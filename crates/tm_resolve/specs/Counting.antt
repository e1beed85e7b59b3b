-- The answers of the code that counts visits: it keeps the rest of the limit on the weight.
use Rattle.std.specs.Prelude.{◌≡◌, ◌⊎◌, ◌+◌, ◌-◌, ◌<◌, ℕ, true, false, List, length, Option, Result, Ok, Err, MatchOption}
use Rattle.std.specs.List.{list_any}
use Rattle.tm_parts.specs.Sources.{Sources}
use Rattle.tm_parts.specs.declared.reference.Reference.{Reference}
use Rattle.tm_resolve.specs.Weight.{Visit, Step, most_entries, visits_within, is_too_far, weight_of}
use Rattle.tm_resolve.specs.declared.sources.StepSources as kept
use Rattle.tm_resolve.specs.declared.weight.Stop.{Stop}
use Rattle.tm_resolve.specs.declared.weight.Stop.TheVariants.{TooLarge, NoMemory}

-- the visits of a step from this chain on
abbrev pub step_from : Sources → List Reference → Step
step_from sources chain = visits_within (most_entries - length chain) sources

-- the same, among the models that the code has
abbrev pub next_step : kept.StepSources → List Reference → Step
next_step sources chain = step_from sources.models chain

-- the rest once this much was taken, or nothing where there was less
abbrev pub Spends : ℕ → ℕ → Option ℕ → Type 0
Spends amount left rest = MatchOption rest (left < amount) (λ n. n + amount ≡ left)

-- The answer of counting these visits, by the rest before them: the rest after them, none of which went too far; or
-- that they weigh more, or that one of them goes too far.
abbrev pub Weighs : List Visit → ℕ → Result ℕ Stop → Type 0
Weighs visits left (Ok rest) = (rest + weight_of visits ≡ left) × (list_any is_too_far visits ≡ false)
Weighs visits left (Err TooLarge) = (left < weight_of visits) ⊎ (list_any is_too_far visits ≡ true)
Weighs visits left (Err NoMemory) = Unit {0}
