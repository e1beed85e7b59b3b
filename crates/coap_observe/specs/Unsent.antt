-- The number of notifications that may still be sent to observers at a moment.
use Rattle.std.specs.Prelude.{◌+◌, ℕ, List, [], ◌∷◌, if◌then◌else◌}
use Rattle.coap_observe.specs.declared.observer.Observer.{Observer}
use Rattle.coap_observe.specs.Watching.{is_due}

-- to one: its notification that isn't acknowledged, where that is due, and a new value, where it has one to be sent
abbrev pub unsent_to : ℕ → Observer → ℕ
unsent_to now w = (if is_due now w then 1 else 0) + (if w.is_marked then 1 else 0)

-- To all. Each message that is sent leaves less, so nothing is to be sent any more after finitely many.
abbrev pub unsent : ℕ → List Observer → ℕ
unsent now [] = 0
unsent now (w ∷ ws) = unsent_to now w + unsent now ws
