use Rattle.http_bind.specs.Slots.{HasRoom}
use Rattle.std.proofs.Common.{ℕ}
use Rattle.servient_core.proofs.ConnectionLaws.{Closing, open_count}
use Rattle.servient_core.proofs.layers.Layers.close_idle.Given as goal

abbrev pub invariant-loop-c : goal.invariant-loop-c
invariant-loop-c g l =
    Closing l.initial.self l.self (g.N.Net.seen l.initial.net) (g.N.Net.seen l.net) × ((c : ℕ) → HasRoom c l.self.http)

abbrev pub decreases-loop-c : goal.decreases-loop-c
decreases-loop-c g l = open_count l.self.http.places
