use Rattle.std.proofs.Common.{◌≡◌, length}
use Rattle.std.specs.Prelude.{None}
use Rattle.http_bind.specs.Streams.{oldest_for}
use Rattle.servient_core.specs.Machine.{AnswersWait}
use Rattle.servient_core.proofs.DeliverLaws.{Answering}
use Rattle.servient_core.proofs.layers.Layers.answer_waits.Given as goal

abbrev pub invariant-loop-c : goal.invariant-loop-c
invariant-loop-c g l =
    Answering (AnswersWait l.fn.target) (λ s. oldest_for l.fn.target s.http.waits ≡ None) l.initial.self l.self (g.N.Net.seen l.initial.net) (g.N.Net.seen l.net)

abbrev pub decreases-loop-c : goal.decreases-loop-c
decreases-loop-c g l = length l.self.http.waits
