use Rattle.coap_observe.specs.Unsent.{unsent}
use Rattle.servient_core.proofs.EndLaws.{Notifying}
use Rattle.servient_core.proofs.layers.Layers.send_notifications.Given as goal

abbrev pub invariant-loop-notice : goal.invariant-loop-notice
invariant-loop-notice g l = Notifying l.initial.self l.self (g.N.Net.seen l.initial.net) (g.N.Net.seen l.net)

abbrev pub decreases-loop-notice : goal.decreases-loop-notice
decreases-loop-notice g l = unsent l.self.moment l.self.coap.observers.list
