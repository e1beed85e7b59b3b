-- The observers of the target are marked.
use Rattle.std.proofs.Common.{◌∙◌, ap}
use Rattle.coap_observe.specs.Laws.{emits}
use Rattle.coap_observe.specs.Watching.{with_emission}
use Rattle.coap_observe.proofs.WatchedLaws.{seen, watched_anew, emits_all}
use Rattle.coap_observe.proofs.observers.Watchers.emit.Goals as goal

pub invariant_of-self : goal.invariant_of-self
invariant_of-self c =
    watched_anew (seen c.self.inside.slots) (seen c.mark.new.self) c.self.inside.quiet_until c.self.invariant
    (emits c.args.target (emits_all c.args.target c.self.inside.slots c.mark.new.self c.mark.ensures))

pub returns : goal.returns
returns c = emits_all c.args.target c.self.inside.slots c.mark.new.self c.mark.ensures ∙ ap (with_emission c.args.target) c.self.view_is
