-- Where none is found there is none.
use Rattle.std.proofs.Common.{◌∙◌}
use Rattle.coap_observe.specs.Places.{is_wanted}
use Rattle.coap_observe.specs.declared.observer.SoughtObserver.TheVariants.{Marked}
use Rattle.coap_observe.proofs.ViewLaws.{was_found}
use Rattle.coap_observe.proofs.slots.ObserverSlots.has_marked.Goals as goal

pub returns : goal.returns
returns c = c.is_some.ensures ∙ was_found (is_wanted c.args.from Marked) c.args.self.now c.wanted_slot.result c.wanted_slot.ensures
