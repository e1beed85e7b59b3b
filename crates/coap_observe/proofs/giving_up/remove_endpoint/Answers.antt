-- Each turn takes one of the endpoint's observers away, until none is left.
use Rattle.std.proofs.Common.{◌<◌, ◌∙◌, length, sym, ap, subst, refl}
use Rattle.coap_observe.specs.Places.{Places, observers_in}
use Rattle.coap_observe.specs.Watching.{is_from, without}
use Rattle.coap_observe.proofs.ViewLaws.{removed_of_many, fewer_left, all_stay}
use Rattle.coap_observe.proofs.giving_up.remove_endpoint.Goals as goal

pub loop-slot-init : goal.loop-slot-init
loop-slot-init c = record { left = refl; capacity = refl }

pub remove-requires : goal.remove-requires
remove-requires c = (c.in-Some.ensures.0, c.in-Some.ensures.1)

pub loop-slot-smaller : goal.loop-slot-smaller
loop-slot-smaller c =
    subst (λ (t : Places). length t.list < length c.loop-slot.slots.list) (sym c.remove.ensures)
    (fewer_left c.loop-slot.slots c.in-Some.slot c.in-Some.ensures.0 c.in-Some.ensures.1)

pub loop-slot-preserved : goal.loop-slot-preserved
loop-slot-preserved c = record {
  left = ap (λ (t : Places). without (is_from c.args.from) (observers_in t)) c.remove.ensures
      ∙ (removed_of_many (is_from c.args.from) c.loop-slot.slots c.in-Some.slot c.in-Some.ensures.0 c.in-Some.ensures.1 c.in-Some.ensures.2 ∙ c.loop-slot.invariant.left);
  capacity = ap (λ (t : Places). t.capacity) c.remove.ensures ∙ c.loop-slot.invariant.capacity;
}

pub returns-clause-observers : goal.returns-clause-observers
returns-clause-observers c = sym (all_stay (is_from c.args.from) (observers_in c.loop-slot.slots) c.in_default.ensures) ∙ c.loop-slot.invariant.left
