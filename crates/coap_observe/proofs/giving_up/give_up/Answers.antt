-- Each turn takes away the observers of one endpoint.
use Rattle.std.proofs.Common.{◌≡◌, List, not, Some, length, sym, ap, subst, ◌∙◌, refl, arith}
use Rattle.coap_observe.specs.declared.observer.Observer.{Observer}
use Rattle.coap_observe.specs.Places.{observers_in}
use Rattle.coap_observe.specs.Watching.{is_due, is_from, hopeless, GivesUp, nobody, endpoint}
use Rattle.coap_observe.proofs.Changed.{fewer}
use Rattle.coap_observe.proofs.Due.{hopeless_by}
use Rattle.coap_observe.proofs.SendLaws.{hopeless_is, hopeless_none}
use Rattle.coap_observe.specs.Unsent.{unsent}
use Rattle.coap_observe.proofs.UnsentLaws.{some_less}
use Rattle.coap_observe.proofs.giving_up.give_up.Goals as goal

pub loop-slot-init : goal.loop-slot-init
loop-slot-init c = record { gives_up = λ us rest. rest; capacity = refl; less = omega arith }

pub loop-slot-smaller : goal.loop-slot-smaller
loop-slot-smaller c =
    let is : hopeless c.args.now (observers_in c.loop-slot.slots) ≡ Some c.in-Some-endpoint_given_up.from =
    sym (c.endpoint_given_up.ensures ∙ hopeless_is c.args.now c.loop-slot.slots c.in-Some.slot c.observer.result.now c.in-Some.ensures c.observer.ensures) ∙ c.in-Some-endpoint_given_up.is in
    let by = hopeless_by c.args.now (observers_in c.loop-slot.slots) c.in-Some-endpoint_given_up.from is in
    let less = fewer (is_due c.args.now) (λ (w : Observer). not (is_from c.in-Some-endpoint_given_up.from w)) (observers_in c.loop-slot.slots) by.0 by.1 (ap not by.2) in
    omega (arith, less, ap length c.remove_endpoint.ensures.observers)

pub loop-slot-preserved : goal.loop-slot-preserved
loop-slot-preserved c =
    let is : hopeless c.args.now (observers_in c.loop-slot.slots) ≡ Some c.in-Some-endpoint_given_up.from =
    sym (c.endpoint_given_up.ensures ∙ hopeless_is c.args.now c.loop-slot.slots c.in-Some.slot c.observer.result.now c.in-Some.ensures c.observer.ensures) ∙ c.in-Some-endpoint_given_up.is in
    record {
      gives_up = λ us rest. c.loop-slot.invariant.gives_up us
          (endpoint c.in-Some-endpoint_given_up.from (observers_in c.loop-slot.slots) us is (subst (λ (ws : List Observer). GivesUp c.args.now ws us) c.remove_endpoint.ensures.observers rest));
      capacity = c.remove_endpoint.ensures.capacity ∙ c.loop-slot.invariant.capacity;
      less = omega (
        arith,
        some_less c.args.now (λ (w : Observer). not (is_from c.in-Some-endpoint_given_up.from w)) (observers_in c.loop-slot.slots),
        ap (λ (ws : List Observer). unsent c.args.now ws) c.remove_endpoint.ensures.observers,
        c.loop-slot.invariant.less,
      );
    }

pub observer-requires : goal.observer-requires
observer-requires c = (c.in-Some.ensures.0, c.in-Some.ensures.1)

pub returns-in-None-clause-gives_up : goal.returns-in-None-clause-gives_up
returns-in-None-clause-gives_up c =
    let none = hopeless_is c.args.now c.loop-slot.slots c.in-Some.slot c.observer.result.now c.in-Some.ensures c.observer.ensures in
    c.loop-slot.invariant.gives_up (observers_in c.loop-slot.slots)
    (nobody (observers_in c.loop-slot.slots) (observers_in c.loop-slot.slots) (sym (c.endpoint_given_up.ensures ∙ none) ∙ c.in-None.is) refl)

pub returns-in-None-clause-served : goal.returns-in-None-clause-served
returns-in-None-clause-served c =
    sym (c.endpoint_given_up.ensures ∙ hopeless_is c.args.now c.loop-slot.slots c.in-Some.slot c.observer.result.now c.in-Some.ensures c.observer.ensures) ∙ c.in-None.is

pub returns-clause-gives_up : goal.returns-clause-gives_up
returns-clause-gives_up c =
    c.loop-slot.invariant.gives_up (observers_in c.loop-slot.slots)
    (nobody (observers_in c.loop-slot.slots) (observers_in c.loop-slot.slots) (hopeless_none c.args.now (observers_in c.loop-slot.slots) c.in_default.ensures) refl)

pub returns-clause-served : goal.returns-clause-served
returns-clause-served c = hopeless_none c.args.now (observers_in c.loop-slot.slots) c.in_default.ensures

pub returns-clause-less : goal.returns-clause-less
returns-clause-less c = c.loop-slot.invariant.less
