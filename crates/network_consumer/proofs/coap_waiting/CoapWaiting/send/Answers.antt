use Rattle.std.proofs.Common.{refl, ap}
use Rattle.network_consumer.specs.Blockwise.{Transferred}
use Rattle.network_consumer.proofs.ChoiceLaws.{askable_may_be_asked}
use Rattle.network_consumer.proofs.HearingLaws.{request_sent, request_refused}
use Rattle.network_consumer.proofs.OrderSteps.{sent_in_order, refused_alone}
use Rattle.network_consumer.proofs.coap_waiting.CoapWaiting.send.Goals as goal

pub request-requires-clause-ask : goal.request-requires-clause-ask
request-requires-clause-ask g c = askable_may_be_asked _ _ _ _ c.ask-ask.ensures c.requires.askable c.requires.blocks

pub returns-in-Ok-clause-sends : goal.returns-in-Ok-clause-sends
returns-in-Ok-clause-sends g c = request_sent c.args.chosen.now c.args.self.now _ c.args.blocks _ _ _ _ _ _ (g.N.Net.seen c.args.net.now) (g.N.Net.seen c.datagram.new.self) c.ask-ask.ensures c.in-Ok.ensures.ok refl
    (ap (λ (t : Transferred). record c.args.self.now { client = c.request.new.self; transfer = t }) c.note_asked.ensures) c.datagram.ensures

pub returns-in-Err-clause-sends : goal.returns-in-Err-clause-sends
returns-in-Err-clause-sends g c = request_refused c.args.chosen.now c.args.self.now c.args.blocks _ _ (g.N.Net.seen c.args.net.now) c.ask-ask.ensures c.in-Err.ensures.fault

pub returns-in-Ok-clause-in_order : goal.returns-in-Ok-clause-in_order
returns-in-Ok-clause-in_order g c =
    sent_in_order c.args.chosen.now c.args.self.now _ c.args.blocks _ _ _ _ _ c.requires.may_be_sent c.ask-ask.ensures c.in-Ok.ensures.ok
    (ap (λ (t : Transferred). record c.args.self.now { client = c.request.new.self; transfer = t }) c.note_asked.ensures)

pub returns-in-Err-clause-fault : goal.returns-in-Err-clause-fault
returns-in-Err-clause-fault g c = refused_alone c.args.chosen.now c.args.self.now c.args.blocks _ _ c.requires.may_be_sent c.ask-ask.ensures c.in-Err.ensures.fault
