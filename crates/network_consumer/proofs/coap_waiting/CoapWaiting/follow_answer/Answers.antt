use Rattle.std.proofs.Common.{◌∙◌, ap}
use Rattle.network_consumer.specs.Deeds.{sight}
use Rattle.network_consumer.specs.Blockwise.{Transferred, whole_payload}
use Rattle.network_consumer.proofs.HearingLaws.{answer_leads_on, answer_is_whole, answer_is_malformed, answer_is_long}
use Rattle.network_consumer.proofs.OrderSteps.{further_may_be_sent}
use Rattle.network_consumer.proofs.coap_waiting.CoapWaiting.follow_answer.Goals as goal

pub returns-in-Ask-clause-follows : goal.returns-in-Ask-clause-follows
returns-in-Ask-clause-follows g c =
    answer_leads_on _ _ _ _ _ _ _ _ _ _ _ (g.N.Net.seen c.args.net.now) (g.N.Net.seen c.ask_further.new.net) (g.O.Out.seen c.args.out.now) c.is_joined-joins.ensures c.in-Ask.ensures.step
    (ap (λ (t : Transferred). record c.args.self.now { transfer = t }) c.take.ensures.transfer) c.ask_further.ensures.asks

pub returns-in-Judge-clause-follows : goal.returns-in-Judge-clause-follows
returns-in-Judge-clause-follows g c =
    answer_is_whole _ _ _ _ _ _ _ _ _ _ _ (sight (g.N.Net.seen c.args.net.now) (g.O.Out.seen c.args.out.now)) (sight (g.N.Net.seen c.args.net.now) (g.O.Out.seen c.close.new.out)) c.is_joined-joins.ensures c.in-Judge.ensures.step
    (c.whole-payload.ensures ∙ ap (λ (t : Transferred). whole_payload c.is_joined-joins.result t c.args.answer.now.payload.now) c.take.ensures.transfer) c.answer_message.ensures
    (c.close.ensures (g.N.Net.seen c.args.net.now))

pub returns-in-Malformed-clause-follows : goal.returns-in-Malformed-clause-follows
returns-in-Malformed-clause-follows g c =
    answer_is_malformed _ _ _ _ _ _ _ _ (sight (g.N.Net.seen c.args.net.now) (g.O.Out.seen c.args.out.now)) c.is_joined-joins.ensures c.in-Malformed.ensures.step

pub returns-in-Long-clause-follows : goal.returns-in-Long-clause-follows
returns-in-Long-clause-follows g c =
    answer_is_long _ _ _ _ _ _ _ _ (sight (g.N.Net.seen c.args.net.now) (g.O.Out.seen c.args.out.now)) c.is_joined-joins.ensures c.in-Long.ensures.step

pub ask_further-requires-clause-may_be_sent : goal.ask_further-requires-clause-may_be_sent
ask_further-requires-clause-may_be_sent g c =
    further_may_be_sent c.args.task.now.chosen.now c.args.self.now c.is_joined-joins.result c.args.answer.now.code c.args.answer.now.block2 c.args.answer.now.payload.now c.take.result c.take.new.self c.in-Ask.blocks c.requires.in_order c.requires.free c.take.ensures.step c.take.ensures.transfer c.in-Ask.is
