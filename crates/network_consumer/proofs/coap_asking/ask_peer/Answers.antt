use Rattle.std.proofs.Common.{refl, arith}
use Rattle.network_consumer.specs.Deeds.{sight}
use Rattle.network_consumer.proofs.AskingLaws.{peer_asked, asked_too_long}
use Rattle.network_consumer.proofs.OrderSteps.{first_may_be_sent}
use Rattle.network_consumer.proofs.coap_asking.ask_peer.Goals as goal

pub send-requires-clause-askable : goal.send-requires-clause-askable
send-requires-clause-askable g c = c.requires.askable

pub send-requires-clause-in_time : goal.send-requires-clause-in_time
send-requires-clause-in_time g c = let client = c.requires.fresh.new.moment in let own = c.requires.fresh.moment in omega arith

pub await_end-requires-clause-ready : goal.await_end-requires-clause-ready
await_end-requires-clause-ready g c = (c.send.ensures.in_time, c.requires.askable, c.in-Ok.ensures.in_order)

pub returns-in-Ok : goal.returns-in-Ok
returns-in-Ok g c =
    peer_asked _ _ _ _ _ _ _ _ _ (g.N.Net.seen c.args.net.now) (g.N.Net.seen c.send.new.net) (g.O.Out.seen c.args.out.now) (sight (g.N.Net.seen c.await_end.new.net) (g.O.Out.seen c.await_end.new.out)) c.requires.fresh c.asked-blocks.ensures.asked refl c.in-Ok.ensures.sends c.await_end.ensures

pub returns-in-Err : goal.returns-in-Err
returns-in-Err g c =
    asked_too_long _ _ _ _ _ _ _ (g.N.Net.seen c.args.net.now) (g.N.Net.seen c.send.new.net) (g.O.Out.seen c.args.out.now) c.requires.fresh c.asked-blocks.ensures.asked c.in-Err.ensures.sends

pub send-requires-clause-may_be_sent : goal.send-requires-clause-may_be_sent
send-requires-clause-may_be_sent g c = first_may_be_sent c.args.task.now.chosen.now _ _ _ _ _ c.requires.fresh c.asked-blocks.ensures.asked
