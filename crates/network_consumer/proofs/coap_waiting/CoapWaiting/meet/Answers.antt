use Rattle.network_consumer.specs.Deeds.{sight}
use Rattle.network_consumer.proofs.HearingLaws.{datagram_met, another_met, passed_over, stop_met}
use Rattle.network_consumer.proofs.coap_waiting.CoapWaiting.meet.Goals as goal

pub returns-in-Datagram-clause-meets : goal.returns-in-Datagram-clause-meets
returns-in-Datagram-clause-meets g c =
    datagram_met _ _ _ _ _ _ _ _ _ _ (g.N.Net.seen c.args.net.now) (g.N.Net.seen c.deliver-news.new.net) (g.O.Out.seen c.args.out.now) (sight (g.N.Net.seen c.follow.new.net) (g.O.Out.seen c.follow.new.out)) c.in-Datagram.is c.deliver-news.ensures.delivers c.follow.ensures.follows

pub returns-in_default : goal.returns-in_default
returns-in_default g c = record { meets = another_met _ _ _ _ (sight (g.N.Net.seen c.args.net.now) (g.O.Out.seen c.args.out.now)) (passed_over _ c.in_default.not-Datagram c.in_default.not-Stop); in_time = c.requires.in_time; in_order = λ none. c.requires.in_order }

pub returns-in-Stop-clause-meets : goal.returns-in-Stop-clause-meets
returns-in-Stop-clause-meets g c = stop_met _ _ _ _ _ (sight (g.N.Net.seen c.args.net.now) (g.O.Out.seen c.args.out.now)) c.in-Stop.is

pub follow-requires-clause-in_order : goal.follow-requires-clause-in_order
follow-requires-clause-in_order g c = c.deliver-news.ensures.in_order c.args.task.now.chosen.now c.requires.in_order

pub follow-requires-clause-free : goal.follow-requires-clause-free
follow-requires-clause-free g c = c.deliver-news.ensures.free c.args.task.now.chosen.now c.requires.in_order
