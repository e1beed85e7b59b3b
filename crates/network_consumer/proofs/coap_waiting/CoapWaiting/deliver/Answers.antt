use Rattle.std.proofs.Common.{refl}
use Rattle.network_consumer.proofs.HearingLaws.{news_come}
use Rattle.network_consumer.proofs.OrderSteps.{delivered_in_order, delivered_free_of}
use Rattle.network_consumer.proofs.coap_waiting.CoapWaiting.deliver.Goals as goal

pub returns-clause-delivers : goal.returns-clause-delivers
returns-clause-delivers g c = news_come _ _ _ _ _ _ _ _ (g.N.Net.seen c.args.net.now) (g.N.Net.seen c.send_reply.new.net) c.deliver-delivered.ensures.ok refl c.send_reply.ensures

pub returns-clause-in_order : goal.returns-clause-in_order
returns-clause-in_order g c = λ chosen before. delivered_in_order chosen c.args.self.now _ _ _ _ _ _ c.deliver-delivered.ensures.ok before

pub returns-clause-free : goal.returns-clause-free
returns-clause-free g c = λ chosen before. delivered_free_of chosen c.args.self.now _ _ _ _ _ _ c.deliver-delivered.ensures.ok before
