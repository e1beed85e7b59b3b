use Rattle.std.proofs.Common.{refl}
use Rattle.coap_client.specs.declared.due.Due.TheVariants as due
use Rattle.network_consumer.proofs.HearingLaws.{quiet_due, sent_again, over_due}
use Rattle.network_consumer.proofs.OrderSteps.{due_in_order}
use Rattle.network_consumer.proofs.coap_waiting.CoapWaiting.do_due.Goals as goal

pub returns-in-Nothing-clause-due : goal.returns-in-Nothing-clause-due
returns-in-Nothing-clause-due g c = quiet_due _ _ _ _ _ (g.N.Net.seen c.args.net.now) c.in-Nothing.ensures.ok refl

pub returns-in-Send-clause-due : goal.returns-in-Send-clause-due
returns-in-Send-clause-due g c = sent_again _ _ _ _ _ _ _ (g.N.Net.seen c.args.net.now) (g.N.Net.seen c.datagram.new.self) c.in-Send.ensures.ok refl refl c.datagram.ensures

pub returns-in-TimedOut-clause-due : goal.returns-in-TimedOut-clause-due
returns-in-TimedOut-clause-due g c = over_due _ _ _ _ _ (g.N.Net.seen c.args.net.now) c.in-TimedOut.ensures.ok

pub returns-in-Nothing-clause-in_order : goal.returns-in-Nothing-clause-in_order
returns-in-Nothing-clause-in_order g c = λ chosen before. due_in_order chosen c.args.self.now due.Nothing _ _ c.due.new.self c.in-Nothing.ensures.ok before

pub returns-in-Send-clause-in_order : goal.returns-in-Send-clause-in_order
returns-in-Send-clause-in_order g c = λ chosen before. due_in_order chosen c.args.self.now (due.Send _) _ _ c.due.new.self c.in-Send.ensures.ok before

pub returns-in-TimedOut-clause-in_order : goal.returns-in-TimedOut-clause-in_order
returns-in-TimedOut-clause-in_order g c = λ chosen before. due_in_order chosen c.args.self.now due.TimedOut _ _ c.due.new.self c.in-TimedOut.ensures.ok before
