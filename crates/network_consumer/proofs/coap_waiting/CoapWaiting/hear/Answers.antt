use Rattle.std.proofs.Common.{rules, refl}
use Rattle.network_consumer.specs.Deeds.{sight}
use Rattle.network_consumer.proofs.HearingLaws.{coap_ends, coap_goes_on}
use Rattle.network_consumer.proofs.coap_waiting.CoapWaiting.hear.Goals as goal

pub returns-in-Some-clause-hears : goal.returns-in-Some-clause-hears
returns-in-Some-clause-hears g c =
    coap_ends _ _ _ _ _ _ _ (sight (g.N.Net.seen c.args.net.now) (g.O.Out.seen c.args.out.now)) (sight (g.N.Net.seen c.meet.new.net) (g.O.Out.seen c.meet.new.out)) (search rules) c.in-Some.ensures.meets

pub returns-in-None-clause-hears : goal.returns-in-None-clause-hears
returns-in-None-clause-hears g c =
    coap_goes_on _ _ _ _ _ _ _ _ (sight (g.N.Net.seen c.args.net.now) (g.O.Out.seen c.args.out.now)) (g.N.Net.seen c.meet.new.net) (g.N.Net.seen c.do_due.new.net) (g.O.Out.seen c.meet.new.out) (search rules) c.in-None.ensures.meets c.do_due.ensures.due

pub returns-in-None-clause-in_order : goal.returns-in-None-clause-in_order
returns-in-None-clause-in_order g c = λ none. c.do_due.ensures.in_order c.args.task.now.chosen.now (c.in-None.ensures.in_order refl)
