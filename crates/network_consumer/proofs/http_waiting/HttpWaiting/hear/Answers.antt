use Rattle.std.proofs.Common.{rules}
use Rattle.network_consumer.specs.Deeds.{sight}
use Rattle.network_consumer.proofs.HearingLaws.{http_ends, http_goes_on}
use Rattle.network_consumer.proofs.http_waiting.HttpWaiting.hear.Goals as goal

pub returns-in-Some-clause-hears : goal.returns-in-Some-clause-hears
returns-in-Some-clause-hears g c = λ n. http_ends _ _ _ _ _ (sight n (g.O.Out.seen c.args.out.now)) (sight n (g.O.Out.seen c.close.new.out)) c.in-Some.ensures.brings (c.close.ensures n)

pub returns-in-None-clause-hears : goal.returns-in-None-clause-hears
returns-in-None-clause-hears g c = λ n. http_goes_on _ _ _ _ (sight n (g.O.Out.seen c.args.out.now)) c.in-None.ensures.brings (search rules)
