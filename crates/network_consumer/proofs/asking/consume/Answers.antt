use Rattle.network_consumer.specs.Deeds.{sight}
use Rattle.network_consumer.proofs.AskingLaws.{consumed_nothing}
use Rattle.network_consumer.proofs.ChoiceLaws.{choice_is_askable}
use Rattle.network_consumer.proofs.asking.consume.Goals as goal

pub ask-requires-clause-askable : goal.ask-requires-clause-askable
ask-requires-clause-askable g c = choice_is_askable c.args.operation.now c.args.chosen.now c.requires.choice

pub returns-in-Ok-false : goal.returns-in-Ok-false
returns-in-Ok-false g c = consumed_nothing _ _ (sight (g.N.Net.seen c.args.net.now) (g.O.Out.seen c.args.out.now)) (λ takes. let bad = c.in-Ok-false.ensures.1 takes in absurd cc)
