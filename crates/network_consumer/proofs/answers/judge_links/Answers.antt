use Rattle.std.proofs.Common.{refl, subst}
use Rattle.wot_consumer.specs.Discovery.{SaysOfThings}
use Rattle.network_consumer.specs.Answers.{says_things, says_nothing}
use Rattle.network_consumer.proofs.answers.judge_links.Goals as goal

pub returns-in-Ok-Some : goal.returns-in-Ok-Some
returns-in-Ok-Some c = says_things c.in-Ok-Some.lines (subst (SaysOfThings c.args.server.now c.args.payload.now) c.in-Ok-Some.field-0-is c.in-Ok-Some.ensures) refl

pub returns-in-Ok-None : goal.returns-in-Ok-None
returns-in-Ok-None c = says_nothing (subst (SaysOfThings c.args.server.now c.args.payload.now) c.in-Ok-None.field-0-is c.in-Ok-None.ensures) refl
