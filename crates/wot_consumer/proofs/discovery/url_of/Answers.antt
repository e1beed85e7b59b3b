use Rattle.wot_consumer.proofs.ThingLines.{joined_target, target_is_text}
use Rattle.wot_consumer.proofs.discovery.url_of.Goals as goal

pub returns-in-Ok : goal.returns-in-Ok
returns-in-Ok c = joined_target c.args.server.now c.args.target.now c.in-Ok.target.now c.join.result c.in-Ok.ensures.cases.0 c.join.ensures

pub returns-in-Err : goal.returns-in-Err
returns-in-Err c = absurd (c.in-Err.ensures.cases.0 (target_is_text c.args.target.now c.requires))
