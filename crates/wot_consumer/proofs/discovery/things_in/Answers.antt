use Rattle.wot_consumer.proofs.ThingLines.{read_targets, says_links}
use Rattle.wot_consumer.proofs.discovery.things_in.Goals as goal

pub lines_of-requires : goal.lines_of-requires
lines_of-requires c = read_targets c.args.bytes.now _ c.as_slice.result.now c.as_slice.ensures c.in-Ok.ensures

pub returns-in-Ok : goal.returns-in-Ok
returns-in-Ok c = says_links c.args.server.now c.args.bytes.now _ c.as_slice.result.now c.lines_of.result c.as_slice.ensures c.in-Ok.ensures c.lines_of.ensures
