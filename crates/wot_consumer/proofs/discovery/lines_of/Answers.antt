use Rattle.std.proofs.Common.{arith}
use Rattle.wot_consumer.proofs.ThingLines.{lines_none, lines_more, lines_all}
use Rattle.wot_consumer.proofs.discovery.lines_of.Goals as goal

pub loop-link-init : goal.loop-link-init
loop-link-init c = lines_none c.args.server.now c.args.links.now c.new-lines.result c.new-lines.ensures

pub loop-link-preserved : goal.loop-link-preserved
loop-link-preserved c =
    lines_more c.args.server.now c.args.links.now c.loop-link.link-index c.link-item.result c.in_ok-put_line.field-0 c.loop-link.lines c.put_line.new.lines c.loop-link-test.true c.link-item.is c.loop-link.invariant c.in_ok-put_line.ensures
    c.if-not-branch.false

pub returns : goal.returns
returns c = lines_all c.args.server.now c.args.links.now c.loop-link.link-index c.loop-link.lines (omega (arith, c.loop-link-test.false)) c.loop-link.invariant
