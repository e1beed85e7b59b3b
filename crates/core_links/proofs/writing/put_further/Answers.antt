use Rattle.core_links.specs.Writing.{further_text}
use Rattle.servient_base.proofs.Pieces.{puts_more, no_room_more}
use Rattle.core_links.proofs.writing.put_further.Goals as goal

pub returns-in-None : goal.returns-in-None
returns-in-None c =
    no_room_more further_text c.args.links.now c.loop-link.link-index _ c.link-item.result c.args.at c.loop-link.end c.args.out.now c.loop-link.out c.loop-link-test.true c.link-item.is c.loop-link.auto.out c.loop-link.invariant c.in-None.ensures

pub loop-link-preserved : goal.loop-link-preserved
loop-link-preserved c =
    puts_more further_text c.args.links.now c.loop-link.link-index _ c.link-item.result c.args.at c.loop-link.end c.in-Some.next c.args.out.now c.loop-link.out c.put_further_link.new.out c.loop-link-test.true c.link-item.is c.loop-link.invariant c.in-Some.ensures
