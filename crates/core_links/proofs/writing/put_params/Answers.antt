use Rattle.core_links.specs.Writing.{param_text}
use Rattle.servient_base.proofs.Pieces.{puts_more, no_room_more}
use Rattle.core_links.proofs.writing.put_params.Goals as goal

pub returns-in-None : goal.returns-in-None
returns-in-None c =
    no_room_more param_text c.args.params.now c.loop-param.param-index _ c.param-item.result c.args.at c.loop-param.end c.args.out.now c.loop-param.out c.loop-param-test.true c.param-item.is c.loop-param.auto.out c.loop-param.invariant c.in-None.ensures

pub loop-param-preserved : goal.loop-param-preserved
loop-param-preserved c =
    puts_more param_text c.args.params.now c.loop-param.param-index _ c.param-item.result c.args.at c.loop-param.end c.in-Some.next c.args.out.now c.loop-param.out c.put_param.new.out c.loop-param-test.true c.param-item.is c.loop-param.invariant c.in-Some.ensures
