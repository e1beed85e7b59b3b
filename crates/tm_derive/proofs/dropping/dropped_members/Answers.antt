use Rattle.wot_json.specs.Tree.{null}
use Rattle.tm_resolve.proofs.Loops.{order_next}
use Rattle.tm_derive.specs.Selected.{is_out}
use Rattle.tm_derive.proofs.Values.{dropped_more, dropped_ordered}
use Rattle.tm_derive.proofs.dropping.dropped_members.Goals as goal

pub push_dropped-requires : goal.push_dropped-requires
push_dropped-requires c =
    order_next c.loop-name.dropped c.as_slice-list.result.now c.loop-name.name-index c.loop-name-item.result c.as_str.result.now null c.loop-name-test.true c.loop-name-item.is c.as_str.ensures c.loop-name.invariant.order

pub loop-name-preserved : goal.loop-name-preserved
loop-name-preserved c = record {
  made = dropped_more (is_out c.args.selection.now) c.args.holder.now c.loop-name.dropped c.push_dropped.new.dropped _ c.as_slice-list.result.now c.loop-name.name-index c.loop-name-item.result c.as_str.result.now
      c.loop-name-test.true c.loop-name-item.is c.as_str.ensures c.in_ok-push_dropped.ensures c.loop-name.invariant.made;
  order = dropped_ordered (is_out c.args.selection.now) c.args.holder.now c.loop-name.dropped c.push_dropped.new.dropped c.as_slice-list.result.now c.loop-name.name-index c.loop-name-item.result c.as_str.result.now
      c.loop-name-test.true c.loop-name-item.is c.as_str.ensures c.in_ok-push_dropped.ensures c.loop-name.invariant.order;
}
