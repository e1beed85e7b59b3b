use Rattle.std.proofs.Common.{◌≡◌, ◌++◌, length}
use Rattle.std.specs.Vec.Iter.{into_iter_items, into_iter_len}
use Rattle.servient_plan.proofs.values.choices_of.Given as goal

abbrev pub invariant-loop-segment : goal.invariant-loop-segment
invariant-loop-segment l = record {
  kept : l.choices ++ into_iter_items l.segment-iterator ≡ l.fn.pairs.items;
  count : into_iter_len l.segment-iterator ≡ length (into_iter_items l.segment-iterator);
}
