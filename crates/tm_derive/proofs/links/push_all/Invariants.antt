use Rattle.std.proofs.Common.{◌≡◌, ◌++◌}
use Rattle.std.specs.Vec.Iter.{into_iter_items}
use Rattle.wot_json.specs.Meaning.{json_items}
use Rattle.tm_derive.proofs.links.push_all.Given as goal

abbrev pub invariant-loop-value : goal.invariant-loop-value
invariant-loop-value l = l.items ++ json_items (into_iter_items l.value-iterator) ≡ l.initial.items ++ l.fn.added
