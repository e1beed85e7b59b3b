use Rattle.std.proofs.Common.{length}
use Rattle.wot_json.specs.Meaning.{json_members}
use Rattle.tm_resolve.proofs.Moving.{HasMoved}
use Rattle.tm_resolve.proofs.merging.take_at.Given as goal

abbrev pub invariant-loop-member : goal.invariant-loop-member
invariant-loop-member l = HasMoved l.name (json_members l.initial.rest.items) (json_members l.initial.into.items) (json_members l.rest.items) (json_members l.into.items)

abbrev pub decreases-loop-member : goal.decreases-loop-member
decreases-loop-member l = length l.rest.items
