use Rattle.std.proofs.Common.{◌≡◌, ◌++◌, drop}
use Rattle.wot_json.specs.Meaning.{json_members}
use Rattle.servient_plan.specs.Plan.{unknown_in}
use Rattle.servient_plan.proofs.unknown.unknown_among.Given as goal

abbrev pub invariant-loop-name : goal.invariant-loop-name
invariant-loop-name l = l.names ++ unknown_in (json_members (drop l.name-index l.members)) ≡ unknown_in (json_members l.members)
