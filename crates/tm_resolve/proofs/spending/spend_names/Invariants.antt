use Rattle.std.proofs.Common.{◌≡◌, ◌+◌, drop}
use Rattle.std.specs.List.{sum_by}
use Rattle.wot_json.specs.Meaning.{json_members}
use Rattle.tm_resolve.specs.Weight.{name_weight}
use Rattle.tm_resolve.proofs.spending.spend_names.Given as goal

abbrev pub invariant-loop-name : goal.invariant-loop-name
invariant-loop-name l = l.left + sum_by name_weight (json_members l.members) ≡ l.fn.left + sum_by name_weight (json_members (drop l.name-index l.members))
