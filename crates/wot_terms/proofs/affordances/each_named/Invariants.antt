use Rattle.std.proofs.Common.{◌≡◌, drop}
use Rattle.wot_json.specs.Tree.{members_of}
use Rattle.wot_json.specs.Meaning.{json_members}
use Rattle.wot_terms.specs.Faults.{each_member, if_object}
use Rattle.wot_terms.specs.Rows.{affordance_judge}
use Rattle.wot_terms.proofs.affordances.each_named.Given as goal

abbrev pub invariant-loop-name : goal.invariant-loop-name
invariant-loop-name l = each_member (if_object (affordance_judge l.row l.kind)) (members_of (json_members l.affordances)) ≡ each_member (if_object (affordance_judge l.row l.kind)) (members_of (json_members (drop l.name-index l.affordances)))
