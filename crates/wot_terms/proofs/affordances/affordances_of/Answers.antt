use Rattle.std.proofs.Common.{[], subst}
use Rattle.wot_json.specs.Tree.{members_of}
use Rattle.wot_json.specs.Meaning.{json_of}
use Rattle.wot_terms.proofs.Findings.{there}
use Rattle.wot_terms.specs.Faults.{optional_member, if_object, each_member}
use Rattle.wot_terms.specs.Rows.{IsFinding, affordance_judge}
use Rattle.wot_terms.proofs.affordances.affordances_of.Goals as goal

pub returns-in-Some : goal.returns-in-Some
returns-in-Some c =
    subst (λ name. IsFinding (optional_member name (if_object (each_member (if_object (affordance_judge c.args.row c.args.kind)))) (members_of c.args.root.now)) c.in_member.result) c.holder-holder.ensures
    (there c.holder-holder.result.now (if_object (each_member (if_object (affordance_judge c.args.row c.args.kind)))) [] c.args.root.now (json_of c.in-Some.value.now) c.in_member.result (rw c.in-Some.is at c.get.ensures)
    (c.in_member.ensures (if_object (each_member (if_object (affordance_judge c.args.row c.args.kind))) (json_of c.in-Some.value.now)) c.affordances_in.ensures))
