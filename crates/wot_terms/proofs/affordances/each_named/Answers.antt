use Rattle.std.proofs.lemmas.Result.{err_from_is_err_and}
use Rattle.wot_json.specs.Tree.{members_of}
use Rattle.wot_json.specs.Meaning.{json_of, json_members}
use Rattle.wot_terms.specs.Faults.{each_member}
use Rattle.wot_terms.specs.Rows.{affordance_judge}
use Rattle.wot_terms.specs.Faults.{if_object}
use Rattle.wot_terms.proofs.Findings.{member_stops}
use Rattle.wot_terms.proofs.affordances.each_named.Goals as goal

pub returns-in_err-in_member : goal.returns-in_err-in_member
returns-in_err-in_member c =
    let p = err_from_is_err_and c.from_residual.result c.from_residual.ensures.1 in
    rw (p.1, p.2)
    (member_stops (if_object (affordance_judge c.args.row c.args.kind)) (each_member (if_object (affordance_judge c.args.row c.args.kind)) (members_of (json_members c.args.affordances.now))) c.args.affordances.now c.loop-name.name-index c.loop-name-item.result c.as_str.result.now _
    c.loop-name-test.true c.loop-name-item.is c.as_str.ensures c.loop-name.invariant (c.in_err-in_member.ensures ((if_object (affordance_judge c.args.row c.args.kind)) (json_of c.loop-name-item.result.1)) c.affordance.ensures))
