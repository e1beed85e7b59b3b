use Rattle.wot_json.specs.Meaning.{json_of}
use Rattle.wot_terms.proofs.Findings.{there}
use Rattle.wot_terms.specs.Rows.{judge_of}
use Rattle.wot_terms.specs.Faults.{here}
use Rattle.wot_terms.proofs.demand.required.Goals as goal

pub returns-in-Some : goal.returns-in-Some
returns-in-Some c =
    there c.args.name.now (judge_of c.args.demand) here c.args.members.now (json_of c.in-Some.value.now) c.in_member.result (rw c.in-Some.is at c.get.ensures)
    (c.in_member.ensures ((judge_of c.args.demand) (json_of c.in-Some.value.now)) c.check.ensures)
