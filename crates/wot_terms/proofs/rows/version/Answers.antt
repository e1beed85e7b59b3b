use Rattle.std.proofs.Common.{[], codes}
use Rattle.wot_json.specs.Meaning.{json_of}
use Rattle.wot_terms.proofs.Findings.{there}
use Rattle.wot_terms.specs.Faults.{object_with, required_member}
use Rattle.wot_terms.specs.Rows.{judge_of}
use Rattle.wot_terms.specs.declared.demand.Demand.TheVariants as demand
use Rattle.wot_terms.proofs.rows.version.Goals as goal

pub returns-in-Some : goal.returns-in-Some
returns-in-Some c =
    there (codes "version") (object_with (required_member (codes "instance") (judge_of demand.Text))) [] c.args.root.now (json_of c.in-Some.value.now) c.in_member.result (rw c.in-Some.is at c.get.ensures)
    (c.in_member.ensures ((object_with (required_member (codes "instance") (judge_of demand.Text))) (json_of c.in-Some.value.now)) c.version_info.ensures)
