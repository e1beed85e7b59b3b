use Rattle.std.proofs.Common.{codes}
use Rattle.wot_json.specs.Meaning.{json_of}
use Rattle.wot_json.specs.Texts.{has_text}
use Rattle.wot_terms.proofs.Findings.{there, tested}
use Rattle.wot_terms.specs.Faults.{here, is, td_context}
use Rattle.wot_terms.proofs.rows.context.Goals as goal

pub returns-in-Some : goal.returns-in-Some
returns-in-Some c =
    there (codes "@context") (is (has_text td_context)) here c.args.root.now (json_of c.in-Some.value.now) c.in_member.result (rw c.in-Some.is at c.get.ensures)
    (c.in_member.ensures (is (has_text td_context) (json_of c.in-Some.value.now))
    (tested (has_text td_context (json_of c.in-Some.value.now)) c.has_text-passes.result c.wrong_unless.result c.has_text-passes.ensures c.wrong_unless.ensures.ok))
