use Rattle.std.proofs.Common.{[], codes}
use Rattle.wot_json.specs.Meaning.{json_of}
use Rattle.wot_terms.proofs.Findings.{there}
use Rattle.wot_terms.specs.Faults.{texts}
use Rattle.wot_terms.specs.Operations.{is_operation}
use Rattle.wot_terms.proofs.forms.operations.Goals as goal

pub returns-in-Some : goal.returns-in-Some
returns-in-Some c =
    there (codes "op") (texts (is_operation c.args.place)) [] c.args.members.now (json_of c.in-Some.value.now) c.in_member.result (rw c.in-Some.is at c.get.ensures)
    (c.in_member.ensures ((texts (is_operation c.args.place)) (json_of c.in-Some.value.now)) c.operation_names.ensures)
