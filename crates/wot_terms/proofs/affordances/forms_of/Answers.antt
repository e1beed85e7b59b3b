use Rattle.std.proofs.Common.{[], codes}
use Rattle.wot_json.specs.Meaning.{json_of}
use Rattle.wot_terms.proofs.Findings.{there}
use Rattle.wot_terms.specs.Faults.{if_list, if_object}
use Rattle.wot_terms.specs.Rows.{form_judge}
use Rattle.wot_terms.proofs.affordances.forms_of.Goals as goal

pub returns-in-Some : goal.returns-in-Some
returns-in-Some c =
    there (codes "forms") (if_list (if_object (form_judge c.args.row c.args.place))) [] c.args.holder.now (json_of c.in-Some.value.now) c.in_member.result (rw c.in-Some.is at c.get.ensures)
    (c.in_member.ensures ((if_list (if_object (form_judge c.args.row c.args.place))) (json_of c.in-Some.value.now)) c.forms_in.ensures)
