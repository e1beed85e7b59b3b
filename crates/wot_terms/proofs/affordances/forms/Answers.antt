use Rattle.std.proofs.Common.{codes}
use Rattle.wot_json.specs.Meaning.{json_of}
use Rattle.wot_terms.proofs.Findings.{there}
use Rattle.wot_terms.proofs.Findings.{nowhere}
use Rattle.wot_terms.specs.Faults.{here, list_of_some}
use Rattle.wot_terms.specs.Rows.{entry_judge}
use Rattle.wot_terms.specs.declared.entries.EntryRule.TheVariants as entry
use Rattle.wot_terms.proofs.affordances.forms.Goals as goal

pub returns-in-None : goal.returns-in-None
returns-in-None c = λ k. nowhere (codes "forms") (list_of_some (entry_judge entry.Object)) here c.args.affordance.now c.missing.result (rw c.in-None.is at c.get.ensures) c.missing.ensures

pub returns-in-Some : goal.returns-in-Some
returns-in-Some c = λ k.
    there (codes "forms") (list_of_some (entry_judge entry.Object)) here c.args.affordance.now (json_of c.in-Some.value.now) c.in_member.result (rw c.in-Some.is at c.get.ensures)
    (c.in_member.ensures (list_of_some (entry_judge entry.Object) (json_of c.in-Some.value.now)) c.list_of_some.ensures)
