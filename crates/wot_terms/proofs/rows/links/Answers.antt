use Rattle.std.proofs.Common.{[], codes}
use Rattle.wot_json.specs.Meaning.{json_of}
use Rattle.wot_terms.proofs.Findings.{there}
use Rattle.wot_terms.specs.Faults.{list_of}
use Rattle.wot_terms.specs.Rows.{entry_judge}
use Rattle.wot_terms.specs.declared.entries.EntryRule.TheVariants as entry
use Rattle.wot_terms.proofs.rows.links.Goals as goal

pub returns-in-Some : goal.returns-in-Some
returns-in-Some c =
    there (codes "links") (list_of (entry_judge entry.Link)) [] c.args.root.now (json_of c.in-Some.value.now) c.in_member.result (rw c.in-Some.is at c.get.ensures)
    (c.in_member.ensures ((list_of (entry_judge entry.Link)) (json_of c.in-Some.value.now)) c.list_of.ensures)
