use Rattle.std.proofs.Common.{[], subst}
use Rattle.wot_json.specs.Tree.{members_of}
use Rattle.wot_json.specs.Meaning.{json_of}
use Rattle.wot_terms.proofs.Findings.{there}
use Rattle.wot_terms.specs.Faults.{optional_member, object_with, each_member}
use Rattle.wot_terms.specs.Rows.{IsFinding, entry_judge}
use Rattle.wot_terms.specs.declared.entries.EntryRule.TheVariants as entry
use Rattle.wot_terms.proofs.rows.affordance_map.Goals as goal

pub returns-in-Some : goal.returns-in-Some
returns-in-Some c =
    subst (λ name. IsFinding (optional_member name (object_with (each_member (entry_judge entry.Object))) (members_of c.args.root.now)) c.in_member.result) c.holder-holder.ensures
    (there c.holder-holder.result.now (object_with (each_member (entry_judge entry.Object))) [] c.args.root.now (json_of c.in-Some.value.now) c.in_member.result (rw c.in-Some.is at c.get.ensures)
    (c.in_member.ensures (object_with (each_member (entry_judge entry.Object)) (json_of c.in-Some.value.now)) c.objects.ensures))
