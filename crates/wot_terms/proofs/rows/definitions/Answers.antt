use Rattle.std.proofs.Common.{arith}
use Rattle.wot_terms.specs.Rows.{entry_judge}
use Rattle.wot_terms.specs.declared.entries.EntryRule.TheVariants as entry
use Rattle.wot_terms.proofs.Findings.{some_object}
use Rattle.wot_terms.proofs.rows.definitions.Goals as goal

pub returns-in-Obj : goal.returns-in-Obj
returns-in-Obj c =
    rw c.in-Obj.is (some_object (entry_judge entry.Definition) c.in-Obj.definitions c.each_member.result (omega arith) (rw c.as_slice.ensures.members at c.each_member.ensures))
