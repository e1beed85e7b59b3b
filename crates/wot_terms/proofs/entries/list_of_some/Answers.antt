use Rattle.std.proofs.Common.{arith}
use Rattle.wot_terms.specs.Rows.{entry_judge}
use Rattle.wot_terms.proofs.Findings.{some_list}
use Rattle.wot_terms.proofs.entries.list_of_some.Goals as goal

pub returns-in-List : goal.returns-in-List
returns-in-List c =
    rw c.in-List.is (some_list (entry_judge c.args.entry) c.in-List.items c.each_element.result (omega arith) (rw c.as_slice.ensures at c.each_element.ensures))
