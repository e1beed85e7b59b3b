use Rattle.std.proofs.Common.{arith}
use Rattle.wot_json.specs.Tree.{members_of}
use Rattle.wot_terms.specs.Faults.{is, is_text_with, is_defined}
use Rattle.wot_terms.proofs.Findings.{some_list}
use Rattle.wot_terms.proofs.rows.definition_names.Goals as goal

pub returns-in-List : goal.returns-in-List
returns-in-List c =
    rw c.in-List.is (some_list (is (is_text_with (is_defined (members_of c.args.root.now)))) c.in-List.names c.each_definition.result (omega arith) (rw c.as_slice.ensures at c.each_definition.ensures))
