use Rattle.std.proofs.Common.{arith}
use Rattle.wot_terms.specs.Faults.{is, is_text_with}
use Rattle.wot_terms.specs.Operations.{is_operation}
use Rattle.wot_terms.proofs.Findings.{some_list}
use Rattle.wot_terms.proofs.forms.operation_names.Goals as goal

pub returns-in-List : goal.returns-in-List
returns-in-List c =
    rw c.in-List.is (some_list (is (is_text_with (is_operation c.args.place))) c.in-List.names c.each_operation.result (omega arith) (rw c.as_slice.ensures at c.each_operation.ensures))
