use Rattle.std.proofs.Common.{◌≡◌, drop}
use Rattle.std.specs.List.{list_any}
use Rattle.std.specs.Str.{bytes_eq}
use Rattle.wot_terms.specs.Operations.{is_operation, op_name}
use Rattle.wot_terms.proofs.op.is_operation.Given as goal

abbrev pub invariant-loop-op : goal.invariant-loop-op
invariant-loop-op l = is_operation l.fn.place l.text ≡ list_any (λ o. bytes_eq l.text (op_name o)) (drop l.op-index l.op-items)
