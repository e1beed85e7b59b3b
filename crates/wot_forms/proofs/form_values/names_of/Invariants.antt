use Rattle.std.proofs.Common.{◌≡◌, ◌++◌, drop, map}
use Rattle.wot_json.specs.Tree.{string}
use Rattle.wot_terms.specs.Operations.{op_name}
use Rattle.wot_forms.proofs.form_values.names_of.Given as goal

abbrev pub invariant-loop-op : goal.invariant-loop-op
invariant-loop-op l = l.names ++ map (λ o. string (op_name o)) (drop l.op-index l.ops) ≡ map (λ o. string (op_name o)) l.ops
