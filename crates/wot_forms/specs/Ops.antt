-- A list of operations, as the code has it.
use Rattle.std.specs.Prelude.{List}
use Rattle.wot_terms.specs.declared.op.Op.{Op}
use Rattle.wot_forms.specs.declared.ops.OpList.{OpList}
use Rattle.wot_forms.specs.declared.ops.OpList.TheVariants.{Fixed, Listed}

abbrev pub ops_kept : OpList → List Op
ops_kept (Fixed ops) = ops.now
ops_kept (Listed ops) = ops.items
