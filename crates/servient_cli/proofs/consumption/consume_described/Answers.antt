use Rattle.std.proofs.Common.{refl, rules}
use Rattle.servient_cli.proofs.consumption.consume_described.Goals as goal

pub returns : goal.returns
returns g c = λ files slots.
    c.operate_by_form.ensures files slots c.args.consumption.now c.args.described.now.tree c.args.described.now.input refl
    (record { tree_is = refl; op_is = c.op.ensures; name_is = c.as_str-name.ensures; input_is = search rules; count_is = refl })
