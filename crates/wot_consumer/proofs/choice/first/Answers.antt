use Rattle.std.specs.Option.{option_copied}
use Rattle.wot_consumer.proofs.FirstForms.{first_more, passed_over}
use Rattle.wot_consumer.proofs.choice.first.Goals as goal

pub loop-form-preserved : goal.loop-form-preserved
loop-form-preserved c =
    let over = passed_over c.args.wanted (option_copied c.args.base) c.form-item.result c.in_ok-chosen.field-0 c.in_ok-chosen.ensures c.in_default.not-Some in
    first_more c.args.wanted (option_copied c.args.base) c.args.forms.now c.loop-form.form-index c.form-item.result c.loop-form-test.true c.form-item.is over c.loop-form.invariant
