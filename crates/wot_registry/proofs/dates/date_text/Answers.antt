use Rattle.std.proofs.Common.{arith, ◌≤◌, ◌∙◌}
use Rattle.std.proofs.lemmas.Result.{IfOk-weaker}
use Rattle.wot_registry.specs.Dates.{last_millisecond}
use Rattle.wot_registry.proofs.Moments.{moment_is, not_before_zero}
use Rattle.wot_registry.proofs.dates.date_text.Goals as goal

pub date_time_at-at-requires : goal.date_time_at-at-requires
date_time_at-at-requires c = omega (arith, c.min.ensures)

pub date_time_text-requires : goal.date_time_text-requires
date_time_text-requires c = not_before_zero c.date_time_at-at.result c.min.result (omega (arith, c.min.ensures)) c.date_time_at-at.ensures

pub returns : goal.returns
returns c =
    let within : c.min.result ≤ last_millisecond = omega (arith, c.min.ensures) in
    let text = rw c.min.ensures at (moment_is c.date_time_at-at.result c.min.result within c.date_time_at-at.ensures) in
    IfOk-weaker c.date_time_text.result _ _ (λ t e. e ∙ text) c.date_time_text.ensures
