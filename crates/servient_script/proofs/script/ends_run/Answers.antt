use Rattle.std.proofs.Common.{◌≡◌, ◌∙◌, ◌-◌, ℕ, Some, length, sym, ap, subst}
use Rattle.std.specs.Prelude.{slice_get}
use Rattle.servient_script.specs.Script.{is_stop}
use Rattle.servient_script.proofs.ScriptTexts.{last_says, is_no_stop}
use Rattle.servient_script.proofs.script.ends_run.Goals as goal

pub returns-in-Stop : goal.returns-in-Stop
returns-in-Stop c =
    let place : c.in-Some.last ≡ length c.args.events.now - 1 = c.in-Some.ensures.1 ∙ ap (λ (n : ℕ). n - 1) c.len.ensures in
    let at = subst (λ (n : ℕ). slice_get c.args.events.now n ≡ Some c.at.result.now) place c.at.ensures.item in
    sym (last_says c.args.events.now c.at.result.now c.requires at ∙ ap is_stop c.in-Stop.is)

pub returns-in_default : goal.returns-in_default
returns-in_default c =
    let place : c.in-Some.last ≡ length c.args.events.now - 1 = c.in-Some.ensures.1 ∙ ap (λ (n : ℕ). n - 1) c.len.ensures in
    let at = subst (λ (n : ℕ). slice_get c.args.events.now n ≡ Some c.at.result.now) place c.at.ensures.item in
    sym (last_says c.args.events.now c.at.result.now c.requires at ∙ is_no_stop c.at.result.now.event.what c.in_default.not-Stop)
