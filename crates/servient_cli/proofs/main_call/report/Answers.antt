use Rattle.std.proofs.Common.{inl, ◌≡◌, ◌≤◌, ℕ, List, length, subst, sym, arith}
use Rattle.std.proofs.lemmas.Bool.Decides.{nat_tests}
use Rattle.servient_outside.specs.Told.{Continues}
use Rattle.servient_outside.proofs.ToldLaws.{continues_same}
use Rattle.command_stages.proofs.StageLaws.{nothing_if_empty}
use Rattle.servient_cli.proofs.main_call.report.Goals as goal

pub returns-then-is_empty-clause-reported : goal.returns-then-is_empty-clause-reported
returns-then-is_empty-clause-reported g c =
    let written = (g.O.Out.seen c.args.out.now).written in
    let none : length c.final_text-text.result.now ≡ 0 = grind (arith, nat_tests) in
    inl (c.final_status.ensures, subst (λ (text : List ℕ). Continues written written text) (sym (nothing_if_empty c.final_text-text.result.now _ c.final_text-text.ensures none)) (continues_same written))

pub returns-in-Done-clause-no_failure : goal.returns-in-Done-clause-no_failure
returns-in-Done-clause-no_failure g c =
    λ room is fits. (c.put.ensures.fits room is (subst (λ (text : List ℕ). length text ≤ room) (sym c.final_text-text.ensures) fits)).2

pub returns-in-Failed-clause-no_failure : goal.returns-in-Failed-clause-no_failure
returns-in-Failed-clause-no_failure g c =
    λ room is fits. (c.put.ensures.fits room is (subst (λ (text : List ℕ). length text ≤ room) (sym c.final_text-text.ensures) fits)).2
