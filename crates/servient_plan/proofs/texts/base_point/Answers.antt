use Rattle.std.proofs.Common.{◌≡◌, ℕ, List, ◌++◌, drop, length, subst, ◌∙◌, ap, sym}
use Rattle.std.specs.Prelude.{Option, Some, None, MatchOption}
use Rattle.servient_base.specs.HostPorts.{point_in}
use Rattle.servient_plan.proofs.PlanTexts.{base_is_point, no_base}
use Rattle.servient_plan.proofs.texts.base_point.Goals as goal

pub returns-in-Some : goal.returns-in-Some
returns-in-Some c =
    let cut = c.in-Some.ensures.cases in
    let begins = subst (λ (n : ℕ). c.args.text.now ≡ c.args.scheme.now ++ drop n c.args.text.now) cut.1.0 cut.1.1 in
    let rest : c.in-Some.place.now ≡ drop (length c.args.scheme.now) c.args.text.now = subst (λ (n : ℕ). c.in-Some.place.now ≡ drop n c.args.text.now) cut.1.0 cut.2 in
    subst (λ (o : Option (List ℕ × ℕ)). MatchOption c.point_in.result (o ≡ None) (λ p. o ≡ Some (p.0.now, p.1)))
    (ap point_in rest ∙ base_is_point c.args.scheme.now c.args.text.now begins) c.point_in.ensures

pub returns-in-None : goal.returns-in-None
returns-in-None c = sym (no_base c.args.scheme.now c.args.text.now c.in-None.ensures.cases)
