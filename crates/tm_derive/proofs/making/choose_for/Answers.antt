use Rattle.std.proofs.Common.{◌≡◌, ◌++◌, ◌∙◌, ap, subst, List, ℕ, map, []}
use Rattle.std.proofs.lemmas.Result.{err_from_is_err_and}
use Rattle.tm_resolve.specs.Resolver.{resolver_models}
use Rattle.tm_derive.specs.Given.{Choice}
use Rattle.tm_derive.specs.Optional.{optional_texts, optional_faults, unlisted_choices}
use Rattle.tm_derive.specs.Refusals.{IsRefusal}
use Rattle.tm_derive.specs.declared.fault.DeriveFault.TheVariants as fault
use Rattle.tm_derive.proofs.OneThing.{refused_listed, refused_choice, none_of_both}
use Rattle.tm_derive.proofs.making.choose_for.Goals as goal

pub returns-in_err-push_optional : goal.returns-in_err-push_optional
returns-in_err-push_optional c =
    let p = err_from_is_err_and c.from_residual.result c.from_residual.ensures.1 in
    let models = resolver_models c.args.common.now.resolver in
    rw (p.1, p.2)
    (refused_listed c.args.segment.now (optional_faults c.args.room models c.args.url.now) (unlisted_choices (optional_texts c.args.room models c.args.url.now) c.args.segment.now c.args.common.now.choices.now) c.in_err-push_optional.field-0.0 c.in_err-push_optional.ensures)

pub returns-in_err-judge_choices : goal.returns-in_err-judge_choices
returns-in_err-judge_choices c =
    let p = err_from_is_err_and c.from_residual-in_err-judge_choices.result c.from_residual-in_err-judge_choices.ensures.1 in
    let models = resolver_models c.args.common.now.resolver in
    let gathered = c.as_slice.ensures.value ∙ c.in_ok-push_optional.ensures.0 ∙ ap (λ (ts : List (List ℕ)). ts ++ optional_texts c.args.room models c.args.url.now) c.new-texts.ensures.items in
    rw (p.1, p.2)
    (refused_choice c.args.segment.now (optional_faults c.args.room models c.args.url.now) (unlisted_choices (optional_texts c.args.room models c.args.url.now) c.args.segment.now c.args.common.now.choices.now) c.in_err-judge_choices.field-0.0 c.in_ok-push_optional.ensures.1
    (subst (λ (cs : List Choice). IsRefusal c.in_err-judge_choices.field-0.0 (map (fault.Optional c.args.segment.now) (unlisted_choices (optional_texts c.args.room models c.args.url.now) c.args.segment.now cs))) c.as_slice-2.ensures
    (subst (λ (ts : List (List ℕ)). IsRefusal c.in_err-judge_choices.field-0.0 (map (fault.Optional c.args.segment.now) (unlisted_choices ts c.args.segment.now c.as_slice-2.result.now))) gathered c.in_err-judge_choices.ensures)))

pub returns : goal.returns
returns c =
    let models = resolver_models c.args.common.now.resolver in
    let gathered = c.as_slice.ensures.value ∙ c.in_ok-push_optional.ensures.0 ∙ ap (λ (ts : List (List ℕ)). ts ++ optional_texts c.args.room models c.args.url.now) c.new-texts.ensures.items in (
      c.in_ok-push_optional.ensures.0 ∙ ap (λ (ts : List (List ℕ)). ts ++ optional_texts c.args.room models c.args.url.now) c.new-texts.ensures.items,
      none_of_both c.args.segment.now (optional_faults c.args.room models c.args.url.now) (unlisted_choices (optional_texts c.args.room models c.args.url.now) c.args.segment.now c.args.common.now.choices.now) c.in_ok-push_optional.ensures.1
          (subst (λ (cs : List Choice). map (fault.Optional c.args.segment.now) (unlisted_choices (optional_texts c.args.room models c.args.url.now) c.args.segment.now cs) ≡ []) c.as_slice-2.ensures
          (subst (λ (ts : List (List ℕ)). map (fault.Optional c.args.segment.now) (unlisted_choices ts c.args.segment.now c.as_slice-2.result.now) ≡ []) gathered c.in_ok-judge_choices.ensures)),
    )
