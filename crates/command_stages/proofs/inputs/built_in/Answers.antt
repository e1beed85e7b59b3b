use Rattle.std.proofs.Common.{◌∙◌, refl, ap}
use Rattle.wot_json.specs.Meaning.{json_of}
use Rattle.servient_plan.specs.declared.plan.Plan.{Plan}
use Rattle.servient_plan.specs.BuiltIn.{built_in_plan, built_in_url, built_in_model}
use Rattle.std.proofs.lemmas.Result.{err_from_is_err_and}
use Rattle.command_stages.specs.Inputs.{TakesBuiltIn, is_built_in, built_in_memory}
use Rattle.command_stages.proofs.StageLaws.{ends_memory, goes_quietly}
use Rattle.command_stages.proofs.ModelStages.{planned, same_planned}
use Rattle.command_stages.proofs.inputs.built_in.Goals as goal

pub returns-in_err-plan-clause-stage : goal.returns-in_err-plan-clause-stage
returns-in_err-plan-clause-stage c = λ a.
    let error = err_from_is_err_and c.from_residual.result c.from_residual.ensures.1 in
    rw (error.1, error.2) (ends_memory TakesBuiltIn a (built_in_memory (refl, refl)))

pub returns-in_err-model-clause-stage : goal.returns-in_err-model-clause-stage
returns-in_err-model-clause-stage c = λ a.
    let error = err_from_is_err_and c.from_residual-in_err-model.result c.from_residual-in_err-model.ensures.1 in
    rw (error.1, error.2) (ends_memory TakesBuiltIn a (built_in_memory (refl, refl)))

pub returns-in-Err-clause-stage : goal.returns-in-Err-clause-stage
returns-in-Err-clause-stage c = λ a. ends_memory TakesBuiltIn a (built_in_memory (refl, refl))

pub returns-in-Ok-clause-stage : goal.returns-in-Ok-clause-stage
returns-in-Ok-clause-stage c = λ a.
    goes_quietly TakesBuiltIn a (planned c.in_ok-plan.plan c.add.new.self)
    (is_built_in refl (same_planned c.in_ok-plan.plan built_in_plan c.add.new.self c.new-library.result c.as_str.result.now built_in_url (json_of c.in_ok-model.model) built_in_model
    c.in_ok-plan.ensures.plan c.in-Ok.ensures.ok (c.as_str.ensures ∙ ap (λ (p : Plan). p.root) c.in_ok-plan.ensures.plan) c.in_ok-model.ensures c.new-library.ensures))
