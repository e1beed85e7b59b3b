use Rattle.std.proofs.Common.{◌∙◌, ◌++◌, refl, ap, sym, subst}
use Rattle.std.specs.Prelude.{codes, Err}
use Rattle.wot_json.specs.Json.{json_string}
use Rattle.wot_json.specs.Meaning.{json_of}
use Rattle.servient_plan.specs.declared.plan.Plan.{Plan}
use Rattle.servient_plan.specs.declared.plan.PlanFault.{PlanFault}
use Rattle.servient_plan.specs.Plan.{plan_of, Reads}
use Rattle.command_stages.specs.Lines.{input_line}
use Rattle.command_stages.specs.Deriving.{ReadsPlan, is_plan, is_no_plan, plan_memory}
use Rattle.command_stages.proofs.StageLaws.{goes_quietly, ends_memory, writes_line}
use Rattle.command_stages.proofs.derivation.read_plan.Goals as goal

pub returns-in-Ok-clause-stage : goal.returns-in-Ok-clause-stage
returns-in-Ok-clause-stage c = λ a. goes_quietly (ReadsPlan c.args.name.now c.args.tree.now) a c.in-Ok.plan (is_plan c.in-Ok.plan c.in-Ok.ensures.reads refl refl)

pub returns-in-Err-At-clause-stage : goal.returns-in-Err-At-clause-stage
returns-in-Err-At-clause-stage c = λ a.
    let arm = c.in-Err-At in
    let refused = subst (λ (f : PlanFault). Reads {A = Plan} (Err f) (plan_of (json_of c.args.tree.now))) arm.field-0-is arm.ensures.reads in
    writes_line (ReadsPlan c.args.name.now c.args.tree.now) a c.plan.result c.end_with.result 4 (input_line c.args.name.now (codes "plan " ++ json_string c.as_str.result.now)) c.plan.ensures c.end_with.ensures
    (is_no_plan c.as_str.result.now (refused ∙ ap (λ p. Err p) (sym c.as_str.ensures)) (refl, refl)) (plan_memory (refl, refl))

pub returns-in-Err-NoMemory-clause-stage : goal.returns-in-Err-NoMemory-clause-stage
returns-in-Err-NoMemory-clause-stage c = λ a. ends_memory (ReadsPlan c.args.name.now c.args.tree.now) a (plan_memory (refl, refl))
