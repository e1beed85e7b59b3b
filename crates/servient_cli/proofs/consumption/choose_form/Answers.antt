use Rattle.std.proofs.Common.{refl}
use Rattle.command_stages.specs.Lines.{no_affordance_line, no_form_line}
use Rattle.servient_cli.specs.Consuming.{Chooses, is_chosen, has_no_affordance, has_no_form, choose_memory}
use Rattle.command_stages.proofs.StageLaws.{goes_quietly, ends_memory, writes_line}
use Rattle.servient_cli.proofs.consumption.choose_form.Goals as goal

pub returns-in-Ok-clause-stage : goal.returns-in-Ok-clause-stage
returns-in-Ok-clause-stage c = λ a. goes_quietly (Chooses _ _ _ _) a c.in-Ok.chosen (is_chosen c.in-Ok.chosen c.in-Ok.ensures.ok refl refl)

pub returns-in-Err-NoAffordance-clause-stage : goal.returns-in-Err-NoAffordance-clause-stage
returns-in-Err-NoAffordance-clause-stage c = λ a.
    writes_line (Chooses _ _ _ _) a c.no_affordance.result c.end_with.result 12 no_affordance_line c.no_affordance.ensures c.end_with.ensures
    (has_no_affordance (rw c.in-Err-NoAffordance.field-0-is at c.in-Err-NoAffordance.ensures.fault) (refl, refl)) (choose_memory (refl, refl))

pub returns-in-Err-NoForm-clause-stage : goal.returns-in-Err-NoForm-clause-stage
returns-in-Err-NoForm-clause-stage c = λ a.
    writes_line (Chooses _ _ _ _) a c.no_form.result c.end_with-in-Err-NoForm.result 12 no_form_line c.no_form.ensures c.end_with-in-Err-NoForm.ensures
    (has_no_form (rw c.in-Err-NoForm.field-0-is at c.in-Err-NoForm.ensures.fault) (refl, refl)) (choose_memory (refl, refl))

pub returns-in-Err-NoMemory-clause-stage : goal.returns-in-Err-NoMemory-clause-stage
returns-in-Err-NoMemory-clause-stage c = λ a. ends_memory (Chooses _ _ _ _) a (choose_memory (refl, refl))
