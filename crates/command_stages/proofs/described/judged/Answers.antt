use Rattle.std.proofs.Common.{refl}
use Rattle.command_stages.specs.Lines.{invalid_line}
use Rattle.command_stages.specs.Describing.{TakesDescription, is_taken, has_fault, description_memory}
use Rattle.command_stages.proofs.StageLaws.{goes_quietly, ends_memory, writes_line}
use Rattle.command_stages.proofs.described.judged.Goals as goal

pub returns-in-Ok-clause-stage : goal.returns-in-Ok-clause-stage
returns-in-Ok-clause-stage c = λ a. goes_quietly (TakesDescription c.args.tree) a c.args.tree (is_taken c.in-Ok.ensures.ok refl refl)

pub returns-in-Err-Td-clause-stage : goal.returns-in-Err-Td-clause-stage
returns-in-Err-Td-clause-stage c = λ a.
    let arm = c.in-Err-Td in
    writes_line (TakesDescription c.args.tree) a c.invalid.result c.end_with.result 5 (invalid_line arm.fault.number c.as_str.result.now) c.invalid.ensures c.end_with.ensures
    (has_fault arm.fault.number c.as_str.result.now (rw c.as_str.ensures (rw arm.field-0-is at arm.ensures.fault)) (refl, refl)) (description_memory (refl, refl))

pub returns-clause-stage : goal.returns-clause-stage
returns-clause-stage c = λ a. ends_memory (TakesDescription c.args.tree) a (description_memory (refl, refl))
