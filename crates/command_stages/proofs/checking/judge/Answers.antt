use Rattle.std.proofs.Common.{refl}
use Rattle.command_stages.specs.Lines.{valid_line, invalid_line}
use Rattle.command_stages.specs.Checking.{Judges, is_valid, is_refused, judge_memory}
use Rattle.command_stages.proofs.StageLaws.{ends_memory, finishes_line}
use Rattle.command_stages.proofs.checking.judge.Goals as goal

pub returns-in-Ok : goal.returns-in-Ok
returns-in-Ok c = λ a. finishes_line (Judges c.args.tree.now) a c.valid.result 0 valid_line c.valid.ensures (is_valid c.in-Ok.ensures.ok (refl, refl)) (judge_memory (refl, refl))

pub returns-in-Err-Td : goal.returns-in-Err-Td
returns-in-Err-Td c = λ a.
    let arm = c.in-Err-Td in
    finishes_line (Judges c.args.tree.now) a c.invalid.result 5 (invalid_line arm.fault.number c.as_str.result.now) c.invalid.ensures
    (is_refused arm.fault.number c.as_str.result.now (rw c.as_str.ensures (rw arm.field-0-is at arm.ensures.fault)) (refl, refl)) (judge_memory (refl, refl))

pub returns-in-Err-NoMemory : goal.returns-in-Err-NoMemory
returns-in-Err-NoMemory c = λ a. ends_memory (Judges c.args.tree.now) a (judge_memory (refl, refl))
