use Rattle.std.proofs.Common.{◌∙◌, ◌++◌, List, refl, sym, ap, subst}
use Rattle.std.specs.Prelude.{codes, decimal, Result, Err}
use Rattle.servient_outside.specs.declared.net.EventWithBytes.{EventWithBytes}
use Rattle.servient_script.specs.declared.script.ScriptFault.{ScriptFault}
use Rattle.servient_script.specs.Script.{IsScript}
use Rattle.command_stages.specs.Lines.{input_line}
use Rattle.command_stages.specs.Inputs.{ReadsScript, is_script, is_no_script, script_memory}
use Rattle.command_stages.proofs.StageLaws.{goes_quietly, ends_memory, writes_line}
use Rattle.command_stages.proofs.inputs.events_of.Goals as goal

abbrev refused : ScriptFault → Result (List EventWithBytes) ScriptFault
refused fault = Err fault

pub returns-in-Ok-clause-stage : goal.returns-in-Ok-clause-stage
returns-in-Ok-clause-stage c = λ a.
    let script = subst (λ (events : List EventWithBytes). IsScript c.args.content.now events) (sym c.into_events.ensures) c.in-Ok.ensures.ok in
    goes_quietly (ReadsScript c.args.name.now c.args.content.now) a c.into_events.result
    (is_script c.into_events.result script (λ others is. c.into_events.ensures ∙ c.in-Ok.ensures.complete others is) refl refl)

pub returns-in-Err-Line-clause-stage : goal.returns-in-Err-Line-clause-stage
returns-in-Err-Line-clause-stage c = λ a.
    let arm = c.in-Err-Line in
    let bad = arm.ensures.fault arm.line (ap refused arm.field-0-is) in
    writes_line (ReadsScript c.args.name.now c.args.content.now) a c.bad_line.result c.end_with.result 4 (input_line c.args.name.now (codes "line " ++ decimal arm.line)) c.bad_line.ensures c.end_with.ensures
    (is_no_script arm.line bad (λ events is. let memory = arm.ensures.complete events is in cc) (refl, refl))
    (script_memory (refl, refl))

pub returns-in-Err-NoMemory-clause-stage : goal.returns-in-Err-NoMemory-clause-stage
returns-in-Err-NoMemory-clause-stage c = λ a. ends_memory (ReadsScript c.args.name.now c.args.content.now) a (script_memory (refl, refl))
