use Rattle.std.proofs.Common.{[], List, refl, subst}
use Rattle.std.specs.Prelude.{Option, Err}
use Rattle.std.proofs.lemmas.Result.{err_from_is_err_and}
use Rattle.servient_outside.specs.declared.files.HeldFile.{HeldFile}
use Rattle.servient_outside.specs.declared.net.EventWithBytes.{EventWithBytes}
use Rattle.command_stages.specs.Stages.{AndThen, around, goes_on}
use Rattle.command_stages.specs.Ending.{ComesOut, Performs}
use Rattle.command_stages.specs.Inputs.{Plans, ReadsEvents, HasRead, has_read}
use Rattle.command_stages.proofs.StageLaws.{error_performs, then_performs, second_comes, goes_quietly}
use Rattle.command_stages.proofs.ModelStages.{inputs}
use Rattle.command_stages.proofs.inputs.read_inputs.Goals as goal

pub returns-in_err-planned-clause-stage : goal.returns-in_err-planned-clause-stage
returns-in_err-planned-clause-stage g c = λ w.
    let held = (g.F.Files.seen c.args.files.now).held in
    let a = around (g.F.Files.seen c.args.files.now) w in
    let b = around (g.F.Files.seen c.plan_of.new.files) w in
    let script = c.args.script.now in
    let error = err_from_is_err_and c.from_residual.result c.from_residual.ensures.1 in
    rw (error.1, error.2) (error_performs (Plans held c.args.plan.now) (λ p. AndThen (ReadsEvents held script) (HasRead p)) a b c.in_err-planned.field-0.0 (c.in_err-planned.ensures.stage w))

pub returns-in_err-events-clause-stage : goal.returns-in_err-events-clause-stage
returns-in_err-events-clause-stage g c = λ w.
    let held = (g.F.Files.seen c.args.files.now).held in
    let a = around (g.F.Files.seen c.args.files.now) w in
    let b = around (g.F.Files.seen c.plan_of.new.files) w in
    let d = around (g.F.Files.seen c.read_events.new.files) w in
    let script = c.args.script.now in
    let planned = c.in_ok-planned.planned in
    let error = err_from_is_err_and c.from_residual-in_err-events.result c.from_residual-in_err-events.ensures.1 in
    rw (error.1, error.2) (then_performs (Plans held c.args.plan.now) (λ p. AndThen (ReadsEvents held script) (HasRead p)) a b d planned (Err c.in_err-events.field-0.0) (c.in_ok-planned.ensures.stage w)
    (error_performs (ReadsEvents held script) (HasRead planned) b d c.in_err-events.field-0.0
    (subst (λ (h : Option (List HeldFile)). Performs {A = List EventWithBytes} (ReadsEvents h script) b d (Err c.in_err-events.field-0.0)) c.in_ok-planned.ensures.held (c.in_err-events.ensures.stage w))))

pub returns-clause-stage : goal.returns-clause-stage
returns-clause-stage g c = λ w.
    let held = (g.F.Files.seen c.args.files.now).held in
    let a = around (g.F.Files.seen c.args.files.now) w in
    let b = around (g.F.Files.seen c.plan_of.new.files) w in
    let d = around (g.F.Files.seen c.read_events.new.files) w in
    let script = c.args.script.now in
    let planned = c.in_ok-planned.planned in
    let events = c.in_ok-events.events in
    second_comes (Plans held c.args.plan.now) (λ p. AndThen (ReadsEvents held script) (HasRead p)) a b d planned (goes_on (inputs planned events)) [] (c.in_ok-planned.ensures.stage w)
    (second_comes (ReadsEvents held script) (HasRead planned) b d d events (goes_on (inputs planned events)) []
    (subst (λ (h : Option (List HeldFile)). ComesOut (ReadsEvents h script) b d (goes_on events) []) c.in_ok-planned.ensures.held (c.in_ok-events.ensures.stage w))
    (goes_quietly (HasRead planned events) d (inputs planned events) (has_read refl refl)))
