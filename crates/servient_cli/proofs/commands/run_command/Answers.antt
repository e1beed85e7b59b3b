use Rattle.std.proofs.Common.{List, ℕ, subst, sym}
use Rattle.std.specs.Prelude.{Err}
use Rattle.std.proofs.lemmas.Result.{err_from_is_err_and}
use Rattle.command_words.specs.declared.command.Command.{Command}
use Rattle.command_words.specs.declared.command.Command.TheVariants.{Check, Derive, Table, Serve}
use Rattle.thing_site.specs.Exposing.{kinds_of}
use Rattle.servient_trace.specs.Trace.{outside}
use Rattle.command_stages.specs.Stages.{around}
use Rattle.servient_cli.specs.Command.{Does}
use Rattle.command_stages.specs.Ending.{EndsBy}
use Rattle.command_stages.specs.Inputs.{ReadsInputs, plan_name}
use Rattle.servient_cli.specs.Replaying.{RunsOn, Replays}
use Rattle.command_stages.proofs.StageLaws.{then_ends, error_ends}
use Rattle.servient_cli.proofs.commands.run_command.Goals as goal

pub returns-in-Check-clause-ends : goal.returns-in-Check-clause-ends
returns-in-Check-clause-ends g c =
    let held = (g.F.Files.seen c.args.files.now).held in
    let slots = g.R.Handlers.slots c.args.rack.now in
    let kinds = kinds_of slots in
    let w = outside (g.N.Net.seen c.args.net.now) slots in
    let before = around (g.F.Files.seen c.args.files.now) w in
    let now = around (g.F.Files.seen c.check_from.new.files) w in
    let named = subst (λ (name : List ℕ). EndsBy (Does held kinds (Check name)) before now c.check_from.result) c.as_str-in-Check.ensures (c.check_from.ensures w) in
    subst (λ (command : Command). EndsBy (Does held kinds command) before now c.check_from.result) (sym c.in-Check.is) named

pub returns-in-Derive-clause-ends : goal.returns-in-Derive-clause-ends
returns-in-Derive-clause-ends g c =
    let held = (g.F.Files.seen c.args.files.now).held in
    let slots = g.R.Handlers.slots c.args.rack.now in
    let kinds = kinds_of slots in
    let w = outside (g.N.Net.seen c.args.net.now) slots in
    let before = around (g.F.Files.seen c.args.files.now) w in
    let now = around (g.F.Files.seen c.derive_plan.new.files) w in
    let named = subst (λ (name : List ℕ). EndsBy (Does held kinds (Derive name)) before now c.derive_plan.result) c.as_str-in-Derive.ensures (c.derive_plan.ensures w) in
    subst (λ (command : Command). EndsBy (Does held kinds command) before now c.derive_plan.result) (sym c.in-Derive.is) named

pub returns-in-Table-clause-ends : goal.returns-in-Table-clause-ends
returns-in-Table-clause-ends g c =
    let held = (g.F.Files.seen c.args.files.now).held in
    let slots = g.R.Handlers.slots c.args.rack.now in
    let kinds = kinds_of slots in
    let w = outside (g.N.Net.seen c.args.net.now) slots in
    let before = around (g.F.Files.seen c.args.files.now) w in
    let now = around (g.F.Files.seen c.table_plan.new.files) w in
    let named = subst (λ (name : List ℕ). EndsBy (Does held kinds (Table name)) before now c.table_plan.result) c.as_str-in-Table.ensures (c.table_plan.ensures w) in
    subst (λ (command : Command). EndsBy (Does held kinds command) before now c.table_plan.result) (sym c.in-Table.is) named

pub returns-in_err-inputs-in-Replay-clause-ends : goal.returns-in_err-inputs-in-Replay-clause-ends
returns-in_err-inputs-in-Replay-clause-ends g c =
    let held = (g.F.Files.seen c.args.files.now).held in
    let slots = g.R.Handlers.slots c.args.rack.now in
    let kinds = kinds_of slots in
    let w = outside (g.N.Net.seen c.args.net.now) slots in
    let a = around (g.F.Files.seen c.args.files.now) w in
    let b = around (g.F.Files.seen c.read_inputs.new.files) w in
    let plan = c.in-Replay.plan in
    let events = c.in-Replay.events in
    let e = c.in_err-inputs-in-Replay.field-0.0 in
    let error = err_from_is_err_and c.from_residual.result c.from_residual.ensures.1 in
    rw (error.1, error.2) (subst (λ (command : Command). EndsBy (Does held kinds command) a b (Err e)) (sym c.in-Replay.is)
    (subst (λ (name : List ℕ). EndsBy (Replays held kinds name plan events) a b (Err e)) c.as_str.ensures
    (error_ends (ReadsInputs held plan c.as_str.result.now) (RunsOn (plan_name plan) kinds events) a b e (c.in_err-inputs-in-Replay.ensures.stage w))))

pub returns-in_ok-inputs-in-Replay-clause-ends : goal.returns-in_ok-inputs-in-Replay-clause-ends
returns-in_ok-inputs-in-Replay-clause-ends g c =
    let held = (g.F.Files.seen c.args.files.now).held in
    let slots = g.R.Handlers.slots c.args.rack.now in
    let kinds = kinds_of slots in
    let now = g.F.Files.seen c.read_inputs.new.files in
    let w = outside (g.N.Net.seen c.args.net.now) slots in
    let a = around (g.F.Files.seen c.args.files.now) w in
    let b = around now w in
    let d = around now (outside (g.N.Net.seen c.args.net.now) (g.R.Handlers.slots c.run_inputs.new.rack)) in
    let plan = c.in-Replay.plan in
    let events = c.in-Replay.events in
    let read = c.in_ok-inputs-in-Replay.inputs in
    let result = c.run_inputs.result in
    let ran = subst (λ (n : ℕ). EndsBy (RunsOn (plan_name plan) kinds n read) b d result) c.from.ensures
    (subst (λ (name : List ℕ). EndsBy (RunsOn name kinds c.from.result read) b d result) c.plan_name.ensures (c.run_inputs.ensures now (g.N.Net.seen c.args.net.now))) in
    subst (λ (command : Command). EndsBy (Does held kinds command) a d result) (sym c.in-Replay.is)
    (subst (λ (name : List ℕ). EndsBy (Replays held kinds name plan events) a d result) c.as_str.ensures
    (then_ends (ReadsInputs held plan c.as_str.result.now) (RunsOn (plan_name plan) kinds events) a b d read result (c.in_ok-inputs-in-Replay.ensures.stage w) ran))

pub returns-in-Serve-clause-ends : goal.returns-in-Serve-clause-ends
returns-in-Serve-clause-ends g c =
    let held = (g.F.Files.seen c.args.files.now).held in
    let slots = g.R.Handlers.slots c.args.rack.now in
    let kinds = kinds_of slots in
    let a = around (g.F.Files.seen c.args.files.now) (outside (g.N.Net.seen c.args.net.now) slots) in
    let b = around (g.F.Files.seen c.serve_plan.new.files)
    (outside (g.N.Net.seen c.serve_plan.new.net) (g.R.Handlers.slots c.serve_plan.new.rack)) in
    subst (λ (command : Command). EndsBy (Does held kinds command) a b c.serve_plan.result) (sym c.in-Serve.is)
    (subst (λ (name : List ℕ). EndsBy (Does held kinds (Serve name c.in-Serve.budget c.in-Serve.idle)) a b c.serve_plan.result) c.as_str-in-Serve.ensures c.serve_plan.ensures)

pub returns-in-Storm-clause-ends : goal.returns-in-Storm-clause-ends
returns-in-Storm-clause-ends g c =
    let files = g.F.Files.seen c.args.files.now in
    let net = g.N.Net.seen c.args.net.now in
    let slots = g.R.Handlers.slots c.args.rack.now in
    let a = around files (outside net slots) in
    let b = around files (outside net (g.R.Handlers.slots c.storm.new.rack)) in
    subst (λ (command : Command). EndsBy (Does files.held (kinds_of slots) command) a b c.storm.result) (sym c.in-Storm.is) (c.storm.ensures files net)
