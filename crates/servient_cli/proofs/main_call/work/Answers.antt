use Rattle.std.proofs.Common.{ℕ, List, subst, sym}
use Rattle.command_words.specs.declared.command.Command.{Command}
use Rattle.command_words.specs.declared.command.Command.TheVariants.{Discover, ServeLogged}
use Rattle.thing_site.specs.Exposing.{kinds_of}
use Rattle.servient_trace.specs.Trace.{outside}
use Rattle.command_stages.specs.Stages.{around}
use Rattle.servient_cli.specs.Command.{is_logging, Does, EndsWriting}
use Rattle.servient_cli.specs.Consuming.{EndsPrinting}
use Rattle.servient_cli.specs.LoggedServing.{EndsInTurn}
use Rattle.std.specs.Prelude.{Some}
use Rattle.servient_cli.proofs.main_call.work.Goals as goal

pub returns-in-ServeLogged-clause-ends : goal.returns-in-ServeLogged-clause-ends
returns-in-ServeLogged-clause-ends g c =
    let files = g.F.Files.seen c.args.files.now in
    let slots = g.R.Handlers.slots c.args.rack.now in
    let kinds = kinds_of slots in
    let before = around files (outside (g.N.Net.seen c.args.net.now) slots) in
    let now = around (g.F.Files.seen c.log_plan.new.files) (outside (g.N.Net.seen c.log_plan.new.net) (g.R.Handlers.slots c.log_plan.new.rack)) in
    let out = g.O.Out.seen c.args.out.now in
    let out_now = g.O.Out.seen c.log_plan.new.out in
    let ended = subst (λ (name : List ℕ). EndsInTurn (Does files.held kinds (ServeLogged name c.in-ServeLogged.budget c.in-ServeLogged.idle)) before now out out_now c.log_plan.result) c.as_str.ensures c.log_plan.ensures in
    subst (λ (command : Command). EndsWriting (is_logging (Some command)) (Does files.held kinds command) before now out out_now c.log_plan.result) (sym c.in-ServeLogged.is)
    (ended.0, λ logs. ended.1)

pub returns-in-Consume-clause-ends : goal.returns-in-Consume-clause-ends
returns-in-Consume-clause-ends g c =
    let held = (g.F.Files.seen c.args.files.now).held in
    let slots = g.R.Handlers.slots c.args.rack.now in
    let before = around (g.F.Files.seen c.args.files.now) (outside (g.N.Net.seen c.args.net.now) slots) in
    let now = around (g.F.Files.seen c.consume_thing.new.files) (outside (g.N.Net.seen c.consume_thing.new.net) slots) in
    subst (λ (command : Command). EndsWriting (is_logging (Some command)) (Does held (kinds_of slots) command) before now (g.O.Out.seen c.args.out.now) (g.O.Out.seen c.consume_thing.new.out) c.consume_thing.result) (sym c.in-Consume.is)
    (c.consume_thing.ensures slots, λ logs. absurd cc)

pub returns-in-Discover-clause-ends : goal.returns-in-Discover-clause-ends
returns-in-Discover-clause-ends g c =
    let files = g.F.Files.seen c.args.files.now in
    let slots = g.R.Handlers.slots c.args.rack.now in
    let kinds = kinds_of slots in
    let before = around files (outside (g.N.Net.seen c.args.net.now) slots) in
    let now = around files (outside (g.N.Net.seen c.discover_things.new.net) slots) in
    let out = g.O.Out.seen c.args.out.now in
    let out_now = g.O.Out.seen c.discover_things.new.out in
    let ended = subst (λ (host : List ℕ). EndsPrinting (Does files.held kinds (Discover host c.in-Discover.port)) before now out out_now c.discover_things.result) c.as_str-in-Discover.ensures (c.discover_things.ensures files slots) in
    subst (λ (command : Command). EndsWriting (is_logging (Some command)) (Does files.held kinds command) before now out out_now c.discover_things.result) (sym c.in-Discover.is)
    (ended, λ logs. absurd cc)
