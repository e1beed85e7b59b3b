use Rattle.std.proofs.Common.{ap, sym, ◌∙◌}
use Rattle.thing_site.specs.Exposing.{kinds_of}
use Rattle.servient_cli.specs.Command.{calls_handlers, is_discovering}
use Rattle.servient_trace.specs.Trace.{outside}
use Rattle.command_stages.specs.Stages.{around}
use Rattle.command_stages.specs.Ending.{text_of}
use Rattle.servient_cli.proofs.CommandStages.{writing_uses_network, built_ends, command_ends, ends_well, other_discovers_not, other_is_not, refusal_ends}
use Rattle.servient_cli.proofs.UsageStages.{discovery_ends, output_failed, refusal_failed, usage_is_exact}
use Rattle.servient_cli.proofs.StormStages.{never_spent}
use Rattle.servient_cli.proofs.main_call.servient_main.Goals as goal

pub returns-then-writes_early-clause-ends : goal.returns-then-writes_early-clause-ends
returns-then-writes_early-clause-ends g c =
    let slots = g.R.Handlers.slots c.args.rack.now in
    let before = around (g.F.Files.seen c.args.files.now) (outside (g.N.Net.seen c.args.net.now) slots) in
    let now = around (g.F.Files.seen c.work_and_report.new.files) (outside (g.N.Net.seen c.work_and_report.new.net) (g.R.Handlers.slots c.work_and_report.new.rack)) in
    let out = g.O.Out.seen c.args.out.now in
    let out_now = g.O.Out.seen c.work_and_report.new.out in
    let result = c.work_and_report.result in
    let whole = command_ends c.args.words.now before now out out_now c.in-Ok.command result c.in-Ok.ensures c.work_and_report.ensures.ends in
    whole

pub returns-then-writes_early-clause-usage : goal.returns-then-writes_early-clause-usage
returns-then-writes_early-clause-usage g c =
    let slots = g.R.Handlers.slots c.args.rack.now in
    let before = around (g.F.Files.seen c.args.files.now) (outside (g.N.Net.seen c.args.net.now) slots) in
    let now = around (g.F.Files.seen c.work_and_report.new.files) (outside (g.N.Net.seen c.work_and_report.new.net) (g.R.Handlers.slots c.work_and_report.new.rack)) in
    let out = g.O.Out.seen c.args.out.now in
    let out_now = g.O.Out.seen c.work_and_report.new.out in
    let result = c.work_and_report.result in
    let whole = command_ends c.args.words.now before now out out_now c.in-Ok.command result c.in-Ok.ensures c.work_and_report.ensures.ends in
    usage_is_exact c.args.words.now before now out out_now result whole

pub returns-then-writes_early-clause-complete : goal.returns-then-writes_early-clause-complete
returns-then-writes_early-clause-complete g c = λ fine kept.
    let slots = g.R.Handlers.slots c.args.rack.now in
    let before = around (g.F.Files.seen c.args.files.now) (outside (g.N.Net.seen c.args.net.now) slots) in
    let now = around (g.F.Files.seen c.work_and_report.new.files) (outside (g.N.Net.seen c.work_and_report.new.net) (g.R.Handlers.slots c.work_and_report.new.rack)) in
    let out = g.O.Out.seen c.args.out.now in
    let out_now = g.O.Out.seen c.work_and_report.new.out in
    let result = c.work_and_report.result in
    let whole = command_ends c.args.words.now before now out out_now c.in-Ok.command result c.in-Ok.ensures c.work_and_report.ensures.ends in
    ends_well c.args.words.now before now out out_now result whole fine kept c.work_and_report.ensures.output

pub returns-then-writes_early-clause-storm : goal.returns-then-writes_early-clause-storm
returns-then-writes_early-clause-storm g c =
    let slots = g.R.Handlers.slots c.args.rack.now in
    let before = around (g.F.Files.seen c.args.files.now) (outside (g.N.Net.seen c.args.net.now) slots) in
    let now = around (g.F.Files.seen c.work_and_report.new.files) (outside (g.N.Net.seen c.work_and_report.new.net) (g.R.Handlers.slots c.work_and_report.new.rack)) in
    let out = g.O.Out.seen c.args.out.now in
    let out_now = g.O.Out.seen c.work_and_report.new.out in
    let result = c.work_and_report.result in
    let whole = command_ends c.args.words.now before now out out_now c.in-Ok.command result c.in-Ok.ensures c.work_and_report.ensures.ends in
    never_spent c.args.words.now before now out out_now result whole

pub returns-then-writes_early-clause-discovery : goal.returns-then-writes_early-clause-discovery
returns-then-writes_early-clause-discovery g c =
    let slots = g.R.Handlers.slots c.args.rack.now in
    let before = around (g.F.Files.seen c.args.files.now) (outside (g.N.Net.seen c.args.net.now) slots) in
    let now = around (g.F.Files.seen c.work_and_report.new.files) (outside (g.N.Net.seen c.work_and_report.new.net) (g.R.Handlers.slots c.work_and_report.new.rack)) in
    let out = g.O.Out.seen c.args.out.now in
    let out_now = g.O.Out.seen c.work_and_report.new.out in
    let result = c.work_and_report.result in
    let whole = command_ends c.args.words.now before now out out_now c.in-Ok.command result c.in-Ok.ensures c.work_and_report.ensures.ends in
    discovery_ends c.args.words.now before now out out_now result whole

pub returns-then-writes_early-clause-output : goal.returns-then-writes_early-clause-output
returns-then-writes_early-clause-output g c = c.work_and_report.ensures.output

pub returns-then-writes_early-clause-net : goal.returns-then-writes_early-clause-net
returns-then-writes_early-clause-net g c = λ none. absurd (writing_uses_network c.args.words.now c.in-Ok.command c.in-Ok.ensures (sym c.writes_early.ensures ∙ c.if-writes_early.true) none)

pub returns-then-writes_early-clause-rack : goal.returns-then-writes_early-clause-rack
returns-then-writes_early-clause-rack g c = λ none. c.work_and_report.ensures.rack (sym (ap calls_handlers c.in-Ok.ensures) ∙ none)

pub returns-then-writes_early-clause-files : goal.returns-then-writes_early-clause-files
returns-then-writes_early-clause-files g c = λ is. c.work_and_report.ensures.files (sym (ap is_discovering c.in-Ok.ensures) ∙ is)

pub returns-in-Ok-clause-ends : goal.returns-in-Ok-clause-ends
returns-in-Ok-clause-ends g c =
    let before = around (g.F.Files.seen c.args.files.now) (outside (g.N.Net.seen c.args.net.now) (g.R.Handlers.slots c.args.rack.now)) in
    let now = around (g.F.Files.seen c.run_command.new.files) (outside (g.N.Net.seen c.run_command.new.net) (g.R.Handlers.slots c.run_command.new.rack)) in
    let out = g.O.Out.seen c.args.out.now in
    let out_now = g.O.Out.seen c.report.new.out in
    let result = c.report.result in
    let whole = built_ends c.args.words.now before now out out_now c.in-Ok.command c.run_command.result result c.in-Ok.ensures (sym c.writes_early.ensures ∙ c.if-writes_early.false) c.run_command.ensures.ends c.report.ensures.reported c.report.ensures.no_failure in
    whole

pub returns-in-Ok-clause-complete : goal.returns-in-Ok-clause-complete
returns-in-Ok-clause-complete g c = λ fine kept.
    let before = around (g.F.Files.seen c.args.files.now) (outside (g.N.Net.seen c.args.net.now) (g.R.Handlers.slots c.args.rack.now)) in
    let now = around (g.F.Files.seen c.run_command.new.files) (outside (g.N.Net.seen c.run_command.new.net) (g.R.Handlers.slots c.run_command.new.rack)) in
    let out = g.O.Out.seen c.args.out.now in
    let out_now = g.O.Out.seen c.report.new.out in
    let result = c.report.result in
    let whole = built_ends c.args.words.now before now out out_now c.in-Ok.command c.run_command.result result c.in-Ok.ensures (sym c.writes_early.ensures ∙ c.if-writes_early.false) c.run_command.ensures.ends c.report.ensures.reported c.report.ensures.no_failure in
    ends_well c.args.words.now before now out out_now result whole fine kept
    (output_failed c.args.words.now before now out out_now result whole (other_is_not c.args.words.now c.in-Ok.command c.in-Ok.ensures (sym c.writes_early.ensures ∙ c.if-writes_early.false)))

pub returns-in-Ok-clause-output : goal.returns-in-Ok-clause-output
returns-in-Ok-clause-output g c =
    let before = around (g.F.Files.seen c.args.files.now) (outside (g.N.Net.seen c.args.net.now) (g.R.Handlers.slots c.args.rack.now)) in
    let now = around (g.F.Files.seen c.run_command.new.files) (outside (g.N.Net.seen c.run_command.new.net) (g.R.Handlers.slots c.run_command.new.rack)) in
    let out = g.O.Out.seen c.args.out.now in
    let out_now = g.O.Out.seen c.report.new.out in
    let result = c.report.result in
    let whole = built_ends c.args.words.now before now out out_now c.in-Ok.command c.run_command.result result c.in-Ok.ensures (sym c.writes_early.ensures ∙ c.if-writes_early.false) c.run_command.ensures.ends c.report.ensures.reported c.report.ensures.no_failure in
    output_failed c.args.words.now before now out out_now result whole (other_is_not c.args.words.now c.in-Ok.command c.in-Ok.ensures (sym c.writes_early.ensures ∙ c.if-writes_early.false))

pub returns-in-Ok-clause-usage : goal.returns-in-Ok-clause-usage
returns-in-Ok-clause-usage g c =
    let before = around (g.F.Files.seen c.args.files.now) (outside (g.N.Net.seen c.args.net.now) (g.R.Handlers.slots c.args.rack.now)) in
    let now = around (g.F.Files.seen c.run_command.new.files) (outside (g.N.Net.seen c.run_command.new.net) (g.R.Handlers.slots c.run_command.new.rack)) in
    let out = g.O.Out.seen c.args.out.now in
    let out_now = g.O.Out.seen c.report.new.out in
    let result = c.report.result in
    let whole = built_ends c.args.words.now before now out out_now c.in-Ok.command c.run_command.result result c.in-Ok.ensures (sym c.writes_early.ensures ∙ c.if-writes_early.false) c.run_command.ensures.ends c.report.ensures.reported c.report.ensures.no_failure in
    usage_is_exact c.args.words.now before now out out_now result whole

pub returns-in-Ok-clause-storm : goal.returns-in-Ok-clause-storm
returns-in-Ok-clause-storm g c =
    let before = around (g.F.Files.seen c.args.files.now) (outside (g.N.Net.seen c.args.net.now) (g.R.Handlers.slots c.args.rack.now)) in
    let now = around (g.F.Files.seen c.run_command.new.files) (outside (g.N.Net.seen c.run_command.new.net) (g.R.Handlers.slots c.run_command.new.rack)) in
    let out = g.O.Out.seen c.args.out.now in
    let out_now = g.O.Out.seen c.report.new.out in
    let result = c.report.result in
    let whole = built_ends c.args.words.now before now out out_now c.in-Ok.command c.run_command.result result c.in-Ok.ensures (sym c.writes_early.ensures ∙ c.if-writes_early.false) c.run_command.ensures.ends c.report.ensures.reported c.report.ensures.no_failure in
    never_spent c.args.words.now before now out out_now result whole

pub returns-in-Ok-clause-discovery : goal.returns-in-Ok-clause-discovery
returns-in-Ok-clause-discovery g c =
    let before = around (g.F.Files.seen c.args.files.now) (outside (g.N.Net.seen c.args.net.now) (g.R.Handlers.slots c.args.rack.now)) in
    let now = around (g.F.Files.seen c.run_command.new.files) (outside (g.N.Net.seen c.run_command.new.net) (g.R.Handlers.slots c.run_command.new.rack)) in
    let out = g.O.Out.seen c.args.out.now in
    let out_now = g.O.Out.seen c.report.new.out in
    let result = c.report.result in
    let whole = built_ends c.args.words.now before now out out_now c.in-Ok.command c.run_command.result result c.in-Ok.ensures (sym c.writes_early.ensures ∙ c.if-writes_early.false) c.run_command.ensures.ends c.report.ensures.reported c.report.ensures.no_failure in
    discovery_ends c.args.words.now before now out out_now result whole

pub returns-in-Ok-clause-files : goal.returns-in-Ok-clause-files
returns-in-Ok-clause-files g c = λ is. absurd (other_discovers_not c.args.words.now c.in-Ok.command c.in-Ok.ensures (sym c.writes_early.ensures ∙ c.if-writes_early.false) is)

pub returns-clause-ends : goal.returns-clause-ends
returns-clause-ends g c =
    let before = around (g.F.Files.seen c.args.files.now) (outside (g.N.Net.seen c.args.net.now) (g.R.Handlers.slots c.args.rack.now)) in
    let now = before in
    let out = g.O.Out.seen c.args.out.now in
    let out_now = g.O.Out.seen c.report-in-Err.new.out in
    let result = c.report-in-Err.result in
    let whole = refusal_ends c.args.words.now before out out_now c.in-Err.fault c.from.result result c.in-Err.ensures c.from.ensures c.report-in-Err.ensures.reported c.report-in-Err.ensures.no_failure in
    whole

pub returns-clause-complete : goal.returns-clause-complete
returns-clause-complete g c = λ fine kept.
    let before = around (g.F.Files.seen c.args.files.now) (outside (g.N.Net.seen c.args.net.now) (g.R.Handlers.slots c.args.rack.now)) in
    let now = before in
    let out = g.O.Out.seen c.args.out.now in
    let out_now = g.O.Out.seen c.report-in-Err.new.out in
    let result = c.report-in-Err.result in
    let whole = refusal_ends c.args.words.now before out out_now c.in-Err.fault c.from.result result c.in-Err.ensures c.from.ensures c.report-in-Err.ensures.reported c.report-in-Err.ensures.no_failure in
    ends_well c.args.words.now before now out out_now result whole fine kept
    (refusal_failed out out_now c.in-Err.fault c.from.result (text_of c.from.result) result c.from.ensures c.report-in-Err.ensures.reported)

pub returns-clause-output : goal.returns-clause-output
returns-clause-output g c =
    refusal_failed (g.O.Out.seen c.args.out.now) (g.O.Out.seen c.report-in-Err.new.out) c.in-Err.fault c.from.result (text_of c.from.result) c.report-in-Err.result c.from.ensures c.report-in-Err.ensures.reported

pub returns-clause-discovery : goal.returns-clause-discovery
returns-clause-discovery g c =
    let before = around (g.F.Files.seen c.args.files.now) (outside (g.N.Net.seen c.args.net.now) (g.R.Handlers.slots c.args.rack.now)) in
    let out = g.O.Out.seen c.args.out.now in
    let out_now = g.O.Out.seen c.report-in-Err.new.out in
    let result = c.report-in-Err.result in
    let whole = refusal_ends c.args.words.now before out out_now c.in-Err.fault c.from.result result c.in-Err.ensures c.from.ensures c.report-in-Err.ensures.reported c.report-in-Err.ensures.no_failure in
    discovery_ends c.args.words.now before before out out_now result whole
