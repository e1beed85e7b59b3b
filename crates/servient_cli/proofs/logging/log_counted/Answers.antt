use Rattle.std.proofs.Common.{subst}
use Rattle.servient_core.specs.declared.sections.RunBounds.{RunBounds}
use Rattle.servient_trace.specs.Trace.{outside}
use Rattle.command_stages.specs.Stages.{around}
use Rattle.servient_cli.specs.LoggedServing.{status_at_log_end, line_at_log_end, ComesOutInTurn, ServesWithLog}
use Rattle.servient_cli.proofs.LoggedStages.{heading_ends, heading_same, logged_ends}
use Rattle.servient_cli.proofs.logging.log_counted.Goals as goal

pub returns-in-Failed : goal.returns-in-Failed
returns-in-Failed g c = λ files.
    let site = c.args.counted.now.servient.exposed.site in
    let plan = c.args.plan.now in
    heading_ends c.args.log.now.bounds plan site (around files (outside (g.N.Net.seen c.args.net.now) (g.R.Handlers.slots c.args.rack.now))) (g.O.Out.seen c.args.out.now) (g.O.Out.seen c.begin.new.out)
    _ c.begin.result c.begin.ensures.shows (heading_same plan site c.as_str-http.result.now c.as_str-coap.result.now c.args.counted.now.things c.as_str-http.ensures c.as_str-coap.ensures c.requires.count) c.in-Failed.is

pub returns : goal.returns
returns g c = λ files.
    let kept = c.args.counted.now.servient in
    let plan = c.args.plan.now in
    let before = outside (g.N.Net.seen c.args.net.now) (g.R.Handlers.slots c.args.rack.now) in
    let now = outside (g.N.Net.seen c.serve_logged.new.net) (g.R.Handlers.slots c.serve_logged.new.rack) in
    let out = g.O.Out.seen c.args.out.now in
    let out_now = g.O.Out.seen c.serve_logged.new.out in
    let result = c.serve_logged.result in
    subst (λ (b : RunBounds). ComesOutInTurn (ServesWithLog b plan kept.exposed.site) (around files before) (around files now) out out_now (status_at_log_end result) (line_at_log_end result)) c.begin.ensures.bounds
    (logged_ends c.begin.new.self.bounds plan kept c.serve_logged.new.servient files before now out (g.O.Out.seen c.begin.new.out) out_now _ c.begin.result result c.begin.ensures.shows
    (heading_same plan kept.exposed.site c.as_str-http.result.now c.as_str-coap.result.now c.args.counted.now.things c.as_str-http.ensures c.as_str-coap.ensures c.requires.count) c.in-Done.is c.requires.start c.serve_logged.ensures)
