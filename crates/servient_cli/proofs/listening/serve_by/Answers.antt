use Rattle.std.proofs.Common.{sym, subst}
use Rattle.command_words.specs.declared.command.Budget.{Budget}
use Rattle.servient_trace.specs.Trace.{outside}
use Rattle.command_stages.specs.Stages.{around}
use Rattle.command_stages.specs.Ending.{EndsBy}
use Rattle.servient_cli.specs.Listening.{ServesBy}
use Rattle.servient_cli.proofs.listening.serve_by.Goals as goal

pub returns-in-Events : goal.returns-in-Events
returns-in-Events g c = λ files exchanges epoch stands.
    let site = c.args.servient.now.exposed.site in
    let w = outside (g.N.Net.seen c.args.net.now) (g.R.Handlers.slots c.args.rack.now) in
    let v = outside (g.N.Net.seen c.serve_events.new.net) (g.R.Handlers.slots c.serve_events.new.rack) in
    subst (λ (b : Budget). EndsBy (ServesBy b exchanges epoch site) (around files w) (around files v) c.serve_events.result) (sym c.in-Events.is) (c.serve_events.ensures files exchanges epoch stands)

pub returns-in-Endless : goal.returns-in-Endless
returns-in-Endless g c = λ files exchanges epoch stands.
    let site = c.args.servient.now.exposed.site in
    let w = outside (g.N.Net.seen c.args.net.now) (g.R.Handlers.slots c.args.rack.now) in
    let v = outside (g.N.Net.seen c.endure.new.net) (g.R.Handlers.slots c.endure.new.rack) in
    subst (λ (b : Budget). EndsBy (ServesBy b exchanges epoch site) (around files w) (around files v) c.endure.result) (sym c.in-Endless.is) (c.endure.ensures files exchanges epoch stands)
