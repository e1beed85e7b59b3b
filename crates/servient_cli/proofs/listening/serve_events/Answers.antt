use Rattle.std.proofs.Common.{[], ℕ, refl, subst}
use Rattle.servient_core.specs.declared.serving.Served.TheVariants as served
use Rattle.servient_trace.specs.Trace.{outside}
use Rattle.servient_core.specs.Machine.{start}
use Rattle.servient_core.specs.Serving.{Serves}
use Rattle.command_stages.specs.Lines.{network_line, spent_line}
use Rattle.servient_cli.specs.Listening.{ServesEvents, has_served}
use Rattle.command_stages.proofs.StageLaws.{seen_end}
use Rattle.servient_cli.proofs.listening.serve_events.Goals as goal

pub returns-in-Stopped : goal.returns-in-Stopped
returns-in-Stopped g c = λ files exchanges epoch stands.
    let site = c.args.servient.now.exposed.site in
    let w = outside (g.N.Net.seen c.args.net.now) (g.R.Handlers.slots c.args.rack.now) in
    let v = outside (g.N.Net.seen c.serve.new.net) (g.R.Handlers.slots c.serve.new.rack) in
    let made = c.in-Stopped.ensures.serves (start site exchanges epoch) stands in
    seen_end (ServesEvents c.args.budget exchanges epoch site) files w v made.2.seen 0 [] _ made.2.shows c.new.ensures
    (has_served served.Stopped made.2.seen made.0 (subst (λ (n : ℕ). Serves site n served.Stopped (start site exchanges epoch) made.2.seen made.0) c.from.ensures made.2.move) (refl, refl))

pub returns-in-Failed : goal.returns-in-Failed
returns-in-Failed g c = λ files exchanges epoch stands.
    let site = c.args.servient.now.exposed.site in
    let w = outside (g.N.Net.seen c.args.net.now) (g.R.Handlers.slots c.args.rack.now) in
    let v = outside (g.N.Net.seen c.serve.new.net) (g.R.Handlers.slots c.serve.new.rack) in
    let made = c.in-Failed.ensures.serves (start site exchanges epoch) stands in
    seen_end (ServesEvents c.args.budget exchanges epoch site) files w v made.2.seen 6 network_line network_line made.2.shows refl
    (has_served served.Failed made.2.seen made.0 (subst (λ (n : ℕ). Serves site n served.Failed (start site exchanges epoch) made.2.seen made.0) c.from.ensures made.2.move) (refl, refl))

pub returns-in-Spent : goal.returns-in-Spent
returns-in-Spent g c = λ files exchanges epoch stands.
    let site = c.args.servient.now.exposed.site in
    let w = outside (g.N.Net.seen c.args.net.now) (g.R.Handlers.slots c.args.rack.now) in
    let v = outside (g.N.Net.seen c.serve.new.net) (g.R.Handlers.slots c.serve.new.rack) in
    let made = c.in-Spent.ensures.serves (start site exchanges epoch) stands in
    seen_end (ServesEvents c.args.budget exchanges epoch site) files w v made.2.seen 8 spent_line spent_line made.2.shows refl
    (has_served served.Spent made.2.seen made.0 (subst (λ (n : ℕ). Serves site n served.Spent (start site exchanges epoch) made.2.seen made.0) c.from.ensures made.2.move) (refl, refl))
