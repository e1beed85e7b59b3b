use Rattle.std.proofs.Common.{ℕ, ◌-◌, [], refl, subst}
use Rattle.std.specs.Prelude.{◌^◌}
use Rattle.servient_core.specs.Sections.{ServesInSections}
use Rattle.servient_core.specs.declared.sections.SectionsEnd.TheVariants as ending
use Rattle.servient_trace.specs.Trace.{outside}
use Rattle.servient_core.specs.Machine.{start}
use Rattle.command_stages.specs.Lines.{network_line, spent_line}
use Rattle.servient_cli.specs.Listening.{Endures, has_endured}
use Rattle.command_stages.proofs.StageLaws.{sections_end}
use Rattle.servient_cli.proofs.listening.endure.Goals as goal

pub returns-in-Stopped : goal.returns-in-Stopped
returns-in-Stopped g c = λ files exchanges epoch stands.
    let site = c.args.servient.now.exposed.site in
    let w = outside (g.N.Net.seen c.args.net.now) (g.R.Handlers.slots c.args.rack.now) in
    let v = outside (g.N.Net.seen c.serve_in_sections.new.net) (g.R.Handlers.slots c.serve_in_sections.new.rack) in
    let made = c.in-Stopped.ensures.serves (start site exchanges epoch) stands in
    sections_end (Endures exchanges epoch site) files w v made.2.seen 0 [] _ made.2.shows c.new.ensures
    (has_endured ending.Stopped made.2.seen made.0
    (subst (λ (n : ℕ). ServesInSections site (record { events = 2 ^ 64 - 1; turns = n }) ending.Stopped (start site exchanges epoch) made.2.seen made.0) c.most_turns.ensures made.2.move) (refl, refl))

pub returns-in-Failed : goal.returns-in-Failed
returns-in-Failed g c = λ files exchanges epoch stands.
    let site = c.args.servient.now.exposed.site in
    let w = outside (g.N.Net.seen c.args.net.now) (g.R.Handlers.slots c.args.rack.now) in
    let v = outside (g.N.Net.seen c.serve_in_sections.new.net) (g.R.Handlers.slots c.serve_in_sections.new.rack) in
    let made = c.in-Failed.ensures.serves (start site exchanges epoch) stands in
    sections_end (Endures exchanges epoch site) files w v made.2.seen 6 network_line network_line made.2.shows refl
    (has_endured ending.Failed made.2.seen made.0
    (subst (λ (n : ℕ). ServesInSections site (record { events = 2 ^ 64 - 1; turns = n }) ending.Failed (start site exchanges epoch) made.2.seen made.0) c.most_turns.ensures made.2.move) (refl, refl))

pub returns-in-Spent : goal.returns-in-Spent
returns-in-Spent g c = λ files exchanges epoch stands.
    let site = c.args.servient.now.exposed.site in
    let w = outside (g.N.Net.seen c.args.net.now) (g.R.Handlers.slots c.args.rack.now) in
    let v = outside (g.N.Net.seen c.serve_in_sections.new.net) (g.R.Handlers.slots c.serve_in_sections.new.rack) in
    let made = c.in-Spent.ensures.serves (start site exchanges epoch) stands in
    sections_end (Endures exchanges epoch site) files w v made.2.seen 8 spent_line spent_line made.2.shows refl
    (has_endured ending.Spent made.2.seen made.0
    (subst (λ (n : ℕ). ServesInSections site (record { events = 2 ^ 64 - 1; turns = n }) ending.Spent (start site exchanges epoch) made.2.seen made.0) c.most_turns.ensures made.2.move) (refl, refl))
