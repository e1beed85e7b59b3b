use Rattle.std.proofs.Common.{◌≡◌, ◌-◌, ◌∙◌, List, length, take, refl, ap, subst, arith}
use Rattle.std.proofs.lemmas.Result.{err_from_is_err_and}
use Rattle.thing_handler.specs.Turns.{turns_in}
use Rattle.servient_outside.specs.declared.net.EventWithBytes.{EventWithBytes}
use Rattle.servient_outside.specs.NetMemory.{net_seen}
use Rattle.servient_core.specs.declared.serving.Served.TheVariants as served
use Rattle.servient_trace.specs.Trace.{happened_in, calls_in, outside}
use Rattle.servient_core.specs.Machine.{start, Run}
use Rattle.servient_core.proofs.PartLaws.{stands_for_some}
use Rattle.storm_events.specs.Storm.{events_of}
use Rattle.command_stages.specs.Lines.{memory_line}
use Rattle.servient_cli.specs.Counting.{counts_in, storm_line}
use Rattle.servient_cli.specs.Storming.{RunsStorm, is_counted, storm_memory}
use Rattle.command_stages.proofs.StageLaws.{calls_end}
use Rattle.servient_cli.proofs.RunLaws.{run_of, run_first, still_known, all_told, stopped_took, never_failed}
use Rattle.servient_cli.proofs.CountLaws.{turns_grew}
use Rattle.servient_cli.proofs.StormStages.{run_is, counts_are, never_over}
use Rattle.servient_cli.proofs.storming.serve_storm.Goals as goal

pub overflow_sub-after : goal.overflow_sub-after
overflow_sub-after g c =
    let some = stands_for_some c.args.servient.now in
    let made = c.serve-served.ensures.serves some.0 some.1 in
    omega (arith, c.turns_kept-before.ensures, c.turns_kept-after.ensures, turns_grew (g.R.Handlers.slots c.args.rack.now) (g.R.Handlers.slots c.serve-served.new.rack) (calls_in made.2.seen) made.2.shows.rack)

pub returns-in_err-ending : goal.returns-in_err-ending
returns-in_err-ending g c = λ files seen exchanges epoch seed count storm stands.
    let before = g.R.Handlers.slots c.args.rack.now in
    let after = g.R.Handlers.slots c.serve-served.new.rack in
    let w = outside (net_seen c.args.net.now) before in
    let v = outside (net_seen c.serve-served.new.net) after in
    let site = c.args.servient.now.exposed.site in
    let s = start site exchanges epoch in
    let events = events_of seed count in
    let ran = run_of events c.args.load.events c.serve-served.result site s c.args.servient.now c.serve-served.new.servient w v stands c.serve-served.ensures.serves storm.script.ends storm.script.left in
    let first = run_first events c.args.load.events c.serve-served.result site s ran.0 ran.1 ran.2 in
    let error = err_from_is_err_and c.from_residual.result c.from_residual.ensures.1 in
    rw (error.1, error.2) (calls_end (RunsStorm seed count exchanges epoch site) files seen before after (calls_in ran.1) 9 memory_line memory_line ran.3.rack refl
    (storm_memory ran.1 ran.0 (length ran.2.took) (subst (λ (es : List EventWithBytes). Run site (take (length ran.2.took) es) s ran.1 ran.0) (run_is seed count) first) (refl, refl)))

pub returns : goal.returns
returns g c = λ files seen exchanges epoch seed count storm stands.
    let before = g.R.Handlers.slots c.args.rack.now in
    let after = g.R.Handlers.slots c.serve-served.new.rack in
    let w = outside (net_seen c.args.net.now) before in
    let v = outside (net_seen c.serve-served.new.net) after in
    let site = c.args.servient.now.exposed.site in
    let s = start site exchanges epoch in
    let events = events_of seed count in
    let budget = c.args.load.events in
    let ran = run_of events budget served.Stopped site s c.args.servient.now c.serve-served.new.servient w v stands c.in-Stopped.ensures.serves storm.script.ends storm.script.left in
    let known = still_known events budget served.Stopped site s ran.0 ran.1 _ _ storm.script.left ran.3.net.left ran.2 in
    let told = all_told _ _ (happened_in ran.1) storm.script.history ran.3.net.history in
    let took = stopped_took events budget site s ran.0 ran.1 storm.script.ends ran.2 in
    let whole = took.0 ∙ run_is seed count in
    let turns = c.turns_kept-after.result - c.turns_kept-before.result in
    let made : turns ≡ length (turns_in (calls_in ran.1)) = omega (arith, c.turns_kept-before.ensures, c.turns_kept-after.ensures, turns_grew before after (calls_in ran.1) ran.3.rack) in
    let counts = counts_are seed count c.args.load.datagrams turns ran.1 (ran.2.hears ∙ whole) storm.datagrams made in
    let is = c.in_ok-ending.ensures (happened_in ran.1) known told in
    rw is.0 (calls_end (RunsStorm seed count exchanges epoch site) files seen before after (calls_in ran.1) 0 (storm_line (counts_in ran.1)) c.in_ok-ending.ending.text ran.3.rack (is.1 ∙ ap storm_line counts)
    (is_counted ran.1 ran.0 (subst (λ (es : List EventWithBytes). Run site es s ran.1 ran.0) whole ran.2.run) (refl, refl)))

pub unreachable-requires : goal.unreachable-requires
unreachable-requires g c =
    let storm = c.requires.storm.2 in
    let some = stands_for_some c.args.servient.now in
    let made = c.in-Spent.ensures.serves some.0 some.1 in
    never_over c.requires.storm.0 c.requires.storm.1 c.args.load.events c.args.servient.now.exposed.site some.0 made.0 made.2.seen _ _ storm.script.left made.2.shows.net.left storm.events made.2.move

pub unreachable-requires-in-Failed : goal.unreachable-requires-in-Failed
unreachable-requires-in-Failed g c =
    let script = c.requires.storm.2.script in
    let some = stands_for_some c.args.servient.now in
    let made = c.in-Failed.ensures.serves some.0 some.1 in
    never_failed (events_of c.requires.storm.0 c.requires.storm.1) c.args.load.events c.args.servient.now.exposed.site some.0 made.0 made.2.seen _ _ script.ends script.left made.2.shows.net.left made.2.move
