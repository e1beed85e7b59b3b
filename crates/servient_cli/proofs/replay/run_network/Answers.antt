use Rattle.std.proofs.Common.{◌≡◌, [], List, ℕ, length, refl, sym, ap, subst}
use Rattle.std.proofs.lemmas.Result.{err_from_is_err_and}
use Rattle.thing_handler.specs.Turns.{turns_in}
use Rattle.servient_outside.specs.declared.net.EventWithBytes.{EventWithBytes}
use Rattle.servient_outside.specs.NetMemory.{net_seen}
use Rattle.servient_core.specs.declared.serving.Served.TheVariants as served
use Rattle.servient_trace.specs.Trace.{happened_in, calls_in, outside}
use Rattle.servient_core.specs.Machine.{start, Run}
use Rattle.servient_core.proofs.PartLaws.{stands_for_some}
use Rattle.servient_script.specs.Merging.{HaveKept, turns_after}
use Rattle.command_stages.specs.Lines.{memory_line, spent_line}
use Rattle.command_stages.specs.Stages.{around}
use Rattle.servient_cli.specs.Replaying.{RunsScript, is_whole, is_spent, run_memory, run_events, print_of_run}
use Rattle.command_stages.proofs.StageLaws.{ends_memory, calls_end, calls_end_twice}
use Rattle.servient_cli.proofs.RunLaws.{run_of, run_none, run_first, still_known, all_told, stopped_took, spent_took, never_failed}
use Rattle.servient_script.proofs.MergeLaws.{merged_since, have_kept}
use Rattle.servient_cli.proofs.replay.run_network.Goals as goal

pub returns-in_err-counts : goal.returns-in_err-counts
returns-in_err-counts g c = λ files seen exchanges epoch events script stands.
    let a = around files (outside seen (g.R.Handlers.slots c.args.rack.now)) in
    let site = c.args.servient.now.exposed.site in
    let s = start site exchanges epoch in
    let error = err_from_is_err_and c.from_residual.result c.from_residual.ensures.1 in
    rw (error.1, error.2) (ends_memory (RunsScript c.args.budget events exchanges epoch site) a (run_memory [] s 0 (run_none site s (run_events events)) (refl, refl)))

pub print_since-requires : goal.print_since-requires
print_since-requires g c =
    let before = g.R.Handlers.slots c.args.rack.now in
    let after = g.R.Handlers.slots c.serve-served.new.rack in
    let some = stands_for_some c.args.servient.now in
    let made = c.serve-served.ensures.serves some.0 some.1 in
    subst (λ (ns : List ℕ). HaveKept ns after) (sym c.as_slice.ensures.value) (have_kept (calls_in made.2.seen) before after c.in_ok-counts.counts.items c.in_ok-counts.ensures made.2.shows.rack)

pub returns-in_err-text : goal.returns-in_err-text
returns-in_err-text g c = λ files seen exchanges epoch events script stands.
    let before = g.R.Handlers.slots c.args.rack.now in
    let after = g.R.Handlers.slots c.serve-served.new.rack in
    let w = outside (net_seen c.args.net.now) before in
    let v = outside (net_seen c.serve-served.new.net) after in
    let site = c.args.servient.now.exposed.site in
    let s = start site exchanges epoch in
    let ran = run_of events c.args.budget c.serve-served.result site s c.args.servient.now c.serve-served.new.servient w v stands c.serve-served.ensures.serves script.ends script.left in
    let error = err_from_is_err_and c.from_residual-in_err-text.result c.from_residual-in_err-text.ensures.1 in
    rw (error.1, error.2) (calls_end (RunsScript c.args.budget events exchanges epoch site) files seen before after (calls_in ran.1) 9 memory_line memory_line ran.3.rack refl
    (run_memory ran.1 ran.0 (length ran.2.took) (run_first events c.args.budget c.serve-served.result site s ran.0 ran.1 ran.2) (refl, refl)))

pub returns-in-Stopped : goal.returns-in-Stopped
returns-in-Stopped g c = λ files seen exchanges epoch events script stands.
    let before = g.R.Handlers.slots c.args.rack.now in
    let after = g.R.Handlers.slots c.serve-served.new.rack in
    let w = outside (net_seen c.args.net.now) before in
    let v = outside (net_seen c.serve-served.new.net) after in
    let site = c.args.servient.now.exposed.site in
    let s = start site exchanges epoch in
    let ran = run_of events c.args.budget served.Stopped site s c.args.servient.now c.serve-served.new.servient w v stands c.in-Stopped.ensures.serves script.ends script.left in
    let known = still_known events c.args.budget served.Stopped site s ran.0 ran.1 _ _ script.left ran.3.net.left ran.2 in
    let told = all_told _ _ (happened_in ran.1) script.history ran.3.net.history in
    let kept = merged_since (calls_in ran.1) before after c.in_ok-counts.counts.items (turns_after c.as_slice.result.now after) c.in_ok-counts.ensures
    (ap (λ (ns : List ℕ). turns_after ns after) c.as_slice.ensures.value) ran.3.rack ran.2.numbered in
    let text : c.in_ok-text.text ≡ print_of_run ran.1 = c.in_ok-text.ensures (happened_in ran.1) (turns_in (calls_in ran.1)) known told kept in
    let took = stopped_took events c.args.budget site s ran.0 ran.1 script.ends ran.2 in
    calls_end (RunsScript c.args.budget events exchanges epoch site) files seen before after (calls_in ran.1) 0 (print_of_run ran.1) c.in_ok-text.text ran.3.rack text
    (is_whole ran.1 ran.0 took.1 (subst (λ (es : List EventWithBytes). Run site es s ran.1 ran.0) took.0 ran.2.run) (refl, refl))

pub returns-in_err-spent-in-Spent : goal.returns-in_err-spent-in-Spent
returns-in_err-spent-in-Spent g c = λ files seen exchanges epoch events script stands.
    let before = g.R.Handlers.slots c.args.rack.now in
    let after = g.R.Handlers.slots c.serve-served.new.rack in
    let w = outside (net_seen c.args.net.now) before in
    let v = outside (net_seen c.serve-served.new.net) after in
    let site = c.args.servient.now.exposed.site in
    let s = start site exchanges epoch in
    let ran = run_of events c.args.budget served.Spent site s c.args.servient.now c.serve-served.new.servient w v stands c.in-Spent.ensures.serves script.ends script.left in
    let error = err_from_is_err_and c.from_residual-in_err-spent-in-Spent.result c.from_residual-in_err-spent-in-Spent.ensures.1 in
    rw (error.1, error.2) (calls_end (RunsScript c.args.budget events exchanges epoch site) files seen before after (calls_in ran.1) 9 memory_line memory_line ran.3.rack refl
    (run_memory ran.1 ran.0 (length ran.2.took) (run_first events c.args.budget served.Spent site s ran.0 ran.1 ran.2) (refl, refl)))

pub returns-in-Spent : goal.returns-in-Spent
returns-in-Spent g c = λ files seen exchanges epoch events script stands.
    let before = g.R.Handlers.slots c.args.rack.now in
    let after = g.R.Handlers.slots c.serve-served.new.rack in
    let w = outside (net_seen c.args.net.now) before in
    let v = outside (net_seen c.serve-served.new.net) after in
    let site = c.args.servient.now.exposed.site in
    let s = start site exchanges epoch in
    let ran = run_of events c.args.budget served.Spent site s c.args.servient.now c.serve-served.new.servient w v stands c.in-Spent.ensures.serves script.ends script.left in
    let known = still_known events c.args.budget served.Spent site s ran.0 ran.1 _ _ script.left ran.3.net.left ran.2 in
    let told = all_told _ _ (happened_in ran.1) script.history ran.3.net.history in
    let kept = merged_since (calls_in ran.1) before after c.in_ok-counts.counts.items (turns_after c.as_slice.result.now after) c.in_ok-counts.ensures
    (ap (λ (ns : List ℕ). turns_after ns after) c.as_slice.ensures.value) ran.3.rack ran.2.numbered in
    let text : c.in_ok-text.text ≡ print_of_run ran.1 = c.in_ok-text.ensures (happened_in ran.1) (turns_in (calls_in ran.1)) known told kept in
    let took = spent_took events c.args.budget site s ran.0 ran.1 script.ends ran.2 in
    let ending = c.in_ok-spent-in-Spent.field-0 in
    rw c.in_ok-spent-in-Spent.ensures.0 (calls_end_twice (RunsScript c.args.budget events exchanges epoch site) files seen before after (calls_in ran.1) 8 (print_of_run ran.1) spent_line ending.text ran.3.rack
    (rw text at c.in_ok-spent-in-Spent.ensures.1)
    (is_spent ran.1 ran.0 took.1 (subst (λ (es : List EventWithBytes). Run site es s ran.1 ran.0) took.0 ran.2.run) (refl, refl)))

pub unreachable-requires : goal.unreachable-requires
unreachable-requires g c =
    let script = c.requires.script.1 in
    let some = stands_for_some c.args.servient.now in
    let made = c.in-Failed.ensures.serves some.0 some.1 in
    never_failed c.requires.script.0 c.args.budget c.args.servient.now.exposed.site some.0 made.0 made.2.seen _ _ script.ends script.left made.2.shows.net.left made.2.move
