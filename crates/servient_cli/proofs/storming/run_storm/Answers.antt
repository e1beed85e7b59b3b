use Rattle.std.proofs.Common.{[], ℕ, ◌+◌, ap, refl}
use Rattle.std.proofs.lemmas.Result.{err_from_is_err_and}
use Rattle.servient_trace.specs.Trace.{outside}
use Rattle.servient_core.specs.Machine.{start}
use Rattle.command_stages.specs.Stages.{around}
use Rattle.servient_cli.specs.declared.storming.Load.{Load}
use Rattle.servient_cli.specs.Storming.{RunsStorm, storm_memory, storm_run}
use Rattle.command_stages.proofs.StageLaws.{ends_memory}
use Rattle.servient_cli.proofs.RunLaws.{run_none}
use Rattle.servient_cli.proofs.StormStages.{has_storm}
use Rattle.servient_cli.proofs.storming.run_storm.Goals as goal

pub returns-in_err-events : goal.returns-in_err-events
returns-in_err-events g c = λ files net exchanges epoch stands.
    let a = around files (outside net (g.R.Handlers.slots c.args.rack.now)) in
    let site = c.args.servient.now.exposed.site in
    let s = start site exchanges epoch in
    let error = err_from_is_err_and c.from_residual.result c.from_residual.ensures.1 in
    rw (error.1, error.2) (ends_memory (RunsStorm c.args.seed c.args.count exchanges epoch site) a (storm_memory [] s 0 (run_none site s (storm_run c.args.seed c.args.count)) (refl, refl)))

pub returns-in_err-net : goal.returns-in_err-net
returns-in_err-net g c = λ files net exchanges epoch stands.
    let a = around files (outside net (g.R.Handlers.slots c.args.rack.now)) in
    let site = c.args.servient.now.exposed.site in
    let s = start site exchanges epoch in
    let error = err_from_is_err_and c.from_residual-in_err-net.result c.from_residual-in_err-net.ensures.1 in
    rw (error.1, error.2) (ends_memory (RunsStorm c.args.seed c.args.count exchanges epoch site) a (storm_memory [] s 0 (run_none site s (storm_run c.args.seed c.args.count)) (refl, refl)))

abbrev load_of : ℕ → ℕ → Load
load_of events datagrams = record { events = events; datagrams = datagrams }

pub serve_storm-requires-clause-storm : goal.serve_storm-requires-clause-storm
serve_storm-requires-clause-storm g c = (
  c.args.seed,
  c.args.count,
  has_storm c.args.seed c.args.count (load_of (c.from.result + 1) c.datagram_count.result) c.in_ok-net.net c.in_ok-events.events c.in_ok-events.ensures (c.in_ok-net.ensures.left c.new.ensures) c.in_ok-net.ensures.history
      (ap (λ (n : ℕ). n + 1) c.from.ensures) c.datagram_count.ensures,
)

pub returns : goal.returns
returns g c = λ files net exchanges epoch stands.
    c.serve_storm.ensures files net exchanges epoch c.args.seed c.args.count
    (has_storm c.args.seed c.args.count (load_of (c.from.result + 1) c.datagram_count.result) c.in_ok-net.net c.in_ok-events.events c.in_ok-events.ensures (c.in_ok-net.ensures.left c.new.ensures) c.in_ok-net.ensures.history
    (ap (λ (n : ℕ). n + 1) c.from.ensures) c.datagram_count.ensures) stands
