use Rattle.std.proofs.Common.{[], refl}
use Rattle.std.proofs.lemmas.Result.{err_from_is_err_and}
use Rattle.servient_trace.specs.Trace.{outside}
use Rattle.servient_core.specs.Machine.{start}
use Rattle.command_stages.specs.Stages.{around}
use Rattle.servient_cli.specs.Replaying.{RunsScript, run_memory, run_events}
use Rattle.command_stages.proofs.StageLaws.{ends_memory}
use Rattle.servient_cli.proofs.RunLaws.{run_none}
use Rattle.servient_cli.proofs.replay.run_script.Goals as goal

pub returns-in_err-net : goal.returns-in_err-net
returns-in_err-net g c = λ files net exchanges epoch stands.
    let a = around files (outside net (g.R.Handlers.slots c.args.rack.now)) in
    let site = c.args.servient.now.exposed.site in
    let s = start site exchanges epoch in
    let error = err_from_is_err_and c.from_residual.result c.from_residual.ensures.1 in
    rw (error.1, error.2) (ends_memory (RunsScript c.args.budget c.args.events exchanges epoch site) a (run_memory [] s 0 (run_none site s (run_events c.args.events)) (refl, refl)))

pub run_network-requires-clause-script : goal.run_network-requires-clause-script
run_network-requires-clause-script g c =
    (c.args.events, record { ends = c.requires.ends; left = c.in_ok-net.ensures.left c.new.ensures; history = c.in_ok-net.ensures.history })

pub returns : goal.returns
returns g c = λ files net exchanges epoch stands.
    c.run_network.ensures files net exchanges epoch c.args.events
    (record { ends = c.requires.ends; left = c.in_ok-net.ensures.left c.new.ensures; history = c.in_ok-net.ensures.history }) stands
