use Rattle.std.specs.Prelude.{Err}
use Rattle.thing_handler.specs.declared.handler.CallKind.TheVariants as call
use Rattle.thing_state.specs.Calls.{ComesAs}
use Rattle.thing_core.specs.Performing.{IsValueOf}
use Rattle.thing_state.proofs.CallLaws.{calls_for, makes_call}
use Rattle.thing_core.proofs.ReadLaws.{unanswered_value}
use Rattle.thing_core.proofs.reading.read_value.Goals as goal

pub returns-in-Err : goal.returns-in-Err
returns-in-Err g c =
    calls_for (λ called. IsValueOf called (Err c.in-Err.outcome)) c.args.spot.now.slot call.Read c.in-Err.ensures.called c.args.machine.now c.call.new.machine
    (g.R.Handlers.slots c.args.rack.now) (g.R.Handlers.slots c.call.new.rack) (unanswered_value c.in-Err.ensures.called c.in-Err.outcome c.in-Err.ensures.comes) c.in-Err.ensures.versions
    (makes_call (λ called. ComesAs called (Err c.in-Err.outcome)) c.slot.result c.args.spot.now.slot call.Read c.args.machine.now c.call.new.machine (g.R.Handlers.slots c.args.rack.now) (g.R.Handlers.slots c.call.new.rack) c.slot.ensures c.in-Err.ensures)
