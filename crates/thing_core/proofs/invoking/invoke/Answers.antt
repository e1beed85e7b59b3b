use Rattle.std.proofs.Common.{◌∙◌, ℕ, refl, sym, subst}
use Rattle.std.specs.Prelude.{Err}
use Rattle.thing_ops.specs.declared.outcome.Outcome.TheVariants as outcome
use Rattle.thing_handler.specs.declared.handler.CallKind.TheVariants as call
use Rattle.thing_state.specs.Calls.{no_number, gives, ComesAs, MakesCall}
use Rattle.thing_state.proofs.CallLaws.{call_full, makes_answered, makes_call}
use Rattle.thing_core.proofs.InvokeLaws.{invoke_done, invoked_after, unanswered_invoke}
use Rattle.thing_core.proofs.invoking.invoke.Goals as goal

pub returns-then-turns-most_turns : goal.returns-then-turns-most_turns
returns-then-turns-most_turns g c = λ path place.
    invoke_done c.args.spot path c.args.inputs.items c.handed_in-input.result no_number outcome.CallsUsed c.args.machine.now c.args.machine.now c.args.machine.now
    (g.R.Handlers.slots c.args.rack.now) (g.R.Handlers.slots c.args.rack.now) c.handed_in-input.ensures
    (call_full c.args.machine.now (g.R.Handlers.slots c.args.rack.now) c.args.spot.slot (call.Invoke c.args.machine.now.state.next_invocation c.handed_in-input.result) (sym c.turns.ensures.turns ∙ c.if-turns-most_turns.true ∙ c.most_turns.ensures))
    (refl, record { next = refl; saw = refl }) refl

pub returns-in-Err : goal.returns-in-Err
returns-in-Err g c = λ path place.
    let k = c.in-Err.ensures in
    invoke_done c.args.spot path c.args.inputs.items c.handed_in-input.result k.called c.in-Err.outcome c.args.machine.now c.call.new.machine c.call.new.machine
    (g.R.Handlers.slots c.args.rack.now) (g.R.Handlers.slots c.call.new.rack) c.handed_in-input.ensures
    (subst (λ (n : ℕ). MakesCall c.args.spot.slot (call.Invoke n c.handed_in-input.result) k.called c.args.machine.now c.call.new.machine (g.R.Handlers.slots c.args.rack.now) (g.R.Handlers.slots c.call.new.rack))
    c.next_invocation-id.ensures.id
    (makes_call (λ called. ComesAs called (Err c.in-Err.outcome)) c.slot.result c.args.spot.slot (call.Invoke c.next_invocation-id.result c.handed_in-input.result) c.args.machine.now c.call.new.machine (g.R.Handlers.slots c.args.rack.now) (g.R.Handlers.slots c.call.new.rack) c.slot.ensures k))
    (unanswered_invoke c.args.spot path c.args.machine.now.state.next_invocation c.call.new.machine.state k.called c.in-Err.outcome k.comes) refl

pub returns-in-Ok : goal.returns-in-Ok
returns-in-Ok g c = λ path place.
    let k : MakesCall c.args.spot.slot (call.Invoke c.args.machine.now.state.next_invocation c.handed_in-input.result) (gives c.in-Ok.answer) c.args.machine.now c.call.new.machine (g.R.Handlers.slots c.args.rack.now) (g.R.Handlers.slots c.call.new.rack) =
    subst (λ (n : ℕ). MakesCall c.args.spot.slot (call.Invoke n c.handed_in-input.result) (gives c.in-Ok.answer) c.args.machine.now c.call.new.machine (g.R.Handlers.slots c.args.rack.now) (g.R.Handlers.slots c.call.new.rack))
    c.next_invocation-id.ensures.id
    (makes_answered c.slot.result c.args.spot.slot (call.Invoke c.next_invocation-id.result c.handed_in-input.result) c.in-Ok.answer c.args.machine.now c.call.new.machine (g.R.Handlers.slots c.args.rack.now) (g.R.Handlers.slots c.call.new.rack) c.slot.ensures c.in-Ok.ensures) in
    invoked_after c.args.spot path c.args.prepared.place c.args.inputs.items c.handed_in-input.result c.in-Ok.answer c.record_answer.result c.args.machine.now c.call.new.machine c.record_answer.new.machine
    (g.R.Handlers.slots c.args.rack.now) (g.R.Handlers.slots c.call.new.rack) c.handed_in-input.ensures k place c.record_answer.ensures
