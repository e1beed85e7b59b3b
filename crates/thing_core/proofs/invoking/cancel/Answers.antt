use Rattle.std.proofs.Common.{◌≡◌, ℕ, List, true, false, refl, subst}
use Rattle.std.specs.Prelude.{Err, IfSome}
use Rattle.thing_handler.specs.declared.handler.CallKind.TheVariants as call
use Rattle.thing_state.specs.State.{Invocation, invocation_named, is_running}
use Rattle.thing_state.specs.Calls.{gives, ComesAs}
use Rattle.thing_state.proofs.CallLaws.{makes_answered, makes_call}
use Rattle.thing_core.proofs.InvokeLaws.{found_running, removed_done, cancel_done, unanswered_cancel}
use Rattle.thing_core.proofs.invoking.cancel.Goals as goal

pub returns-then-not-is_running : goal.returns-then-not-is_running
returns-then-not-is_running g c =
    removed_done c.args.spot c.args.id c.args.machine.now c.remove.new.self (g.R.Handlers.slots c.args.rack.now) c.requires.stands
    (subst (λ (n : ℕ). IfSome (invocation_named n c.args.id c.args.machine.now.state.invocations) (λ i. false ≡ is_running i)) c.slot.ensures
    (subst (λ (is : List Invocation). IfSome (invocation_named c.slot.result c.args.id is) (λ i. false ≡ is_running i)) c.invocations.ensures.items c.if-not-is_running.ensures))
    c.remove.ensures

pub returns : goal.returns
returns g c =
    let k = c.in-Err.ensures in
    let found = found_running (invocation_named c.args.spot.slot c.args.id c.args.machine.now.state.invocations) c.requires.stands
    (subst (λ (n : ℕ). IfSome (invocation_named n c.args.id c.args.machine.now.state.invocations) (λ i. true ≡ is_running i)) c.slot.ensures
    (subst (λ (is : List Invocation). IfSome (invocation_named c.slot.result c.args.id is) (λ i. true ≡ is_running i)) c.invocations.ensures.items c.if-not-is_running.ensures)) in
    cancel_done c.args.spot c.args.id found.0 k.called c.in-Err.outcome c.args.machine.now c.call.new.machine c.call.new.machine
    (g.R.Handlers.slots c.args.rack.now) (g.R.Handlers.slots c.call.new.rack) found.1 found.2
    (makes_call (λ called. ComesAs called (Err c.in-Err.outcome)) c.slot-2.result c.args.spot.slot (call.Cancel c.args.id) c.args.machine.now c.call.new.machine (g.R.Handlers.slots c.args.rack.now) (g.R.Handlers.slots c.call.new.rack) c.slot-2.ensures k)
    (unanswered_cancel c.args.id c.call.new.machine.state k.called c.in-Err.outcome k.comes) refl

pub returns-in-Ok : goal.returns-in-Ok
returns-in-Ok g c =
    let found = found_running (invocation_named c.args.spot.slot c.args.id c.args.machine.now.state.invocations) c.requires.stands
    (subst (λ (n : ℕ). IfSome (invocation_named n c.args.id c.args.machine.now.state.invocations) (λ i. true ≡ is_running i)) c.slot.ensures
    (subst (λ (is : List Invocation). IfSome (invocation_named c.slot.result c.args.id is) (λ i. true ≡ is_running i)) c.invocations.ensures.items c.if-not-is_running.ensures)) in
    cancel_done c.args.spot c.args.id found.0 (gives c.in-Ok.answer) c.cancelled.result c.args.machine.now c.call.new.machine c.cancelled.new.machine
    (g.R.Handlers.slots c.args.rack.now) (g.R.Handlers.slots c.call.new.rack) found.1 found.2
    (makes_answered c.slot-2.result c.args.spot.slot (call.Cancel c.args.id) c.in-Ok.answer c.args.machine.now c.call.new.machine (g.R.Handlers.slots c.args.rack.now) (g.R.Handlers.slots c.call.new.rack) c.slot-2.ensures c.in-Ok.ensures) c.cancelled.ensures.0 c.cancelled.ensures.1
