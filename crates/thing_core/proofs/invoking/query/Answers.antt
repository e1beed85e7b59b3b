use Rattle.std.proofs.Common.{ℕ, List, refl, subst}
use Rattle.std.specs.Prelude.{Ok, Err}
use Rattle.thing_handler.specs.declared.handler.CallKind.TheVariants as call
use Rattle.thing_state.specs.State.{Invocation, invocation_named}
use Rattle.thing_state.specs.Calls.{gives, ComesAs}
use Rattle.thing_core.specs.Thing.{OnInvocation, Queries}
use Rattle.thing_core.specs.Performing.{IsTold}
use Rattle.thing_state.proofs.CallLaws.{makes_answered, makes_call}
use Rattle.thing_core.proofs.MoveLaws.{memory_out, or_memory}
use Rattle.thing_core.proofs.InvokeLaws.{running_one, told_done, query_done, unanswered_query}
use Rattle.thing_core.proofs.invoking.query.Goals as goal

pub returns-in-Err : goal.returns-in-Err
returns-in-Err g c =
    memory_out (OnInvocation c.args.spot c.args.id (Queries c.args.spot c.args.id)) c.args.machine.now c.args.machine.now (g.R.Handlers.slots c.args.rack.now) refl refl

pub returns-in-Ok-told : goal.returns-in-Ok-told
returns-in-Ok-told g c =
    let told : IsTold (invocation_named c.args.spot.slot c.args.id c.args.machine.now.state.invocations) c.args.id (Ok c.in-Ok-told.outcome) =
    subst (λ (n : ℕ). IsTold (invocation_named n c.args.id c.args.machine.now.state.invocations) c.args.id (Ok c.in-Ok-told.outcome)) c.slot.ensures
    (subst (λ (is : List Invocation). IsTold (invocation_named c.slot.result c.args.id is) c.args.id (Ok c.in-Ok-told.outcome)) c.invocations.ensures.items c.in-Ok-told.ensures) in
    or_memory (OnInvocation c.args.spot c.args.id (Queries c.args.spot c.args.id)) c.in-Ok-told.outcome c.args.machine.now c.args.machine.now
    (g.R.Handlers.slots c.args.rack.now) (g.R.Handlers.slots c.args.rack.now)
    (told_done c.args.spot c.args.id told.0 told.1 c.in-Ok-told.outcome c.args.machine.now (g.R.Handlers.slots c.args.rack.now) told.2 told.3 told.4)

pub returns-in-Err-call : goal.returns-in-Err-call
returns-in-Err-call g c =
    let k = c.in-Err-call.ensures in
    let told : IsTold (invocation_named c.args.spot.slot c.args.id c.args.machine.now.state.invocations) c.args.id (Err c.in-Err-told.room) =
    subst (λ (n : ℕ). IsTold (invocation_named n c.args.id c.args.machine.now.state.invocations) c.args.id (Err c.in-Err-told.room)) c.slot.ensures
    (subst (λ (is : List Invocation). IsTold (invocation_named c.slot.result c.args.id is) c.args.id (Err c.in-Err-told.room)) c.invocations.ensures.items c.in-Err-told.ensures) in
    let found = running_one (invocation_named c.args.spot.slot c.args.id c.args.machine.now.state.invocations) c.requires.stands told.0 in
    or_memory (OnInvocation c.args.spot c.args.id (Queries c.args.spot c.args.id)) c.in-Err-call.outcome c.args.machine.now c.call.new.machine
    (g.R.Handlers.slots c.args.rack.now) (g.R.Handlers.slots c.call.new.rack)
    (query_done c.args.spot c.args.id found.0 k.called c.in-Err-call.outcome c.args.machine.now c.call.new.machine c.call.new.machine
    (g.R.Handlers.slots c.args.rack.now) (g.R.Handlers.slots c.call.new.rack) found.1 found.2
    (makes_call (λ called. ComesAs called (Err c.in-Err-call.outcome)) c.slot-2.result c.args.spot.slot (call.Query c.args.id) c.args.machine.now c.call.new.machine (g.R.Handlers.slots c.args.rack.now) (g.R.Handlers.slots c.call.new.rack) c.slot-2.ensures k)
    (unanswered_query c.args.spot c.args.id c.call.new.machine.state k.called c.in-Err-call.outcome k.comes) refl)

pub returns-in-Ok-call : goal.returns-in-Ok-call
returns-in-Ok-call g c =
    let told : IsTold (invocation_named c.args.spot.slot c.args.id c.args.machine.now.state.invocations) c.args.id (Err c.in-Err-told.room) =
    subst (λ (n : ℕ). IsTold (invocation_named n c.args.id c.args.machine.now.state.invocations) c.args.id (Err c.in-Err-told.room)) c.slot.ensures
    (subst (λ (is : List Invocation). IsTold (invocation_named c.slot.result c.args.id is) c.args.id (Err c.in-Err-told.room)) c.invocations.ensures.items c.in-Err-told.ensures) in
    let found = running_one (invocation_named c.args.spot.slot c.args.id c.args.machine.now.state.invocations) c.requires.stands told.0 in
    or_memory (OnInvocation c.args.spot c.args.id (Queries c.args.spot c.args.id)) c.queried.result c.args.machine.now c.queried.new.machine
    (g.R.Handlers.slots c.args.rack.now) (g.R.Handlers.slots c.call.new.rack)
    (query_done c.args.spot c.args.id found.0 (gives c.in-Ok-call.answer) c.queried.result c.args.machine.now c.call.new.machine c.queried.new.machine
    (g.R.Handlers.slots c.args.rack.now) (g.R.Handlers.slots c.call.new.rack) found.1 found.2
    (makes_answered c.slot-2.result c.args.spot.slot (call.Query c.args.id) c.in-Ok-call.answer c.args.machine.now c.call.new.machine (g.R.Handlers.slots c.args.rack.now) (g.R.Handlers.slots c.call.new.rack) c.slot-2.ensures c.in-Ok-call.ensures) c.queried.ensures.0 c.queried.ensures.1)
