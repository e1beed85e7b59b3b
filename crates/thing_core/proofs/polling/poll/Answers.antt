use Rattle.std.proofs.Common.{subst, ◌∙◌, ℕ, [], ◌∷◌, ◌++◌, refl, sym, ap}
use Rattle.std.specs.Prelude.{Err}
use Rattle.std.proofs.lemmas.List.{append-nil}
use Rattle.wot_json.specs.Meaning.{json_of}
use Rattle.thing_handler.specs.declared.handler.CallKind.TheVariants as call
use Rattle.thing_state.specs.State.{last_after}
use Rattle.thing_core.specs.Thing.{emission}
use Rattle.thing_state.specs.Calls.{gives, IsTaken, ComesAs}
use Rattle.wot_terms.specs.declared.affordance.Affordance.{Affordance}
use Rattle.thing_state.proofs.CallLaws.{makes_answered, makes_call}
use Rattle.thing_core.proofs.PollLaws.{one_polled, unanswered_poll, not_fired, fired_taken, fired_refused}
use Rattle.thing_core.proofs.polling.poll.Goals as goal

pub returns-in-Err-clause-polled : goal.returns-in-Err-clause-polled
returns-in-Err-clause-polled g c =
    let k = c.in-Err.ensures in
    one_polled c.args.spot k.called [] c.args.machine.now c.call.new.machine c.call.new.machine
    (g.R.Handlers.slots c.args.rack.now) (g.R.Handlers.slots c.call.new.rack)
    (makes_call (λ called. ComesAs called (Err c.in-Err.field-0)) c.slot.result c.args.spot.slot call.Poll c.args.machine.now c.call.new.machine (g.R.Handlers.slots c.args.rack.now) (g.R.Handlers.slots c.call.new.rack) c.slot.ensures k)
    (unanswered_poll c.args.spot k.called c.in-Err.field-0 k.comes) refl (sym (append-nil c.call.new.machine.pending))

pub returns-in-None-clause-polled : goal.returns-in-None-clause-polled
returns-in-None-clause-polled g c =
    one_polled c.args.spot (gives c.in-Ok.answer) [] c.args.machine.now c.call.new.machine c.call.new.machine
    (g.R.Handlers.slots c.args.rack.now) (g.R.Handlers.slots c.call.new.rack) (makes_answered c.slot.result c.args.spot.slot call.Poll c.in-Ok.answer c.args.machine.now c.call.new.machine (g.R.Handlers.slots c.args.rack.now) (g.R.Handlers.slots c.call.new.rack) c.slot.ensures c.in-Ok.ensures)
    (not_fired c.args.spot (gives c.in-Ok.answer) c.in-None.ensures) refl (sym (append-nil c.call.new.machine.pending))

pub returns-in-Some-taken_text-clause-polled : goal.returns-in-Some-taken_text-clause-polled
returns-in-Some-taken_text-clause-polled g c =
    one_polled c.args.spot (gives c.in-Ok.answer) (emission c.args.spot (json_of c.in-Some.value) ∷ []) c.args.machine.now c.call.new.machine c.emit.new.self
    (g.R.Handlers.slots c.args.rack.now) (g.R.Handlers.slots c.call.new.rack) (makes_answered c.slot.result c.args.spot.slot call.Poll c.in-Ok.answer c.args.machine.now c.call.new.machine (g.R.Handlers.slots c.args.rack.now) (g.R.Handlers.slots c.call.new.rack) c.slot.ensures c.in-Ok.ensures)
    (fired_taken c.args.spot (gives c.in-Ok.answer) c.in-Some.value c.in-Some.ensures (subst (λ (x : Affordance). IsTaken x.output (json_of c.in-Some.value)) c.affordance.ensures c.in-Some-taken_text.ensures.0))
    (c.emit.ensures.state
    ∙ (λ i. record c.call.new.machine.state { last = last_after (record { target = c.slot-in-Some-taken_text.ensures i; text = c.in-Some-taken_text.ensures.1 i } ∷ []) c.call.new.machine.state.last }))
    (c.emit.ensures.pending ∙ ap (λ (n : ℕ). c.call.new.machine.pending ++ n ∷ []) c.slot-in-Some-taken_text.ensures)

pub returns-clause-polled : goal.returns-clause-polled
returns-clause-polled g c =
    one_polled c.args.spot (gives c.in-Ok.answer) [] c.args.machine.now c.call.new.machine c.call.new.machine
    (g.R.Handlers.slots c.args.rack.now) (g.R.Handlers.slots c.call.new.rack) (makes_answered c.slot.result c.args.spot.slot call.Poll c.in-Ok.answer c.args.machine.now c.call.new.machine (g.R.Handlers.slots c.args.rack.now) (g.R.Handlers.slots c.call.new.rack) c.slot.ensures c.in-Ok.ensures)
    (fired_refused c.args.spot (gives c.in-Ok.answer) c.in-Some.value c.in-Some.ensures (subst (λ (x : Affordance). ¬ (IsTaken x.output (json_of c.in-Some.value))) c.affordance.ensures c.in-None-taken_text.ensures)) refl (sym (append-nil c.call.new.machine.pending))
