use Rattle.std.proofs.Common.{◌≡◌, ◌+◌, ◌-◌, ℕ, refl, sym, ap, subst, ◌∙◌, arith}
use Rattle.std.specs.Prelude.{Ok, Err}
use Rattle.std.specs.VecDeque.{deque_capacity, deque_len}
use Rattle.std.proofs.lemmas.Result.{err_from_is_err_and}
use Rattle.thing_ops.specs.declared.outcome.Outcome.TheVariants as outcome
use Rattle.thing_handler.specs.Handler.{CallsHandler}
use Rattle.thing_state.specs.State.{most_turns}
use Rattle.thing_state.specs.Course.{Course}
use Rattle.thing_state.specs.Calls.{no_number, no_memory, gives, ComesAs}
use Rattle.thing_state.specs.declared.machine.Machine.TheInside.{Inside}
use Rattle.thing_state.proofs.CallLaws.{call_full, call_missed, call_answered, calls_for}
use Rattle.thing_state.proofs.calling.call.Goals as goal

-- the view of a machine with this number of turns in the place of its own
abbrev seen : Inside → ℕ → Course
seen m turns = record {
  state = record { versions = m.versions.items; invocations = m.invocations.items; next_invocation = m.next_invocation; last = m.last.items; turns = turns; left_out = m.left_out };
  pending = m.pending.items;
  room = deque_capacity m.pending - deque_len m.pending;
}

pub returns-then-number-most_turns : goal.returns-then-number-most_turns
returns-then-number-most_turns g c =
    calls_for (λ called. ComesAs called (Err outcome.CallsUsed)) c.args.slot c.args.what.now no_number c.args.machine.now c.args.machine.now (g.R.Handlers.slots c.args.rack.now) (g.R.Handlers.slots c.args.rack.now) refl tt
    (call_full c.args.machine.now (g.R.Handlers.slots c.args.rack.now) c.args.slot c.args.what.now (sym (ap (λ (k : Course). k.state.turns) c.machine.view_is) ∙ c.if-number-most_turns.true ∙ c.most_turns.ensures))

pub invariant_of-machine : goal.invariant_of-machine
invariant_of-machine g c = record {
  turns = omega (arith, c.machine.invariant.turns, c.if-number-most_turns.false, c.most_turns.ensures, ap (λ (k : Course). most_turns k.state.left_out) c.machine.view_is);
  ids = omega (arith, c.machine.invariant.ids);
  versions = λ slot. omega (arith, c.machine.invariant.versions slot);
  counted = c.machine.invariant.counted;
  rooms = c.machine.invariant.rooms;
  invocation_places = c.machine.invariant.invocation_places;
  spare_places = c.machine.invariant.spare_places;
  pending_places = c.machine.invariant.pending_places;
}

pub returns : goal.returns
returns g c =
    let new : Course = seen c.machine.inside (c.machine.inside.turns + 1) in
    let counted : new ≡ record c.args.machine.now { state = record c.args.machine.now.state { turns = c.args.machine.now.state.turns + 1 } } =
    subst (λ (k : Course). seen c.machine.inside (c.machine.inside.turns + 1) ≡ record k { state = record k.state { turns = k.state.turns + 1 } }) c.machine.view_is refl in
    calls_for (λ called. ComesAs called (Ok c.in_ok-answer.answer)) c.args.slot c.args.what.now (gives c.in_ok-answer.answer) c.args.machine.now new (g.R.Handlers.slots c.args.rack.now) (g.R.Handlers.slots c.call.new.self) refl
    (λ slot. omega (arith, c.machine.invariant.versions slot))
    (call_answered c.args.machine.now new (g.R.Handlers.slots c.args.rack.now) (g.R.Handlers.slots c.call.new.self) c.args.slot c.args.what.now c.in_ok-answer.answer
    (omega (
      arith,
      ap (λ (k : Course). k.state.turns) c.machine.view_is,
      ap (λ (k : Course). most_turns k.state.left_out) c.machine.view_is,
      c.machine.invariant.turns,
      c.if-number-most_turns.false,
      c.most_turns.ensures,
    ))
    (subst (λ (n : ℕ). CallsHandler (g.R.Handlers.slots c.args.rack.now) (g.R.Handlers.slots c.call.new.self) c.args.slot n c.args.what.now (Ok c.in_ok-answer.answer)) (ap (λ (k : Course). k.state.turns) c.machine.view_is) c.in_ok-answer.ensures)
    counted)

pub returns-in_err-answer : goal.returns-in_err-answer
returns-in_err-answer g c =
    let p = err_from_is_err_and c.from_residual.result c.from_residual.ensures.1 in
    rw (p.1, p.2)
    (calls_for (λ called. ComesAs called (Err outcome.Memory)) c.args.slot c.args.what.now no_memory c.args.machine.now c.args.machine.now (g.R.Handlers.slots c.args.rack.now) (g.R.Handlers.slots c.call.new.self) refl tt
    (call_missed c.args.machine.now (g.R.Handlers.slots c.args.rack.now) (g.R.Handlers.slots c.call.new.self) c.args.slot c.args.what.now c.in_err-answer.field-0.0
    (omega (
      arith,
      ap (λ (k : Course). k.state.turns) c.machine.view_is,
      ap (λ (k : Course). most_turns k.state.left_out) c.machine.view_is,
      c.machine.invariant.turns,
      c.if-number-most_turns.false,
      c.most_turns.ensures,
    ))
    (subst (λ (n : ℕ). CallsHandler (g.R.Handlers.slots c.args.rack.now) (g.R.Handlers.slots c.call.new.self) c.args.slot n c.args.what.now (Err c.in_err-answer.field-0.0)) (ap (λ (k : Course). k.state.turns) c.machine.view_is) c.in_err-answer.ensures)))
