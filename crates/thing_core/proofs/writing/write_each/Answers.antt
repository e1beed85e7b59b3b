use Rattle.std.proofs.Common.{◌≡◌, ℕ, List, [], ◌∷◌, length, refl, sym, ap, subst, arith}
use Rattle.std.specs.Vec.Iter.{into_iter_items}
use Rattle.thing_site.specs.Refusals.{Input}
use Rattle.thing_ops.specs.declared.outcome.Outcome.TheVariants as outcome
use Rattle.thing_core.specs.Thing.{WritesEach}
use Rattle.thing_core.specs.Performing.{InputsFit}
use Rattle.thing_core.proofs.MoveLaws.{memory_out}
use Rattle.thing_core.proofs.WriteLoop.{WrittenSoFar, none_written, one_written, one_stops, all_written, written_after}
use Rattle.thing_core.proofs.writing.write_each.Goals as goal

none_left : (is : List Input) → length is ≡ 0 → is ≡ []
none_left [] e = refl
none_left (i ∷ is) e = absurd (omega (arith, e))

pub loop-input-init : goal.loop-input-init
loop-input-init g c =
    let gives = c.into_iter-input-iterator.ensures.into_iter_gives in (
      subst (λ (is : List Input). WrittenSoFar c.args.inputs.items is c.reserve.new.self c.reserve.new.self (g.R.Handlers.slots c.args.rack.now) (g.R.Handlers.slots c.args.rack.now))
          (sym gives.0) (none_written c.args.inputs.items c.reserve.new.self (g.R.Handlers.slots c.args.rack.now)),
      subst (λ (is : List Input). InputsFit (length (g.R.Handlers.slots c.args.rack.now)) is) (sym gives.0) c.requires,
      omega (arith, ap length gives.0, c.in-Ok.ensures.room, c.len.ensures, c.args.inputs.ok.0),
      omega (arith, gives.1, ap length gives.0, c.args.inputs.ok.0),
    )

pub write_one-requires-clause-slot : goal.write_one-requires-clause-slot
write_one-requires-clause-slot g c =
    (subst (λ (is : List Input). InputsFit (length (g.R.Handlers.slots c.loop-input.rack)) is) c.in-Some.ensures.steps.0 c.loop-input.invariant.1).0.0

pub write_one-requires-clause-text : goal.write_one-requires-clause-text
write_one-requires-clause-text g c =
    (subst (λ (is : List Input). InputsFit (length (g.R.Handlers.slots c.loop-input.rack)) is) c.in-Some.ensures.steps.0 c.loop-input.invariant.1).0.1

pub write_one-requires-clause-room : goal.write_one-requires-clause-room
write_one-requires-clause-room g c = omega (arith, c.loop-input.invariant.2, ap length c.in-Some.ensures.steps.0)

pub loop-input-preserved : goal.loop-input-preserved
loop-input-preserved g c = (
  one_written c.args.inputs.items (into_iter_items c.next.new.self) c.in-Some.input c.reserve.new.self c.loop-input.machine c.write_one.new.machine
      (g.R.Handlers.slots c.args.rack.now) (g.R.Handlers.slots c.loop-input.rack) (g.R.Handlers.slots c.write_one.new.rack)
      (subst (λ (is : List Input). WrittenSoFar c.args.inputs.items is c.reserve.new.self c.loop-input.machine (g.R.Handlers.slots c.args.rack.now) (g.R.Handlers.slots c.loop-input.rack))
      c.in-Some.ensures.steps.0 c.loop-input.invariant.0)
      c.in-None-write_one.ensures.written c.write_one.ensures.slots,
  subst (λ (n : ℕ). InputsFit n (into_iter_items c.next.new.self)) (sym c.write_one.ensures.slots)
      (subst (λ (is : List Input). InputsFit (length (g.R.Handlers.slots c.loop-input.rack)) is) c.in-Some.ensures.steps.0 c.loop-input.invariant.1).1,
  omega (arith, c.loop-input.invariant.2, ap length c.in-Some.ensures.steps.0, c.write_one.ensures.room),
  omega (arith, c.loop-input.invariant.3, ap length c.in-Some.ensures.steps.0, c.in-Some.ensures.steps.1),
)

pub returns-in-Some-write_one : goal.returns-in-Some-write_one
returns-in-Some-write_one g c =
    written_after (WritesEach c.args.inputs.items []) c.in-Some-write_one.outcome c.args.machine.now c.reserve.new.self c.write_one.new.machine (g.R.Handlers.slots c.args.rack.now) (g.R.Handlers.slots c.write_one.new.rack) c.reserve.ensures.state c.reserve.ensures.pending
    (one_stops c.args.inputs.items (into_iter_items c.next.new.self) c.in-Some.input c.in-Some-write_one.outcome c.reserve.new.self c.loop-input.machine c.write_one.new.machine
    (g.R.Handlers.slots c.args.rack.now) (g.R.Handlers.slots c.loop-input.rack) (g.R.Handlers.slots c.write_one.new.rack)
    (subst (λ (is : List Input). WrittenSoFar c.args.inputs.items is c.reserve.new.self c.loop-input.machine (g.R.Handlers.slots c.args.rack.now) (g.R.Handlers.slots c.loop-input.rack))
    c.in-Some.ensures.steps.0 c.loop-input.invariant.0)
    c.in-Some-write_one.ensures.written)

pub returns : goal.returns
returns g c =
    let e : into_iter_items c.loop-input.input-iterator ≡ [] = none_left (into_iter_items c.loop-input.input-iterator) (omega (arith, c.loop-input.invariant.3, c.in-None.ensures.steps.0)) in
    written_after (WritesEach c.args.inputs.items []) outcome.Changed c.args.machine.now c.reserve.new.self c.loop-input.machine (g.R.Handlers.slots c.args.rack.now) (g.R.Handlers.slots c.loop-input.rack) c.reserve.ensures.state c.reserve.ensures.pending
    (all_written c.args.inputs.items c.reserve.new.self c.loop-input.machine (g.R.Handlers.slots c.args.rack.now) (g.R.Handlers.slots c.loop-input.rack)
    (subst (λ (is : List Input). WrittenSoFar c.args.inputs.items is c.reserve.new.self c.loop-input.machine (g.R.Handlers.slots c.args.rack.now) (g.R.Handlers.slots c.loop-input.rack))
    e c.loop-input.invariant.0))

pub returns-in-Err : goal.returns-in-Err
returns-in-Err g c =
    memory_out (WritesEach c.args.inputs.items []) c.args.machine.now c.reserve.new.self (g.R.Handlers.slots c.args.rack.now) c.reserve.ensures.state c.reserve.ensures.pending
