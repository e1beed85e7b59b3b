use Rattle.std.proofs.Common.{◌≡◌, ◌∙◌, ◌<◌, ◌+◌, ℕ, List, [], ◌∷◌, ◌++◌, drop, length, get_or, sym, ap, subst, arith}
use Rattle.std.proofs.lemmas.List.{at_drop_more, at_drop_all}
use Rattle.thing_site.specs.Site.{Placed}
use Rattle.thing_core.specs.Performing.{AllStand, room_of_all}
use Rattle.thing_core.proofs.ReadLoop.{ReadSoFar, none_read, one_read, one_fails, all_read, two_or_more}
use Rattle.thing_core.proofs.reading.read_fields.Goals as goal

pub push_reserved-requires : goal.push_reserved-requires
push_reserved-requires g c = omega (arith, c.requires.len, c.requires.room, two_or_more c.args.fields.now)

pub loop-field-init : goal.loop-field-init
loop-field-init g c = (
  none_read c.args.fields.now c.push_reserved.new.self.items c.args.machine.now (g.R.Handlers.slots c.args.rack.now)
      (c.push_reserved.ensures.items ∙ ap (λ (l : List ℕ). l ++ 123 ∷ []) c.requires.empty),
  c.requires.slots,
  omega (arith, c.requires.len, c.requires.room, c.push_reserved.ensures.len, c.push_reserved.ensures.capacity),
)

-- the fields that are left begin with this one
begins : (fields : List Placed) (i : ℕ) (f : Placed) → i < length fields → f ≡ get_or fields i f → drop i fields ≡ f ∷ drop (i + 1) fields
begins fields i f within at = at_drop_more (λ (l : List Placed). l) fields i f within ∙ ap (λ (x : Placed). x ∷ drop (i + 1) fields) (sym at)

pub read_one-requires-clause-slot : goal.read_one-requires-clause-slot
read_one-requires-clause-slot g c =
    (subst (λ (fs : List Placed). AllStand (length (g.R.Handlers.slots c.loop-field.rack)) fs)
    (begins c.args.fields.now c.loop-field.field-index c.field-item.result c.loop-field-test.true c.field-item.is) c.loop-field.invariant.1).0

pub read_one-requires-clause-room : goal.read_one-requires-clause-room
read_one-requires-clause-room g c =
    omega (
      arith,
      c.loop-field.invariant.2,
      ap room_of_all (begins c.args.fields.now c.loop-field.field-index c.field-item.result c.loop-field-test.true c.field-item.is),
      two_or_more (drop (c.loop-field.field-index + 1) c.args.fields.now),
    )

pub returns-in-Some : goal.returns-in-Some
returns-in-Some g c =
    one_fails c.args.fields.now (drop (c.loop-field.field-index + 1) c.args.fields.now) c.field-item.result c.in-Some.outcome
    c.loop-field.text.items c.read_one.new.text.items c.args.machine.now c.loop-field.machine c.read_one.new.machine
    (g.R.Handlers.slots c.args.rack.now) (g.R.Handlers.slots c.loop-field.rack) (g.R.Handlers.slots c.read_one.new.rack)
    (subst (λ (fs : List Placed). ReadSoFar c.args.fields.now fs c.loop-field.text.items c.args.machine.now c.loop-field.machine (g.R.Handlers.slots c.args.rack.now) (g.R.Handlers.slots c.loop-field.rack))
    (begins c.args.fields.now c.loop-field.field-index c.field-item.result c.loop-field-test.true c.field-item.is) c.loop-field.invariant.0)
    c.in-Some.ensures.read c.read_one.ensures.pending

pub loop-field-preserved : goal.loop-field-preserved
loop-field-preserved g c =
    let e : drop c.loop-field.field-index c.args.fields.now ≡ c.field-item.result ∷ drop (c.loop-field.field-index + 1) c.args.fields.now =
    begins c.args.fields.now c.loop-field.field-index c.field-item.result c.loop-field-test.true c.field-item.is in (
      one_read c.args.fields.now (drop (c.loop-field.field-index + 1) c.args.fields.now) c.field-item.result
          c.loop-field.text.items c.read_one.new.text.items c.args.machine.now c.loop-field.machine c.read_one.new.machine
          (g.R.Handlers.slots c.args.rack.now) (g.R.Handlers.slots c.loop-field.rack) (g.R.Handlers.slots c.read_one.new.rack)
          (subst (λ (fs : List Placed). ReadSoFar c.args.fields.now fs c.loop-field.text.items c.args.machine.now c.loop-field.machine (g.R.Handlers.slots c.args.rack.now) (g.R.Handlers.slots c.loop-field.rack))
          e c.loop-field.invariant.0)
          c.in-None.ensures.read c.read_one.ensures.pending c.read_one.ensures.slots,
      subst (λ (n : ℕ). AllStand n (drop (c.loop-field.field-index + 1) c.args.fields.now)) (sym c.read_one.ensures.slots)
          (subst (λ (fs : List Placed). AllStand (length (g.R.Handlers.slots c.loop-field.rack)) fs) e c.loop-field.invariant.1).1,
      omega (arith, c.loop-field.invariant.2, ap room_of_all e, c.read_one.ensures.len, c.read_one.ensures.places),
    )

pub push_reserved-requires-2 : goal.push_reserved-requires-2
push_reserved-requires-2 g c = omega (arith, c.loop-field.invariant.2, two_or_more (drop c.loop-field.field-index c.args.fields.now))

pub returns : goal.returns
returns g c =
    all_read c.args.fields.now c.loop-field.text.items c.from_vec.result c.args.machine.now c.loop-field.machine (g.R.Handlers.slots c.args.rack.now) (g.R.Handlers.slots c.loop-field.rack)
    (subst (λ (fs : List Placed). ReadSoFar c.args.fields.now fs c.loop-field.text.items c.args.machine.now c.loop-field.machine (g.R.Handlers.slots c.args.rack.now) (g.R.Handlers.slots c.loop-field.rack))
    (at_drop_all (λ (l : List Placed). l) c.args.fields.now c.loop-field.field-index (omega (arith, c.loop-field-test.false))) c.loop-field.invariant.0)
    (c.from_vec.ensures ∙ c.push_reserved-2.ensures.items)
