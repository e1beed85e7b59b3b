-- One more slot is free each time.
use Rattle.std.proofs.Common.{◌≡◌, arith, subst}
use Rattle.cases_exchanges.specs.Plain.{times_free}
use Rattle.slot_lists.specs.Counts.{once_below}
use Rattle.cases_exchanges.proofs.PlainSlots.{slots_more}
use Rattle.cases_exchanges.proofs.plain.all_slots.Goals as goal

pub loop-slot-preserved : goal.loop-slot-preserved
loop-slot-preserved c = record {
  slots = λ s. rw c.in_ok-push.ensures.items (slots_more s c.loop-slot.slot c.loop-slot.free.items (c.loop-slot.invariant.slots s));
  count = grind arith;
  room = omega arith;
}

pub returns-clause-slots : goal.returns-clause-slots
returns-clause-slots c s =
    let end : c.loop-slot.slot ≡ c.args.capacity = omega arith in
    subst (λ n. times_free s c.loop-slot.free.items ≡ once_below s n) end (c.loop-slot.invariant.slots s)
