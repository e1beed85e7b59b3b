-- None of those before `current` is the one.
use Rattle.std.proofs.Common.{◌≡◌, IfSome, find, length}
use Rattle.slot_lists.specs.Lists.{list_at, from_slot, IsIn}
use Rattle.coap_observe.specs.Kept.{observer_at}
use Rattle.coap_observe.specs.Places.{is_wanted}
use Rattle.coap_observe.proofs.walks.wanted_slot.Given as goal

abbrev pub invariant-loop-current : goal.invariant-loop-current
invariant-loop-current l = record {
  found : find (λ slot. is_wanted l.from l.wanted (observer_at l.observers slot)) (list_at l.list l.lists)
      ≡ find (λ slot. is_wanted l.from l.wanted (observer_at l.observers slot)) (from_slot l.current (list_at l.list l.lists));
  member : IfSome l.current (IsIn l.list l.lists);
}

abbrev pub decreases-loop-current : goal.decreases-loop-current
decreases-loop-current l = length (from_slot l.current (list_at l.list l.lists))
