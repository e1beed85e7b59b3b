-- The observers that are left, without the endpoint's, are all observers without the endpoint's.
use Rattle.std.proofs.Common.{◌≡◌, length}
use Rattle.coap_observe.specs.Places.{observers_in}
use Rattle.coap_observe.specs.Watching.{is_from, without}
use Rattle.coap_observe.proofs.giving_up.remove_endpoint.Given as goal

abbrev pub invariant-loop-slot : goal.invariant-loop-slot
invariant-loop-slot l = record {
  left : without (is_from l.from) (observers_in l.slots) ≡ without (is_from l.from) (observers_in l.initial.slots);
  capacity : l.slots.capacity ≡ l.initial.slots.capacity;
}

abbrev pub decreases-loop-slot : goal.decreases-loop-slot
decreases-loop-slot l = length l.slots.list
