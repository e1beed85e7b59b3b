-- However it ends with those that are left, it ends so with all.
use Rattle.std.proofs.Common.{◌≡◌, ◌≤◌, List, length}
use Rattle.coap_observe.specs.Watching.{GivesUp}
use Rattle.coap_observe.specs.Places.{observers_in}
use Rattle.coap_observe.specs.declared.observer.Observer.{Observer}
use Rattle.coap_observe.specs.Unsent.{unsent}
use Rattle.coap_observe.proofs.giving_up.give_up.Given as goal

abbrev pub invariant-loop-slot : goal.invariant-loop-slot
invariant-loop-slot l = record {
  gives_up : (us : List Observer) → GivesUp l.now (observers_in l.slots) us → GivesUp l.now (observers_in l.initial.slots) us;
  capacity : l.slots.capacity ≡ l.initial.slots.capacity;
  less : unsent l.now (observers_in l.slots) ≤ unsent l.now (observers_in l.initial.slots);
}

abbrev pub decreases-loop-slot : goal.decreases-loop-slot
decreases-loop-slot l = length (observers_in l.slots)
