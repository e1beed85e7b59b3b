-- so far each slot below the loop's number holds something
use Rattle.std.proofs.Common.{◌≡◌, length}
use Rattle.coap_observe.proofs.slots.no_observers.Given as goal

abbrev pub invariant-loop-slot : goal.invariant-loop-slot
invariant-loop-slot l = length l.observers.items ≡ l._slot
