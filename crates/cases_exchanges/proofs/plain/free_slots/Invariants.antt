-- so far the slots of those that don't live were put there, and there is room for the others
use Rattle.std.proofs.Common.{◌≡◌, ◌+◌, ◌≤◌, ◌++◌, not, map, length, take, vec_capacity}
use Rattle.std.specs.List.{filter}
use Rattle.coap_exchange.specs.Admission.{lives}
use Rattle.cases_exchanges.specs.Plain.{arrival_of}
use Rattle.cases_exchanges.proofs.plain.free_slots.Given as goal

abbrev pub invariant-loop-entry : goal.invariant-loop-entry
invariant-loop-entry l = record {
  slots : l.free.items ≡ l.fn.free.items ++ map (λ e. e.slot) (filter (λ e. not (lives l.fn.now (arrival_of e))) (take l.entry-index l.fn.entries));
  room : length l.free.items ≤ length l.fn.free.items + l.entry-index;
  capacity : vec_capacity l.fn.free ≤ vec_capacity l.free;
}
