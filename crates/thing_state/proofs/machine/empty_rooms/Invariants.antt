use Rattle.std.proofs.Common.{◌≡◌, ◌≤◌, vec_len, vec_capacity}
use Rattle.thing_state.proofs.machine.empty_rooms.Given as goal

abbrev pub invariant-loop : goal.invariant-loop
invariant-loop l = (vec_len l.rooms ≡ l.counter) × (64 ≤ vec_capacity l.rooms)
