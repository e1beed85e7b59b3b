use Rattle.std.proofs.Common.{List, sym, subst, arith}
use Rattle.thing_state.specs.State.{Invocation}
use Rattle.thing_state.specs.Ids.{AreCounted}
use Rattle.thing_state.proofs.machine.Machine.new.Goals as goal

pub invariant_of-result : goal.invariant_of-result
invariant_of-result c = record {
  turns = omega arith;
  ids = omega arith;
  versions = λ slot. omega (arith, c.requires slot);
  counted = subst (λ (is : List Invocation). AreCounted 1 is) (sym c.in_ok-with_capacity.ensures.items) (tt, tt);
  rooms = omega (arith, c.in_ok-with_capacity.ensures.len, c.in_ok-empty_rooms.ensures.count);
  invocation_places = omega (arith, c.in_ok-with_capacity.ensures.capacity);
  spare_places = c.in_ok-empty_rooms.ensures.places;
  pending_places = omega (arith, c.len.ensures, c.in_ok-pending.ensures.capacity);
}
