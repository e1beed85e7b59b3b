use Rattle.std.proofs.Common.{ap, arith}
use Rattle.thing_state.specs.Course.{Course}
use Rattle.thing_state.proofs.IdLaws.{counted_on}
use Rattle.thing_state.proofs.machine.Machine.use_id.Goals as goal

pub invariant_of-self : goal.invariant_of-self
invariant_of-self c =
    let turns = ap (λ (k : Course). k.state.turns) c.self.view_is in
    let ids = ap (λ (k : Course). k.state.next_invocation) c.self.view_is in
    record {
      turns = c.self.invariant.turns;
      versions = c.self.invariant.versions;
      ids = omega (arith, turns, ids, c.requires);
      counted = counted_on c.self.inside.next_invocation c.self.inside.invocations.items c.self.invariant.counted;
      rooms = c.self.invariant.rooms;
      invocation_places = c.self.invariant.invocation_places;
      spare_places = c.self.invariant.spare_places;
      pending_places = c.self.invariant.pending_places;
    }
