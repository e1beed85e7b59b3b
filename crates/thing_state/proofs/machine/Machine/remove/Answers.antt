use Rattle.std.proofs.Common.{◌≡◌, ◌∙◌, ◌-◌, List, ap, sym, subst, arith}
use Rattle.std.specs.Prelude.{◌==◌}
use Rattle.std.specs.List.{position}
use Rattle.std.specs.VecDeque.{deque_capacity, deque_len}
use Rattle.thing_state.specs.State.{Invocation, without_invocation, with_invocations}
use Rattle.thing_state.specs.Course.{Course}
use Rattle.thing_state.specs.declared.machine.Machine.TheInside.{Inside}
use Rattle.thing_state.specs.Ids.{AreCounted}
use Rattle.thing_state.proofs.InvocationLists.{removed_at, none_removed}
use Rattle.thing_state.proofs.IdLaws.{counted_without}
use Rattle.thing_state.proofs.machine.Machine.remove.Goals as goal

-- the view of a machine with these invocations in the place of its own
abbrev seen : Inside → List Invocation → Course
seen m invocations = record {
  state = record { versions = m.versions.items; invocations = invocations; next_invocation = m.next_invocation; last = m.last.items; turns = m.turns; left_out = m.left_out };
  pending = m.pending.items;
  room = deque_capacity m.pending - deque_len m.pending;
}

pub invariant_of-self : goal.invariant_of-self
invariant_of-self c =
    let gone : c.take_back.new.invocations.items ≡ without_invocation c.args.id c.self.inside.invocations.items =
    c.take_back.ensures.items
    ∙ (removed_at c.args.id c.self.inside.invocations.items c.in-Some.index
    (ap (position (λ i. i.id == c.args.id)) (sym c.as_slice.ensures.value) ∙ sym c.place_by_id.ensures ∙ c.in-Some.is)).1 in
    record {
      turns = c.self.invariant.turns;
      versions = c.self.invariant.versions;
      ids = c.self.invariant.ids;
      counted = subst (λ (is : List Invocation). AreCounted c.self.inside.next_invocation is) (sym gone) (counted_without c.self.inside.next_invocation c.args.id c.self.inside.invocations.items c.self.invariant.counted);
      rooms = omega (arith, c.take_back.ensures.len, c.take_back.ensures.spare, c.self.invariant.rooms);
      invocation_places = omega (arith, c.take_back.ensures.places, c.self.invariant.invocation_places);
      spare_places = omega (arith, c.take_back.ensures.spare_places, c.self.invariant.spare_places);
      pending_places = c.self.invariant.pending_places;
    }

pub returns-in-Some : goal.returns-in-Some
returns-in-Some c =
    let gone : c.take_back.new.invocations.items ≡ without_invocation c.args.id c.self.inside.invocations.items =
    c.take_back.ensures.items
    ∙ (removed_at c.args.id c.self.inside.invocations.items c.in-Some.index
    (ap (position (λ i. i.id == c.args.id)) (sym c.as_slice.ensures.value) ∙ sym c.place_by_id.ensures ∙ c.in-Some.is)).1 in
    subst (λ (k : Course). seen c.self.inside c.take_back.new.invocations.items ≡ record k { state = with_invocations (without_invocation c.args.id k.state.invocations) k.state })
    c.self.view_is (ap (seen c.self.inside) gone)

pub returns-in-None : goal.returns-in-None
returns-in-None c =
    let stays : c.self.inside.invocations.items ≡ without_invocation c.args.id c.self.inside.invocations.items =
    sym (none_removed c.args.id c.self.inside.invocations.items
    (ap (position (λ i. i.id == c.args.id)) (sym c.as_slice.ensures.value) ∙ sym c.place_by_id.ensures ∙ c.in-None.is)) in
    subst (λ (k : Course). k ≡ record k { state = with_invocations (without_invocation c.args.id k.state.invocations) k.state })
    c.self.view_is (ap (seen c.self.inside) stays)
