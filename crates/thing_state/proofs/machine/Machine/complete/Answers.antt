use Rattle.std.proofs.Common.{◌≡◌, ◌∙◌, List, ap, sym, subst, length, option_map, arith}
use Rattle.std.proofs.lemmas.List.{with_items_is}
use Rattle.thing_state.specs.State.{Invocation, with_completed}
use Rattle.thing_state.specs.Ids.{AreCounted}
use Rattle.thing_state.proofs.InvocationLists.{completed_length}
use Rattle.thing_state.proofs.IdLaws.{counted_completed}
use Rattle.thing_state.proofs.machine.Machine.complete.Goals as goal

pub invariant_of-self : goal.invariant_of-self
invariant_of-self c =
    let done : c.complete_one.new.invocations ≡ with_completed c.args.id (option_map (λ t. t.now) c.args.output) c.self.inside.invocations.items =
    c.complete_one.ensures ∙ ap (with_completed c.args.id (option_map (λ t. t.now) c.args.output)) c.as_mut_slice.ensures.value in
    let long : length c.complete_one.new.invocations ≡ c.self.inside.invocations.len =
    omega (arith, ap length done, completed_length c.args.id (option_map (λ t. t.now) c.args.output) c.self.inside.invocations.items, c.self.inside.invocations.ok.0) in
    record {
      turns = c.self.invariant.turns;
      versions = c.self.invariant.versions;
      ids = c.self.invariant.ids;
      counted = subst (λ (is : List Invocation). AreCounted c.self.inside.next_invocation is) (sym (with_items_is c.self.inside.invocations c.complete_one.new.invocations long ∙ done))
          (counted_completed c.self.inside.next_invocation c.args.id (option_map (λ t. t.now) c.args.output) c.self.inside.invocations.items c.self.invariant.counted);
      rooms = c.self.invariant.rooms;
      invocation_places = c.self.invariant.invocation_places;
      spare_places = c.self.invariant.spare_places;
      pending_places = c.self.invariant.pending_places;
    }
