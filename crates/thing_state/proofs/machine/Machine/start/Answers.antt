use Rattle.std.proofs.Common.{◌≡◌, ◌≤◌, ◌+◌, ℕ, List, refl, ap, sym, subst, vec_len, vec_capacity, arith}
use Rattle.std.specs.VecDeque.{deque_capacity}
use Rattle.thing_state.specs.State.{Invocation, version_of}
use Rattle.thing_state.specs.Course.{Course}
use Rattle.thing_state.specs.Ids.{AreCounted}
use Rattle.thing_state.proofs.IdLaws.{counted_and_last, counted_without_oldest}
use Rattle.thing_state.proofs.machine.Machine.start.Goals as goal
use Rattle.thing_state.proofs.machine.Machine.start.Goals.{then-len-eq-MOST_INVOCATIONS, else-len-eq-MOST_INVOCATIONS}

pub invariant_of-self : goal.invariant_of-self
invariant_of-self c =
    let i = c.self.inside in
    let s = c.if-len-eq-MOST_INVOCATIONS.self-inside in
    let kept = c.self.invariant in
    let same : AreCounted s.next_invocation s.invocations.items × (s.turns ≡ i.turns) × (s.next_invocation ≡ i.next_invocation)
    × (vec_len s.invocations + vec_len s.spare ≡ 64) × (64 ≤ vec_capacity s.invocations) × (64 ≤ vec_capacity s.spare) × (vec_len s.last ≤ deque_capacity s.pending)
    × ((slot : ℕ) → version_of slot s.versions.items ≤ i.left_out + i.turns) × (s.left_out ≡ i.left_out) =
    elim c.if-len-eq-MOST_INVOCATIONS.branch [
      | then-len-eq-MOST_INVOCATIONS w ↦ (
          let dropped = w.drop_oldest_completed.ensures in
          rw w.self-inside-is (
            subst (λ (is : List Invocation). AreCounted i.next_invocation is) (sym dropped.items) (counted_without_oldest i.next_invocation i.invocations.items kept.counted),
            refl,
            refl,
            omega (arith, dropped.len, dropped.spare, kept.rooms),
            omega (arith, dropped.places, kept.invocation_places),
            omega (arith, dropped.spare_places, kept.spare_places),
            kept.pending_places,
            kept.versions,
            refl,
          )
          )
      | else-len-eq-MOST_INVOCATIONS w ↦ rw w.self-inside-is (kept.counted, refl, refl, kept.rooms, kept.invocation_places, kept.spare_places, kept.pending_places, kept.versions, refl)
    ] in
    let turns = ap (λ (k : Course). k.state.turns) c.self.view_is in
    let ids = ap (λ (k : Course). k.state.next_invocation) c.self.view_is in
    record {
      turns = rw (same.1, same.8) kept.turns;
      versions = λ slot. omega (arith, same.1, same.8, same.7 slot);
      ids = omega (arith, same.1, same.2, turns, ids, c.requires.id);
      counted = subst (λ (is : List Invocation). AreCounted (s.next_invocation + 1) is) (sym c.push_reserved.ensures.items)
          (counted_and_last s.next_invocation c.running_in-invocation.result s.invocations.items (ap (λ (x : Invocation). x.id) c.running_in-invocation.ensures.invocation) same.0);
      rooms = omega (arith, same.3, c.running_in-invocation.ensures.len, c.push_reserved.ensures.len);
      invocation_places = omega (arith, same.4, c.push_reserved.ensures.capacity);
      spare_places = omega (arith, same.5, c.running_in-invocation.ensures.places);
      pending_places = same.6;
    }
