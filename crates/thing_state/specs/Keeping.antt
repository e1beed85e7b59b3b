-- The invariants of the state that code keeps in a run.
use Rattle.std.specs.Prelude.{◌≡◌, ◌≤◌, ◌+◌, ℕ, vec_len, vec_capacity}
use Rattle.std.specs.VecDeque.{deque_capacity}
use Rattle.thing_state.specs.State.{most_invocations, version_of, most_turns}
use Rattle.thing_state.specs.Ids.{AreCounted}
use Rattle.thing_state.specs.declared.machine.Machine.TheInside.{Inside}

-- the run has no more turns than it may, and each id that was used is one of them; a version counts turns of its
-- property, after those that are left out; the ids of invocations rise, and are below the next; each invocation and each
-- further one that may come has a room; and all places were taken
pub record IsKept (m : Inside) : Type 0 where
  pub turns : m.turns ≤ most_turns m.left_out
  pub ids : m.next_invocation ≤ m.turns + 1
  pub versions : (slot : ℕ) → version_of slot m.versions.items ≤ m.left_out + m.turns
  pub counted : AreCounted m.next_invocation m.invocations.items
  pub rooms : vec_len m.invocations + vec_len m.spare ≡ most_invocations
  pub invocation_places : most_invocations ≤ vec_capacity m.invocations
  pub spare_places : most_invocations ≤ vec_capacity m.spare
  pub pending_places : vec_len m.last ≤ deque_capacity m.pending
