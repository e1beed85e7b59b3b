-- The trace of a request that was out of memory: the one thing that the machine leaves open.
use Rattle.std.specs.Prelude.{◌≡◌, ◌⊎◌, ℕ, List, [], ◌∷◌, ◌++◌}
use Rattle.thing_ops.specs.declared.outcome.Outcome.TheVariants as outcome
use Rattle.thing_ops.specs.Requests.{RequestSeen}
use Rattle.thing_handler.specs.Turns.{HandlerCall, missed}
use Rattle.thing_site.specs.Site.{Site}
use Rattle.thing_state.specs.State.{State}
use Rattle.thing_core.specs.Thing.{Done, Acts}

-- nothing was seen of it, and the Things are as they were
pub record LeavesAll (s : State) (seen : List HandlerCall) (t : State) : Type 0 where
  pub calls : seen ≡ []
  pub thing : t ≡ s

-- the last thing seen of it is that the handler which was to be called next was out of memory
pub record EndsInMiss (seen : List HandlerCall) : Type 0 where
  pub before : List HandlerCall
  pub slot : ℕ
  pub last : seen ≡ before ++ missed slot ∷ []

-- A request whose outcome is that it was out of memory made no call and left the Things as they were, or it ended at a
-- handler that was.
abbrev pub MemoryIsSeen : Type 0
MemoryIsSeen =
    (site : Site) (q : RequestSeen) (done : Done) (s t : State) (seen : List HandlerCall)
    → Acts site q done s seen t → done.outcome ≡ outcome.Memory → LeavesAll s seen t ⊎ EndsInMiss seen
