-- The order in which a network in memory gave its events, failed and was acted on. It follows from its events, the
-- numbers of the calls that fail, and how many calls of `next` came between one act and the act before it.
use Rattle.std.specs.Prelude.{ℕ, zero, suc, List, [], ◌∷◌, ◌++◌, Some, None, slice_get, unwrap_or, if◌then◌else◌}
use Rattle.servient_base.specs.Count.{one_more}
use Rattle.servient_outside.specs.declared.net.Act.{Act}
use Rattle.servient_outside.specs.declared.net.Act.TheVariants as act
use Rattle.servient_outside.specs.declared.net.EventWithBytes.{EventWithBytes}
use Rattle.servient_outside.specs.CallCount.{is_failing}
use Rattle.servient_outside.specs.Network.{Happening, heard, did, broke, next_event, listening, dialling, looking}

-- ---- calls in their order

-- one call of a network
pub data Step : Type 0 where
  -- it was asked for an event
  asked : Step
  -- this was done
  acted : Act → Step

-- n calls of `next`
abbrev pub asks : ℕ → List Step
asks zero = []
asks (suc count) = asked ∷ asks count

-- acts, each by its number of calls of `next` after the act before it, and then the calls after the last
abbrev pub steps : List ℕ → List Act → ℕ → List Step
steps [] acts since = asks since
steps (gap ∷ gaps) [] since = asks since
steps (gap ∷ gaps) (act ∷ acts) since = asks gap ++ acted act ∷ steps gaps acts since

-- ---- what happens by them

-- the number of calls that may fail after this act, where n were made before it
abbrev pub made_after : Act → ℕ → ℕ
made_after (act.Sent c bytes) made = made
made_after (act.Closed c) made = made
made_after (act.Datagram to bytes) made = made
made_after (act.Listened place) made = one_more made
made_after (act.Dialled host port c) made = one_more made
made_after (act.Looked host port to) made = one_more made

-- The break after this act, where n calls were made before it and it failed. In memory nothing is connected and nothing
-- is found by that alone.
abbrev pub breaks_after : List ℕ → ℕ → Act → List Happening
breaks_after fails made (act.Sent c bytes) = []
breaks_after fails made (act.Closed c) = []
breaks_after fails made (act.Datagram to bytes) = []
breaks_after fails made (act.Listened place) = if is_failing fails (one_more made) then broke listening ∷ [] else []
breaks_after fails made (act.Dialled host port (Some c)) = []
breaks_after fails made (act.Dialled host port None) = broke dialling ∷ []
breaks_after fails made (act.Looked host port (Some to)) = []
breaks_after fails made (act.Looked host port None) = broke looking ∷ []

-- the number of events given after a call of `next`, where n calls were made before it and m events were given
abbrev pub given_after : List ℕ → ℕ → ℕ → ℕ
given_after fails made given = if is_failing fails (one_more made) then given else suc given

-- the happening of that call: a failure, the next of the events, or the Stop once more
abbrev pub call_result : List ℕ → List EventWithBytes → EventWithBytes → ℕ → ℕ → Happening
call_result fails events stop made given =
    if is_failing fails (one_more made) then broke next_event else heard (unwrap_or (slice_get events given) stop)

-- the number of calls that may fail after these
abbrev pub made_by : List Step → ℕ → ℕ
made_by [] made = made
made_by (asked ∷ steps) made = made_by steps (one_more made)
made_by (acted act ∷ steps) made = made_by steps (made_after act made)

-- the number of events given after these
abbrev pub given_by : List ℕ → List Step → ℕ → ℕ → ℕ
given_by fails [] made given = given
given_by fails (asked ∷ steps) made given = given_by fails steps (one_more made) (given_after fails made given)
given_by fails (acted act ∷ steps) made given = given_by fails steps (made_after act made) given

-- the happenings of these
abbrev pub happened_by : List ℕ → List EventWithBytes → EventWithBytes → List Step → ℕ → ℕ → List Happening
happened_by fails events stop [] made given = []
happened_by fails events stop (asked ∷ steps) made given =
    call_result fails events stop made given ∷ happened_by fails events stop steps (one_more made) (given_after fails made given)
happened_by fails events stop (acted act ∷ steps) made given =
    did act ∷ breaks_after fails made act ++ happened_by fails events stop steps (made_after act made) given
