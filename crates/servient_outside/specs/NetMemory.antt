-- The view of a network in memory. It keeps the number of calls of `next` that came before each act, and its happenings
-- follow from that, its events and the numbers of the calls that fail (Order.antt), because a second list would take
-- memory. So it records them wherever no act was lost, also where calls fail.
use Rattle.std.specs.Prelude.{◌≡◌, ◌<◌, ◌+◌, ◌-◌, ◌^◌, ℕ, List, [], ◌∷◌, ◌++◌, ◌⊎◌, Option, Some, None, IsSome, drop, if◌then◌else◌}
use Rattle.coap_msg.specs.declared.endpoint.Endpoint.{Endpoint}
use Rattle.servient_base.specs.Count.{one_more}
use Rattle.servient_outside.specs.declared.net.Act.{Act}
use Rattle.servient_outside.specs.declared.net.Act.TheVariants as act
use Rattle.servient_outside.specs.declared.net.EventWithBytes.{EventWithBytes}
use Rattle.servient_outside.specs.declared.net.Next.{Next}
use Rattle.servient_outside.specs.declared.net.Next.TheVariants.{Got, Failed}
use Rattle.servient_outside.specs.declared.net.Listened.{Listened}
use Rattle.servient_outside.specs.declared.net.Listened.TheVariants as listened
use Rattle.servient_outside.specs.declared.net.Dialled.{Dialled}
use Rattle.servient_outside.specs.declared.net.Dialled.TheVariants as dialled
use Rattle.servient_outside.specs.declared.net.Found.{Found}
use Rattle.servient_outside.specs.declared.net.Found.TheVariants as found
use Rattle.servient_outside.specs.declared.calls.CallCount.{CallCount}
use Rattle.servient_outside.specs.declared.net_memory.NetMemory.{NetMemory}
use Rattle.servient_outside.specs.Told.{told_at_zero, Continues}
use Rattle.servient_outside.specs.CallCount.{is_failing, no_calls, none_fails, where_none_fails}
use Rattle.servient_outside.specs.Network.{in_buffer, Happening, did, NetSeen}
use Rattle.servient_outside.specs.Order.{steps, happened_by, breaks_after}
use Rattle.servient_outside.specs.Ending.{last_moment, stop_event, with_stop}

-- its calls that may fail
abbrev pub calls_of : NetMemory → CallCount
calls_of n = n.calls

-- the rest of its list, the Stop at the end with it
abbrev pub rest_of : NetMemory → List EventWithBytes
rest_of n = drop n.given n.events

-- the moment of its Stop
abbrev pub stop_moment_of : NetMemory → ℕ
stop_moment_of n = n.stop_moment

-- the Stop with its bytes, which are none
abbrev pub stop_of : NetMemory → EventWithBytes
stop_of n = record { event = stop_event (stop_moment_of n); bytes = [] }

-- the acts that were kept
abbrev pub kept_acts : NetMemory → List Act
kept_acts n = n.log.acts.items

-- the number of acts that were lost out of memory
abbrev pub lost_acts : NetMemory → ℕ
lost_acts n = n.log.lost

-- The happenings, as long as no act was lost. A call of `next` after 2 ^ 64 - 1 others without an act between them
-- isn't recorded.
abbrev pub told_history : NetMemory → Option (List Happening)
told_history n =
    told_at_zero (n.uncounted + lost_acts n)
    (happened_by n.calls.fails n.events (stop_of n) (steps n.log.gaps.items (kept_acts n) n.log.since) 0 0)

-- the events still to come, where no call fails
abbrev pub left_events : NetMemory → Option (List EventWithBytes)
left_events n = where_none_fails n.calls.fails (told_at_zero n.uncounted (rest_of n))

-- the number of its failures
abbrev pub fault_count : NetMemory → ℕ
fault_count n = n.faults

-- the view of it
abbrev pub net_seen : NetMemory → NetSeen
net_seen n = record { history = told_history n; left = left_events n; faults = fault_count n; never_fail = none_fails n.calls.fails }

-- Nothing was done yet: it has these events to give, and these calls are to fail.
pub record IsFresh (n : NetMemory) (events : List EventWithBytes) (fails : List ℕ) : Type 0 where
  pub rest : rest_of n ≡ with_stop events
  pub stop_moment : stop_moment_of n ≡ last_moment events
  pub calls : calls_of n ≡ no_calls fails
  pub faults : fault_count n ≡ 0
  pub lost : lost_acts n ≡ 0

-- ---- calls of `next`

-- A failing call takes nothing from what is left. Any other takes the first event of it, or gives the Stop again.
abbrev pub TakesFrom : List EventWithBytes → List EventWithBytes → ℕ → Next → List ℕ → Type 0
TakesFrom before now stop_moment Failed buffer = now ≡ before
TakesFrom [] now stop_moment (Got e) buffer = (e ≡ stop_event stop_moment) × (now ≡ [])
TakesFrom (first ∷ rest) now stop_moment (Got e) buffer = (in_buffer e buffer ≡ first) × (now ≡ rest)

-- the happenings are recorded after a call of `next` where they were recorded before, whether or not the call failed
abbrev pub GoesOnTelling : NetMemory → NetMemory → Type 0
GoesOnTelling before now = before.log.since < 2 ^ 64 - 1 → IsSome (told_history before) → IsSome (told_history now)

-- The acts stay as they were.
pub record KeepsActs (before now : NetMemory) : Type 0 where
  pub kept : kept_acts now ≡ kept_acts before
  pub lost : lost_acts now ≡ lost_acts before

-- ---- acts

-- The events that it has to give stay as they were. The happenings are recorded after an act where they were recorded
-- before and the act wasn't lost.
pub record KeepsRest (before now : NetMemory) : Type 0 where
  pub rest : rest_of now ≡ rest_of before
  pub stop_moment : stop_moment_of now ≡ stop_moment_of before
  pub told : lost_acts now ≡ lost_acts before → IsSome (told_history before) → IsSome (told_history now)

-- the same, and its calls stay as they were, and no fault is counted
pub record KeepsEvents (before now : NetMemory) : Type 0 where
  pub rest : KeepsRest before now
  pub calls : calls_of now ≡ calls_of before
  pub faults : fault_count now ≡ fault_count before

-- The act is kept after the others; or keeping it is out of memory, and it is counted.
abbrev pub KeepsOrCounts : NetMemory → NetMemory → Act → Type 0
KeepsOrCounts before now act =
    (kept_acts now ≡ kept_acts before ++ act ∷ []) × (lost_acts now ≡ lost_acts before)
    ⊎ (kept_acts now ≡ kept_acts before) × (lost_acts now ≡ one_more (lost_acts before))

-- an act that can't fail
abbrev pub IsNoCall : Act → Type 0
IsNoCall (act.Sent c bytes) = Unit {0}
IsNoCall (act.Closed c) = Unit {0}
IsNoCall (act.Datagram to bytes) = Unit {0}
IsNoCall (act.Listened place) = ⊥
IsNoCall (act.Dialled host port c) = ⊥
IsNoCall (act.Looked host port to) = ⊥

-- an act that may fail
abbrev pub IsCall : Act → Type 0
IsCall (act.Sent c bytes) = ⊥
IsCall (act.Closed c) = ⊥
IsCall (act.Datagram to bytes) = ⊥
IsCall (act.Listened place) = Unit {0}
IsCall (act.Dialled host port c) = Unit {0}
IsCall (act.Looked host port to) = Unit {0}

-- The record has this act more, and the break after it where it failed.
abbrev pub GoesOnBy : NetMemory → NetMemory → Act → Type 0
GoesOnBy before now act =
    Continues (told_history before) (told_history now) (did act ∷ breaks_after before.calls.fails before.calls.made act)

-- ---- answers

-- Ready, unless the next call fails
abbrev pub listen_answer : CallCount → Listened
listen_answer calls = if is_failing calls.fails (one_more calls.made) then listened.Failed else listened.Ready

-- the connection 0, each time, unless the next call fails; nothing comes on it but what is among the events
abbrev pub dial_answer : CallCount → Dialled
dial_answer calls = if is_failing calls.fails (one_more calls.made) then dialled.Failed else dialled.Connected 0

-- the connection in an answer
abbrev pub dialled_in : Dialled → Option ℕ
dialled_in (dialled.Connected c) = Some c
dialled_in dialled.Failed = None
dialled_in dialled.NoMemory = None

-- the host 2 and the port that was asked, each time, unless the next call fails
abbrev pub find_answer : CallCount → ℕ → Found
find_answer calls port =
    if is_failing calls.fails (one_more calls.made) then found.Failed else found.At (record { host = 2; port = port })

-- the endpoint in an answer
abbrev pub looked_in : Found → Option Endpoint
looked_in (found.At to) = Some to
looked_in found.Failed = None
looked_in found.NoMemory = None
