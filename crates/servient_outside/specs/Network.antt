-- The view of a network: the events that may come, the happenings, and the part of them that it shows.
use Rattle.std.specs.Prelude.{◌≡◌, ◌≤◌, ◌<◌, ◌^◌, ℕ, suc, Bool, true, false, List, [], ◌∷◌, Option, Some, None, take, length}
use Rattle.std.specs.List.{filter_map}
use Rattle.servient_base.specs.Count.{RoseBy}
use Rattle.servient_outside.specs.declared.net.What.{What}
use Rattle.servient_outside.specs.declared.net.What.TheVariants.{Opened, Bytes, Ended, Datagram, Tick, Stop}
use Rattle.servient_outside.specs.declared.net.Event.{Event}
use Rattle.servient_outside.specs.declared.net.EventWithBytes.{EventWithBytes}
use Rattle.servient_outside.specs.declared.net.Act.{Act}
use Rattle.servient_outside.specs.declared.net.Act.TheVariants as act
use Rattle.servient_outside.specs.declared.net.Next.{Next}
use Rattle.servient_outside.specs.declared.net.Next.TheVariants.{Got, Failed}
use Rattle.servient_outside.specs.declared.net.Listened.{Listened}
use Rattle.servient_outside.specs.declared.net.Listened.TheVariants as listened
use Rattle.servient_outside.specs.declared.net.Dialled.{Dialled}
use Rattle.servient_outside.specs.declared.net.Dialled.TheVariants as dialled
use Rattle.servient_outside.specs.declared.net.Found.{Found}
use Rattle.servient_outside.specs.declared.net.Found.TheVariants as found
use Rattle.servient_outside.specs.declared.place.Place.{Place}
use Rattle.servient_outside.specs.Told.{Continues}

-- ---- events

-- the number of bytes that come with an event
abbrev pub byte_count : What → ℕ
byte_count (Opened c) = 0
byte_count (Bytes c count) = count
byte_count (Ended c) = 0
byte_count (Datagram from count) = count
byte_count Tick = 0
byte_count Stop = 0

-- An event may come: of one of 64 connections, no more bytes at once than a buffer takes, but some; and a datagram of
-- no more bytes than are taken.
abbrev pub MayCome : What → Type 0
MayCome (Opened c) = c < 64
MayCome (Bytes c count) = (c < 64) × (1 ≤ count) × (count ≤ 4096)
MayCome (Ended c) = c < 64
MayCome (Datagram from count) = count ≤ 2048
MayCome Tick = Unit {0}
MayCome Stop = Unit {0}

-- an event that a network may give, its moment in milliseconds
pub record IsEvent (e : Event) : Type 0 where
  pub moment : e.moment ≤ 10 ^ 15
  pub what : MayCome e.what

-- an event with its bytes that a network may give
pub record IsWithinBounds (e : EventWithBytes) : Type 0 where
  pub event : IsEvent e.event
  pub bytes : length e.bytes ≡ byte_count e.event.what

-- the event, with its bytes, which are a prefix of the buffer
abbrev pub in_buffer : Event → List ℕ → EventWithBytes
in_buffer e buffer = record { event = e; bytes = take (byte_count e.what) buffer }

-- ---- what happens

-- a call of a network that may fail
pub data NetCall : Type 0 where
  next_event : NetCall
  listening : NetCall
  dialling : NetCall
  looking : NetCall

-- One thing that happens between the servient and the network. A call that acts is one act, for every answer; where
-- it failed, a break follows that names it.
pub data Happening : Type 0 where
  -- an event was given
  heard : EventWithBytes → Happening
  -- this was done to the network
  did : Act → Happening
  -- this call of the network failed
  broke : NetCall → Happening

-- the events among some happenings, in order
abbrev pub event_in : Happening → Option EventWithBytes
event_in (heard e) = Some e
event_in (did act) = None
event_in (broke call) = None

abbrev pub events_in : List Happening → List EventWithBytes
events_in = filter_map event_in

-- the acts among them, in order
abbrev pub act_in : Happening → Option Act
act_in (heard e) = None
act_in (did act) = Some act
act_in (broke call) = None

abbrev pub acts_in : List Happening → List Act
acts_in = filter_map act_in

-- the number of times that the network failed
abbrev pub break_count : List Happening → ℕ
break_count [] = 0
break_count (heard e ∷ happened) = break_count happened
break_count (did act ∷ happened) = break_count happened
break_count (broke call ∷ happened) = suc (break_count happened)

-- ---- what a network shows

-- The view of a network at one time: all happenings so far, in the order in which they came about, where the network
-- records them; the events still to come, where they are known; the number of its failures; and whether no call of it
-- fails from now on.
pub record NetSeen : Type 0 where
  pub history : Option (List Happening)
  pub left : Option (List EventWithBytes)
  pub faults : ℕ
  pub never_fail : Bool

-- As these happen, the events to come go from one list to another: as long as some are known to come, each event given
-- is the first of them, and nothing fails. Once none is, nothing more is known.
abbrev pub Leaves : List Happening → Option (List EventWithBytes) → Option (List EventWithBytes) → Type 0
Leaves [] before now = now ≡ before
Leaves (did act ∷ happened) before now = Leaves happened before now
Leaves (heard e ∷ happened) (Some (first ∷ rest)) now = (e ≡ first) × Leaves happened (Some rest) now
Leaves (heard e ∷ happened) (Some []) now = Unit {0}
Leaves (heard e ∷ happened) None now = Unit {0}
Leaves (broke call ∷ happened) (Some (first ∷ rest)) now = ⊥
Leaves (broke call ∷ happened) (Some []) now = Unit {0}
Leaves (broke call ∷ happened) None now = Unit {0}

-- Where no call fails from now on, none of these failed, no failure was counted, and none fails later.
abbrev pub NoCallFailed : NetSeen → NetSeen → List Happening → Type 0
NoCallFailed before now happened =
    before.never_fail ≡ true → (now.never_fail ≡ true) × (break_count happened ≡ 0) × (now.faults ≡ before.faults)

-- From one time to another this happened and nothing else: it comes after what was recorded before; the events to come
-- are those that are left by it; each failure was counted; and there is none where no call fails.
pub record NetShows (before now : NetSeen) (happened : List Happening) : Type 0 where
  pub history : Continues before.history now.history happened
  pub left : Leaves happened before.left now.left
  pub faults : RoseBy (break_count happened) before.faults now.faults
  pub no_failure : NoCallFailed before now happened

-- the happening of a call of `next`
abbrev pub came : Next → List ℕ → Happening
came (Got e) buffer = heard (in_buffer e buffer)
came Failed buffer = broke next_event

-- an answer of `next` has an event that a network may give, if it has one
abbrev pub IsAnswer : Next → Type 0
IsAnswer (Got e) = IsEvent e
IsAnswer Failed = Unit {0}

-- the happening of a call of `listen`
abbrev pub listens_as : Place → Listened → List Happening
listens_as place listened.Ready = did (act.Listened place) ∷ []
listens_as place listened.Failed = did (act.Listened place) ∷ broke listening ∷ []
listens_as place listened.NoMemory = did (act.Listened place) ∷ []

-- the happening of a call of `dial`
abbrev pub dials_as : List ℕ → ℕ → Dialled → List Happening
dials_as host port (dialled.Connected c) = did (act.Dialled host port (Some c)) ∷ []
dials_as host port dialled.Failed = did (act.Dialled host port None) ∷ broke dialling ∷ []
dials_as host port dialled.NoMemory = did (act.Dialled host port None) ∷ []

-- an answer of `dial` is one of 64 connections, if it is one
abbrev pub IsConnection : Dialled → Type 0
IsConnection (dialled.Connected c) = c < 64
IsConnection dialled.Failed = Unit {0}
IsConnection dialled.NoMemory = Unit {0}

-- the happening of a call of `find`
abbrev pub finds_as : List ℕ → ℕ → Found → List Happening
finds_as host port (found.At endpoint) = did (act.Looked host port (Some endpoint)) ∷ []
finds_as host port found.Failed = did (act.Looked host port None) ∷ broke looking ∷ []
finds_as host port found.NoMemory = did (act.Looked host port None) ∷ []

-- the view of a network that records nothing but its count of faults, as one over sockets
abbrev pub counted_only : ℕ → NetSeen
counted_only faults = record { history = None; left = None; faults = faults; never_fail = false }
