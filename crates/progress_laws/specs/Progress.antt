-- The machine isn't stuck: layer by layer, a move can be made wherever the machine's page comes to it.
use Rattle.std.specs.Prelude.{◌⊎◌, ℕ, max, List, Option}
use Rattle.httparse.specs.Grammar.{RequestHead}
use Rattle.http_wire.specs.Heads.{IsHead}
use Rattle.http_bind.specs.Streams.{Streams, Taken, Takes, IsDry}
use Rattle.thing_state.specs.State.{Emission}
use Rattle.servient_outside.specs.declared.net.EventWithBytes.{EventWithBytes}
use Rattle.servient_trace.specs.Trace.{Sighting}
use Rattle.servient_core.specs.Machine.{Site, State, Move, start, DeliversEach, EndsEvent, Follows, Run}

-- a move can be made from a state
abbrev pub CanBeMade : Move → State → Type 0
CanBeMade P s = (seen : List Sighting) × (t : State) × P s seen t

-- The state of the machine when an event has come.
abbrev pub moved : State → EventWithBytes → State
moved s it = record s { moment = max s.moment it.event.moment }

-- Whatever followed from an event of a run, the event can be ended: its notifications are sent one after another until none is
-- due, those that are late are told, and idle connections are closed until none is left.
abbrev pub EventsCanEnd : Type 0
EventsCanEnd =
    (site : Site) (exchanges : ℕ) (epoch : Option ℕ) (took : List EventWithBytes) (before first : List Sighting) (s mid : State) (it : EventWithBytes)
    → Run site took (start site exchanges epoch) before s → Follows site it.event.what it.bytes (moved s it) first mid → CanBeMade EndsEvent mid

-- Whatever is emitted can be delivered: all that wait for it are told, one after another.
abbrev pub EmissionsCanBeDelivered : Type 0
EmissionsCanBeDelivered =
    (site : Site) (exchanges : ℕ) (epoch : Option ℕ) (took : List EventWithBytes) (before : List Sighting) (s : State) (emissions : List Emission)
    → Run site took (start site exchanges epoch) before s → CanBeMade (DeliversEach emissions) s

-- A premise: of all bytes it is decided whether they are a request head by the grammar of `httparse`.
abbrev pub HeadsAreDecided : Type 0
HeadsAreDecided = (bytes : List ℕ) → ((h : RequestHead) × IsHead bytes h) ⊎ ((h : RequestHead) → ¬ (IsHead bytes h))

-- Something can be taken from a connection, or nothing is left to take.
abbrev pub StreamsGoOn : Type 0
StreamsGoOn = HeadsAreDecided → (c : ℕ) (h : Streams) → ((taken : Taken) × (k : Streams) × Takes c taken h k) ⊎ IsDry c h
