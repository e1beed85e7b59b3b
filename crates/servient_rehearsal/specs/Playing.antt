-- The promises of the functions that play a move: turns of the world of both ends, which the real objects made.
use Rattle.std.specs.Prelude.{◌≡◌, ◌≤◌, ◌<◌, ◌+◌, ◌-◌, ◌&&◌, ◌||◌, ◌⊎◌, ℕ, nat_le, Bool, true, false, List, [], ◌∷◌, ◌++◌, length, map, Option, Some, None, slice_get}
use Rattle.servient_base.specs.Moves.{Stays, Each, Makes}
use Rattle.coap_msg.specs.declared.endpoint.Endpoint.{Endpoint}
use Rattle.coap_msg.specs.Endpoints.{is_same_endpoint}
use Rattle.coap_client.specs.declared.state.State.{State as ClientState}
use Rattle.thing_handler.specs.Handler.{Seen}
use Rattle.thing_handler.specs.Turns.{RackShows}
use Rattle.servient_outside.specs.declared.net.Act.{Act}
use Rattle.servient_outside.specs.declared.net.EventWithBytes.{EventWithBytes}
use Rattle.servient_trace.specs.Trace.{Sighting, calls_in}
use Rattle.servient_core.specs.Machine.{Site, State, EventAndStep}
use Rattle.servient_core.specs.Serving.{StandsFor}
use Rattle.servient_core.specs.declared.layers.Layers.{Layers}
use Rattle.servient_world.specs.declared.network.TheConstants.{MAX_LATENCY}
use Rattle.servient_world.specs.World.{client_place, server_place}
use Rattle.servient_ends.specs.Ends.{Turn, datagrams_of, datagrams_in}
use Rattle.servient_rehearsal.specs.declared.moves.Move.{Move}
use Rattle.servient_rehearsal.specs.declared.notes.Notes.{Notes}
use Rattle.servient_rehearsal.specs.declared.world.World.{World}
use Rattle.servient_rehearsal.specs.declared.world.SentDatagram.{SentDatagram}
use Rattle.servient_rehearsal.specs.declared.playing.Receiver.{Receiver}
use Rattle.servient_rehearsal.specs.declared.playing.Receiver.TheVariants as receiver
use Rattle.servient_rehearsal.specs.Moves.{turn_of}
use Rattle.servient_rehearsal.specs.Noted.{Noted, noted_of, with_datagrams, shown_datagram, shown_asks, shown_ends, last_registration}
use Rattle.servient_rehearsal.specs.Turns.{Played, TakesTurn}

-- ---- the real objects stand for both ends

-- the servient, the client and what is noted, at one time
pub record Kept : Type 0 where
  pub servient : Layers
  pub client : ClientState
  pub notes : Notes

abbrev pub kept : Layers → ClientState → Notes → Kept
kept servient client notes = record { servient = servient; client = client; notes = notes }

-- this is what is seen of both ends
pub record IsShown (n : Noted) (p : Played) : Type 0 where
  pub moment : n.moment ≡ p.ends.world.moment
  pub sent : n.sent ≡ map shown_datagram p.ends.world.sent
  pub asks : n.asks ≡ shown_asks 0 p.ends.world.asks
  pub ends : n.ends ≡ shown_ends p.ends.world.ends
  pub taken : n.taken ≡ p.values

-- the real objects are left as both ends are
pub record AreLeft (c : Kept) (p : Played) : Type 0 where
  pub servient : StandsFor c.servient p.ends.servient
  pub client : p.ends.world.client ≡ c.client

-- and what is noted is what is seen of them
pub record AreNoted (c : Kept) (p : Played) : Type 0 where
  pub left : AreLeft c p
  pub shown : IsShown (noted_of c.notes.world) p
  pub registered : c.notes.registered ≡ last_registration p.ends.world.asks

-- ---- moves that the real objects make

-- the rack shows the calls of handlers among these
abbrev pub ShowsCalls : List Seen → List Seen → List Sighting → Type 0
ShowsCalls before after seen = RackShows before after (calls_in seen)

-- Whatever both ends were, of which this was noted, a move leads from there to what the objects stand for now.
abbrev pub LeadsTo : (Kept → Played → Type 0) → (Played → List Sighting → Played → Type 0) → Kept → Kept → List Seen → List Seen → Type 0
LeadsTo AreNow P c d before after = (p : Played) → AreNoted c p → (q : Played) × AreNow d q × Makes ShowsCalls P p q before after

-- a turn is taken, or nothing is done
abbrev pub AtMost : (Played → List Sighting → Played → Type 0) → Played → List Sighting → Played → Type 0
AtMost P p seen q = P p seen q ⊎ Stays p seen q

abbrev pub PlaysTurn : Site → Turn → Kept → Kept → List Seen → List Seen → Type 0
PlaysTurn site m = LeadsTo AreNoted (TakesTurn site m)

abbrev pub PlaysTurnAtMost : Site → Turn → Kept → Kept → List Seen → List Seen → Type 0
PlaysTurnAtMost site m = LeadsTo AreLeft (AtMost (TakesTurn site m))

-- the client alone plays a turn, whatever the servient is
abbrev pub ClientPlays : Turn → ClientState → ClientState → Notes → Notes → Type 0
ClientPlays m old new before after = (site : Site) (s : Layers) (slots : List Seen) → PlaysTurn site m (kept s old before) (kept s new after) slots slots

abbrev pub ClientPlaysAtMost : Turn → ClientState → ClientState → Notes → Type 0
ClientPlaysAtMost m old new before = (site : Site) (s : Layers) (after : Notes) (slots : List Seen) → PlaysTurnAtMost site m (kept s old before) (kept s new after) slots slots

-- the servient alone plays a turn, whatever the client is
abbrev pub ServientPlays : Site → Turn → Layers → Layers → Notes → Notes → List Seen → List Seen → Type 0
ServientPlays site m old new before after slots shown = (c : ClientState) → PlaysTurn site m (kept old c before) (kept new c after) slots shown

abbrev pub ServientPlaysAtMost : Site → Turn → Layers → Layers → Notes → List Seen → List Seen → Type 0
ServientPlaysAtMost site m old new before slots shown = (c : ClientState) (after : Notes) → PlaysTurnAtMost site m (kept old c before) (kept new c after) slots shown

-- moves are played, one after another
abbrev pub PlaysMoves : Site → List Move → Kept → Kept → List Seen → List Seen → Type 0
PlaysMoves site moves = LeadsTo AreNoted (Each (TakesTurn site) (map turn_of moves))

-- a first part of them is
abbrev pub PlaysSomeMoves : Site → List Move → Kept → Kept → List Seen → List Seen → Type 0
PlaysSomeMoves site moves c d before after =
    (p : Played) → AreNoted c p → (some rest : List Move) × (moves ≡ some ++ rest)
    × (q : Played) × AreLeft d q × Makes ShowsCalls (Each (TakesTurn site) (map turn_of some)) p q before after

-- ---- what a further move asks for

-- the client is at no later moment than what is noted, so much time has passed, and at most one ask was made
pub record GoesOn (time : ℕ) (client_now : ClientState) (old new : Notes) : Type 0 where
  pub client : client_now.moment ≤ new.world.moment
  pub moment : new.world.moment ≡ old.world.moment + time
  pub asks : length new.world.asks.items ≤ length old.world.asks.items + 1

abbrev pub ClientGoesOn : ClientState → Notes → Notes → Type 0
ClientGoesOn client old new = GoesOn 0 client old new

-- nothing but datagrams was noted
pub record NotesGoOn (old new : Notes) : Type 0 where
  pub moment : new.world.moment ≡ old.world.moment
  pub asks : new.world.asks.items ≡ old.world.asks.items

-- ---- a datagram that comes

-- a datagram that was sent may still come: `may_come` of the world, of its note
abbrev pub may_come_now : ℕ → SentDatagram → Bool
may_come_now now d = nat_le (now - d.moment) MAX_LATENCY && (is_same_endpoint d.to client_place || is_same_endpoint d.to server_place)

-- the datagram of a number may come to this end
abbrev pub ComesTo : Endpoint → ℕ → World → Type 0
ComesTo place i w = (d : SentDatagram) × (slice_get w.sent.items i ≡ Some d) × (may_come_now w.moment d ≡ true) × (d.to ≡ place)

abbrev pub ComesToClient : ℕ → World → Type 0
ComesToClient i w = ComesTo client_place i w

abbrev pub ComesToServient : ℕ → World → Type 0
ComesToServient i w = ComesTo server_place i w

-- it may not come, if there is one
abbrev pub ComesTooLate : Option SentDatagram → ℕ → Type 0
ComesTooLate None now = Unit {0}
ComesTooLate (Some d) now = may_come_now now d ≡ false

abbrev pub IsReceiver : ℕ → World → Receiver → Type 0
IsReceiver i w receiver.Nobody = ComesTooLate (slice_get w.sent.items i) w.moment
IsReceiver i w receiver.Client = ComesToClient i w
IsReceiver i w receiver.Servient = ComesToServient i w

-- ---- one event

-- the datagrams among acts, in order, with their receivers
abbrev pub datagrams_among : List Act → List (Endpoint × List ℕ)
datagrams_among [] = []
datagrams_among (a ∷ acts) = datagrams_of a ++ datagrams_among acts

-- A step from this state: the state afterwards, what was seen, and what the rack shows of that.
pub record StepsFrom (site : Site) (e : EventWithBytes) (s : State) (new : Layers) (before after : List Seen) : Type 0 where
  pub state : State
  pub stands : StandsFor new state
  pub seen : List Sighting
  pub step : EventAndStep site e s seen state
  pub rack : ShowsCalls before after seen

-- Whatever state the servient stood for, it made a step from there, and the datagrams that it sent were noted.
abbrev pub HearsAndNotes : Site → EventWithBytes → Layers → Layers → List Seen → List Seen → Noted → Noted → Type 0
HearsAndNotes site e old new before after noted now =
    (s : State) → StandsFor old s → (steps : StepsFrom site e s new before after) × (now ≡ with_datagrams (datagrams_in steps.seen) noted)

-- It did, or nothing was done.
abbrev pub HearsAtMost : Site → EventWithBytes → Layers → Layers → List Seen → List Seen → Type 0
HearsAtMost site e old new before after =
    ((s : State) → StandsFor old s → StepsFrom site e s new before after) ⊎ ((new ≡ old) × (after ≡ before))
