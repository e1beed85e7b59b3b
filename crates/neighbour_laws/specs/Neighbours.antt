-- Neighbours at one servient: what comes from one connection or one endpoint leaves what is another's as it was, but for
-- what it emitted and what the machine's moment makes due for everybody.
use Rattle.std.specs.Prelude.{◌≡◌, ◌==◌, ◌||◌, ℕ, Bool, true, not, List, [], ◌∷◌, length, map, filter, find, Contains, Option, Some, None}
use Rattle.std.specs.List.{list_any, position}
use Rattle.coap_msg.specs.declared.endpoint.Endpoint.{Endpoint}
use Rattle.coap_msg.specs.Endpoints.{is_same_endpoint}
use Rattle.coap_exchange.specs.Table.{Exchange, at_moment}
use Rattle.coap_observe.specs.declared.observer.Observer.{Observer}
use Rattle.coap_observe.specs.declared.notice.Notice.{Notice}
use Rattle.coap_observe.specs.Watching.{is_from, is_of_target, is_due, is_sendable, marked, where_so, without, hopeless, Sends}
use Rattle.coap_blocks.specs.Bodies.{Body, is_body_of, most_bodies}
use Rattle.coap_blocks.specs.Parts.{Part, living}
use Rattle.coap_bind.specs.declared.server.Server.{Server}
use Rattle.thing_state.specs.State.{Emission}
use Rattle.http_bind.specs.declared.owed.Owed.{Owed}
use Rattle.http_bind.specs.declared.waits.Wait.{Wait}
use Rattle.http_bind.specs.Streams.{Connection, Streams, connection_at, is_wait_of, other_waits, is_late, is_idle, after_reply}
use Rattle.servient_outside.specs.declared.net.What.{What}
use Rattle.servient_outside.specs.declared.net.What.TheVariants as what
use Rattle.servient_outside.specs.declared.net.EventWithBytes.{EventWithBytes}
use Rattle.servient_trace.specs.Trace.{Sighting}
use Rattle.servient_core.specs.Machine.{Site, State, start, EventAndStep, Run}
use Rattle.servient_ends.specs.Ends.{emitted_by}

-- ---- of whom an event is

abbrev pub connection_of : What → Option ℕ
connection_of (what.Opened c) = Some c
connection_of (what.Bytes c size) = Some c
connection_of (what.Ended c) = Some c
connection_of (what.Datagram from size) = None
connection_of what.Tick = None
connection_of what.Stop = None

abbrev pub endpoint_of : What → Option Endpoint
endpoint_of (what.Opened c) = None
endpoint_of (what.Bytes c size) = None
endpoint_of (what.Ended c) = None
endpoint_of (what.Datagram from size) = Some from
endpoint_of what.Tick = None
endpoint_of what.Stop = None

-- this connection, or this endpoint, isn't the one
abbrev pub is_other : Option ℕ → ℕ → Bool
is_other None c = true
is_other (Some d) c = not (c == d)

abbrev pub is_elsewhere : Option Endpoint → Endpoint → Bool
is_elsewhere None x = true
is_elsewhere (Some from) x = not (is_same_endpoint x from)

-- ---- connections (RFC 9112)

-- a wait is answered: its target is one of these, which had a new value, or it was too long
abbrev pub is_answered : ℕ → List ℕ → Wait → Bool
is_answered now targets w = list_any (λ t. w.target == t) targets || is_late now w

-- the waits of the other connections
abbrev pub waits_besides : Option ℕ → List Wait → List Wait
waits_besides None waits = waits
waits_besides (Some d) waits = other_waits d waits

-- the wait of a connection, if it waits
abbrev pub waits_of : ℕ → List Wait → List Wait
waits_of c waits = filter (is_wait_of c) waits

-- A connection is as it was, and so is its wait. Or its wait was answered, and it was replied to; or it was idle, and was
-- closed.
pub data IsLeft (c now : ℕ) (answered : Wait → Bool) (h k : Streams) : Type 0 where
  as_it_was : connection_at c k ≡ connection_at c h → waits_of c k.waits ≡ waits_of c h.waits → IsLeft c now answered h k
  was_replied : (w : Wait) (x : Connection) (owed : Owed) → Contains (waits_of c h.waits) w → answered w ≡ true → connection_at c h ≡ Some x → x.owed ≡ Some owed
      → connection_at c k ≡ after_reply owed.closes now x → waits_of c k.waits ≡ [] → IsLeft c now answered h k
  was_closed : is_idle now (connection_at c h) ≡ true → connection_at c k ≡ None → waits_of c k.waits ≡ [] → IsLeft c now answered h k

-- the waits that are left are in the order in which they were: those of some connections
abbrev pub AreInOrder : List Wait → List Wait → Type 0
AreInOrder old new = (stays : ℕ → Bool) × (new ≡ filter (λ w. stays w.connection) old)

-- ---- endpoints (RFC 7252, RFC 7641, RFC 7959)

abbrev pub exchanges_of : Endpoint → List Exchange → List Exchange
exchanges_of x es = filter (λ e. is_same_endpoint x e.arrival.from) es

abbrev pub observers_of : Endpoint → List Observer → List Observer
observers_of x ws = filter (is_from x) ws

abbrev pub bodies_of : Endpoint → List Body → List Body
bodies_of x bs = filter (λ b. is_same_endpoint x b.from) bs

abbrev pub parts_of : Endpoint → List Part → List Part
parts_of x ps = filter (λ p. is_same_endpoint x p.origin.from) ps

-- observers once these targets had new values
abbrev pub with_new_values : List ℕ → List Observer → List Observer
with_new_values [] ws = ws
with_new_values (t ∷ targets) ws = with_new_values targets (map (where_so (is_of_target t) marked) ws)

-- Observers once a moment did to them what is due, until nothing is: those of an endpoint that is given up are gone, and
-- one message after another was sent, whatever its message ID.
pub data DoesDue (now : ℕ) : List Observer → List Observer → Type 0 where
  none_is_due : (ws us : List Observer) → find (is_due now) ws ≡ None → find (is_sendable ws) ws ≡ None → us ≡ ws → DoesDue now ws us
  is_given_up : (from : Endpoint) (ws us : List Observer) → hopeless now ws ≡ Some from → DoesDue now (without (is_from from) ws) us → DoesDue now ws us
  is_sent : (id : ℕ) (n : Notice) (ws vs us : List Observer) → hopeless now ws ≡ None → Sends now id ws (Some n) vs → DoesDue now vs us → DoesDue now ws us

-- The bodies of an endpoint are as they were. Or 16 were kept when a body was put for which there was none, and the
-- oldest of all went.
pub data KeepsBodies (x : Endpoint) (old new : List Body) : Type 0 where
  all_stay : bodies_of x new ≡ bodies_of x old → KeepsBodies x old new
  oldest_goes : (b oldest : Body) (rest : List Body) → position (is_body_of b.from b.path) old ≡ None → length old ≡ most_bodies → old ≡ oldest ∷ rest
      → bodies_of x new ≡ bodies_of x rest → KeepsBodies x old new

-- The state of an endpoint once the targets had new values, at a moment. Its exchanges that live, with their replies, and its
-- parts that live are as they were; its observers are those that it would have if it were alone.
pub record LeavesEndpoint (x : Endpoint) (now : ℕ) (targets : List ℕ) (s t : Server) : Type 0 where
  pub exchanges : exchanges_of x (at_moment now t.exchanges).exchanges ≡ exchanges_of x (at_moment now s.exchanges).exchanges
  pub observers : DoesDue now (with_new_values targets (observers_of x s.observers.list)) (observers_of x t.observers.list)
  pub bodies : KeepsBodies x s.bodies t.bodies
  pub parts : parts_of x (living now t.parts) ≡ parts_of x (living now s.parts)

-- ---- the sentence

-- The state of all others once this came, and these targets had new values.
pub record LeavesOthers (w : What) (targets : List ℕ) (s t : State) : Type 0 where
  pub connections : (c : ℕ) → is_other (connection_of w) c ≡ true → IsLeft c t.moment (is_answered t.moment targets) s.http t.http
  pub waits : AreInOrder (waits_besides (connection_of w) s.http.waits) (waits_besides (connection_of w) t.http.waits)
  pub endpoints : (x : Endpoint) → is_elsewhere (endpoint_of w) x ≡ true → LeavesEndpoint x t.moment targets s.coap t.coap

-- "Neighbours don't matter": so it is of each event of each run.
abbrev pub NeighboursDoNotMatter : Type 0
NeighboursDoNotMatter =
    (site : Site) (exchanges : ℕ) (epoch : Option ℕ) (took : List EventWithBytes) (before seen : List Sighting) (e : EventWithBytes) (s t : State)
    → Run site took (start site exchanges epoch) before s → (step : EventAndStep site e s seen t)
    → LeavesOthers e.event.what (map (λ (x : Emission). x.target) (emitted_by site e.event.what e.bytes _ step.other.first step.other.mid step.other.one)) s t
