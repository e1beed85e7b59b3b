-- Each call of a device handler in a run belongs to a request that came, or polls an event: it is the next of the calls that
-- the request's act asks for, which its path and its verb lead to.
use Rattle.std.specs.Prelude.{◌≡◌, ◌⊎◌, ◌==◌, ℕ, ◌+◌, Bool, true, false, List, [], ◌∷◌, ◌++◌, map, Contains, Option, Some, if◌then◌else◌, max}
use Rattle.coap_msg.specs.declared.block.Block.{Block}
use Rattle.coap_msg.specs.declared.endpoint.Endpoint.{Endpoint}
use Rattle.coap_msg.specs.Grammar.{CoapMessage, Spells}
use Rattle.coap_opts.specs.Reading.{asked as what_is_asked}
use Rattle.coap_bind.specs.declared.blocks.BlockWish.TheVariants as wanted
use Rattle.coap_exchange.specs.Admission.{Arrival, admitted, verdict, admitted_among}
use Rattle.coap_bind.specs.Server.{is_request, arrival, wanted_in, with_whole_body}
use Rattle.wot_json.specs.Meaning.{json_of}
use Rattle.wot_json.specs.declared.tree.Tree.{Tree}
use Rattle.thing_ops.specs.Requests.{RequestSeen}
use Rattle.thing_handler.specs.declared.handler.CallKind.{CallKind}
use Rattle.thing_handler.specs.declared.handler.CallKind.TheVariants as call
use Rattle.thing_handler.specs.declared.handler.Answer.{Answer}
use Rattle.thing_handler.specs.declared.handler.Answer.TheVariants as answer
use Rattle.thing_handler.specs.Turns.{HandlerCall, answered, missed}
use Rattle.thing_site.specs.Site.{Placed, events_of}
use Rattle.thing_site.specs.declared.place.ThingAct.{ThingAct}
use Rattle.thing_site.specs.declared.place.ThingAct.TheVariants as act
use Rattle.thing_site.specs.Refusals.{Input, inputs_of}
use Rattle.thing_state.specs.State.{State as ThingState}
use Rattle.thing_state.specs.Calls.{IsTaken}
use Rattle.thing_core.specs.Refusals.{act_asked}
use Rattle.thing_core.specs.Thing.{IsHandedIn, readable}
use Rattle.http_wire.specs.Stream.{PlainHead, message, IsFront}
use Rattle.http_wire.specs.Reading.{asked}
use Rattle.servient_outside.specs.declared.net.What.TheVariants as what
use Rattle.servient_outside.specs.declared.net.EventWithBytes.{EventWithBytes}
use Rattle.servient_outside.specs.Network.{heard, did, broke, events_in}
use Rattle.servient_trace.specs.Trace.{Sighting, at_network, at_handler, happened_in}
use Rattle.servient_core.specs.Machine.{Site, State, start, Run}
use Rattle.servient_core.specs.Runs.{AreRequestsFrom}
use Rattle.servient_laws.specs.Dialogues.{Talk, Dialogue, unread}

-- ---- the calls of an act

-- a call that an act asks for
pub data AskedCall : Type 0 where
  reads : (p : Placed) → AskedCall
  writes : (input : Input) → AskedCall
  invokes : (p : Placed) (inputs : List Input) → AskedCall
  queries : (p : Placed) (id : ℕ) → AskedCall
  cancels : (p : Placed) (id : ℕ) → AskedCall

abbrev pub slot_of : AskedCall → ℕ
slot_of (reads p) = p.slot
slot_of (writes input) = input.affordance.slot
slot_of (invokes p inputs) = p.slot
slot_of (queries p id) = p.slot
slot_of (cancels p id) = p.slot

-- a handler is called so
abbrev pub IsCall : AskedCall → CallKind → Type 0
IsCall (reads p) made = made ≡ call.Read
IsCall (writes input) made = (tree : Tree) × (json_of tree ≡ input.value) × (made ≡ call.Write tree)
IsCall (invokes p inputs) made = (id : ℕ) × (handed : Option Tree) × IsHandedIn inputs handed × (made ≡ call.Invoke id handed)
IsCall (queries p id) made = made ≡ call.Query id
IsCall (cancels p id) made = made ≡ call.Cancel id

-- its answer lets the next call be made: a value that is taken, or that it was written
abbrev pub LetsGoOn : AskedCall → Answer → Type 0
LetsGoOn (reads p) given = (tree : Tree) × (given ≡ answer.Value tree) × IsTaken p.affordance.output (json_of tree)
LetsGoOn (writes input) given = given ≡ answer.Done
LetsGoOn (invokes p inputs) given = ⊥
LetsGoOn (queries p id) given = ⊥
LetsGoOn (cancels p id) given = ⊥

-- The calls that an act asks for, in order: the table of acts.
abbrev pub calls_of_act : ThingAct → List Input → List AskedCall
calls_of_act (act.Describes thing) inputs = []
calls_of_act (act.ReadsAll thing) inputs = map reads (readable thing)
calls_of_act (act.WritesMany thing) inputs = map writes inputs
calls_of_act (act.Reads p) inputs = reads p ∷ []
calls_of_act (act.Writes p) inputs = map writes inputs
calls_of_act (act.Invokes p) inputs = invokes p inputs ∷ []
calls_of_act (act.Queries p id) inputs = queries p id ∷ []
calls_of_act (act.Cancels p id) inputs = cancels p id ∷ []
calls_of_act (act.ReadsEvent p) inputs = []
calls_of_act (act.Waits p) inputs = []

-- These calls are the first of those, up to one that fails: a call after another is made only where that let it.
abbrev pub AreFirstOf : List AskedCall → List HandlerCall → Type 0
AreFirstOf asked [] = Unit {0}
AreFirstOf [] (c ∷ calls) = ⊥
AreFirstOf (a ∷ asked) (missed slot ∷ calls) = (slot ≡ slot_of a) × (calls ≡ [])
AreFirstOf (a ∷ asked) (answered turn ∷ calls) =
    (turn.slot ≡ slot_of a) × IsCall a turn.what × ((calls ≡ []) ⊎ (LetsGoOn a turn.answer × AreFirstOf asked calls))

-- The calls of a request to the Things: none, or the first of those of its act.
pub data AreCallsOf (site : Site) (q : RequestSeen) (calls : List HandlerCall) : Type 0 where
  makes_none : calls ≡ [] → AreCallsOf site q calls
  makes_some : (s : ThingState) (does : ThingAct) (inputs : List Input) → act_asked (record { site = site; state = s; request = q }) ≡ Some does → inputs_of does q.body ≡ Some inputs
      → AreFirstOf (calls_of_act does inputs) calls → AreCallsOf site q calls

-- ---- polls

-- one event affordance is polled, or its handler was out of memory
abbrev pub ArePollOf : Placed → List HandlerCall → Type 0
ArePollOf p [] = Unit {0}
ArePollOf p (missed slot ∷ calls) = (slot ≡ p.slot) × (calls ≡ [])
ArePollOf p (answered turn ∷ calls) = (turn.slot ≡ p.slot) × (turn.what ≡ call.Poll) × (calls ≡ [])

-- this is the event that was heard last
abbrev pub is_heard : Sighting → Bool
is_heard (at_network (heard e)) = true
is_heard (at_network (did a)) = false
is_heard (at_network (broke call)) = false
is_heard (at_handler c) = false

abbrev pub NoneHeard : List Sighting → Type 0
NoneHeard [] = Unit {0}
NoneHeard (x ∷ seen) = (is_heard x ≡ false) × NoneHeard seen

pub record IsHeardLast (e : EventWithBytes) (seen : List Sighting) : Type 0 where
  pub before : List Sighting
  pub later : List Sighting
  pub whole : seen ≡ before ++ at_network (heard e) ∷ later
  pub none : NoneHeard later

-- ---- requests

-- The request of a message by CoAP: as it is, or with the body that its blocks make, of which it brings the last.
pub data IsRequestOf (m : CoapMessage) (q : RequestSeen) : Type 0 where
  as_it_is : q ≡ (what_is_asked m).request → IsRequestOf m q
  with_blocks : (b : Block) (body : List ℕ) → wanted_in m ≡ wanted.Joining b → q ≡ (with_whole_body body (what_is_asked m)).request → IsRequestOf m q

-- the moment of the machine after these events: the greatest that one of them had, from this one on
abbrev pub moment_after : ℕ → List EventWithBytes → ℕ
moment_after moment [] = moment
moment_after moment (e ∷ events) = moment_after (max moment e.event.moment) events

-- By all requests that came in what was seen and where n exchanges may live, this one that comes in an event is admitted
-- (coap_exchange/specs/Admission.antt): so it is no duplicate.
pub record IsAdmitted (exchanges : ℕ) (seen : List Sighting) (e : EventWithBytes) (from : Endpoint) (m : CoapMessage) : Type 0 where
  pub history : List Arrival
  pub requests : AreRequestsFrom 0 (events_in (happened_in seen)) history
  pub verdict_is : verdict exchanges (admitted_among exchanges history) (arrival from (max (moment_after 0 (events_in (happened_in seen))) e.event.moment) m) ≡ admitted

-- a sighting of a call
abbrev pub is_call : Sighting → Bool
is_call (at_handler c) = true
is_call (at_network happening) = false

-- so much of the stream of this connection, and of each other one as before
abbrev pub updated : (ℕ → ℕ) → ℕ → ℕ → ℕ → ℕ
updated used c n d = if d == c then n else used d

-- What was seen in a run so far: each call polls, or is one of a request that came. `used` is how many bytes of each
-- connection's stream the messages have whose requests were counted, so that each counts once.
pub data CallsCome (site : Site) (exchanges : ℕ) : List Sighting → (ℕ → ℕ) → Type 0 where
  none_yet : (used : ℕ → ℕ) → CallsCome site exchanges [] used
  no_call : (seen : List Sighting) (x : Sighting) (used : ℕ → ℕ) → CallsCome site exchanges seen used → is_call x ≡ false → CallsCome site exchanges (seen ++ x ∷ []) used
  -- a connection is opened, or opened anew, and its stream begins
  begins_anew : (seen : List Sighting) (e : EventWithBytes) (c : ℕ) (used : ℕ → ℕ) → CallsCome site exchanges seen used → e.event.what ≡ what.Opened c
      → CallsCome site exchanges (seen ++ at_network (heard e) ∷ []) (updated used c 0)
  -- a tick came last, and an event affordance is polled
  is_poll : (seen : List Sighting) (e : EventWithBytes) (p : Placed) (calls : List HandlerCall) (used : ℕ → ℕ) → CallsCome site exchanges seen used → IsHeardLast e seen → e.event.what ≡ what.Tick
      → Contains (events_of site.things) p → ArePollOf p calls → CallsCome site exchanges (seen ++ map at_handler calls) used
  -- a datagram came just now, which is a request that is admitted
  by_datagram : (seen : List Sighting) (e : EventWithBytes) (from : Endpoint) (count : ℕ) (m : CoapMessage) (q : RequestSeen) (calls : List HandlerCall) (used : ℕ → ℕ)
      → CallsCome site exchanges (seen ++ at_network (heard e) ∷ []) used → e.event.what ≡ what.Datagram from count → Spells m e.bytes → is_request m ≡ true → IsAdmitted exchanges seen e from m → IsRequestOf m q
      → AreCallsOf site q calls → CallsCome site exchanges ((seen ++ at_network (heard e) ∷ []) ++ map at_handler calls) used
  -- the message at the front of what isn't read of a connection's stream is a request, which is taken
  by_message : (seen : List Sighting) (c : ℕ) (x : Talk) (head : PlainHead) (body : List ℕ) (size : ℕ) (expect : Bool) (q : RequestSeen) (calls : List HandlerCall) (used : ℕ → ℕ)
      → CallsCome site exchanges seen used → Dialogue site c seen (Some x) → x.taken ≡ used c → IsFront (unread x) (message head body size expect) → asked head body ≡ Some q → AreCallsOf site q calls
      → CallsCome site exchanges (seen ++ map at_handler calls) (updated used c (x.taken + size))

-- "Calls have their request": so it is of each run.
abbrev pub CallsHaveRequests : Type 0
CallsHaveRequests =
    (site : Site) (exchanges : ℕ) (epoch : Option ℕ) (took : List EventWithBytes) (seen : List Sighting) (s : State)
    → Run site took (start site exchanges epoch) seen s → (used : ℕ → ℕ) × CallsCome site exchanges seen used
