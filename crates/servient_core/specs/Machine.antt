-- The servient as one abstract machine: what it does to the network and which calls it makes of device handlers, event
-- by event. It knows no byte of a message, no exchange and no affordance: the layers that it names say what these mean,
-- so that what a layer does may change without a change of this page. A move relates the state before it, the list of
-- what is seen of it in order, and the state after it; `Becomes`, `Stays`, `Then`, `Passing`, `Each` and `Until` put
-- moves together (servient_base/specs/Moves.antt). A run is the last definition: each event that comes is followed by
-- its step. A reader may go on after the imports, which only say where each word of a layer stands.

use Rattle.std.specs.Prelude.{◌≡◌, ℕ, ◌<◌, ◌≤◌, ◌⊎◌, max, Option, Some, None, unwrap_or, List, [], ◌∷◌, map, length, Bool, true, false, if◌then◌else◌}
use Rattle.servient_base.specs.Moves.{Becomes, Stays, Then, Passing, Each, Until}
use Rattle.coap_msg.specs.declared.constants.TheConstants.{LONGEST_DATAGRAM}
use Rattle.coap_msg.specs.declared.endpoint.Endpoint.{Endpoint}
use Rattle.coap_msg.specs.Grammar.{spelling}
use Rattle.thing_ops.specs.Requests.{RequestSeen}
use Rattle.thing_ops.specs.Routes.{route_of}
use Rattle.thing_handler.specs.Turns.{HandlerCall}
use Rattle.thing_site.specs.Site.{Placed, Site as Things, events_of}
use Rattle.thing_state.specs.State.{State as ThingState, Emission, last_of, start as no_request_yet}
use Rattle.thing_state.specs.Calls.{Move as ThingMove}
use Rattle.thing_core.specs.Thing.{Done, Acts, PollsEvent}
use Rattle.thing_state.specs.Places.{target_of}
use Rattle.directory_requests.specs.Asked.{is_of_directory}
use Rattle.directory_requests.specs.declared.server.ServedEntries.{ServedEntries}
use Rattle.directory_requests.specs.Requests.{no_entries, DirectoryActs}
use Rattle.coap_observe.specs.declared.notice.Notice.{Notice}
use Rattle.coap_opts.specs.Reading.{AskSeen}
use Rattle.coap_bind.specs.declared.pending.PendingReply.{PendingReply}
use Rattle.coap_bind.specs.declared.server.Server.{Server}
use Rattle.servient_core.specs.declared.capacity.TheConstants.{MOST_WATCHERS}
use Rattle.coap_bind.specs.Server.{start as nothing_came, Heard, ignored, answered_at_once, asked, Hears, Answers, with_emitted, with_links, SendsNext}
use Rattle.coap_bind.specs.Writing.{notification}
use Rattle.http_bind.specs.Streams.{HttpReply, Streams, none_open, Taken, asks, wants_continue, is_faulty, interrupts, Opened, Ended, Lengthened, Takes, IsDry, Answers as AnswersRequest, Wakes, Continues, Refuses, Closes, oldest_for, oldest_late, IsIdle, NoneIdle}
use Rattle.servient_outside.specs.declared.net.What.{What}
use Rattle.servient_outside.specs.declared.net.What.TheVariants as what
use Rattle.servient_outside.specs.declared.net.EventWithBytes.{EventWithBytes}
use Rattle.servient_outside.specs.declared.net.Act.{Act}
use Rattle.servient_outside.specs.declared.net.Act.TheVariants as act
use Rattle.servient_outside.specs.Network.{heard, did}
use Rattle.servient_trace.specs.Trace.{Sighting, at_network, at_handler}
use Rattle.servient_core.specs.Links.{segments_of, text_of_links}

-- ---- the state

-- The constants of a run, which are no part of the state: the Things, each affordance with the slot of its handler, and
-- the versions of properties that the run leaves out.
abbrev pub Site : Type 0
Site = Things

-- The greatest moment so far in milliseconds; the connections with their whole streams and the requests that wait; the
-- CoAP server with its exchanges, its observers and the id of its next message; the state of the Things that isn't
-- their devices'; the directory's entries, with times where it is known when the clock began.
pub record State : Type 0 where
  pub moment : ℕ
  pub http : Streams
  pub coap : Server
  pub thing : ThingState
  pub directory : ServedEntries

-- before the first event, where so many exchanges may live, of a clock that began at this epoch, if that is known
abbrev pub start : Site → ℕ → Option ℕ → State
start site exchanges epoch = record { moment = 0; http = none_open; coap = with_links (text_of_links (segments_of site)) (nothing_came exchanges MOST_WATCHERS); thing = no_request_yet site; directory = no_entries epoch }

abbrev pub Move : Type 1
Move = State → List Sighting → State → Type 0

-- ---- moves of one part, and what is done to the network

-- the connections change, or the CoAP server does, at the machine's moment
abbrev pub OnHttp : (ℕ → Streams → Streams → Type 0) → Move
OnHttp Change before seen after = (changed : Streams) × Change before.moment before.http changed × Becomes (record before { http = changed }) [] seen after

abbrev pub OnCoap : (ℕ → Server → Server → Type 0) → Move
OnCoap Change before seen after = (changed : Server) × Change before.moment before.coap changed × Becomes (record before { coap = changed }) [] seen after

-- a move of the Thing machine, of which calls of handlers are seen
abbrev pub OnThing : ThingMove → Move
OnThing move before seen after =
    (changed : ThingState) × (calls : List HandlerCall) × move before.thing calls changed × Becomes (record before { thing = changed }) (map at_handler calls) seen after

-- this is done to the network
abbrev pub Does : List Act → Move
Does acts before = Becomes before (map (λ it. at_network (did it)) acts)

-- a reply is one act, and one that closes is followed by the close
abbrev pub acts_of_reply : ℕ → HttpReply → List Act
acts_of_reply connection reply = act.Sent connection reply.bytes ∷ (if reply.closes then act.Closed connection ∷ [] else [])

abbrev pub Sends : ℕ → HttpReply → Move
Sends connection reply = Does (acts_of_reply connection reply)

-- a request that waits has no reply yet
abbrev pub SendsIfAny : ℕ → Option HttpReply → Move
SendsIfAny connection None before seen after = Stays before seen after
SendsIfAny connection (Some reply) before seen after = Sends connection reply before seen after

-- ---- new values (RFC 7641 for CoAP; TD 1.1's long polls for HTTP)

-- a connection that waits is replied to, with a value or with none
abbrev pub RepliesToWait : ℕ → Option (List ℕ) → Move
RepliesToWait connection text = Passing (λ (reply : HttpReply). OnHttp (λ now. Wakes connection text now reply.bytes reply.closes)) (Sends connection)

-- the oldest that waits for a target gets its last value
abbrev pub AnswersWait : ℕ → Move
AnswersWait target before seen after = (connection : ℕ) × (oldest_for target before.http.waits ≡ Some connection) × RepliesToWait connection (last_of target before.thing.last) before seen after

-- the observers of a target are to be notified
abbrev pub MarksObservers : ℕ → Move
MarksObservers target = OnCoap (λ now before after. after ≡ with_emitted target before)

-- A target has a new value: all that wait for it get it, the oldest first, and its observers are to be notified.
abbrev pub Delivers : ℕ → Move
Delivers target = Then (Until (AnswersWait target) (λ state. oldest_for target state.http.waits ≡ None)) (MarksObservers target)

-- emissions are delivered, in order
abbrev pub DeliversEach : List Emission → Move
DeliversEach emissions = Each Delivers (map (λ emission. emission.target) emissions)

-- a request is performed, whichever way it came
abbrev pub Performs : Site → RequestSeen → Done → Move
Performs site request done = OnThing (Acts site request done)

-- one to the directory (WoT Discovery, "Things API", in outline), which calls no handler and emits nothing
abbrev pub PerformsOnDirectory : RequestSeen → Done → Move
PerformsOnDirectory request done before seen after =
    (changed : ServedEntries) × DirectoryActs request before.moment done.outcome before.directory changed × (done.emissions ≡ []) × Becomes (record before { directory = changed }) [] seen after

-- The directory is reached by HTTP alone: by its paths, which lead to no Thing.
abbrev pub PerformsByHttp : Site → RequestSeen → Done → Move
PerformsByHttp site request done before seen after =
    ((is_of_directory (route_of request.path) ≡ true) × PerformsOnDirectory request done before seen after)
    ⊎ ((is_of_directory (route_of request.path) ≡ false) × Performs site request done before seen after)

-- ---- CoAP (RFC 7252): a datagram is heard, and where it asks for something it is answered, once

-- the target that a request with Observe may observe: that of its path, if it is the path of one
abbrev pub observed_target : Site → ThingState → AskSeen → Option ℕ
observed_target site thing ask = elim ask.observe as (λ _. Option ℕ) [ None ↦ None | Some n ↦ target_of ask.request.path site thing.invocations ]

-- a request is answered by this outcome
abbrev pub AnswersAsk : Site → Endpoint → AskSeen → PendingReply → Done → Move
AnswersAsk site from ask pending done before =
    Passing (λ bytes. OnCoap (λ now. Answers pending done.outcome (observed_target site before.thing ask) bytes)) (λ bytes. Does (act.Datagram from bytes ∷ [])) before

-- the answer to a datagram from this endpoint: a request is performed, answered, and its emissions are delivered
abbrev pub AnswersDatagram : Site → Endpoint → Heard → Move
AnswersDatagram site from ignored before seen after = Stays before seen after
AnswersDatagram site from (answered_at_once bytes) before seen after = Does (act.Datagram from bytes ∷ []) before seen after
AnswersDatagram site from (asked ask pending) before seen after =
    Passing (Performs site ask.request) (λ done. Then (AnswersAsk site from ask pending done) (DeliversEach done.emissions)) before seen after

-- a datagram is longer than one that is looked at and nothing is done, or it is heard
abbrev pub HearsDatagram : Site → Endpoint → List ℕ → Move
HearsDatagram site from bytes before seen after =
    (LONGEST_DATAGRAM < length bytes × Stays before seen after)
    ⊎ (length bytes ≤ LONGEST_DATAGRAM × Passing (λ what_is. OnCoap (λ now. Hears from bytes now what_is)) (AnswersDatagram site from) before seen after)

-- ---- HTTP (RFC 9112): the messages of a stream that weren't taken yet, one after another

-- the request that was taken last is answered by this outcome: its reply is sent, or it waits
abbrev pub AnswersMessage : ℕ → Done → Move
AnswersMessage connection done = Passing (λ reply. OnHttp (λ now. AnswersRequest connection done.outcome now reply)) (SendsIfAny connection)

-- the effect of taking this from a connection
abbrev pub AnswersTaken : Site → ℕ → Taken → Move
AnswersTaken site connection (asks request) before seen after =
    Passing (PerformsByHttp site request) (λ done. Then (AnswersMessage connection done) (DeliversEach done.emissions)) before seen after
AnswersTaken site connection wants_continue before seen after =
    Passing (λ bytes. OnHttp (λ now. Continues bytes)) (λ bytes. Sends connection (record { bytes = bytes; closes = false })) before seen after
AnswersTaken site connection (is_faulty status) before seen after =
    Passing (λ bytes. OnHttp (λ now. Refuses connection status bytes)) (λ bytes. Sends connection (record { bytes = bytes; closes = true })) before seen after
AnswersTaken site connection interrupts before seen after = Does (act.Closed connection ∷ []) before seen after

-- something is taken from a connection, and answered
abbrev pub TakesNextMessage : Site → ℕ → Move
TakesNextMessage site connection = Passing (λ taken. OnHttp (λ now. Takes connection taken)) (AnswersTaken site connection)

-- one after another is, until nothing is left to take
abbrev pub TakesEveryMessage : Site → ℕ → Move
TakesEveryMessage site connection = Until (TakesNextMessage site connection) (λ state. IsDry connection state.http)

-- bytes come, and the messages that are whole now are taken
abbrev pub HearsPiece : Site → ℕ → List ℕ → Move
HearsPiece site connection bytes = Then (OnHttp (Lengthened connection bytes)) (TakesEveryMessage site connection)

-- ---- the end of each event

-- the bytes of a notification, which says the last value of its target
abbrev pub notification_bytes : Notice → ThingState → List ℕ
notification_bytes notice thing = spelling (notification notice (unwrap_or (last_of notice.target thing.last) []))

-- the next notification to an observer is sent
abbrev pub SendsNotification : Move
SendsNotification before =
    Passing (λ notice. OnCoap (λ now. SendsNext now (Some notice))) (λ notice. Does (act.Datagram notice.to (notification_bytes notice before.thing) ∷ [])) before

-- nothing is to be sent
abbrev pub NothingIsDue : State → Type 0
NothingIsDue state = (changed : Server) × SendsNext state.moment None state.coap changed

-- one after another, until none is to be sent; observers that are given up are gone then
abbrev pub SendsNotifications : Move
SendsNotifications = Then (Until SendsNotification NothingIsDue) (OnCoap (λ now. SendsNext now None))

-- the oldest that waited too long is told that nothing came
abbrev pub AnswersLateWait : Move
AnswersLateWait before seen after = (connection : ℕ) × (oldest_late before.moment before.http.waits ≡ Some connection) × RepliesToWait connection None before seen after

-- the lowest connection that is idle is closed
abbrev pub ClosesIdle : Move
ClosesIdle = Passing (λ lowest. OnHttp (λ now before after. IsIdle lowest now before × Closes lowest before after)) (λ lowest. Does (act.Closed lowest ∷ []))

-- Notifications go out, then requests that waited too long are answered until none is late, the oldest first, and then
-- connections are closed until none is idle.
abbrev pub EndsEvent : Move
EndsEvent = Then SendsNotifications (Then (Until AnswersLateWait (λ state. oldest_late state.moment state.http.waits ≡ None)) (Until ClosesIdle (λ state. NoneIdle state.moment state.http)))

-- ---- events

-- an event affordance is polled, and what it emits is delivered
abbrev pub PollsAndDelivers : Placed → Move
PollsAndDelivers affordance = Passing (λ emissions. OnThing (PollsEvent affordance emissions)) DeliversEach

-- The effect of this, when it comes, at the machine's moment. On a tick all event affordances are polled, one after
-- another; the end of the run does nothing more.
abbrev pub Follows : Site → What → List ℕ → Move
Follows site (what.Opened connection) bytes before seen after = OnHttp (Opened connection) before seen after
Follows site (what.Bytes connection size) bytes before seen after = HearsPiece site connection bytes before seen after
Follows site (what.Ended connection) bytes before seen after = OnHttp (λ now. Ended connection) before seen after
Follows site (what.Datagram from size) bytes before seen after = HearsDatagram site from bytes before seen after
Follows site what.Tick bytes before seen after = Each PollsAndDelivers (events_of site.things) before seen after
Follows site what.Stop bytes before seen after = Stays before seen after

-- One event: the machine's moment becomes the greater of itself and the event's, then comes what follows, then its end.
abbrev pub Step : Site → EventWithBytes → Move
Step site it before = Then (Follows site it.event.what it.bytes) EndsEvent (record before { moment = max before.moment it.event.moment })

-- an event comes, and then the step on it is made, before another event comes
abbrev pub EventAndStep : Site → EventWithBytes → Move
EventAndStep site it = Then (λ before. Becomes before (at_network (heard it) ∷ [])) (Step site it)

-- A run: one event after another is taken.
abbrev pub Run : Site → List EventWithBytes → Move
Run site = Each (EventAndStep site)
