-- The meaning of an operation doesn't depend on the binding by which it is asked for.
use Rattle.std.specs.Prelude.{◌≡◌, ◌⊎◌, ℕ, List, [], Bool, true, false}
use Rattle.servient_base.specs.Moves.{Then}
use Rattle.coap_msg.specs.declared.endpoint.Endpoint.{Endpoint}
use Rattle.thing_ops.specs.declared.outcome.Outcome.{Outcome}
use Rattle.thing_ops.specs.declared.outcome.Outcome.TheVariants as outcome
use Rattle.thing_ops.specs.Requests.{RequestSeen}
use Rattle.thing_ops.specs.Routes.{route_of}
use Rattle.thing_handler.specs.declared.handler.Answer.{Answer}
use Rattle.thing_core.specs.Thing.{Done}
use Rattle.thing_core.specs.Determined.{AreAnsweredBy, HadMemory}
use Rattle.directory_requests.specs.Asked.{is_of_directory}
use Rattle.directory_requests.specs.Requests.{DirectoryActs}
use Rattle.coap_opts.specs.Reading.{AskSeen}
use Rattle.coap_bind.specs.declared.pending.PendingReply.{PendingReply}
use Rattle.coap_bind.specs.Server.{asked}
use Rattle.http_bind.specs.Streams.{asks}
use Rattle.servient_trace.specs.Trace.{Sighting, calls_in}
use Rattle.servient_core.specs.Machine.{Site, State, Move, Performs, PerformsByHttp, AnswersAsk, AnswersDatagram, AnswersMessage, AnswersTaken, DeliversEach}

-- A message that was read as a request: by CoAP from an endpoint, where it asks for this and has to be answered, or by
-- HTTP on a connection. A CoAP message for the links is none, since it is answered at once and asks for nothing: so
-- what follows isn't said of that path.
pub data Message : Type 0 where
  by_coap : Endpoint → AskSeen → PendingReply → Message
  by_http : ℕ → RequestSeen → Message

-- the request as which it was read
abbrev pub request_of : Message → RequestSeen
request_of (by_coap from ask request) = ask.request
request_of (by_http c q) = q

-- the move of the machine on it
abbrev pub Handled : Site → Message → Move
Handled site (by_coap from ask request) = AnswersDatagram site from (asked ask request)
Handled site (by_http c q) = AnswersTaken site c (asks q)

-- its outcome is written as its binding writes that, and sent
abbrev pub Writes : Site → Message → Done → Move
Writes site (by_coap from ask request) done = AnswersAsk site from ask request done
Writes site (by_http c q) done = AnswersMessage c done

-- its request is performed, and by HTTP that may be one to the directory
abbrev pub PerformsMessage : Site → Message → Done → Move
PerformsMessage site (by_coap from ask request) done = Performs site ask.request done
PerformsMessage site (by_http c q) done = PerformsByHttp site q done

-- the request is performed, has this outcome, that is written and sent, and what was emitted is delivered by both
-- bindings
abbrev pub ComesTo : Site → Message → Done → Move
ComesTo site m done = Then (PerformsMessage site m done) (Then (Writes site m done) (DeliversEach done.emissions))

-- the path of its request is one of the directory's
abbrev pub asks_directory : Message → Bool
asks_directory m = is_of_directory (route_of (request_of m).path)

-- All that the machine does with a message: its request has some outcome, and that is what is written.
abbrev pub IsWritten : Site → Message → Type 0
IsWritten site m = (s t : State) (seen : List Sighting) → Handled site m s seen t → (done : Done) × ComesTo site m done s seen t

-- Two messages, of either binding, are read as the same request, which isn't one to the directory. Where the Things are
-- in the same state, the handlers give the same answers, and nothing is out of memory, they have the same calls, the
-- same outcome and the same emissions, and leave the Things in the same state.
abbrev pub HaveOneMeaning : Site → Message → Message → Type 0
HaveOneMeaning site m n =
    (answers : ℕ → Answer) (done other : Done) (s t r u : State) (seen shown : List Sighting)
    → request_of m ≡ request_of n → asks_directory m ≡ false → s.thing ≡ r.thing → ComesTo site m done s seen t → ComesTo site n other r shown u
    → AreAnsweredBy answers (calls_in seen) → AreAnsweredBy answers (calls_in shown) → HadMemory done → HadMemory other
    → (calls_in seen ≡ calls_in shown) × (done ≡ other) × (t.thing ≡ u.thing)

-- ---- the directory

-- A request to the directory that comes by HTTP changes the directory as that does it at the machine's moment, calls no
-- handler and leaves the Things as they are.
abbrev pub AsksDirectoryAlone : Site → ℕ → RequestSeen → Type 0
AsksDirectoryAlone site c q =
    (s t : State) (seen : List Sighting) → asks_directory (by_http c q) ≡ true → Handled site (by_http c q) s seen t
    → (o : Outcome) × DirectoryActs q s.moment o s.directory t.directory × (calls_in seen ≡ []) × (t.thing ≡ s.thing)

-- One that comes by CoAP finds nothing there, and leaves the directory as it is.
abbrev pub FindsNoDirectory : Site → Endpoint → AskSeen → PendingReply → Type 0
FindsNoDirectory site from ask request =
    (done : Done) (s t : State) (seen : List Sighting) → asks_directory (by_coap from ask request) ≡ true → ComesTo site (by_coap from ask request) done s seen t
    → ((done.outcome ≡ outcome.NotFound) ⊎ (done.outcome ≡ outcome.Memory)) × (t.directory ≡ s.directory)
