-- The dialogue on one connection of HTTP, over a whole run (RFC 9112, sections 9.2 and 9.3): each response that is sent on it
-- is the final one of the request that was taken from it last, and has that request's outcome; or it is a 100 for the
-- message at the front; or the one to a fault, which is the last.
use Rattle.std.specs.Prelude.{◌≡◌, ◌<◌, ◌⊎◌, ◌==◌, ℕ, ◌+◌, Bool, true, false, List, [], ◌∷◌, ◌++◌, drop, Option, Some, None, option_map}
use Rattle.thing_ops.specs.declared.outcome.Outcome.{Outcome}
use Rattle.thing_ops.specs.declared.outcome.Outcome.TheVariants as outcome
use Rattle.thing_ops.specs.Requests.{RequestSeen}
use Rattle.thing_core.specs.Thing.{Done}
use Rattle.http_wire.specs.Stream.{PlainHead, Front, message, IsFront}
use Rattle.http_wire.specs.Reading.{asked}
use Rattle.http_bind.specs.declared.owed.Owed.{Owed}
use Rattle.http_bind.specs.Replying.{is_head, reply, continue_reply, fault_reply}
use Rattle.http_bind.specs.Streams.{Connection, Streams, connection_at, is_waiting, expected, found, is_faulty, woken_by}
use Rattle.servient_outside.specs.declared.net.What.{What}
use Rattle.servient_outside.specs.declared.net.What.TheVariants as what
use Rattle.servient_outside.specs.declared.net.EventWithBytes.{EventWithBytes}
use Rattle.servient_outside.specs.declared.net.Act.{Act}
use Rattle.servient_outside.specs.declared.net.Act.TheVariants as act
use Rattle.servient_outside.specs.Network.{heard, did, broke}
use Rattle.servient_trace.specs.Trace.{Sighting, at_network, at_handler}
use Rattle.servient_core.specs.Machine.{Site, State, start, PerformsByHttp, Run}

-- ---- what is seen of a connection

abbrev pub is_event_of : ℕ → What → Bool
is_event_of c (what.Opened d) = c == d
is_event_of c (what.Bytes d count) = c == d
is_event_of c (what.Ended d) = c == d
is_event_of c (what.Datagram from count) = false
is_event_of c what.Tick = false
is_event_of c what.Stop = false

abbrev pub is_act_on : ℕ → Act → Bool
is_act_on c (act.Sent d bytes) = c == d
is_act_on c (act.Closed d) = c == d
is_act_on c (act.Datagram to bytes) = false
is_act_on c (act.Listened place) = false
is_act_on c (act.Dialled host port connection) = false
is_act_on c (act.Looked host port to) = false

abbrev pub is_of : ℕ → Sighting → Bool
is_of c (at_network (heard e)) = is_event_of c e.event.what
is_of c (at_network (did a)) = is_act_on c a
is_of c (at_network (broke call)) = false
is_of c (at_handler call) = false

abbrev pub sent : ℕ → List ℕ → Sighting
sent c bytes = at_network (did (act.Sent c bytes))

abbrev pub closed : ℕ → Sighting
closed c = at_network (did (act.Closed c))

-- ---- a dialogue

-- a request that has no final response yet: what is owed to it, and its outcome
pub record Pending : Type 0 where
  pub owed : Owed
  pub outcome : Outcome

-- An open connection: the bytes that came since it was opened, how many of them the messages that were taken have, whether
-- a 100 was sent for the message after them, and the request that is pending, if one is.
pub record Talk : Type 0 where
  pub stream : List ℕ
  pub taken : ℕ
  pub continued : Bool
  pub pending : Option Pending

abbrev pub new_talk : Talk
new_talk = record { stream = []; taken = 0; continued = false; pending = None }

-- the bytes after the messages that were taken
abbrev pub unread : Talk → List ℕ
unread x = drop x.taken x.stream

-- the outcome that the final response says: that of the request, or of one that waits that its target was emitted with a
-- text, or that it wasn't
abbrev pub IsFinal : Outcome → Outcome → Type 0
IsFinal of said = (said ≡ of) ⊎ ((target : ℕ) × (text : Option (List ℕ)) × (of ≡ outcome.Wait target) × (said ≡ woken_by text))

-- What was seen in a run so far, and a connection then, which is None where it isn't open.
pub data Dialogue (site : Site) (c : ℕ) : List Sighting → Option Talk → Type 0 where
  begins : Dialogue site c [] None
  -- what isn't of this connection changes nothing
  passes : (seen : List Sighting) (x : Sighting) (talk : Option Talk) → Dialogue site c seen talk → is_of c x ≡ false → Dialogue site c (seen ++ x ∷ []) talk
  -- it is opened, or opened anew
  is_opened : (seen : List Sighting) (e : EventWithBytes) (talk : Option Talk) → Dialogue site c seen talk → e.event.what ≡ what.Opened c
      → Dialogue site c (seen ++ at_network (heard e) ∷ []) (Some new_talk)
  -- its peer ended it
  has_ended : (seen : List Sighting) (e : EventWithBytes) (talk : Option Talk) → Dialogue site c seen talk → e.event.what ≡ what.Ended c
      → Dialogue site c (seen ++ at_network (heard e) ∷ []) None
  bytes_come : (seen : List Sighting) (e : EventWithBytes) (count : ℕ) (x : Talk) → Dialogue site c seen (Some x) → e.event.what ≡ what.Bytes c count
      → Dialogue site c (seen ++ at_network (heard e) ∷ []) (Some (record x { stream = x.stream ++ e.bytes }))
  -- bytes of a connection that isn't open are passed over
  bytes_are_late : (seen : List Sighting) (e : EventWithBytes) (count : ℕ) → Dialogue site c seen None → e.event.what ≡ what.Bytes c count
      → Dialogue site c (seen ++ at_network (heard e) ∷ []) None
  -- the message at the front asks for a 100, which is sent once
  continues : (seen : List Sighting) (x : Talk) (f : Front) → Dialogue site c seen (Some x) → x.pending ≡ None → IsFront (unread x) f → expected f ≡ true → x.continued ≡ false
      → Dialogue site c (seen ++ sent c continue_reply ∷ []) (Some (record x { continued = true }))
  -- the request at the front is taken and performed
  takes_request : (seen : List Sighting) (x : Talk) (head : PlainHead) (body : List ℕ) (used : ℕ) (expect : Bool) (q : RequestSeen) (done : Done) (m n : State) (calls : List Sighting)
      → Dialogue site c seen (Some x) → x.pending ≡ None → IsFront (unread x) (message head body used expect) → asked head body ≡ Some q → PerformsByHttp site q done m calls n
      → Dialogue site c (seen ++ calls)
      (Some (record x { taken = x.taken + used; continued = false; pending = Some (record { owed = record { bodiless = is_head q.verb; closes = head.close }; outcome = done.outcome }) }))
  -- its final response
  responds : (seen : List Sighting) (x : Talk) (p : Pending) (said : Outcome) (bytes : List ℕ) → Dialogue site c seen (Some x) → x.pending ≡ Some p → IsFinal p.outcome said
      → reply p.owed.bodiless false said ≡ Some bytes → p.owed.closes ≡ false → Dialogue site c (seen ++ sent c bytes ∷ []) (Some (record x { pending = None }))
  responds_last : (seen : List Sighting) (x : Talk) (p : Pending) (said : Outcome) (bytes : List ℕ) → Dialogue site c seen (Some x) → x.pending ≡ Some p → IsFinal p.outcome said
      → reply p.owed.bodiless true said ≡ Some bytes → p.owed.closes ≡ true → Dialogue site c (seen ++ sent c bytes ∷ closed c ∷ []) None
  -- a fault at the front
  refuses : (seen : List Sighting) (x : Talk) (f : Front) (status : ℕ) → Dialogue site c seen (Some x) → x.pending ≡ None → IsFront (unread x) f → found f ≡ Some (is_faulty status)
      → Dialogue site c (seen ++ sent c (fault_reply status) ∷ closed c ∷ []) None
  -- it is closed: bytes came behind a request that is pending, or nothing came for long
  is_closed : (seen : List Sighting) (x : Talk) → Dialogue site c seen (Some x) → Dialogue site c (seen ++ closed c ∷ []) None

-- ---- the sentence

-- the machine's connection is that of the dialogue
pub record IsTalk (x : Connection) (y : Talk) : Type 0 where
  pub stream : x.stream ≡ y.stream
  pub taken : x.taken ≡ y.taken
  pub continued : x.continued ≡ y.continued
  pub owed : x.owed ≡ option_map (λ p. p.owed) y.pending

abbrev pub AreSame : Option Connection → Option Talk → Type 0
AreSame None None = Unit {0}
AreSame None (Some y) = ⊥
AreSame (Some x) None = ⊥
AreSame (Some x) (Some y) = IsTalk x y

-- a request that is pending waits for a value of its target
abbrev pub PendingWaits : ℕ → Streams → Option Talk → Type 0
PendingWaits c h None = Unit {0}
PendingWaits c h (Some x) = (p : Pending) → x.pending ≡ Some p → (is_waiting c h.waits ≡ true) × (target : ℕ) × (p.outcome ≡ outcome.Wait target)

-- What was seen is a dialogue of this connection, which the state has as it is then; a request that has no final response
-- waits.
pub record Converses (site : Site) (c : ℕ) (seen : List Sighting) (s : State) : Type 0 where
  pub talk : Option Talk
  pub dialogue : Dialogue site c seen talk
  pub same : AreSame (connection_at c s.http) talk
  pub waits : PendingWaits c s.http talk

-- "Responses pair with requests": so it is of each of the 64 connections in each run.
abbrev pub ResponsesPairWithRequests : Type 0
ResponsesPairWithRequests =
    (site : Site) (exchanges : ℕ) (epoch : Option ℕ) (took : List EventWithBytes) (seen : List Sighting) (s : State) (c : ℕ)
    → c < 64 → Run site took (start site exchanges epoch) seen s → Converses site c seen s
