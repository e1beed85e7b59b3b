-- The connections of an HTTP server, each with its whole stream since its opening, and what is done with them
-- (RFC 9112, sections 9.3 and 9.6). Bytes come in any pieces; the messages of a stream are taken from its
-- front, one after another.
use Rattle.std.specs.Prelude.{◌≡◌, ◌≢◌, ◌==◌, ℕ, ◌+◌, ◌-◌, Bool, true, false, ◌&&◌, not, nat_le, List, [], ◌∷◌, ◌++◌, drop, filter, find, replicate, slice_index_or, slice_set, position, Option, Some, None, option_map, if◌then◌else◌}
use Rattle.std.specs.List.{list_any}
use Rattle.std.specs.Option.{is_none}
use Rattle.thing_ops.specs.declared.outcome.Outcome.{Outcome}
use Rattle.thing_ops.specs.declared.outcome.Outcome.TheVariants as outcome
use Rattle.thing_ops.specs.Requests.{RequestSeen}
use Rattle.http_wire.specs.Stream.{Front, short, message, fault, IsFront}
use Rattle.http_wire.specs.Reading.{asked}
use Rattle.http_bind.specs.declared.owed.Owed.{Owed}
use Rattle.http_bind.specs.declared.waits.Wait.{Wait}
use Rattle.http_bind.specs.Replying.{is_head, reply, continue_reply, fault_reply}

-- An open connection: all bytes that came since its opening; how many of them the messages taken so far have, with
-- the CR LF pairs that were skipped before those; whether the 100 reply to the message after them was sent; what is
-- owed to the request taken last (`Owed` of src/owed.rt), until it is replied to; and the moment of its last activity,
-- in milliseconds.
pub record Connection : Type 0 where
  pub stream : List ℕ
  pub taken : ℕ
  pub continued : Bool
  pub owed : Option Owed
  pub active : ℕ

-- The connections by their numbers, where None is one that isn't open; and the requests that wait (`Wait` of
-- src/waits.rt), the oldest first.
pub record Streams : Type 0 where
  pub places : List (Option Connection)
  pub waits : List Wait

-- 64 connections may be open; at first none is
abbrev pub none_open : Streams
none_open = record { places = replicate 64 None; waits = [] }

abbrev pub connection_at : ℕ → Streams → Option Connection
connection_at c s = slice_index_or s.places c None

abbrev pub with_connection : ℕ → Option Connection → Streams → Streams
with_connection c x s = record s { places = slice_set s.places c x }

-- ---- requests that wait

abbrev pub is_wait_of : ℕ → Wait → Bool
is_wait_of c w = c == w.connection

-- whether a connection is among those that wait
abbrev pub is_waiting : ℕ → List Wait → Bool
is_waiting c waits = list_any (is_wait_of c) waits

-- the waits of all other connections
abbrev pub other_waits : ℕ → List Wait → List Wait
other_waits c waits = filter (λ w. not (is_wait_of c w)) waits

-- a connection waits no longer, if it did
abbrev pub without_wait : ℕ → Streams → Streams
without_wait c s = record s { waits = other_waits c s.waits }

-- the connection of the oldest wait that passes a test
abbrev pub oldest : (Wait → Bool) → List Wait → Option ℕ
oldest test waits = option_map (λ w. w.connection) (find test waits)

-- the connection of the oldest wait of a target
abbrev pub oldest_for : ℕ → List Wait → Option ℕ
oldest_for target waits = oldest (λ w. w.target == target) waits

-- A request waits for at most 60 seconds. Moments may fall, and the difference stops at 0.
abbrev pub is_late : ℕ → Wait → Bool
is_late now w = nat_le 60000 (now - w.since)

-- the connection of the oldest wait of those that are late
abbrev pub oldest_late : ℕ → List Wait → Option ℕ
oldest_late now waits = oldest (is_late now) waits

-- ---- opening, ending, bytes

-- a connection that was opened at this moment
abbrev pub opened_at : ℕ → Connection
opened_at now = record { stream = []; taken = 0; continued = false; owed = None; active = now }

abbrev pub Opened : ℕ → ℕ → Streams → Streams → Type 0
Opened c now s t = t ≡ with_connection c (Some (opened_at now)) (without_wait c s)

-- the peer ended it, and nobody waits on it any more
abbrev pub Ended : ℕ → Streams → Streams → Type 0
Ended c s t = t ≡ with_connection c None (without_wait c s)

-- the server closes it
abbrev pub Closes : ℕ → Streams → Streams → Type 0
Closes c s t = t ≡ with_connection c None (without_wait c s)

abbrev pub lengthened : List ℕ → ℕ → Connection → Connection
lengthened piece now x = record x { stream = x.stream ++ piece; active = now }

-- bytes came; where the connection isn't open nothing happens
abbrev pub Lengthened : ℕ → List ℕ → ℕ → Streams → Streams → Type 0
Lengthened c piece now s t = t ≡ with_connection c (option_map (lengthened piece now) (connection_at c s)) s

-- ---- messages

-- A thing that is taken from a connection: a request; or that the message at the front asks for a 100 reply, which
-- wasn't sent yet (RFC 9110, section 10.1.1); or a fault with its status; or that bytes came behind a request that
-- isn't replied to yet.
pub data Taken : Type 0 where
  asks : (request : RequestSeen) → Taken
  wants_continue : Taken
  is_faulty : (status : ℕ) → Taken
  interrupts : Taken

-- the reading of a whole message: a target that isn't taken is a fault
abbrev pub read_as : Option RequestSeen → Taken
read_as (Some request) = asks request
read_as None = is_faulty 400

abbrev pub expected : Front → Bool
expected (short expect) = expect
expected (message head body used expect) = expect
expected (fault status expect) = expect

-- the thing at a front, apart from a 100 reply
abbrev pub found : Front → Option Taken
found (short expect) = None
found (message head body used expect) = Some (read_as (asked head body))
found (fault status expect) = Some (is_faulty status)

-- The thing that can be taken at a front, where the 100 reply was sent or wasn't. That reply goes out as soon as the
-- head is whole that asks for it, and once.
abbrev pub to_take : Bool → Front → Option Taken
to_take continued f = if expected f && not continued then Some wants_continue else found f

-- the number of bytes that a whole message takes, and whether it asks to close the connection
abbrev pub bytes_used : Front → ℕ
bytes_used (short expect) = 0
bytes_used (message head body used expect) = used
bytes_used (fault status expect) = 0

abbrev pub asks_to_close : Front → Bool
asks_to_close (short expect) = false
asks_to_close (message head body used expect) = head.close
asks_to_close (fault status expect) = false

-- the bytes after the messages taken
abbrev pub rest_of : Connection → List ℕ
rest_of x = drop x.taken x.stream

-- a connection after this was taken from its front; to a request a reply is owed
abbrev pub after_taking : Taken → Front → Connection → Connection
after_taking (asks request) f x =
    record x { taken = x.taken + bytes_used f; continued = false; owed = Some (record { bodiless = is_head request.verb; closes = asks_to_close f }) }
after_taking wants_continue f x = record x { continued = true }
after_taking (is_faulty status) f x = x
after_taking interrupts f x = x

-- One connection lets this be taken, and is so afterwards; None: it is given up. A connection that is owed a reply lets
-- no message be taken, and each byte behind the messages taken interrupts it, CR LF pairs too.
pub data LetsTake (taken : Taken) (x : Connection) (y : Option Connection) : Type 0 where
  takes_front : (f : Front) → x.owed ≡ None → IsFront (rest_of x) f → to_take x.continued f ≡ Some taken → y ≡ Some (after_taking taken f x) →
      LetsTake taken x y
  is_interrupted : (o : Owed) → x.owed ≡ Some o → rest_of x ≢ [] → taken ≡ interrupts → y ≡ None → LetsTake taken x y

-- this is taken from a connection, which waits no longer where it did
abbrev pub Takes : ℕ → Taken → Streams → Streams → Type 0
Takes c taken s t =
    (x : Connection) × (y : Option Connection) × (connection_at c s ≡ Some x) × LetsTake taken x y
    × (t ≡ with_connection c y (without_wait c s))

-- nothing can be taken from an open connection: its next message isn't whole; or a reply is owed, and no byte is behind
abbrev pub IsSpent : Option Owed → Connection → Type 0
IsSpent None x = (f : Front) × IsFront (rest_of x) f × (to_take x.continued f ≡ None)
IsSpent (Some o) x = rest_of x ≡ []

-- nothing can be taken; a connection that isn't open has nothing
abbrev pub HasNothing : Option Connection → Type 0
HasNothing None = Unit {0}
HasNothing (Some x) = IsSpent x.owed x

abbrev pub IsDry : ℕ → Streams → Type 0
IsDry c s = HasNothing (connection_at c s)

-- ---- replies

-- a connection after the reply to the request taken last
abbrev pub after_reply : Bool → ℕ → Connection → Option Connection
after_reply true now x = None
after_reply false now x = Some (record x { owed = None; active = now })

-- The outcome of the request taken last is replied with these bytes, and the connection is closed after them where that
-- request asked for it.
abbrev pub Replies : ℕ → Outcome → ℕ → List ℕ → Bool → Streams → Streams → Type 0
Replies c o now bytes closes s t =
    (x : Connection) × (owed : Owed) × (connection_at c s ≡ Some x) × (x.owed ≡ Some owed) × (closes ≡ owed.closes)
    × (reply owed.bodiless closes o ≡ Some bytes) × (t ≡ with_connection c (after_reply closes now x) (without_wait c s))

-- the request taken last waits for the next emission of a target, behind all that wait already
abbrev pub Waits : ℕ → ℕ → ℕ → Streams → Streams → Type 0
Waits c target now s t =
    (x : Connection) × (owed : Owed) × (connection_at c s ≡ Some x) × (x.owed ≡ Some owed)
    × (t ≡ record s { waits = other_waits c s.waits ++ record { connection = c; target = target; since = now } ∷ [] })

-- the target that an outcome waits for
abbrev pub waits_of : Outcome → Option ℕ
waits_of (outcome.Wait target) = Some target
waits_of o = None

-- a reply: its bytes, and whether its connection is closed after them
pub record HttpReply : Type 0 where
  pub bytes : List ℕ
  pub closes : Bool

-- The answer to the outcome of the request taken last: it waits, and nothing is sent; or it is replied with these
-- bytes, and the connection is closed after them or isn't.
pub data Answers (c : ℕ) (o : Outcome) (now : ℕ) (sent : Option HttpReply) (s t : Streams) : Type 0 where
  lets_wait : (target : ℕ) → o ≡ outcome.Wait target → Waits c target now s t → sent ≡ None → Answers c o now sent s t
  sends_reply : (bytes : List ℕ) (closes : Bool) → waits_of o ≡ None → Replies c o now bytes closes s t → sent ≡ Some (record { bytes = bytes; closes = closes }) → Answers c o now sent s t

-- the reply to a request that waits: the text that was emitted, or that there was none
abbrev pub woken_by : Option (List ℕ) → Outcome
woken_by (Some text) = outcome.Content text None
woken_by None = outcome.Empty

-- a request that waits is replied
abbrev pub Wakes : ℕ → Option (List ℕ) → ℕ → List ℕ → Bool → Streams → Streams → Type 0
Wakes c text now bytes closes s t = (is_waiting c s.waits ≡ true) × Replies c (woken_by text) now bytes closes s t

-- the 100 reply leaves the connections as they are
abbrev pub Continues : List ℕ → Streams → Streams → Type 0
Continues bytes s t = (bytes ≡ continue_reply) × (t ≡ s)

-- the reply to a fault is the last one of its connection
abbrev pub Refuses : ℕ → ℕ → List ℕ → Streams → Streams → Type 0
Refuses c status bytes s t = (bytes ≡ fault_reply status) × Closes c s t

-- ---- idle connections

-- No reply is owed, and the last activity was 120 seconds ago or longer. Moments may fall: the last activity is the
-- moment that was handed in last, and the difference stops at 0.
abbrev pub is_idle : ℕ → Option Connection → Bool
is_idle now None = false
is_idle now (Some x) = is_none x.owed && nat_le 120000 (now - x.active)

-- it is the lowest idle connection
abbrev pub IsIdle : ℕ → ℕ → Streams → Type 0
IsIdle c now s = position (is_idle now) s.places ≡ Some c

abbrev pub NoneIdle : ℕ → Streams → Type 0
NoneIdle now s = position (is_idle now) s.places ≡ None
