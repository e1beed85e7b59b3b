-- The requests of a whole stream, one after another, and those that are taken from a connection while its stream comes
-- in pieces (RFC 9112, section 9.3).
use Rattle.std.specs.Prelude.{◌≡◌, ℕ, ◌+◌, List, [], ◌∷◌, ◌++◌, drop, Option, Some, None}
use Rattle.thing_ops.specs.Requests.{RequestSeen}
use Rattle.http_wire.specs.Stream.{Front, IsFront}
use Rattle.http_bind.specs.Streams.{Connection, opened_at, lengthened, LetsTake, HasNothing, Taken, asks, wants_continue, is_faulty, interrupts, found, bytes_used}

-- a whole message at the front asks for this, and has n bytes
abbrev pub IsFirst : List ℕ → RequestSeen → ℕ → Type 0
IsFirst bytes request used = (f : Front) × IsFront bytes f × (found f ≡ Some (asks request)) × (bytes_used f ≡ used)

-- these are the first requests, and their messages have n bytes
abbrev pub AreFirst : List ℕ → List RequestSeen → ℕ → Type 0
AreFirst bytes [] n = n ≡ 0
AreFirst bytes (request ∷ requests) n =
    (used : ℕ) × (behind : ℕ) × IsFirst bytes request used × AreFirst (drop used bytes) requests behind × (n ≡ used + behind)

-- the finding is no request
abbrev pub IsNoRequest : Option Taken → Type 0
IsNoRequest None = Unit {0}
IsNoRequest (Some (asks request)) = ⊥
IsNoRequest (Some wants_continue) = Unit {0}
IsNoRequest (Some (is_faulty status)) = Unit {0}
IsNoRequest (Some interrupts) = Unit {0}

-- a message that isn't whole, or a fault, is at the front
abbrev pub EndsThere : List ℕ → Type 0
EndsThere bytes = (f : Front) × IsFront bytes f × IsNoRequest (found f)

-- The requests of a stream, from its front up to a message that isn't whole or a fault.
abbrev pub AreRequests : List ℕ → List RequestSeen → Type 0
AreRequests bytes requests = (n : ℕ) × AreFirst bytes requests n × EndsThere (drop n bytes)

-- The history of one connection since its opening, and the requests that were taken from it, in their order. One that
-- waits and is woken is replied to once, and one that is interrupted is gone.
pub data HasTaken : Connection → List RequestSeen → Type 0 where
  at_opening : (now : ℕ) → HasTaken (opened_at now) []
  with_piece : (x : Connection) (requests : List RequestSeen) (piece : List ℕ) (now : ℕ) → HasTaken x requests →
      HasTaken (lengthened piece now x) requests
  with_request : (x y : Connection) (requests : List RequestSeen) (request : RequestSeen) → HasTaken x requests →
      LetsTake (asks request) x (Some y) → HasTaken y (requests ++ request ∷ [])
  with_continue : (x y : Connection) (requests : List RequestSeen) → HasTaken x requests → LetsTake wants_continue x (Some y) → HasTaken y requests
  with_fault : (x y : Connection) (requests : List RequestSeen) (status : ℕ) → HasTaken x requests → LetsTake (is_faulty status) x (Some y) → HasTaken y requests
  with_reply : (x : Connection) (requests : List RequestSeen) (now : ℕ) → HasTaken x requests → HasTaken (record x { owed = None; active = now }) requests

-- The requests taken from a connection are the first of its stream.
abbrev pub TakesTheFirst : Type 0
TakesTheFirst = (x : Connection) (requests : List RequestSeen) → HasTaken x requests → AreFirst x.stream requests x.taken

-- Where nothing is left to take they are all requests of the stream.
abbrev pub TakesAll : Type 0
TakesAll = (x : Connection) (requests : List RequestSeen) → HasTaken x requests → HasNothing (Some x) → AreRequests x.stream requests

-- A stream has one list of requests, so that the pieces in which it comes are nothing to them.
abbrev pub HasOneList : Type 0
HasOneList = (bytes : List ℕ) (ps qs : List RequestSeen) → AreRequests bytes ps → AreRequests bytes qs → ps ≡ qs
