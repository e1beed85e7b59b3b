-- The requests that a server admits (RFC 7252, sections 4.2, 4.5 and 4.8.2): none that duplicates an admitted one whose
-- message ID may still be in use. It is said of the whole history, because RFC 7252 speaks of that; a law ties the
-- table to it.
use Rattle.std.specs.Prelude.{◌==◌, ◌&&◌, ◌-◌, ℕ, nat_lt, Bool, List, [], ◌∷◌, ◌++◌, length, filter, if◌then◌else◌}
use Rattle.std.specs.List.{list_any}
use Rattle.coap_msg.specs.declared.endpoint.Endpoint.{Endpoint}
use Rattle.coap_msg.specs.declared.message.RequestType.{RequestType}
use Rattle.coap_msg.specs.declared.message.RequestType.TheVariants.{Confirmable, NonConfirmable}

-- a request that came: its moment, in milliseconds, its endpoint, its message ID, Confirmable or Non-confirmable
pub record Arrival : Type 0 where
  pub moment : ℕ
  pub from : Endpoint
  pub id : ℕ
  pub kind : RequestType

-- the time for which the message ID of a request may be in use, in milliseconds: EXCHANGE_LIFETIME and NON_LIFETIME
-- (section 4.8.2)
abbrev pub lifetime : RequestType → ℕ
lifetime Confirmable = 247000
lifetime NonConfirmable = 145000

-- a request lives as long as less than its lifetime has passed since it came first: a duplicate changes nothing
abbrev pub lives : ℕ → Arrival → Bool
lives now a = nat_lt (now - a.moment) (lifetime a.kind)

-- An endpoint and a message ID name one exchange (section 4.5), also where one request is Confirmable and the other
-- isn't; the server decides what is sent again for each type.
abbrev pub is_same_exchange : Arrival → Arrival → Bool
is_same_exchange a b = a.from.host == b.from.host && a.from.port == b.from.port && a.id == b.id

-- the later request is the earlier one again, which lives
abbrev pub is_duplicate_of : Arrival → Arrival → Bool
is_duplicate_of later earlier = lives later.moment earlier && is_same_exchange later earlier

-- The verdict on a request.
pub data Verdict : Type 0 where
  -- it is acted on
  admitted : Verdict
  -- it is a duplicate of one that was admitted
  duplicate : Verdict
  -- as many live as may
  refused : Verdict

-- the verdict on a request after these were admitted, where n may live
abbrev pub verdict : ℕ → List Arrival → Arrival → Verdict
verdict capacity before a =
    if list_any (is_duplicate_of a) before then duplicate
    else (if nat_lt (length (filter (lives a.moment) before)) capacity then admitted else refused)

-- the admitted ones with this one, by its verdict
abbrev pub after_verdict : List Arrival → Arrival → Verdict → List Arrival
after_verdict before a admitted = before ++ a ∷ []
after_verdict before a duplicate = before
after_verdict before a refused = before

abbrev pub with_arrival : ℕ → List Arrival → Arrival → List Arrival
with_arrival capacity before a = after_verdict before a (verdict capacity before a)

-- the admitted ones of a history of requests, in order
abbrev pub admitted_after : ℕ → List Arrival → List Arrival → List Arrival
admitted_after capacity before [] = before
admitted_after capacity before (a ∷ later) = admitted_after capacity (with_arrival capacity before a) later

abbrev pub admitted_among : ℕ → List Arrival → List Arrival
admitted_among capacity history = admitted_after capacity [] history
