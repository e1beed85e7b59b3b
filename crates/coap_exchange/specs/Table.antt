-- The view that contracts have of an `Exchanges`, and the effects of its calls (RFC 7252, sections 4.2 and 4.5).
use Rattle.std.specs.Prelude.{◌≡◌, ◌<◌, ◌≤◌, ◌==◌, ℕ, List, [], ◌∷◌, ◌++◌, length, map, filter, find, Option, Some, None, option_map, if◌then◌else◌}
use Rattle.coap_exchange.specs.Admission.{Arrival, lives, is_duplicate_of, admitted_among}
use Rattle.coap_exchange.specs.declared.met.Met.{Met}
use Rattle.coap_exchange.specs.declared.met.Met.TheVariants.{Fresh, Repeat, Full}

-- an exchange: the request that was admitted, the slot of its reply, and the reply once it is kept
pub record Exchange : Type 0 where
  pub arrival : Arrival
  pub slot : ℕ
  pub reply : Option (List ℕ)

-- The number of exchanges that may live, the last moment that was handed in, and the exchanges that live then, in the
-- order in which they were admitted. Those that are over aren't seen, so that code may give them up when it likes.
pub record Table : Type 0 where
  pub capacity : ℕ
  pub moment : ℕ
  pub exchanges : List Exchange

-- a table in which nothing lives
abbrev pub empty_table : ℕ → Table
empty_table capacity = record { capacity = capacity; moment = 0; exchanges = [] }

-- the table at a later moment: the exchanges that live still
abbrev pub at_moment : ℕ → Table → Table
at_moment now t = record t { moment = now; exchanges = filter (λ e. lives now e.arrival) t.exchanges }

-- the exchange of which a request is a duplicate
abbrev pub duplicated_exchange : Arrival → Table → Option Exchange
duplicated_exchange a t = find (λ e. is_duplicate_of a e.arrival) t.exchanges

-- the exchange whose reply is in this slot
abbrev pub exchange_in : ℕ → Table → Option Exchange
exchange_in slot t = find (λ e. e.slot == slot) t.exchanges

-- the exchange in this slot waits for its reply
abbrev pub IsAwaited : ℕ → Table → Type 0
IsAwaited slot t = (e : Exchange) × (exchange_in slot t ≡ Some e) × (e.reply ≡ None)

-- this reply is in this slot
abbrev pub HoldsReply : ℕ → List ℕ → Table → Type 0
HoldsReply slot bytes t = (e : Exchange) × (exchange_in slot t ≡ Some e) × (e.reply ≡ Some bytes)

-- some reply is in this slot
abbrev pub HasReply : ℕ → Table → Type 0
HasReply slot t = (bytes : List ℕ) × HoldsReply slot bytes t

-- the table with a new exchange, whose reply comes later
abbrev pub with_exchange : Arrival → ℕ → Table → Table
with_exchange a slot t = record t { exchanges = t.exchanges ++ record { arrival = a; slot = slot; reply = None } ∷ [] }

-- an exchange with this reply, if its reply goes to this slot
abbrev pub answered : ℕ → List ℕ → Exchange → Exchange
answered slot bytes e = if e.slot == slot then record e { reply = Some bytes } else e

-- the table with this reply in this slot
abbrev pub with_reply : ℕ → List ℕ → Table → Table
with_reply slot bytes t = record t { exchanges = map (answered slot bytes) t.exchanges }

-- The exchange of which a request is a duplicate was found, with the slot of its reply where that
-- was kept; or there is none.
abbrev pub FindsDuplicated : Table → Arrival → Option (Option ℕ) → Type 0
FindsDuplicated t a None = duplicated_exchange a t ≡ None
FindsDuplicated t a (Some kept) =
    (e : Exchange) × (duplicated_exchange a t ≡ Some e) × (exchange_in e.slot t ≡ Some e) × (kept ≡ option_map (λ _. e.slot) e.reply)

-- A request got a slot, in which there is no reply to another; or as many exchanges live as may.
abbrev pub Admits : Table → Arrival → Option ℕ → Table → Type 0
Admits t a (Some slot) u = (length t.exchanges < t.capacity) × (exchange_in slot t ≡ None) × (u ≡ with_exchange a slot t)
Admits t a None u = (t.capacity ≤ length t.exchanges) × (u ≡ t)

-- The verdict on a request by a table at its moment, and the table afterwards: it is a duplicate of one that lives; or
-- it gets a slot; or as many live as may.
abbrev pub Meets : Table → Arrival → Met → Table → Type 0
Meets t a (Repeat kept) u = FindsDuplicated t a (Some kept) × (u ≡ t)
Meets t a (Fresh slot) u = FindsDuplicated t a None × Admits t a (Some slot) u
Meets t a Full u = FindsDuplicated t a None × Admits t a None u

-- A table stands for a history of requests: the living exchanges are those of the admitted requests, in order.
abbrev pub StandsFor : Table → List Arrival → Type 0
StandsFor t history = map (λ e. e.arrival) t.exchanges ≡ filter (lives t.moment) (admitted_among t.capacity history)
