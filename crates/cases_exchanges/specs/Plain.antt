-- Inside: the entries and slots in which the plain list keeps its exchanges.
use Rattle.std.specs.Prelude.{◌≡◌, ◌+◌, ◌≤◌, ◌==◌, ◌&&◌, ℕ, Bool, List, length, map, All, Option, None, slice_index_or, vec_capacity, true}
use Rattle.coap_msg.specs.declared.endpoint.Endpoint.{Endpoint}
use Rattle.coap_exchange.specs.Admission.{Arrival, lives}
use Rattle.coap_exchange.specs.Slots.{times}
use Rattle.slot_lists.specs.Counts.{once_below}
use Rattle.coap_exchange.specs.Table.{Exchange, Table}
use Rattle.cases_exchanges.specs.declared.entry.Entry.{Entry}
use Rattle.cases_exchanges.specs.declared.plain.PlainExchanges.TheInside.{Inside}

-- the request of an entry
abbrev pub arrival_of : Entry → Arrival
arrival_of e = record { moment = e.moment; from = e.from; id = e.id; kind = e.kind }

-- it is the entry of this endpoint and message ID
abbrev pub is_of : Endpoint → ℕ → Entry → Bool
is_of from id e = from.host == e.from.host && from.port == e.from.port && id == e.id

-- the exchange of an entry, with the reply that is in its slot
abbrev pub exchange_of : List (Option (List ℕ)) → Entry → Exchange
exchange_of replies e = record { arrival = arrival_of e; slot = e.slot; reply = slice_index_or replies e.slot None }

-- the table that is seen
abbrev pub table_of : Inside → Table
table_of x = record { capacity = x.capacity; moment = x.moment; exchanges = map (exchange_of x.replies.items) x.entries.items }

-- the number of times that a slot is among entries, and among free slots
abbrev pub times_used : ℕ → List Entry → ℕ
times_used slot entries = times (λ e. e.slot == slot) entries

abbrev pub times_free : ℕ → List ℕ → ℕ
times_free slot slots = times (λ s. s == slot) slots

-- the invariant: all entries live, each has a slot of its own with a place for a reply, and there is room for as many
-- as may live
pub record IsKept (x : Inside) : Type 0 where
  pub living : All (λ e. lives x.moment (arrival_of e) ≡ true) x.entries.items
  pub slots : (s : ℕ) → times_used s x.entries.items + times_free s x.free.items ≡ once_below s x.capacity
  pub count : length x.entries.items + length x.free.items ≡ x.capacity
  pub places : length x.replies.items ≡ x.capacity
  pub entries_room : x.capacity ≤ vec_capacity x.entries
  pub free_room : x.capacity ≤ vec_capacity x.free
