-- Inside: the contents of slots.
use Rattle.std.specs.Prelude.{◌≡◌, ◌+◌, ◌≤◌, ◌<◌, ◌==◌, ◌&&◌, ℕ, Bool, List, [], ◌∷◌, length, filter, Option, None, slice_index_or, if◌then◌else◌}
use Rattle.coap_msg.specs.declared.endpoint.Endpoint.{Endpoint}
use Rattle.coap_msg.specs.declared.message.RequestType.{RequestType}
use Rattle.coap_msg.specs.declared.message.RequestType.TheVariants.{Confirmable, NonConfirmable}
use Rattle.coap_exchange.specs.Admission.{Arrival}
use Rattle.coap_msg.specs.Buckets.{bucket}
use Rattle.coap_exchange.specs.Table.{Exchange}
use Rattle.coap_exchange.specs.declared.entry.Entry.{Entry}

-- the request of an entry
abbrev pub arrival_of : Entry → Arrival
arrival_of e = record { moment = e.moment; from = e.from; id = e.id; kind = e.kind }

-- it is the entry of this endpoint and message ID
abbrev pub is_of : Endpoint → ℕ → Entry → Bool
is_of from id e = from.host == e.from.host && from.port == e.from.port && id == e.id

-- the content of a slot that was never used
abbrev pub no_entry : Entry
no_entry = record { moment = 0; from = record { host = 0; port = 0 }; id = 0; kind = Confirmable }

-- the entry in a slot
abbrev pub entry_at : List Entry → ℕ → Entry
entry_at entries slot = slice_index_or entries slot no_entry

-- the exchange in a slot, with its reply
abbrev pub exchange_at : List Entry → List (Option (List ℕ)) → ℕ → Exchange
exchange_at entries replies slot = record { arrival = arrival_of (entry_at entries slot); slot = slot; reply = slice_index_or replies slot None }

-- the number of elements of a list that pass a test
abbrev pub times : {A : Type 0} → (A → Bool) → List A → ℕ
times p [] = 0
times p (x ∷ xs) = (if p x then 1 else 0) + times p xs

-- the list of a kind: the first list is that of the free slots
abbrev pub age_list : RequestType → ℕ
age_list Confirmable = 1
age_list NonConfirmable = 2

-- the list of the kind of a slot's entry, and its bucket
abbrev pub age_list_at : List Entry → ℕ → ℕ
age_list_at entries slot = age_list (entry_at entries slot).kind

abbrev pub bucket_at : List Entry → ℕ → ℕ → ℕ
bucket_at entries count slot = bucket count (entry_at entries slot).from (entry_at entries slot).id

-- from a number on, each of these lists has the slots with its number, in their order
abbrev pub AreDealt : (ℕ → ℕ) → ℕ → List ℕ → List (List ℕ) → Type 0
AreDealt number first slots lists =
    (i : ℕ) → first ≤ i → i < length lists → slice_index_or lists i [] ≡ filter (λ slot. number slot == i) slots
