-- The messages that a client takes, and the meaning of each message to it (RFC 7252, sections 4.2 and 5.3.2; RFC 7641,
-- section 3; RFC 7959, section 2).
use Rattle.std.specs.Prelude.{◌-◌, ◌/◌, ◌^◌, ◌==◌, ◌&&◌, ◌||◌, ℕ, nat_lt, nat_le, length, map, Bool, true, false, List, [], ◌∷◌, Option, Some, None, option_map, is_some, unwrap_or, if◌then◌else◌}
use Rattle.std.specs.List.{filter}
use Rattle.std.specs.Str.{bytes_eq}
use Rattle.coap_msg.specs.declared.block.Block.{Block}
use Rattle.coap_msg.specs.Blocks.{block_of}
use Rattle.coap_msg.specs.declared.endpoint.Endpoint.{Endpoint}
use Rattle.coap_msg.specs.declared.message.Type4.{Type4}
use Rattle.coap_msg.specs.declared.message.Type4.TheVariants.{Con, Non, Ack, Rst}
use Rattle.coap_msg.specs.declared.constants.TheConstants.{OBSERVE, BLOCK2}
use Rattle.coap_msg.specs.Grammar.{CoapOption, CoapMessage}
use Rattle.coap_msg.specs.Numbers.{number_of}
use Rattle.coap_client.specs.declared.outstanding.Outstanding.{Outstanding}
use Rattle.coap_client.specs.declared.observation.Latest.{Latest}
use Rattle.coap_client.specs.declared.observation.Observation.{Observation}
use Rattle.coap_client.specs.declared.state.State.{State}
use Rattle.coap_client.specs.declared.meaning.Meaning.{Meaning}
use Rattle.coap_client.specs.declared.meaning.Meaning.TheVariants as meant
use Rattle.coap_msg.specs.Endpoints.{is_same_endpoint}

-- ---- the messages that are taken

-- an endpoint and a token are those of the outstanding request: tokens are those of one endpoint (section 5.3.2)
abbrev pub is_for_request : Option Outstanding → Endpoint → List ℕ → Bool
is_for_request None from token = false
is_for_request (Some o) from token = is_same_endpoint from o.peer && bytes_eq token o.token

-- they are those of the observation (RFC 7641, section 3.2)
abbrev pub is_for_observation : Option Observation → Endpoint → List ℕ → Bool
is_for_observation None from token = false
is_for_observation (Some o) from token = is_same_endpoint from o.peer && bytes_eq token o.token

-- an id is that of the outstanding request
abbrev pub is_request_id : Option Outstanding → ℕ → Bool
is_request_id None id = false
is_request_id (Some o) id = id == o.id

-- an endpoint and an id are those of the outstanding request (section 4.2)
abbrev pub is_from_server : Option Outstanding → Endpoint → ℕ → Bool
is_from_server None from id = false
is_from_server (Some o) from id = is_same_endpoint from o.peer && id == o.id

-- a success, a client error or a server error (section 5.9)
abbrev pub is_response_class : ℕ → Bool
is_response_class class = class == 2 || class == 4 || class == 5

-- the values of all Block2 options, in their order
abbrev pub block2_values : List CoapOption → List (List ℕ)
block2_values os = map (λ o. o.1) (filter (λ o. o.0 == BLOCK2) os)

-- The reading of these values: of none that there is no block, of one the block that it says. Nothing is read of one
-- that says no block (RFC 7959, section 2.2), nor of several, since the option doesn't repeat (RFC 7252, section
-- 5.4.5).
abbrev pub block2_in : List (List ℕ) → Option (Option Block)
block2_in [] = Some None
block2_in (value ∷ []) = option_map (λ b. Some b) (block_of value)
block2_in (value ∷ other ∷ values) = None

-- the block of its body that a response has, where its options say one
abbrev pub block2_of : List CoapOption → Option Block
block2_of os = unwrap_or (block2_in (block2_values os)) None

-- A response: a message of one of the three classes. One whose Block2 can't be read is none, since the option is critical
-- (RFC 7252, section 5.4.1).
abbrev pub is_response : CoapMessage → Bool
is_response m = is_response_class (m.code / 32) && is_some (block2_in (block2_values m.options))

-- An acknowledgement carries a response only with the message ID of the outstanding request (section 5.2.1), also where
-- its token is that of the observation: so a late one of a registration is no new value. A Reset carries none.
abbrev pub may_carry : Option Outstanding → Type4 → ℕ → Bool
may_carry o Con id = true
may_carry o Non id = true
may_carry o Ack id = is_request_id o id
may_carry o Rst id = false

-- A message is taken.
abbrev pub takes : State → Endpoint → CoapMessage → Bool
takes s from m =
    is_response m && may_carry s.outstanding m.kind m.id
    && (is_for_request s.outstanding from m.token || is_for_observation s.observation from m.token)

-- ---- the meaning of a message

-- the number that at most three bytes say (RFC 7641, section 2)
abbrev pub number_within : List ℕ → Option ℕ
number_within value = if nat_le (length value) 3 then Some (number_of value) else None

-- the sequence number of a notification: the first Observe counts, if it isn't too long (RFC 7641, section 2; RFC 7252,
-- sections 5.4.3 and 5.4.5)
abbrev pub sequence_of : List CoapOption → Option ℕ
sequence_of [] = None
sequence_of (o ∷ os) = if o.0 == OBSERVE then number_within o.1 else sequence_of os

-- a notification is newer than the latest (RFC 7641, section 3.4)
abbrev pub is_newer_than : Latest → ℕ → ℕ → Bool
is_newer_than latest now sequence =
    (nat_lt latest.sequence sequence && nat_lt (sequence - latest.sequence) (2 ^ 23))
    || (nat_lt sequence latest.sequence && nat_lt (2 ^ 23) (latest.sequence - sequence))
    || nat_lt 128000 (now - latest.moment)

-- it is the first, or newer than the latest
abbrev pub is_newer : Option Latest → ℕ → ℕ → Bool
is_newer None now sequence = true
is_newer (Some latest) now sequence = is_newer_than latest now sequence

abbrev pub latest_of : Option Observation → Option Latest
latest_of None = None
latest_of (Some o) = o.latest

-- a success with the observation's endpoint and token is a notification, if it has Observe (RFC 7641, section 3.2)
abbrev pub notified : State → Endpoint → CoapMessage → Option ℕ
notified s from m =
    if m.code / 32 == 2 && is_for_observation s.observation from m.token then sequence_of m.options else None

-- the meaning of a message that is taken: a notification, or else a response
abbrev pub meaning_taken : State → Option ℕ → Meaning
meaning_taken s None = meant.Response
meaning_taken s (Some sequence) =
    if is_newer (latest_of s.observation) s.moment sequence then meant.Value sequence else meant.Old

-- The meaning of any other message, of this type: a Reset of the outstanding request, its empty acknowledgement, or
-- nothing (section 4.2). A Reset counts with every code, because its type says enough; an acknowledgement is empty by
-- code 0.00.
abbrev pub meaning_else : State → Endpoint → CoapMessage → Type4 → Meaning
meaning_else s from m Rst = if is_from_server s.outstanding from m.id then meant.Reset else meant.Foreign
meaning_else s from m Ack = if m.code == 0 && is_from_server s.outstanding from m.id then meant.Received else meant.Foreign
meaning_else s from m Con = meant.Foreign
meaning_else s from m Non = meant.Foreign

abbrev pub meaning : State → Endpoint → CoapMessage → Meaning
meaning s from m = if takes s from m then meaning_taken s (notified s from m) else meaning_else s from m m.kind
