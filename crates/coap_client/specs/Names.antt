-- Endpoints, message IDs and tokens: those that are one, and those that come next (RFC 7252, sections 4.4 and 5.3.1).
use Rattle.std.specs.Prelude.{◌≡◌, ◌<◌, ◌+◌, ◌-◌, ◌%◌, ℕ, nat_le, Bool, true, false, List, slice_index_or, Option, Some, None, if◌then◌else◌}
use Rattle.std.specs.Int.{to_be_bytes, w64}
use Rattle.coap_msg.specs.declared.endpoint.Endpoint.{Endpoint}
use Rattle.coap_msg.specs.Endpoints.{is_same_endpoint}
use Rattle.coap_client.specs.declared.observation.Observation.{Observation}

-- an id isn't used again within 400 seconds, which is longer than it may be in use
-- (EXCHANGE_LIFETIME, sections 4.4 and 4.8.2)
abbrev pub is_recent : ℕ → Option ℕ → Bool
is_recent now None = false
is_recent now (Some moment) = nat_le (now - moment) 400000

-- an id is used: by the moment at which each id was used last, at which a request with it was first sent
abbrev pub is_used : List (Option ℕ) → ℕ → ℕ → Bool
is_used uses now id = is_recent now (slice_index_or uses id None)

-- The next id: the first one from `next` on that isn't used.
pub record IsNextId (uses : List (Option ℕ)) (next now id : ℕ) : Type 0 where
  pub ahead : ℕ
  pub near : ahead < 65536
  pub id_is : id ≡ (next + ahead) % 65536
  pub free : is_used uses now id ≡ false
  pub passed : (k : ℕ) → k < ahead → is_used uses now ((next + k) % 65536) ≡ true

-- all ids are used
abbrev pub AreAllUsed : List (Option ℕ) → ℕ → Type 0
AreAllUsed uses now = (id : ℕ) → id < 65536 → is_used uses now id ≡ true

-- the token that a request takes over, in order to end an observation: that of the observation, where its peer is the
-- same (RFC 7641, section 3.6)
abbrev pub kept_token : Option Observation → Endpoint → Option Bool → Option (List ℕ)
kept_token (Some o) peer (Some false) = if is_same_endpoint peer o.peer then Some o.token else None
kept_token (Some o) peer (Some true) = None
kept_token (Some o) peer None = None
kept_token None peer observe = None

-- that token, or else the eight bytes of the next number
abbrev pub token_after : Option (List ℕ) → ℕ → List ℕ
token_after None number = to_be_bytes w64 number
token_after (Some token) number = token
