-- A request over HTTP that a consumer writes is read by a servient as what was chosen (RFC 9112, sections 2.2, 6 and 9.3;
-- TD 1.1, section 5.3.4.2).
use Rattle.std.specs.Prelude.{◌≡◌, ◌≢◌, ◌⊎◌, ◌≤◌, ◌<◌, ◌+◌, ◌^◌, ℕ, List, [], ◌∷◌, ◌++◌, length, true, false, Option, Some, None, unwrap_or}
use Rattle.std.specs.List.{AllByRecursion}
use Rattle.thing_ops.specs.declared.conditions.Conditions.{Conditions}
use Rattle.thing_ops.specs.declared.request.Format.{Format}
use Rattle.thing_ops.specs.declared.request.Format.TheVariants as format
use Rattle.thing_ops.specs.Requests.{RequestSeen}
use Rattle.http_wire.specs.Judging.{longest_body}
use Rattle.http_wire.specs.Reading.{asked}
use Rattle.http_wire.specs.Stream.{PlainHead, message, IsFront, longest_head}
use Rattle.http_bind.specs.Cutting.{HasTaken}
use Rattle.http_bind.specs.Streams.{Connection, HasNothing}
use Rattle.wot_consumer.specs.declared.chosen.Chosen.{Chosen}
use Rattle.wot_consumer.specs.Messages.{request_bytes}
use Rattle.description_laws.specs.Encoding.{AreBytes}

-- ---- what is asked for

-- a request asks for no version
abbrev pub any_version : Conditions
any_version = record { if_match = None; known = record { any = false; list = [] }; absent = false }

-- what is handed in is JSON
abbrev pub format_for : Option (List ℕ) → Format
format_for None = format.Absent
format_for (Some bytes) = format.Json

-- the request for what was chosen, where this is handed in, if anything is: JSON is wanted
abbrev pub request_for : Chosen → Option (List ℕ) → RequestSeen
request_for c input = record {
  verb = c.verb;
  path = c.path;
  query = [];
  accept = record { json = true; td = false };
  format = format_for input;
  body = unwrap_or input [];
  conditions = any_version;
}

-- ---- how bytes are read

-- Whatever comes behind the bytes, they are at the front one whole message, of all of them and of nothing else, which
-- asks for this.
abbrev pub IsOneMessage : List ℕ → RequestSeen → Type 0
IsOneMessage bytes request =
    (behind : List ℕ) → (head : PlainHead) × (body : List ℕ) × IsFront (bytes ++ behind) (message head body (length bytes) false) × (asked head body ≡ Some request)

-- The pieces in which the bytes come are nothing to that: nothing is taken from a connection before the last of them has
-- come, and then this request is, once, and nothing else; at any time it or nothing was taken.
pub record IsTakenOnce (bytes : List ℕ) (request : RequestSeen) : Type 0 where
  pub early : (x : Connection) (taken : List RequestSeen) (missing : List ℕ) → HasTaken x taken → x.stream ++ missing ≡ bytes → missing ≢ [] → taken ≡ []
  pub at_most : (x : Connection) (taken : List RequestSeen) (missing : List ℕ) → HasTaken x taken → x.stream ++ missing ≡ bytes → (taken ≡ []) ⊎ (taken ≡ request ∷ [])
  pub whole : (x : Connection) (taken : List RequestSeen) → HasTaken x taken → x.stream ≡ bytes → HasNothing (Some x) → taken ≡ request ∷ []

-- bytes are read as a request
pub record AreReadAs (bytes : List ℕ) (request : RequestSeen) : Type 0 where
  pub message : IsOneMessage bytes request
  pub pieces : IsTakenOnce bytes request

-- ---- what can be sent

-- a visible character of ASCII
abbrev pub IsVisible : ℕ → Type 0
IsVisible b = (33 ≤ b) × (b ≤ 126)

-- The head and what is handed in are no longer than a servient reads. The rest holds of all that is chosen: the law
-- ranges over every number.
pub record CanBeSent (c : Chosen) (input : Option (List ℕ)) : Type 0 where
  pub head : length (request_bytes c input) ≤ longest_head + length (unwrap_or input [])
  pub body : length (unwrap_or input []) ≤ longest_body
  pub path : AllByRecursion AreBytes c.path
  pub host : AllByRecursion IsVisible c.host
  pub port : c.port < 2 ^ 16
