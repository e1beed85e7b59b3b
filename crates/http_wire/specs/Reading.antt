-- The request that a message makes (RFC 9110, sections 7.1 and 9; RFC 9112, section 3).
use Rattle.std.specs.Prelude.{◌≡◌, ◌≤◌, ℕ, ◌+◌, List, take, drop, codes, Option, Some, option_map, if◌then◌else◌}
use Rattle.std.specs.Str.{bytes_eq}
use Rattle.thing_ops.specs.declared.verb.Verb.{Verb}
use Rattle.thing_ops.specs.declared.verb.Verb.TheVariants as verb
use Rattle.thing_ops.specs.Requests.{RequestSeen}
use Rattle.http_wire.specs.declared.request.RequestParts.{RequestParts}
use Rattle.http_wire.specs.Conditions.{conditions_of}
use Rattle.http_wire.specs.Judging.{longest_body}
use Rattle.http_wire.specs.Stream.{PlainHead, longest_head}
use Rattle.http_wire.specs.Targets.{segments_of, query_place}

-- the verb of a method, whose name is taken in the case in which it came (RFC 9110, section 9.1)
abbrev pub verb_of : List ℕ → Verb
verb_of method =
    if bytes_eq method (codes "GET") then verb.Get
    else if bytes_eq method (codes "HEAD") then verb.Head
    else if bytes_eq method (codes "PUT") then verb.Put
    else if bytes_eq method (codes "POST") then verb.Post
    else if bytes_eq method (codes "PATCH") then verb.Patch
    else if bytes_eq method (codes "DELETE") then verb.Delete
    else verb.Other

-- the part after the `?` of a target
abbrev pub query_of : List ℕ → List ℕ
query_of target = drop (query_place target) target

-- the request of a message whose target has this path
abbrev pub request_at : PlainHead → List ℕ → List (List ℕ) → RequestSeen
request_at h body path = record {
  verb = verb_of h.method;
  path = path;
  query = query_of h.target;
  accept = h.accept;
  format = h.format;
  body = body;
  conditions = conditions_of (verb_of h.method) h.asking;
}

-- The request of a message with this head and this decoded body; there is none where its target isn't taken.
abbrev pub asked : PlainHead → List ℕ → Option RequestSeen
asked h body = option_map (request_at h body) (segments_of h.target)

-- ---- a request whose query and body were written to the beginning of a buffer

-- the request of these parts
abbrev pub request_in : RequestParts → List ℕ → RequestSeen
request_in p room = record {
  verb = p.verb;
  path = p.path;
  query = take p.query_length room;
  accept = p.accept;
  format = p.format;
  body = take p.body_length (drop p.query_length room);
  conditions = p.conditions;
}

-- the parts are those of this request, whose query is no longer than a head, and its body no longer than a body may be
pub record AreParts (q : RequestSeen) (room : List ℕ) (p : RequestParts) : Type 0 where
  pub request : request_in p room ≡ q
  pub within : p.query_length + p.body_length ≤ longest_head + longest_body

-- the parts are those of the request of this message
abbrev pub IsRead : PlainHead → List ℕ → List ℕ → RequestParts → Type 0
IsRead h body room p = (q : RequestSeen) × (asked h body ≡ Some q) × AreParts q room p
