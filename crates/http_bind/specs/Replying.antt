-- The reply to an outcome over HTTP (RFC 9110, sections 8.3, 8.6, 8.8.3, 9.3.2, 10.2.1, 10.2.2 and 15.4.5).
use Rattle.std.specs.Prelude.{ℕ, ◌==◌, List, [], ◌∷◌, ◌++◌, length, codes, Bool, true, false, nat_le, Option, Some, None, unwrap_or, option_map, if◌then◌else◌}
use Rattle.thing_ops.specs.declared.outcome.Outcome.{Outcome}
use Rattle.thing_ops.specs.declared.outcome.Outcome.TheVariants as outcome
use Rattle.thing_ops.specs.declared.verb.Verb.{Verb}
use Rattle.thing_ops.specs.declared.verb.Verb.TheVariants as verb
use Rattle.thing_ops.specs.Outcomes.{Payload, text, word, nothing, answer_of, payload_of, version_of}
use Rattle.thing_ops.specs.Verbs.{verbs_in, names_of}
use Rattle.http_replies.specs.Writing.{PlainReply, http_reply}
use Rattle.http_bind.specs.Places.{path_text}

-- The most bytes of the head of a reply.
abbrev pub longest_reply_head : ℕ
longest_reply_head = 4096

-- the media type of a payload
abbrev pub type_of_payload : Payload → Option (List ℕ)
type_of_payload (text bytes) = Some (codes "application/json")
type_of_payload (word bytes) = Some (codes "text/plain;charset=utf-8")
type_of_payload nothing = None

-- the media type of what is sent; a description may go as what it is
abbrev pub media_type_of : Outcome → Option (List ℕ)
media_type_of (outcome.Description description true) = Some (codes "application/td+json")
media_type_of o = type_of_payload (answer_of o).payload

-- the place of what was made: of an invocation, or of an entry of the directory
abbrev pub location_of : Outcome → Option (List ℕ)
location_of (outcome.Started place status) = Some (path_text place)
location_of (outcome.Created (Some id)) = Some (path_text (codes "things" ∷ id ∷ []))
location_of o = None

-- the verbs that are taken, where the request's isn't
abbrev pub allow_of : Outcome → Option (List ℕ)
allow_of (outcome.NotAllowed allow) = Some (names_of (verbs_in allow))
allow_of o = None

-- the parts of the head of a reply, with this status and this place
abbrev pub head_of : ℕ → Bool → Option (List ℕ) → Outcome → PlainReply
head_of status closes location o = record {
  status = status;
  content_type = media_type_of o;
  etag = version_of o;
  location = location;
  allow = allow_of o;
  size = Some (length (payload_of o));
  close = closes;
}

-- a head with its place, where that isn't too long
abbrev pub shorter_head : List ℕ → List ℕ → List ℕ
shorter_head with_place without = if nat_le (length with_place) longest_reply_head then with_place else without

-- The head of the reply with this status; its `Location` line is left out where the head would be too long with it.
abbrev pub head_with : Bool → Outcome → ℕ → List ℕ
head_with closes o status = shorter_head (http_reply (head_of status closes (location_of o) o)) (http_reply (head_of status closes None o))

-- The head of the reply; a request that waits has none yet.
abbrev pub reply_head : Bool → Outcome → Option (List ℕ)
reply_head closes o = option_map (head_with closes o) (answer_of o).status

-- a HEAD request
abbrev pub is_head : Verb → Bool
is_head verb.Head = true
is_head v = false

-- The payload; the reply to a HEAD request has none (RFC 9110, section 9.3.2).
abbrev pub reply_body : Bool → Outcome → List ℕ
reply_body true o = []
reply_body false o = payload_of o

-- The reply of an outcome, to a HEAD request or to another one; a request that waits has none yet.
abbrev pub reply : Bool → Bool → Outcome → Option (List ℕ)
reply bodiless closes o = option_map (λ head. head ++ reply_body bodiless o) (reply_head closes o)

-- ---- replies without an outcome

-- the word of a fault: of a bad message, of a body or a head that is too long, of a coding that isn't known
abbrev pub fault_word : ℕ → Option (List ℕ)
fault_word status =
    if status == 400 then Some (codes "bad")
    else if status == 413 then Some (codes "body")
    else if status == 431 then Some (codes "head")
    else if status == 501 then Some (codes "coding")
    else None

abbrev pub fault_body : ℕ → List ℕ
fault_body status = unwrap_or (fault_word status) []

-- the reply to a fault, which is the last of its connection; it has its payload also for HEAD,
-- whose verb may not be known
abbrev pub fault_head : ℕ → List ℕ
fault_head status = http_reply (record {
  status = status;
  content_type = Some (codes "text/plain;charset=utf-8");
  etag = None;
  location = None;
  allow = None;
  size = Some (length (fault_body status));
  close = true;
})

abbrev pub fault_reply : ℕ → List ℕ
fault_reply status = fault_head status ++ fault_body status

-- the 100 reply, which has no payload (RFC 9110, section 15.2.1)
abbrev pub continue_reply : List ℕ
continue_reply = http_reply (record { status = 100; content_type = None; etag = None; location = None; allow = None; size = None; close = false })

-- the head of the 100 reply, or of the reply to a fault with another status
abbrev pub status_head : ℕ → List ℕ
status_head status = if status == 100 then continue_reply else fault_head status
