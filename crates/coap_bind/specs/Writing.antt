-- The reply to a request and a notification on the wire (RFC 7252, sections 4.2, 4.4, 5.2, 5.3.1 and 5.10;
-- RFC 7641, sections 2, 3.2 and 4.2).
use Rattle.std.specs.Prelude.{ℕ, nat_lt, true, Option, Some, None, List, [], ◌∷◌, ◌++◌, length, take, codes, unwrap_or, if◌then◌else◌}
use Rattle.std.specs.Fmt.{decimal}
use Rattle.std.specs.Option.{option_map_or}
use Rattle.coap_msg.specs.declared.message.Type4.{Type4}
use Rattle.coap_msg.specs.declared.message.Type4.TheVariants.{Con, Non, Ack}
use Rattle.coap_msg.specs.declared.message.RequestType.{RequestType}
use Rattle.coap_msg.specs.declared.message.RequestType.TheVariants.{Confirmable, NonConfirmable}
use Rattle.coap_msg.specs.declared.constants.TheConstants.{ETAG, OBSERVE, LOCATION_PATH, CONTENT_FORMAT, BAD_OPTION, INTERNAL_SERVER_ERROR, SERVICE_UNAVAILABLE, PROXYING_NOT_SUPPORTED, JSON, TD_JSON, LONGEST_PAYLOAD}
use Rattle.coap_msg.specs.Grammar.{CoapOption, CoapMessage}
use Rattle.coap_msg.specs.Numbers.{number_bytes}
use Rattle.coap_msg.specs.Opts.{segment_options}
use Rattle.coap_msg.specs.Requests.{request_type}
use Rattle.thing_ops.specs.declared.outcome.Outcome.{Outcome}
use Rattle.thing_ops.specs.declared.outcome.Outcome.TheVariants as outcome
use Rattle.thing_ops.specs.Outcomes.{coap, answer_of, payload_of, text_of, version_of}
use Rattle.coap_observe.specs.declared.notice.Notice.{Notice}
use Rattle.coap_bind.specs.declared.pending.PendingReply.{PendingReply}

-- ---- the contents of a reply

-- a code, the version of the property that was read, if it has a tag, further options and a payload
pub record Reply : Type 0 where
  pub code : ℕ
  pub version : Option ℕ
  pub options : List CoapOption
  pub payload : List ℕ

-- a reply with a diagnostic payload, which has no content format (section 5.5.2)
abbrev pub word_reply : ℕ → List ℕ → Reply
word_reply code word = record { code = code; version = None; options = []; payload = word }

-- the server's own replies: as many exchanges live as may; the request is for a proxy (section 5.10.2); a critical
-- option is bad (section 5.4.1); the payload would be too long
abbrev pub full_reply : Reply
full_reply = word_reply SERVICE_UNAVAILABLE (codes "full")

abbrev pub proxy_reply : Reply
proxy_reply = word_reply PROXYING_NOT_SUPPORTED (codes "proxy")

abbrev pub option_reply : ℕ → Reply
option_reply number = word_reply BAD_OPTION (codes "option " ++ decimal number)

abbrev pub long_reply : Reply
long_reply = word_reply INTERNAL_SERVER_ERROR (codes "long")

-- the path of a started action
abbrev pub place_of : Outcome → List (List ℕ)
place_of (outcome.Started place status) = place
place_of _ = []

-- the content format of a text (section 12.3; TD 1.1)
abbrev pub text_format : Outcome → ℕ
text_format (outcome.Description text true) = TD_JSON
text_format _ = JSON

-- Content-Format, where a text is sent (section 5.10.3)
abbrev pub format_options : Outcome → List CoapOption
format_options o = option_map_or (λ _. (CONTENT_FORMAT, number_bytes (text_format o)) ∷ []) (text_of o) []

-- the reply that says an outcome, if its payload isn't too long; the further options are in order of their numbers: one
-- Location-Path for each segment of the place (section 5.10.7), and the format
abbrev pub whole_reply : Outcome → Reply
whole_reply o = record {
  code = unwrap_or (answer_of o).code 0;
  version = version_of o;
  options = segment_options LOCATION_PATH (place_of o) ++ format_options o;
  payload = payload_of o;
}

-- The reply that says an outcome. A payload has at most 1,024 bytes (section 4.6).
abbrev pub reply_of : Outcome → Reply
reply_of o = if nat_lt LONGEST_PAYLOAD (length (payload_of o)) then long_reply else whole_reply o

-- ---- ETag and Observe

-- the option of this number with this value, if there is a value
abbrev pub optional : ℕ → Option ℕ → List CoapOption
optional number None = []
optional number (Some value) = (number, number_bytes value) ∷ []

-- ETag, where there is a version: the number of the version is its tag (section 5.10.6.1)
abbrev pub etag_options : Option ℕ → List CoapOption
etag_options version = optional ETAG version

-- Observe, where a sequence number is said (RFC 7641, section 2)
abbrev pub observe_options : Option ℕ → List CoapOption
observe_options sequence = optional OBSERVE sequence

-- all options of a reply, in order of their numbers
abbrev pub reply_options : Reply → List CoapOption
reply_options r = etag_options r.version ++ r.options

-- a reply with Observe before its further options, of which none has a lower number
abbrev pub observed : Option ℕ → Reply → Reply
observed observe r = record r { options = observe_options observe ++ r.options }

-- ---- the message

-- the parts that a reply takes over from its request: the type of its message, its message ID and its token
pub record ReplyHead : Type 0 where
  pub kind : RequestType
  pub id : ℕ
  pub token : List ℕ

-- that of the reply to a request
abbrev pub head_of : CoapMessage → ReplyHead
head_of m = record { kind = request_type m.kind; id = m.id; token = m.token }

-- that of a reply which isn't sent yet
abbrev pub head_in : PendingReply → ReplyHead
head_in p = record { kind = p.kind; id = p.id; token = p.token }

-- a Confirmable request is answered in its acknowledgement, any other by a Non-confirmable message
-- (sections 5.2.1 and 5.2.3)
abbrev pub reply_kind : RequestType → Type4
reply_kind Confirmable = Ack
reply_kind NonConfirmable = Non

-- an acknowledgement has the message ID of its request, any other reply the next one of the
-- server (sections 4.2 and 4.4)
abbrev pub reply_id : RequestType → ℕ → ℕ → ℕ
reply_id Confirmable id next = id
reply_id NonConfirmable id next = next

-- The message of a reply with this head, where this is the next message ID of the server. It has the token of the
-- request (section 5.3.1).
abbrev pub coap_reply : Reply → ReplyHead → ℕ → CoapMessage
coap_reply r head next = record {
  kind = reply_kind head.kind;
  code = r.code;
  id = reply_id head.kind head.id next;
  token = head.token;
  options = reply_options r;
  payload = r.payload;
}

-- A notification: a Confirmable message with the token of the registration that says a value of its target and the
-- value's place in the order of all (RFC 7641, sections 3.2, 4.2 and 4.5). It has no tag.
abbrev pub notification : Notice → List ℕ → CoapMessage
notification n value = record {
  kind = Con;
  code = coap 2 05;
  id = n.id;
  token = take n.token_length n.token;
  options = observe_options (Some n.sequence) ++ (CONTENT_FORMAT, number_bytes JSON) ∷ [];
  payload = value;
}
