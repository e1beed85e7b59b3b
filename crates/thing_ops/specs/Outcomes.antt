-- The answer to each outcome: its status over HTTP (RFC 9110, section 15), its code over CoAP (RFC 7252, section 5.9),
-- its payload and its version.
use Rattle.std.specs.Prelude.{ℕ, ◌+◌, ◌*◌, List, [], ◌++◌, codes, Option, Some, None, IsSome}
use Rattle.std.specs.Fmt.{decimal}
use Rattle.thing_ops.specs.declared.outcome.Outcome.{Outcome}
use Rattle.thing_ops.specs.declared.outcome.Outcome.TheVariants as outcome

-- a payload: a text that the outcome carries, a word for a person to read, or nothing
pub data Payload : Type 0 where
  text : List ℕ → Payload
  word : List ℕ → Payload
  nothing : Payload

-- the answer to an outcome; None: there is no such outcome over this protocol
pub record Answer : Type 0 where
  pub status : Option ℕ
  pub code : Option ℕ
  pub payload : Payload

-- a code that is written c.dd (RFC 7252, section 3)
abbrev pub coap : ℕ → ℕ → ℕ
coap class detail = 32 * class + detail

-- a word with a number after it
abbrev pub numbered : List ℕ → ℕ → Payload
numbered name n = word (name ++ decimal n)

-- over both protocols, over HTTP alone, over CoAP alone
abbrev pub both : ℕ → ℕ → Payload → Answer
both status code payload = record { status = Some status; code = Some code; payload = payload }

abbrev pub http_alone : ℕ → Payload → Answer
http_alone status payload = record { status = Some status; code = None; payload = payload }

abbrev pub coap_alone : ℕ → Payload → Answer
coap_alone code payload = record { status = None; code = Some code; payload = payload }

-- The table of outcomes, with those of the directory and of requests that wait, so that a later stage adds no row. The
-- place of what was started or created is said besides the payload (Location in HTTP,
-- Location-Path in CoAP). A request that waits gets no answer over HTTP for the time being; CoAP has no such requests
-- and no directory.
abbrev pub answer_of : Outcome → Answer
answer_of (outcome.Content value tag) = both 200 (coap 2 05) (text value)
answer_of (outcome.NotModified tag) = both 304 (coap 2 03) nothing
answer_of (outcome.Description description as_td) = both 200 (coap 2 05) (text description)
answer_of outcome.Empty = both 204 (coap 2 05) nothing
answer_of outcome.Changed = both 204 (coap 2 04) nothing
answer_of (outcome.Output value) = both 200 (coap 2 04) (text value)
answer_of (outcome.Started place status) = both 201 (coap 2 01) (text status)
answer_of outcome.Deleted = both 204 (coap 2 02) nothing
answer_of (outcome.Created id) = http_alone 201 nothing
answer_of (outcome.Listed entries) = http_alone 200 (text entries)
answer_of (outcome.Wait slot) = coap_alone (coap 4 04) (word (codes "missing"))
answer_of outcome.NotFound = both 404 (coap 4 04) (word (codes "missing"))
answer_of (outcome.NotAllowed allow) = both 405 (coap 4 05) (word (codes "method"))
answer_of outcome.NotAcceptable = both 406 (coap 4 06) (word (codes "accept"))
answer_of outcome.Format = both 415 (coap 4 15) (word (codes "format"))
answer_of outcome.BadValue = both 400 (coap 4 00) (word (codes "value"))
answer_of outcome.PreconditionFailed = both 412 (coap 4 12) (word (codes "condition"))
answer_of outcome.TooLarge = both 413 (coap 4 13) (word (codes "large"))
answer_of (outcome.Refused n) = both 403 (coap 4 03) (numbered (codes "refused ") n)
answer_of (outcome.DeviceFault n) = both 500 (coap 5 00) (numbered (codes "device ") n)
answer_of outcome.BadAnswer = both 500 (coap 5 00) (word (codes "answer"))
answer_of outcome.InvocationsFull = both 503 (coap 5 03) (word (codes "invocations"))
answer_of outcome.CallsUsed = both 503 (coap 5 03) (word (codes "calls"))
answer_of (outcome.Invalid n) = http_alone 400 (numbered (codes "invalid ") n)
answer_of outcome.IdDiffers = http_alone 400 (word (codes "differs"))
answer_of outcome.HasId = http_alone 400 (word (codes "hasid"))
answer_of outcome.BadTtl = http_alone 400 (word (codes "ttl"))
answer_of outcome.DirectoryFull = http_alone 503 (word (codes "directory"))
answer_of outcome.Memory = both 507 (coap 5 03) (word (codes "memory"))

-- the outcome has a status over HTTP, a code over CoAP
abbrev pub HasStatus : Outcome → Type 0
HasStatus o = IsSome (answer_of o).status

abbrev pub HasCode : Outcome → Type 0
HasCode o = IsSome (answer_of o).code

-- the bytes of a payload
abbrev pub payload_bytes : Payload → List ℕ
payload_bytes (text bytes) = bytes
payload_bytes (word bytes) = bytes
payload_bytes nothing = []

-- the bytes that are sent of an outcome
abbrev pub payload_of : Outcome → List ℕ
payload_of o = payload_bytes (answer_of o).payload

-- the text that it carries
abbrev pub carried_text : Payload → Option (List ℕ)
carried_text (text bytes) = Some bytes
carried_text (word bytes) = None
carried_text nothing = None

abbrev pub text_of : Outcome → Option (List ℕ)
text_of o = carried_text (answer_of o).payload

-- the word that it has; nothing where it carries a text or says nothing
abbrev pub plain_word : Payload → List ℕ
plain_word (text bytes) = []
plain_word (word bytes) = bytes
plain_word nothing = []

abbrev pub word_of : Outcome → List ℕ
word_of o = plain_word (answer_of o).payload

-- the version of the property that was read, whose entity tag is said (RFC 9110, section 8.8.3; RFC 7252, section
-- 5.10.6)
abbrev pub version_of : Outcome → Option ℕ
version_of (outcome.Content value tag) = tag
version_of (outcome.NotModified tag) = Some tag
version_of o = None
