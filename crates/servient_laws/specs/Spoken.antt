-- A request that both bindings can say is read from a message of either, so that the law of one meaning by both is said
-- of something.
use Rattle.std.specs.Prelude.{◌≡◌, ◌≢◌, ◌≤◌, ◌<◌, ◌^◌, ℕ, List, [], ◌∷◌, ◌++◌, length, map, codes, decimal, Bool, true, false, IsSome, IfSome, Option, Some, None, unwrap_or, if◌then◌else◌}
use Rattle.std.specs.List.{AllByRecursion, flat_map}
use Rattle.httparse.specs.Grammar.{RequestHead, crlf, print_request}
use Rattle.percent_encoding.specs.Percent.{percent_encode_byte}
use Rattle.coap_msg.specs.declared.constants.TheConstants.{LONGEST_SEGMENT, LONGEST_DATAGRAM, IF_MATCH, ETAG, IF_NONE_MATCH, URI_PATH, CONTENT_FORMAT, ACCEPT, GET, POST, PUT, DELETE, JSON, TD_JSON}
use Rattle.coap_msg.specs.declared.message.Type4.TheVariants.{Con}
use Rattle.coap_msg.specs.Grammar.{CoapOption, CoapMessage, spelling, Spells}
use Rattle.coap_msg.specs.Numbers.{number_bytes}
use Rattle.coap_msg.specs.Opts.{segment_options}
use Rattle.coap_opts.specs.Reading.{faults_of, asked as what_is_asked}
use Rattle.coap_bind.specs.Server.{is_request}
use Rattle.coap_bind.specs.Transfers.{NamesNoBlock}
use Rattle.thing_ops.specs.declared.verb.Verb.{Verb}
use Rattle.thing_ops.specs.declared.verb.Verb.TheVariants as verb
use Rattle.thing_ops.specs.declared.request.Format.{Format}
use Rattle.thing_ops.specs.declared.request.Format.TheVariants as format
use Rattle.thing_ops.specs.declared.conditions.Tags.{Tags}
use Rattle.thing_ops.specs.declared.conditions.Conditions.{Conditions}
use Rattle.thing_ops.specs.Requests.{RequestSeen}
use Rattle.http_replies.specs.Writing.{entity_tag}
use Rattle.http_wire.specs.Judging.{longest_body}
use Rattle.http_wire.specs.Stream.{Front, IsFront, longest_head}
use Rattle.http_bind.specs.Streams.{asks, to_take}

-- ---- what is asked of versions

-- a version that has a tag (RFC 9110, section 8.8.3; RFC 7252, section 5.10.6)
abbrev pub IsVersion : ℕ → Type 0
IsVersion v = (1 ≤ v) × (v < 2 ^ 32)

-- The conditions that both bindings can say with a verb: of a GET that versions are known, and of another request that
-- nothing was to be there. HTTP alone has versions in If-None-Match of a write, and `*` of a GET; CoAP alone has
-- If-None-Match of a GET.
abbrev pub IsSaidByBoth : Verb → Conditions → Type 0
IsSaidByBoth verb.Get c = c.absent ≡ false
IsSaidByBoth verb.Head c = (c.absent ≡ false) × (c.known.list ≡ [])
IsSaidByBoth verb.Put c = c.known.list ≡ []
IsSaidByBoth verb.Post c = c.known.list ≡ []
IsSaidByBoth verb.Patch c = c.known.list ≡ []
IsSaidByBoth verb.Delete c = c.known.list ≡ []
IsSaidByBoth verb.Other c = c.known.list ≡ []

-- the versions that are named have tags, and both bindings can say it
pub record MayBeAsked (v : Verb) (c : Conditions) : Type 0 where
  pub matched : IfSome c.if_match (λ tags. AllByRecursion IsVersion tags.list)
  pub known : AllByRecursion IsVersion c.known.list
  pub named : c.known.any ≡ false
  pub said : IsSaidByBoth v c

-- ---- by CoAP (RFC 7252)

-- an option for each version, with its tag (section 5.10.6)
abbrev pub tag_options : ℕ → List ℕ → List CoapOption
tag_options number versions = map (λ v. (number, number_bytes v)) versions

-- If-Match (section 5.10.8.1): of no bytes where any version is asked for, and else of a byte that names none; and one
-- for each version
abbrev pub match_options : Option Tags → List CoapOption
match_options None = []
match_options (Some tags) = (IF_MATCH, if tags.any then [] else 0 ∷ []) ∷ tag_options IF_MATCH tags.list

-- If-None-Match (section 5.10.8.2)
abbrev pub absent_options : Bool → List CoapOption
absent_options true = (IF_NONE_MATCH, []) ∷ []
absent_options false = []

-- the code of a verb, where it has one (section 12.1.1)
abbrev pub code_of : Verb → Option ℕ
code_of verb.Get = Some GET
code_of verb.Post = Some POST
code_of verb.Put = Some PUT
code_of verb.Delete = Some DELETE
code_of v = None

-- Content-Format, where a format is named (section 12.3); the number 0 is that of a plain text
abbrev pub format_options : Format → List CoapOption
format_options format.Absent = []
format_options format.Json = (CONTENT_FORMAT, number_bytes JSON) ∷ []
format_options format.Td = (CONTENT_FORMAT, number_bytes TD_JSON) ∷ []
format_options f = (CONTENT_FORMAT, []) ∷ []

-- Accept, where not both formats are taken (section 5.10.4)
abbrev pub accept_options : Bool → Bool → List CoapOption
accept_options true true = []
accept_options true false = (ACCEPT, number_bytes JSON) ∷ []
accept_options false true = (ACCEPT, number_bytes TD_JSON) ∷ []
accept_options false false = (ACCEPT, []) ∷ []

-- a message that asks for it
abbrev pub coap_message : RequestSeen → CoapMessage
coap_message q = record {
  kind = Con;
  code = unwrap_or (code_of q.verb) 0;
  id = 0;
  token = [];
  options = match_options q.conditions.if_match ++ (tag_options ETAG q.conditions.known.list ++ (absent_options q.conditions.absent
      ++ (segment_options URI_PATH q.path ++ (format_options q.format ++ accept_options q.accept.json q.accept.td))));
  payload = q.body;
}

-- It is a message and a request, nothing is wrong with its options, it names no block, and it asks for that.
pub record IsReadByCoap (q : RequestSeen) : Type 0 where
  pub spells : Spells (coap_message q) (spelling (coap_message q))
  pub request : is_request (coap_message q) ≡ true
  pub options : faults_of (coap_message q).options ≡ []
  pub names : NamesNoBlock (coap_message q)
  pub asks_it : (what_is_asked (coap_message q)).request ≡ q

-- ---- by HTTP (RFC 9112)

-- the method of a verb
abbrev pub method_of : Verb → List ℕ
method_of verb.Get = codes "GET"
method_of verb.Head = codes "HEAD"
method_of verb.Put = codes "PUT"
method_of verb.Post = codes "POST"
method_of verb.Patch = codes "PATCH"
method_of verb.Delete = codes "DELETE"
method_of verb.Other = codes "OTHER"

-- each byte of a segment percent-encoded (RFC 3986, section 2.1)
abbrev pub encoded : List ℕ → List ℕ
encoded segment = flat_map percent_encode_byte segment

-- a target with this path
abbrev pub target_of : List (List ℕ) → List ℕ
target_of [] = 47 ∷ []
target_of (segment ∷ path) = flat_map (λ s. 47 ∷ encoded s) (segment ∷ path)

-- header lines: names and values
abbrev pub type_lines : Format → List (List ℕ × List ℕ)
type_lines format.Absent = []
type_lines format.Json = (codes "Content-Type", codes "application/json") ∷ []
type_lines format.Td = (codes "Content-Type", codes "application/td+json") ∷ []
type_lines format.Patch = (codes "Content-Type", codes "application/merge-patch+json") ∷ []
type_lines format.Other = (codes "Content-Type", codes "text/plain") ∷ []

abbrev pub accept_lines : Bool → Bool → List (List ℕ × List ℕ)
accept_lines true true = []
accept_lines true false = (codes "Accept", codes "application/json") ∷ []
accept_lines false true = (codes "Accept", codes "application/td+json") ∷ []
accept_lines false false = (codes "Accept", codes "text/plain") ∷ []

abbrev pub header_lines : Format → Bool → Bool → List ℕ → List (List ℕ × List ℕ)
header_lines f json td size = (codes "Host", codes "thing") ∷ (codes "Content-Length", size) ∷ type_lines f ++ accept_lines json td

-- a line for each version, with its entity tag (RFC 9110, section 8.8.3)
abbrev pub tag_lines : List ℕ → List ℕ → List (List ℕ × List ℕ)
tag_lines name versions = map (λ v. (name, entity_tag v)) versions

-- If-Match (RFC 9110, section 13.1.1): a line with `*` where any version is asked for, and else one with nothing; and
-- one for each version
abbrev pub match_lines : Option Tags → List (List ℕ × List ℕ)
match_lines None = []
match_lines (Some tags) = (codes "If-Match", if tags.any then codes "*" else []) ∷ tag_lines (codes "If-Match") tags.list

-- If-None-Match (RFC 9110, section 13.1.2)
abbrev pub absent_lines : Bool → List (List ℕ × List ℕ)
absent_lines true = (codes "If-None-Match", codes "*") ∷ []
absent_lines false = []

abbrev pub condition_lines : Conditions → List (List ℕ × List ℕ)
condition_lines c = match_lines c.if_match ++ (tag_lines (codes "If-None-Match") c.known.list ++ absent_lines c.absent)

-- all header lines
abbrev pub lines_for : RequestSeen → List (List ℕ × List ℕ)
lines_for q = condition_lines q.conditions ++ header_lines q.format q.accept.json q.accept.td (decimal (length q.body))

-- the head of a message that asks for it
abbrev pub http_head : RequestSeen → RequestHead
http_head q = record {
  blank = [];
  method = method_of q.verb;
  target = target_of q.path;
  minor = 1;
  line_end = crlf;
  fields = map (λ (l : List ℕ × List ℕ). record { name = l.0; raw = l.1; end = crlf }) (lines_for q);
  last = crlf;
}

abbrev pub http_message : RequestSeen → List ℕ
http_message q = print_request (http_head q) ++ q.body

-- The front of it is taken for that message.
abbrev pub IsReadByHttp : RequestSeen → Type 0
IsReadByHttp q = (f : Front) × IsFront (http_message q) f × (to_take false f ≡ Some (asks q))

-- ---- the law

-- Both bindings can say a request: it has no query, its verb has a code, its format isn't that of a merge patch, its
-- path is one of segments of at most 255 bytes, and isn't the one empty segment; both can say what it asks of versions;
-- and it fits into messages of both.
pub record IsSpeakable (q : RequestSeen) : Type 0 where
  pub verb : IsSome (code_of q.verb)
  pub query : q.query ≡ []
  pub conditions : MayBeAsked q.verb q.conditions
  pub format : q.format ≢ format.Patch
  pub path : AllByRecursion (λ s. length s ≤ LONGEST_SEGMENT) q.path
  pub bytes : AllByRecursion (AllByRecursion (λ b. b < 256)) q.path
  pub path_is : q.path ≢ [] ∷ []
  pub datagram : length (spelling (coap_message q)) ≤ LONGEST_DATAGRAM
  pub head : length (print_request (http_head q)) ≤ longest_head
  pub lines : length (lines_for q) ≤ 64
  pub body : length q.body ≤ longest_body

-- Each such request is read from a message of either binding.
abbrev pub RequestsAreSpoken : Type 0
RequestsAreSpoken = (q : RequestSeen) → IsSpeakable q → IsReadByCoap q × IsReadByHttp q
