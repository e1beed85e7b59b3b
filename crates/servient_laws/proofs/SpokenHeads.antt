-- The head of the HTTP message that says a request: it is a head by the grammar, and its lines say what the request
-- says.
use Rattle.std.proofs.Common.{◌≡◌, ◌≢◌, ◌<◌, ◌≤◌, ℕ, Bool, true, false, List, [], ◌∷◌, ◌++◌, append_assoc, length, map, refl, ap, ◌∙◌, arith}
use Rattle.std.specs.Prelude.{codes, decimal, IsTrue}
use Rattle.std.specs.List.{AllByRecursion, list_all, list_any}
use Rattle.std.specs.Str.{IsAscii, str_eq_ignore_ascii_case}
use Rattle.std.proofs.lemmas.Bool.Decides.{nat_tests}
use Rattle.std.proofs.lemmas.List.{length-append}
use Rattle.std.proofs.lemmas.List.Elements.{All-from_recursion}
use Rattle.std.proofs.lemmas.Str.{IsUtf8-from_ascii}
use Rattle.std.proofs.lemmas.Str.Ascii.{IsAscii-from_all}
use Rattle.httparse.specs.Grammar.{is_token_byte, is_uri_byte, is_value_byte, IsToken, IsField, crlf, trim_ows, print_section, print_request, IsRequestHead}
use Rattle.httparse.specs.Spans.{name_and_value}
use Rattle.http_fields.specs.Fields.{absent, once, standing, is_continue, types_taken, Said, said_by, format_of, accept_of}
use Rattle.http_wire.specs.Judging.{is_once, is_often}
use Rattle.thing_ops.specs.declared.verb.Verb.{Verb}
use Rattle.thing_ops.specs.declared.verb.Verb.TheVariants as verb
use Rattle.thing_ops.specs.declared.request.Format.{Format}
use Rattle.thing_ops.specs.declared.request.Format.TheVariants as format
use Rattle.thing_ops.specs.Requests.{RequestSeen}
use Rattle.thing_ops.specs.declared.conditions.Conditions.{Conditions}
use Rattle.servient_laws.specs.Spoken.{MayBeAsked, method_of, target_of, type_lines, accept_lines, header_lines, condition_lines, lines_for, http_head}
use Rattle.consumer_laws.proofs.HeadBytes.{both_all, weaker, plain, is_plain, plain_bytes, digits_pass, fields, line_of, lines_all, token, IsGood, good, good_all, good_fields, section_is, IsSize}
use Rattle.servient_laws.proofs.SpokenTags.{conditions_are_lines, good_conditions, read_under, other_conditions}
use Rattle.consumer_laws.proofs.HeadLines.{IsPlain, IsLine, AreLines, printed}
use Rattle.servient_laws.proofs.SpokenTargets.{IsTargetByte, target_bytes}

-- ---- what the header lines say

pub record Says (f : Format) (json td : Bool) (size : List ℕ) (s : Said) : Type 0 where
  pub host : is_once s.host ≡ true
  pub size_is : s.content_length ≡ once (trim_ows size)
  pub coding : s.transfer_encoding ≡ absent
  pub one_type : is_often s.content_type ≡ false
  pub format_is : format_of s.content_type ≡ f
  pub continues : s.continues ≡ false
  pub accept_is : accept_of s.accept ≡ record { json = json; td = td }

pub says : (f : Format) (json td : Bool) (size : List ℕ) → Says f json td size (said_by (map name_and_value (fields (header_lines f json td size))))
unfolding trim_ows
says format.Absent true true size = record { host = refl; size_is = refl; coding = refl; one_type = refl; format_is = refl; continues = refl; accept_is = refl }
says format.Absent true false size = record { host = refl; size_is = refl; coding = refl; one_type = refl; format_is = refl; continues = refl; accept_is = refl }
says format.Absent false true size = record { host = refl; size_is = refl; coding = refl; one_type = refl; format_is = refl; continues = refl; accept_is = refl }
says format.Absent false false size = record { host = refl; size_is = refl; coding = refl; one_type = refl; format_is = refl; continues = refl; accept_is = refl }
says format.Json true true size = record { host = refl; size_is = refl; coding = refl; one_type = refl; format_is = refl; continues = refl; accept_is = refl }
says format.Json true false size = record { host = refl; size_is = refl; coding = refl; one_type = refl; format_is = refl; continues = refl; accept_is = refl }
says format.Json false true size = record { host = refl; size_is = refl; coding = refl; one_type = refl; format_is = refl; continues = refl; accept_is = refl }
says format.Json false false size = record { host = refl; size_is = refl; coding = refl; one_type = refl; format_is = refl; continues = refl; accept_is = refl }
says format.Td true true size = record { host = refl; size_is = refl; coding = refl; one_type = refl; format_is = refl; continues = refl; accept_is = refl }
says format.Td true false size = record { host = refl; size_is = refl; coding = refl; one_type = refl; format_is = refl; continues = refl; accept_is = refl }
says format.Td false true size = record { host = refl; size_is = refl; coding = refl; one_type = refl; format_is = refl; continues = refl; accept_is = refl }
says format.Td false false size = record { host = refl; size_is = refl; coding = refl; one_type = refl; format_is = refl; continues = refl; accept_is = refl }
says format.Patch true true size = record { host = refl; size_is = refl; coding = refl; one_type = refl; format_is = refl; continues = refl; accept_is = refl }
says format.Patch true false size = record { host = refl; size_is = refl; coding = refl; one_type = refl; format_is = refl; continues = refl; accept_is = refl }
says format.Patch false true size = record { host = refl; size_is = refl; coding = refl; one_type = refl; format_is = refl; continues = refl; accept_is = refl }
says format.Patch false false size = record { host = refl; size_is = refl; coding = refl; one_type = refl; format_is = refl; continues = refl; accept_is = refl }
says format.Other true true size = record { host = refl; size_is = refl; coding = refl; one_type = refl; format_is = refl; continues = refl; accept_is = refl }
says format.Other true false size = record { host = refl; size_is = refl; coding = refl; one_type = refl; format_is = refl; continues = refl; accept_is = refl }
says format.Other false true size = record { host = refl; size_is = refl; coding = refl; one_type = refl; format_is = refl; continues = refl; accept_is = refl }
says format.Other false false size = record { host = refl; size_is = refl; coding = refl; one_type = refl; format_is = refl; continues = refl; accept_is = refl }

-- none of them asks for a version
pub record AsksNothing (f : Format) (json td : Bool) (size : List ℕ) : Type 0 where
  pub matched : read_under (codes "if-match") (header_lines f json td size) ≡ []
  pub none_matched : read_under (codes "if-none-match") (header_lines f json td size) ≡ []

type_read : (name : List ℕ) (f : Format) (lines : List (List ℕ × List ℕ)) → str_eq_ignore_ascii_case (codes "Content-Type") name ≡ false
    → read_under name (type_lines f ++ lines) ≡ read_under name lines
type_read name format.Absent lines isnt = refl
type_read name format.Json lines isnt = rw isnt refl
type_read name format.Td lines isnt = rw isnt refl
type_read name format.Patch lines isnt = rw isnt refl
type_read name format.Other lines isnt = rw isnt refl

accept_read : (name : List ℕ) (json td : Bool) → str_eq_ignore_ascii_case (codes "Accept") name ≡ false → read_under name (accept_lines json td) ≡ []
accept_read name true true isnt = refl
accept_read name true false isnt = rw isnt refl
accept_read name false true isnt = rw isnt refl
accept_read name false false isnt = rw isnt refl

pub asks_nothing : (f : Format) (json td : Bool) (size : List ℕ) → AsksNothing f json td size
asks_nothing f json td size = record {
  matched = type_read (codes "if-match") f (accept_lines json td) refl ∙ accept_read (codes "if-match") json td refl;
  none_matched = type_read (codes "if-none-match") f (accept_lines json td) refl ∙ accept_read (codes "if-none-match") json td refl;
}

-- lines that ask for versions say nothing else
pub says_behind : (c : Conditions) (f : Format) (json td : Bool) (size : List ℕ)
    → Says f json td size (said_by (map name_and_value (fields (condition_lines c ++ header_lines f json td size))))
says_behind c f json td size =
    let say = says f json td size in
    let lines : List (List ℕ × List ℕ) = header_lines f json td size in
    record {
      host = ap (λ (values : List (List ℕ)). is_once (standing values)) (other_conditions (codes "host") refl refl c lines) ∙ say.host;
      size_is = ap standing (other_conditions (codes "content-length") refl refl c lines) ∙ say.size_is;
      coding = ap standing (other_conditions (codes "transfer-encoding") refl refl c lines) ∙ say.coding;
      one_type = ap (λ (values : List (List ℕ)). is_often (standing values)) (other_conditions (codes "content-type") refl refl c lines) ∙ say.one_type;
      format_is = ap (λ (values : List (List ℕ)). format_of (standing values)) (other_conditions (codes "content-type") refl refl c lines) ∙ say.format_is;
      continues = ap (list_any is_continue) (other_conditions (codes "expect") refl refl c lines) ∙ say.continues;
      accept_is = ap (λ (values : List (List ℕ)). accept_of (types_taken values)) (other_conditions (codes "accept") refl refl c lines) ∙ say.accept_is;
    }

-- ---- the head as lines

abbrev pub start_line : RequestSeen → List ℕ
start_line q = method_of q.verb ++ 32 ∷ target_of q.path ++ 32 ∷ codes "HTTP/1.1"

abbrev pub lines_in : RequestSeen → List (List ℕ × List ℕ)
lines_in q = lines_for q

abbrev pub head_lines : RequestSeen → List (List ℕ)
head_lines q = start_line q ∷ map line_of (lines_in q)

pub head_is : (q : RequestSeen) → print_request (http_head q) ≡ printed (head_lines q)
unfolding print_request
head_is q =
    append_assoc (start_line q) (13 ∷ 10 ∷ []) (print_section (fields (lines_in q)) crlf)
    ∙ ap (λ (x : List ℕ). start_line q ++ 13 ∷ 10 ∷ x) (section_is (lines_in q))

-- ---- each is a line

plain_method : (v : Verb) → (list_all plain (method_of v) ≡ true) × (0 < length (method_of v))
plain_method verb.Get = (refl, omega arith)
plain_method verb.Head = (refl, omega arith)
plain_method verb.Put = (refl, omega arith)
plain_method verb.Post = (refl, omega arith)
plain_method verb.Patch = (refl, omega arith)
plain_method verb.Delete = (refl, omega arith)
plain_method verb.Other = (refl, omega arith)

plain_target : (path : List (List ℕ)) → AllByRecursion (AllByRecursion (λ b. b < 256)) path → AllByRecursion IsPlain (target_of path)
plain_target path bytes = weaker IsTargetByte IsPlain (target_of path) (λ b safe. (target_no_return b safe, target_no_feed b safe)) (target_bytes path bytes)
  where
    target_no_return : (b : ℕ) → IsTargetByte b → b ≢ 13
    target_no_return b safe = let low : 37 ≤ b = safe.0 in omega (arith, low)

    target_no_feed : (b : ℕ) → IsTargetByte b → b ≢ 10
    target_no_feed b safe = let low : 37 ≤ b = safe.0 in omega (arith, low)

pub start_is_line : (q : RequestSeen) → AllByRecursion (AllByRecursion (λ b. b < 256)) q.path → IsLine (start_line q)
start_is_line q bytes =
    let method = plain_method q.verb in
    let some : 0 < length (method_of q.verb) = method.1 in (
      both_all IsPlain (method_of q.verb ++ 32 ∷ target_of q.path) (32 ∷ codes "HTTP/1.1")
          (both_all IsPlain (method_of q.verb) (32 ∷ target_of q.path) (plain_bytes (method_of q.verb) method.0) (is_plain 32 refl, plain_target q.path bytes))
          (plain_bytes (32 ∷ codes "HTTP/1.1") refl),
      longer (method_of q.verb ++ 32 ∷ target_of q.path) (32 ∷ codes "HTTP/1.1") (longer (method_of q.verb) (32 ∷ target_of q.path) some),
    )
  where
    longer : (a b : List ℕ) → 0 < length a → 0 < length (a ++ b)
    longer a b some = let sum = length-append a b in omega (arith, sum, some)

type_are : (f : Format) → AreLines (map line_of (type_lines f))
type_are format.Absent = tt
type_are format.Json = ((plain_bytes (line_of (codes "Content-Type", codes "application/json")) refl, omega arith), tt)
type_are format.Td = ((plain_bytes (line_of (codes "Content-Type", codes "application/td+json")) refl, omega arith), tt)
type_are format.Patch = ((plain_bytes (line_of (codes "Content-Type", codes "application/merge-patch+json")) refl, omega arith), tt)
type_are format.Other = ((plain_bytes (line_of (codes "Content-Type", codes "text/plain")) refl, omega arith), tt)

accept_are : (json td : Bool) → AreLines (map line_of (accept_lines json td))
accept_are true true = tt
accept_are true false = ((plain_bytes (line_of (codes "Accept", codes "application/json")) refl, omega arith), tt)
accept_are false true = ((plain_bytes (line_of (codes "Accept", codes "application/td+json")) refl, omega arith), tt)
accept_are false false = ((plain_bytes (line_of (codes "Accept", codes "text/plain")) refl, omega arith), tt)

size_plain : (c : ℕ) → 48 ≤ c → c ≤ 57 → plain c ≡ true
size_plain c low high = grind (arith, nat_tests)

header_are_lines : (f : Format) (json td : Bool) (n : ℕ) → IsSize n → AreLines (map line_of (header_lines f json td (decimal n)))
header_are_lines f json td n size = (
  (plain_bytes (codes "Host:thing") refl, omega arith),
  (
    (both_all IsPlain (codes "Content-Length:") (decimal n) (plain_bytes (codes "Content-Length:") refl) (plain_bytes (decimal n) (digits_pass plain (decimal n) size_plain size.digits)), omega arith),
    lines_all (type_lines f) (accept_lines json td) (type_are f) (accept_are json td),
  ),
)

pub header_are : (q : RequestSeen) → MayBeAsked q.verb q.conditions → IsSize (length q.body) → AreLines (map line_of (lines_in q))
header_are q may size =
    lines_all (condition_lines q.conditions) (header_lines q.format q.accept.json q.accept.td (decimal (length q.body))) (conditions_are_lines q.verb q.conditions may)
    (header_are_lines q.format q.accept.json q.accept.td (length q.body) size)

-- ---- it is a head by the grammar

method_token : (v : Verb) → IsToken (method_of v)
unfolding is_token_byte
method_token verb.Get = token (codes "GET") (omega arith) refl
method_token verb.Head = token (codes "HEAD") (omega arith) refl
method_token verb.Put = token (codes "PUT") (omega arith) refl
method_token verb.Post = token (codes "POST") (omega arith) refl
method_token verb.Patch = token (codes "PATCH") (omega arith) refl
method_token verb.Delete = token (codes "DELETE") (omega arith) refl
method_token verb.Other = token (codes "OTHER") (omega arith) refl

good_types : (f : Format) → AllByRecursion IsGood (type_lines f)
unfolding is_token_byte
good_types format.Absent = tt
good_types format.Json = (good (codes "Content-Type") (codes "application/json") (omega arith) refl refl, tt)
good_types format.Td = (good (codes "Content-Type") (codes "application/td+json") (omega arith) refl refl, tt)
good_types format.Patch = (good (codes "Content-Type") (codes "application/merge-patch+json") (omega arith) refl refl, tt)
good_types format.Other = (good (codes "Content-Type") (codes "text/plain") (omega arith) refl refl, tt)

good_accepts : (json td : Bool) → AllByRecursion IsGood (accept_lines json td)
unfolding is_token_byte
good_accepts true true = tt
good_accepts true false = (good (codes "Accept") (codes "application/json") (omega arith) refl refl, tt)
good_accepts false true = (good (codes "Accept") (codes "application/td+json") (omega arith) refl refl, tt)
good_accepts false false = (good (codes "Accept") (codes "text/plain") (omega arith) refl refl, tt)

size_value : (c : ℕ) → 48 ≤ c → c ≤ 57 → is_value_byte c ≡ true
size_value c low high = grind (arith, nat_tests)

good_lines : (f : Format) (json td : Bool) (n : ℕ) → IsSize n → AllByRecursion IsGood (header_lines f json td (decimal n))
unfolding is_token_byte
good_lines f json td n size = (
  good (codes "Host") (codes "thing") (omega arith) refl refl,
  (
    good (codes "Content-Length") (decimal n) (omega arith) refl (digits_pass is_value_byte (decimal n) size_value size.digits),
    good_all (type_lines f) (accept_lines json td) (good_types f) (good_accepts json td),
  ),
)

uri_bytes : (bytes : List ℕ) → AllByRecursion IsTargetByte bytes → AllByRecursion (λ b. IsTrue (is_uri_byte b)) bytes
uri_bytes bytes all = weaker IsTargetByte (λ b. IsTrue (is_uri_byte b)) bytes is_uri all
  where
    is_uri : (b : ℕ) → IsTargetByte b → is_uri_byte b ≡ true
    is_uri b safe =
        let low : 37 ≤ b = safe.0 in
        let high : b ≤ 70 = safe.1 in
        grind (arith, nat_tests)

some_target : (path : List (List ℕ)) → 0 < length (target_of path)
some_target [] = omega arith
some_target (segment ∷ path) = omega arith

target_ascii : (bytes : List ℕ) → AllByRecursion IsTargetByte bytes → IsAscii bytes
target_ascii bytes all = IsAscii-from_all bytes (All-from_recursion (λ b. b < 128) bytes (weaker IsTargetByte (λ b. b < 128) bytes (λ b safe. let high : b ≤ 70 = safe.1 in omega (arith, high)) all))

pub request_head : (q : RequestSeen) → AllByRecursion (AllByRecursion (λ b. b < 256)) q.path → MayBeAsked q.verb q.conditions → IsSize (length q.body) → IsRequestHead (http_head q)
request_head q bytes may size = record {
  method = method_token q.verb;
  target = (some_target q.path, All-from_recursion (λ b. IsTrue (is_uri_byte b)) (target_of q.path) (uri_bytes (target_of q.path) (target_bytes q.path bytes)));
  target_text = IsUtf8-from_ascii (target_of q.path) (target_ascii (target_of q.path) (target_bytes q.path bytes));
  minor = omega arith;
  fields = All-from_recursion IsField (fields (lines_in q)) (good_fields (lines_in q)
      (good_all (condition_lines q.conditions) (header_lines q.format q.accept.json q.accept.td (decimal (length q.body))) (good_conditions q.verb q.conditions may)
      (good_lines q.format q.accept.json q.accept.td (length q.body) size)));
}
