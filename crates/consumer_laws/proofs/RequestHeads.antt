-- The head of the request that a consumer writes: it is a head by the grammar, and its lines say what is asked for.
use Rattle.std.proofs.Common.{◌≡◌, ◌≢◌, ◌<◌, ◌≤◌, ◌^◌, ℕ, Bool, true, false, not, List, [], ◌∷◌, ◌++◌, append_assoc, length, map, Option, Some, None, Result, Ok, Err, refl, ap, ap₂, ◌∙◌, arith}
use Rattle.std.specs.Prelude.{◌&&◌, codes, decimal, IsTrue, nat_lt, unwrap_or, if◌then◌else◌}
use Rattle.std.specs.List.{AllByRecursion, list_all}
use Rattle.std.specs.Char.{is_ascii_digit}
use Rattle.std.specs.Str.{IsAscii}
use Rattle.std.specs.Str.Parse.{digits_value}
use Rattle.std.proofs.lemmas.Bool.Decides.{nat_tests}
use Rattle.std.proofs.lemmas.List.{length-append}
use Rattle.std.proofs.lemmas.List.Elements.{All-from_recursion}
use Rattle.std.proofs.lemmas.Str.{IsUtf8-from_ascii}
use Rattle.std.proofs.lemmas.Str.Ascii.{IsAscii-from_all}
use Rattle.httparse.specs.Grammar.{is_token_byte, is_uri_byte, is_value_byte, IsToken, IsField, crlf, trim_ows, print_section, print_request, RequestHead, IsRequestHead}
use Rattle.http_fields.specs.declared.framing.Framing.{Framing}
use Rattle.http_fields.specs.declared.framing.Framing.TheVariants as framing
use Rattle.http_fields.specs.Fields.{Said, said_by, format_of, accept_of}
use Rattle.http_fields.specs.Framings.{is_length, stated_framing, framing_by}
use Rattle.http_wire.specs.Conditions.{asking_lines}
use Rattle.http_wire.specs.Heads.{lines_of}
use Rattle.http_wire.specs.Judging.{is_once, is_often, longest_body}
use Rattle.thing_ops.specs.declared.verb.Verb.{Verb}
use Rattle.thing_ops.specs.declared.verb.Verb.TheVariants as verb
use Rattle.thing_ops.specs.Verbs.{verb_name}
use Rattle.wot_consumer.specs.declared.chosen.Chosen.{Chosen}
use Rattle.wot_consumer.specs.Messages.{path_text, host_and_port, request_line, field, body_fields, request_bytes}
use Rattle.consumer_laws.specs.Asking.{IsVisible, format_for}
use Rattle.consumer_laws.proofs.HeadLines.{IsPlain, IsLine, AreLines, printed}
use Rattle.consumer_laws.proofs.HeadBytes.{both_all, weaker, plain, is_plain, plain_bytes, digits_pass, fields, line_of, lines_all, token, IsGood, good, good_all, good_fields, one_line, section_is, IsSize, is_size, digit_is_plain, digit_is_value, visible_is_plain, visible_value}
use Rattle.consumer_laws.proofs.Targets.{target_is_visible, some_target}

-- ---- the head as lines

-- names and values, each value with the blank before it
abbrev pub Lines : Type 0
Lines = List (List ℕ × List ℕ)

abbrev pub body_lines : Option (List ℕ) → Lines
body_lines None = []
body_lines (Some body) = (codes "Content-Type", codes " application/json") ∷ (codes "Content-Length", 32 ∷ decimal (length body)) ∷ []

abbrev pub last_lines : Lines
last_lines = (codes "Connection", codes " close") ∷ []

abbrev pub lines_for : Chosen → Option (List ℕ) → Lines
lines_for c input = (codes "Host", 32 ∷ host_and_port c) ∷ (codes "Accept", codes " application/json") ∷ (body_lines input ++ last_lines)

abbrev pub start_line : Chosen → List ℕ
start_line c = verb_name c.verb ++ 32 ∷ path_text c.path ++ 32 ∷ codes "HTTP/1.1"

abbrev pub head_lines : Chosen → Option (List ℕ) → List (List ℕ)
head_lines c input = start_line c ∷ map line_of (lines_for c input)

abbrev pub http_head : Chosen → Option (List ℕ) → RequestHead
http_head c input = record {
  blank = [];
  method = verb_name c.verb;
  target = path_text c.path;
  minor = 1;
  line_end = crlf;
  fields = fields (lines_for c input);
  last = crlf;
}

pub head_is : (c : Chosen) (input : Option (List ℕ)) → print_request (http_head c input) ≡ printed (head_lines c input)
unfolding print_request
head_is c input =
    append_assoc (start_line c) (13 ∷ 10 ∷ []) (print_section (fields (lines_for c input)) crlf)
    ∙ ap (λ (x : List ℕ). start_line c ++ 13 ∷ 10 ∷ x) (section_is (lines_for c input))

-- ---- the bytes of the request are these lines, and the body

regrouped : (l h a b c e body : List ℕ) → l ++ h ++ a ++ b ++ c ++ e ++ body ≡ (l ++ (h ++ (a ++ (b ++ (c ++ e))))) ++ body
regrouped l h a b c e body = simp append_assoc

first_line : (c : Chosen) → request_line c ≡ start_line c ++ 13 ∷ 10 ∷ []
first_line c =
    ap (λ (x : List ℕ). x ++ codes " HTTP/1.1" ++ 13 ∷ 10 ∷ []) (append_assoc (verb_name c.verb) (codes " ") (path_text c.path))

last_are : field (codes "Connection") (codes "close") ++ 13 ∷ 10 ∷ [] ≡ printed (map line_of last_lines)
last_are = refl

body_are : (input : Option (List ℕ)) → body_fields input ++ printed (map line_of last_lines) ≡ printed (map line_of (body_lines input ++ last_lines))
body_are None = refl
body_are (Some body) =
    append_assoc (field (codes "Content-Type") (codes "application/json")) (field (codes "Content-Length") (decimal (length body))) (printed (map line_of last_lines))
    ∙ ap (λ (x : List ℕ). codes "Content-Type: application/json" ++ 13 ∷ 10 ∷ x) (one_line (codes "Content-Length: " ++ decimal (length body)) (printed (map line_of last_lines)))

lines_are : (c : Chosen) (input : Option (List ℕ))
    → request_line c ++ (field (codes "Host") (host_and_port c) ++ (field (codes "Accept") (codes "application/json") ++ (body_fields input ++ printed (map line_of last_lines)))) ≡ printed (head_lines c input)
lines_are c input =
    ap (λ (x : List ℕ). x ++ (field (codes "Host") (host_and_port c) ++ (field (codes "Accept") (codes "application/json") ++ (body_fields input ++ printed (map line_of last_lines))))) (first_line c)
    ∙ one_line (start_line c) (field (codes "Host") (host_and_port c) ++ (field (codes "Accept") (codes "application/json") ++ (body_fields input ++ printed (map line_of last_lines))))
    ∙ ap (λ (x : List ℕ). start_line c ++ 13 ∷ 10 ∷ x)
    (one_line (codes "Host: " ++ host_and_port c) (field (codes "Accept") (codes "application/json") ++ (body_fields input ++ printed (map line_of last_lines)))
    ∙ ap (λ (x : List ℕ). (codes "Host: " ++ host_and_port c) ++ 13 ∷ 10 ∷ x)
    (ap (λ (x : List ℕ). codes "Accept: application/json" ++ 13 ∷ 10 ∷ x) (body_are input)))

pub bytes_are : (c : Chosen) (input : Option (List ℕ)) → request_bytes c input ≡ printed (head_lines c input) ++ unwrap_or input []
bytes_are c input =
    regrouped (request_line c) (field (codes "Host") (host_and_port c)) (field (codes "Accept") (codes "application/json")) (body_fields input) (field (codes "Connection") (codes "close")) (13 ∷ 10 ∷ []) (unwrap_or input [])
    ∙ ap (λ (x : List ℕ). x ++ unwrap_or input []) (lines_are c input)

-- ---- what the lines say

pub record Says (input : Option (List ℕ)) (s : Said) : Type 0 where
  pub host : is_once s.host ≡ true
  pub framed : framing_by longest_body true s.content_length s.transfer_encoding ≡ Ok (framing.Stated (length (unwrap_or input [])))
  pub one_type : is_often s.content_type ≡ false
  pub format_is : format_of s.content_type ≡ format_for input
  pub continues : s.continues ≡ false
  pub accept_is : accept_of s.accept ≡ record { json = true; td = false }

abbrev framing_of : Bool → Bool → ℕ → Result Framing ℕ
framing_of b c m = if not b then Err 400 else if c then Err 413 else Ok (framing.Stated m)

stated_as : (b c : Bool) (m n : ℕ) → b ≡ true → c ≡ false → m ≡ n → framing_of b c m ≡ Ok (framing.Stated n)
stated_as true false m n is isnt same = ap (λ (k : ℕ). Ok (framing.Stated k)) same
stated_as true true m n is isnt same = absurd cc
stated_as false c m n is isnt same = absurd cc

pub stated : (most n : ℕ) → IsSize n → n ≤ most → stated_framing most (decimal n) ≡ Ok (framing.Stated n)
stated most n size short = stated_as (is_length (decimal n)) (nat_lt most (digits_value 10 (decimal n))) (digits_value 10 (decimal n)) n is_stated (ap (nat_lt most) size.value ∙ fits) size.value
  where
    fits : nat_lt most n ≡ false
    fits = grind (arith, nat_tests)

    longer : (m : ℕ) → 0 < m → nat_lt 0 m ≡ true
    longer m some = grind (arith, nat_tests)

    digit : (c : ℕ) → 48 ≤ c → c ≤ 57 → is_ascii_digit c ≡ true
    digit c low high = grind (arith, nat_tests)

    is_stated : is_length (decimal n) ≡ true
    is_stated = ap₂ (λ (x y : Bool). x && y) (longer (length (decimal n)) size.some) (digits_pass is_ascii_digit (decimal n) digit size.digits)

pub fits_size : (n : ℕ) → n ≤ longest_body → IsSize n
fits_size n short = is_size n (omega (arith, short))

-- the blank before a value goes
pub behind_blank : (value : List ℕ) → trim_ows (32 ∷ value) ≡ trim_ows value
unfolding trim_ows
behind_blank value = refl

pub says : (c : Chosen) (input : Option (List ℕ)) → length (unwrap_or input []) ≤ longest_body → Says input (said_by (lines_of (http_head c input)))
unfolding trim_ows
says c None short = record { host = refl; framed = refl; one_type = refl; format_is = refl; continues = refl; accept_is = refl }
says c (Some body) short = record {
  host = refl;
  framed = ap (stated_framing longest_body) (behind_blank (decimal (length body)) ∙ (fits_size (length body) short).trimmed) ∙ stated longest_body (length body) (fits_size (length body) short) short;
  one_type = refl;
  format_is = refl;
  continues = refl;
  accept_is = refl;
}

-- none of them asks for a version
pub asks_nothing : (c : Chosen) (input : Option (List ℕ)) → asking_lines (lines_of (http_head c input)) ≡ []
asks_nothing c None = refl
asks_nothing c (Some body) = refl

-- ---- each is a line

plain_method : (v : Verb) → v ≢ verb.Other → (list_all plain (verb_name v) ≡ true) × (0 < length (verb_name v))
plain_method verb.Get isnt = (refl, omega arith)
plain_method verb.Head isnt = (refl, omega arith)
plain_method verb.Put isnt = (refl, omega arith)
plain_method verb.Post isnt = (refl, omega arith)
plain_method verb.Patch isnt = (refl, omega arith)
plain_method verb.Delete isnt = (refl, omega arith)
plain_method verb.Other isnt = absurd (isnt refl)

longer : (a b : List ℕ) → 0 < length a → 0 < length (a ++ b)
longer a b some = let sum = length-append a b in omega (arith, sum, some)

pub start_is_line : (c : Chosen) → c.verb ≢ verb.Other → IsLine (start_line c)
start_is_line c isnt =
    let method = plain_method c.verb isnt in (
      both_all IsPlain (verb_name c.verb ++ 32 ∷ path_text c.path) (32 ∷ codes "HTTP/1.1")
          (both_all IsPlain (verb_name c.verb) (32 ∷ path_text c.path) (plain_bytes (verb_name c.verb) method.0)
          (is_plain 32 refl, visible_is_plain (path_text c.path) (target_is_visible c.path)))
          (plain_bytes (32 ∷ codes "HTTP/1.1") refl),
      longer (verb_name c.verb ++ 32 ∷ path_text c.path) (32 ∷ codes "HTTP/1.1") (longer (verb_name c.verb) (32 ∷ path_text c.path) method.1),
    )

-- what is behind a name
size_of : (n : ℕ) → n < 2 ^ 64 → AllByRecursion IsPlain (decimal n)
size_of n fits = plain_bytes (decimal n) (digits_pass plain (decimal n) digit_is_plain (is_size n fits).digits)

module _ (c : Chosen) (host : AllByRecursion IsVisible c.host) (port : c.port < 2 ^ 16) where
  port_fits : c.port < 2 ^ 64
  port_fits = omega (arith, port)

  host_plain : AllByRecursion IsPlain (host_and_port c)
  host_plain = both_all IsPlain (c.host ++ codes ":") (decimal c.port) (both_all IsPlain c.host (codes ":") (visible_is_plain c.host host) (plain_bytes (codes ":") refl)) (size_of c.port port_fits)

  host_value : list_all is_value_byte (host_and_port c) ≡ true
  host_value = both_pass (c.host ++ codes ":") (decimal c.port) (both_pass c.host (codes ":") (visible_value c.host host) refl) (digits_pass is_value_byte (decimal c.port) digit_is_value (is_size c.port port_fits).digits)
    where
      both_pass : (a b : List ℕ) → list_all is_value_byte a ≡ true → list_all is_value_byte b ≡ true → list_all is_value_byte (a ++ b) ≡ true
      both_pass [] b p q = q
      both_pass (x ∷ a) b p q = step (is_value_byte x) (list_all is_value_byte a) (list_all is_value_byte (a ++ b)) p (λ one. both_pass a b one q)
        where
          step : (s t u : Bool) → (s && t) ≡ true → (t ≡ true → u ≡ true) → (s && u) ≡ true
          step true t u both more = more both
          step false t u both more = absurd cc

  body_line_are : (input : Option (List ℕ)) → length (unwrap_or input []) ≤ longest_body → AreLines (map line_of (body_lines input))
  body_line_are None short = tt
  body_line_are (Some body) short = (
    (plain_bytes (codes "Content-Type: application/json") refl, omega arith),
    (
      (both_all IsPlain (codes "Content-Length: ") (decimal (length body)) (plain_bytes (codes "Content-Length: ") refl) (size_of (length body) (omega (arith, short))), omega arith),
      tt,
    ),
  )

  pub header_are : (input : Option (List ℕ)) → length (unwrap_or input []) ≤ longest_body → AreLines (map line_of (lines_for c input))
  header_are input short = (
    (both_all IsPlain (codes "Host: ") (host_and_port c) (plain_bytes (codes "Host: ") refl) host_plain, omega arith),
    (
      (plain_bytes (codes "Accept: application/json") refl, omega arith),
      lines_all (body_lines input) last_lines (body_line_are input short) ((plain_bytes (codes "Connection: close") refl, omega arith), tt),
    ),
  )

  -- ---- it is a head by the grammar

  good_body : (input : Option (List ℕ)) → length (unwrap_or input []) ≤ longest_body → AllByRecursion IsGood (body_lines input)
  unfolding is_token_byte
  good_body None short = tt
  good_body (Some body) short = (
    good (codes "Content-Type") (codes " application/json") (omega arith) refl refl,
    (
      good (codes "Content-Length") (32 ∷ decimal (length body)) (omega arith) refl (digits_pass is_value_byte (decimal (length body)) digit_is_value (is_size (length body) (omega (arith, short))).digits),
      tt,
    ),
  )

  good_lines : (input : Option (List ℕ)) → length (unwrap_or input []) ≤ longest_body → AllByRecursion IsGood (lines_for c input)
  unfolding is_token_byte
  good_lines input short = (
    good (codes "Host") (32 ∷ host_and_port c) (omega arith) refl host_value,
    (
      good (codes "Accept") (codes " application/json") (omega arith) refl refl,
      good_all (body_lines input) last_lines (good_body input short) (good (codes "Connection") (codes " close") (omega arith) refl refl, tt),
    ),
  )

  method_token : (v : Verb) → v ≢ verb.Other → IsToken (verb_name v)
  unfolding is_token_byte
  method_token verb.Get isnt = token (codes "GET") (omega arith) refl
  method_token verb.Head isnt = token (codes "HEAD") (omega arith) refl
  method_token verb.Put isnt = token (codes "PUT") (omega arith) refl
  method_token verb.Post isnt = token (codes "POST") (omega arith) refl
  method_token verb.Patch isnt = token (codes "PATCH") (omega arith) refl
  method_token verb.Delete isnt = token (codes "DELETE") (omega arith) refl
  method_token verb.Other isnt = absurd (isnt refl)

  uri_bytes : (bytes : List ℕ) → AllByRecursion IsVisible bytes → AllByRecursion (λ b. IsTrue (is_uri_byte b)) bytes
  uri_bytes bytes all = weaker IsVisible (λ b. IsTrue (is_uri_byte b)) bytes (λ b seen. is_uri b seen.0 seen.1) all
    where
      is_uri : (b : ℕ) → 33 ≤ b → b ≤ 126 → is_uri_byte b ≡ true
      is_uri b low high = grind (arith, nat_tests)

  target_ascii : (bytes : List ℕ) → AllByRecursion IsVisible bytes → IsAscii bytes
  target_ascii bytes all = IsAscii-from_all bytes (All-from_recursion (λ b. b < 128) bytes (weaker IsVisible (λ b. b < 128) bytes (λ b seen. omega (arith, seen.1)) all))

  pub request_head : (input : Option (List ℕ)) → c.verb ≢ verb.Other → length (unwrap_or input []) ≤ longest_body → IsRequestHead (http_head c input)
  request_head input isnt short = record {
    method = method_token c.verb isnt;
    target = (some_target c.path, All-from_recursion (λ b. IsTrue (is_uri_byte b)) (path_text c.path) (uri_bytes (path_text c.path) (target_is_visible c.path)));
    target_text = IsUtf8-from_ascii (path_text c.path) (target_ascii (path_text c.path) (target_is_visible c.path));
    minor = omega arith;
    fields = All-from_recursion IsField (fields (lines_for c input)) (good_fields (lines_for c input) (good_lines input short));
  }
