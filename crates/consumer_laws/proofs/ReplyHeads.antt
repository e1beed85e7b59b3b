-- The head of a reply that a servient writes: it is a head by the grammar, and its lines say how long the body is.
use Rattle.std.proofs.Common.{◌≡◌, ◌<◌, ◌≤◌, ◌+◌, ℕ, Bool, true, false, List, [], ◌∷◌, ◌++◌, append_assoc, append-nil, length, map, Option, Some, None, option_map, Result, Ok, refl, sym, ap, ap₂, subst, ◌∙◌, arith}
use Rattle.std.specs.Prelude.{◌&&◌, ◌||◌, ◌==◌, codes, decimal, IfSome, IsSome, IsTrue, if◌then◌else◌}
use Rattle.std.specs.List.{AllByRecursion, list_all}
use Rattle.std.specs.Char.{is_ascii_digit}
use Rattle.std.specs.Str.{str_eq_ignore_ascii_case}
use Rattle.std.specs.Str.Parse.{digits_value}
use Rattle.std.proofs.lemmas.Bool.Decides.{nat_tests}
use Rattle.std.proofs.lemmas.List.{length-append, length-map}
use Rattle.std.proofs.lemmas.List.Elements.{All-from_recursion}
use Rattle.httparse.specs.Grammar.{is_token_byte, is_value_byte, IsField, crlf, trim_ows, print_section, print_response, ResponseHead, IsResponseHead}
use Rattle.httparse.specs.Spans.{name_and_value}
use Rattle.http_fields.specs.declared.framing.Framing.{Framing}
use Rattle.http_fields.specs.declared.framing.Framing.TheVariants as framing
use Rattle.http_fields.specs.Bodies.{longest_reply}
use Rattle.http_fields.specs.Fields.{Standing, absent, once, standing, values_of}
use Rattle.http_fields.specs.Framings.{stated_framing, framing_by}
use Rattle.http_fields.specs.Marks.{line_feeds}
use Rattle.http_replies.specs.ReplyFronts.{IsReplyJudged, one_head, is_interim, is_bodiless, no_framing, some_framing, are_absent, reply_framing, with_status, said_in_reply, judged_reply}
use Rattle.http_replies.specs.Writing.{entity_tag, PlainReply, phrase_of, field_line, written_length, closing, http_reply}
use Rattle.http_replies.proofs.ReplyLines.{from_close, from_length, from_allow, from_location, from_tag, from_type, by_lines}
use Rattle.consumer_laws.proofs.HeadLines.{IsPlain, IsLine, AreLines, printed, feeds_of_lines}
use Rattle.consumer_laws.proofs.HeadBytes.{both_all, weaker, plain, is_plain, plain_bytes, passes, all_pass, digits_pass, field_of, fields, line_of, lines_all, IsGood, good, good_all, good_fields, one_line, section_is, IsSize, is_size}
use Rattle.consumer_laws.proofs.RequestHeads.{Lines, stated, behind_blank}

-- ---- texts of printable characters

abbrev pub IsPrintable : ℕ → Type 0
IsPrintable b = (32 ≤ b) × (b ≤ 126)

abbrev pub IsText : List ℕ → Type 0
IsText = AllByRecursion IsPrintable

text_is_plain : (bytes : List ℕ) → IsText bytes → AllByRecursion IsPlain bytes
text_is_plain bytes all = weaker IsPrintable IsPlain bytes (λ b seen. (λ same. omega (arith, seen.0, same), λ same. omega (arith, seen.0, same))) all

text_value : (bytes : List ℕ) → IsText bytes → list_all is_value_byte bytes ≡ true
text_value [] all = refl
text_value (b ∷ bytes) all = ap₂ (λ (x y : Bool). x && y) (one b all.0.0 all.0.1) (text_value bytes all.1)
  where
    one : (c : ℕ) → 32 ≤ c → c ≤ 126 → is_value_byte c ≡ true
    one c low high = grind (arith, nat_tests)

-- ---- a line that may stand

abbrev pub line_if : List ℕ → Option (List ℕ) → Lines
line_if name None = []
line_if name (Some value) = (name, 32 ∷ value) ∷ []

-- what is printed of it, before what is behind it
line_before : (name : List ℕ) (o : Option (List ℕ)) (rest : List (List ℕ)) → field_line (name ++ 58 ∷ 32 ∷ []) o ++ printed rest ≡ printed (map line_of (line_if name o) ++ rest)
line_before name None rest = refl
line_before name (Some value) rest =
    ap (λ (x : List ℕ). x ++ printed rest) (sym (append_assoc (name ++ 58 ∷ 32 ∷ []) value (13 ∷ 10 ∷ [])) ∙ ap (λ (x : List ℕ). x ++ 13 ∷ 10 ∷ []) (append_assoc name (58 ∷ 32 ∷ []) value))
    ∙ one_line (name ++ 58 ∷ 32 ∷ value) (printed rest)

line_if_are : (name : List ℕ) (o : Option (List ℕ)) → list_all plain name ≡ true → IfSome o IsText → AreLines (map line_of (line_if name o))
line_if_are name None named is = tt
line_if_are name (Some value) named is =
    ((both_all IsPlain name (58 ∷ 32 ∷ value) (plain_bytes name named) (is_plain 58 refl, (is_plain 32 refl, text_is_plain value is)), longer (length-append name (58 ∷ 32 ∷ value))), tt)
  where
    longer : length (name ++ 58 ∷ 32 ∷ value) ≡ length name + length (58 ∷ 32 ∷ value) → 0 < length (name ++ 58 ∷ 32 ∷ value)
    longer sum = omega (arith, sum)

line_if_good : (name : List ℕ) (o : Option (List ℕ)) → 0 < length name → list_all is_token_byte name ≡ true → IfSome o IsText → AllByRecursion IsGood (line_if name o)
line_if_good name None some named is = tt
line_if_good name (Some value) some named is = (good name (32 ∷ value) some named (text_value (32 ∷ value) ((omega arith, omega arith), is)), tt)

line_if_few : (name : List ℕ) (o : Option (List ℕ)) (n : ℕ) (rest : Lines) → length rest ≤ n → length (line_if name o ++ rest) ≤ n + 1
line_if_few name None n rest few = omega (arith, few)
line_if_few name (Some value) n rest few = omega (arith, few)

-- ---- all lines

abbrev close_lines : PlainReply → Lines
close_lines r = line_if (codes "Connection") (closing r.close)

abbrev length_lines : PlainReply → Lines
length_lines r = line_if (codes "Content-Length") (option_map decimal (written_length r)) ++ close_lines r

abbrev allow_lines : PlainReply → Lines
allow_lines r = line_if (codes "Allow") r.allow ++ length_lines r

abbrev location_lines : PlainReply → Lines
location_lines r = line_if (codes "Location") r.location ++ allow_lines r

abbrev tag_lines : PlainReply → Lines
tag_lines r = line_if (codes "ETag") (option_map entity_tag r.etag) ++ location_lines r

abbrev pub reply_lines : PlainReply → Lines
reply_lines r = line_if (codes "Content-Type") r.content_type ++ tag_lines r

mapped : (a b : Lines) → map line_of (a ++ b) ≡ map line_of a ++ map line_of b
mapped [] b = refl
mapped (l ∷ a) b = ap (λ (ls : List (List ℕ)). line_of l ∷ ls) (mapped a b)

-- one line more before what is printed
before : (name : List ℕ) (o : Option (List ℕ)) (text : List ℕ) (rest : Lines) → text ≡ printed (map line_of rest) → field_line (name ++ 58 ∷ 32 ∷ []) o ++ text ≡ printed (map line_of (line_if name o ++ rest))
before name o text rest is =
    ap (λ (x : List ℕ). field_line (name ++ 58 ∷ 32 ∷ []) o ++ x) is ∙ line_before name o (map line_of rest) ∙ ap printed (sym (mapped (line_if name o) rest))

close_is : (close : Bool) → field_line (codes "Connection: ") (closing close) ++ 13 ∷ 10 ∷ [] ≡ printed (map line_of (line_if (codes "Connection") (closing close)))
close_is true = refl
close_is false = refl

lines_are : (r : PlainReply) → from_type r ≡ printed (map line_of (reply_lines r))
lines_are r =
    before (codes "Content-Type") r.content_type (from_tag r) (tag_lines r)
    (before (codes "ETag") (option_map entity_tag r.etag) (from_location r) (location_lines r)
    (before (codes "Location") r.location (from_allow r) (allow_lines r)
    (before (codes "Allow") r.allow (from_length r) (length_lines r)
    (before (codes "Content-Length") (option_map decimal (written_length r)) (from_close r) (close_lines r) (close_is r.close)))))

-- ---- statuses

-- a status has a line of three digits and a phrase; whether a reply with it has a body
pub record IsStatus (n : ℕ) : Type 0 where
  pub digits : List ℕ
  pub reason : List ℕ
  pub phrase : phrase_of n ≡ Some (digits ++ 32 ∷ reason)
  pub three : length digits ≡ 3
  pub are_digits : list_all is_ascii_digit digits ≡ true
  pub plain_digits : list_all plain digits ≡ true
  pub value : digits_value 10 digits ≡ n
  pub reason_value : list_all is_value_byte reason ≡ true
  pub plain_reason : list_all plain reason ≡ true
  pub is_last : is_interim n ≡ false
  pub bodiless : Bool
  pub has_none : is_bodiless n ≡ bodiless
  pub unwritten : ((n == 100) || (n == 204) || (n == 304)) ≡ bodiless

abbrev pub start_line : {n : ℕ} → IsStatus n → List ℕ
start_line s = codes "HTTP/1.1 " ++ (s.digits ++ 32 ∷ s.reason)

-- each line's value is a text
pub record HasTexts (r : PlainReply) : Type 0 where
  pub content_type : IfSome r.content_type IsText
  pub etag : IfSome (option_map entity_tag r.etag) IsText
  pub location : IfSome r.location IsText
  pub allow : IfSome r.allow IsText
  pub size : IfSome r.size (λ n. n ≤ longest_reply)

module _ (r : PlainReply) (status : IsStatus r.status) (texts : HasTexts r) where
  abbrev pub head_lines : List (List ℕ)
  head_lines = start_line status ∷ map line_of (reply_lines r)

  pub text_is : http_reply r ≡ printed (start_line status ∷ map line_of (reply_lines r))
  text_is =
      by_lines r (subst (λ (o : Option (List ℕ)). IsSome o) (sym status.phrase) refl)
      ∙ ap (λ (o : Option (List ℕ)). field_line (codes "HTTP/1.1 ") o ++ from_type r) status.phrase
      ∙ ap (λ (x : List ℕ). (codes "HTTP/1.1 " ++ ((status.digits ++ 32 ∷ status.reason) ++ 13 ∷ 10 ∷ [])) ++ x) (lines_are r)
      ∙ ap (λ (x : List ℕ). x ++ printed (map line_of (reply_lines r))) (sym (append_assoc (codes "HTTP/1.1 ") (status.digits ++ 32 ∷ status.reason) (13 ∷ 10 ∷ [])))
      ∙ one_line (codes "HTTP/1.1 " ++ (status.digits ++ 32 ∷ status.reason)) (printed (map line_of (reply_lines r)))

  abbrev pub response : ResponseHead
  response = record {
    blank = [];
    minor = 1;
    digits = status.digits;
    reason = Some status.reason;
    line_end = crlf;
    fields = fields (reply_lines r);
    last = crlf;
  }

  pub response_is : print_response response ≡ printed (start_line status ∷ map line_of (reply_lines r))
  unfolding print_response
  response_is =
      ap (λ (x : List ℕ). x ++ 13 ∷ 10 ∷ [] ++ print_section (fields (reply_lines r)) crlf) (append_assoc (codes "HTTP/1.1 ") status.digits (32 ∷ status.reason))
      ∙ one_line (codes "HTTP/1.1 " ++ (status.digits ++ 32 ∷ status.reason)) (print_section (fields (reply_lines r)) crlf)
      ∙ ap (λ (x : List ℕ). (codes "HTTP/1.1 " ++ (status.digits ++ 32 ∷ status.reason)) ++ 13 ∷ 10 ∷ x) (section_is (reply_lines r))

  size_text : (o : Option ℕ) → IfSome o (λ n. n ≤ longest_reply) → IfSome (option_map decimal o) IsText
  size_text None fits = tt
  size_text (Some n) fits =
      weaker (λ b. IsTrue (is_ascii_digit b)) IsPrintable (decimal n) printable
      (passes is_ascii_digit (decimal n) (digits_pass is_ascii_digit (decimal n) one (is_size n (omega (arith, fits))).digits))
    where
      one : (c : ℕ) → 48 ≤ c → c ≤ 57 → is_ascii_digit c ≡ true
      one c low high = grind (arith, nat_tests)

      printable : (b : ℕ) → is_ascii_digit b ≡ true → IsPrintable b
      printable b is = (low, high)
        where
          low : 32 ≤ b
          low = grind (arith, nat_tests)

          high : b ≤ 126
          high = grind (arith, nat_tests)

  written_fits : (b : Bool) (o : Option ℕ) → IfSome o (λ n. n ≤ longest_reply) → IfSome (if b then None else o) (λ n. n ≤ longest_reply)
  written_fits true o fits = tt
  written_fits false o fits = fits

  written_text : IfSome (option_map decimal (written_length r)) IsText
  written_text = size_text (written_length r) (written_fits ((r.status == 100) || (r.status == 204) || (r.status == 304)) r.size texts.size)

  close_text : (close : Bool) → IfSome (closing close) IsText
  close_text true = ((omega arith, omega arith), ((omega arith, omega arith), ((omega arith, omega arith), ((omega arith, omega arith), ((omega arith, omega arith), tt)))))
  close_text false = tt

  start_is_line : IsLine (start_line status)
  start_is_line = (
    both_all IsPlain (codes "HTTP/1.1 ") (status.digits ++ 32 ∷ status.reason) (plain_bytes (codes "HTTP/1.1 ") refl)
        (both_all IsPlain status.digits (32 ∷ status.reason) (plain_bytes status.digits status.plain_digits) (is_plain 32 refl, plain_bytes status.reason status.plain_reason)),
    omega arith,
  )

  pub are_lines : AreLines (start_line status ∷ map line_of (reply_lines r))
  are_lines = (
    start_is_line,
    lines_all (line_if (codes "Content-Type") r.content_type) (tag_lines r) (line_if_are (codes "Content-Type") r.content_type refl texts.content_type)
        (lines_all (line_if (codes "ETag") (option_map entity_tag r.etag)) (location_lines r) (line_if_are (codes "ETag") (option_map entity_tag r.etag) refl texts.etag)
        (lines_all (line_if (codes "Location") r.location) (allow_lines r) (line_if_are (codes "Location") r.location refl texts.location)
        (lines_all (line_if (codes "Allow") r.allow) (length_lines r) (line_if_are (codes "Allow") r.allow refl texts.allow)
        (lines_all (line_if (codes "Content-Length") (option_map decimal (written_length r))) (close_lines r) (line_if_are (codes "Content-Length") (option_map decimal (written_length r)) refl written_text)
        (line_if_are (codes "Connection") (closing r.close) refl (close_text r.close)))))),
  )

  all_good : AllByRecursion IsGood (reply_lines r)
  unfolding is_token_byte
  all_good =
      good_all (line_if (codes "Content-Type") r.content_type) (tag_lines r) (line_if_good (codes "Content-Type") r.content_type (omega arith) refl texts.content_type)
      (good_all (line_if (codes "ETag") (option_map entity_tag r.etag)) (location_lines r) (line_if_good (codes "ETag") (option_map entity_tag r.etag) (omega arith) refl texts.etag)
      (good_all (line_if (codes "Location") r.location) (allow_lines r) (line_if_good (codes "Location") r.location (omega arith) refl texts.location)
      (good_all (line_if (codes "Allow") r.allow) (length_lines r) (line_if_good (codes "Allow") r.allow (omega arith) refl texts.allow)
      (good_all (line_if (codes "Content-Length") (option_map decimal (written_length r))) (close_lines r) (line_if_good (codes "Content-Length") (option_map decimal (written_length r)) (omega arith) refl written_text)
      (line_if_good (codes "Connection") (closing r.close) (omega arith) refl (close_text r.close))))))

  few : length (reply_lines r) ≤ 6
  few =
      line_if_few (codes "Content-Type") r.content_type 5 (tag_lines r)
      (line_if_few (codes "ETag") (option_map entity_tag r.etag) 4 (location_lines r)
      (line_if_few (codes "Location") r.location 3 (allow_lines r)
      (line_if_few (codes "Allow") r.allow 2 (length_lines r)
      (line_if_few (codes "Content-Length") (option_map decimal (written_length r)) 1 (close_lines r) (last_few r.close)))))
    where
      last_few : (close : Bool) → length (line_if (codes "Connection") (closing close)) ≤ 1
      last_few true = omega arith
      last_few false = omega arith

  response_head : IsResponseHead response
  response_head = record {
    minor = omega arith;
    digits = (status.three, all_pass is_ascii_digit status.digits status.are_digits);
    reason = all_pass is_value_byte status.reason status.reason_value;
    fields = All-from_recursion IsField (fields (reply_lines r)) (good_fields (reply_lines r) all_good);
  }

  -- ---- the length of the body

  abbrev read_under : List ℕ → Lines → List (List ℕ)
  read_under name lines = values_of name (map name_and_value (fields lines))

  other_line : (name other : List ℕ) (o : Option (List ℕ)) (rest : Lines) → str_eq_ignore_ascii_case other name ≡ false → read_under name (line_if other o ++ rest) ≡ read_under name rest
  other_line name other None rest isnt = refl
  other_line name other (Some value) rest isnt = rw isnt refl

  close_under : (name : List ℕ) (close : Bool) → str_eq_ignore_ascii_case (codes "Connection") name ≡ false → read_under name (line_if (codes "Connection") (closing close)) ≡ []
  close_under name true isnt = rw isnt refl
  close_under name false isnt = refl

  abbrev length_field : Option ℕ → Standing
  length_field None = absent
  length_field (Some n) = once (trim_ows (32 ∷ decimal n))

  length_under : (o : Option ℕ) (close : Bool) → standing (read_under (codes "content-length") (line_if (codes "Content-Length") (option_map decimal o) ++ line_if (codes "Connection") (closing close))) ≡ length_field o
  length_under None true = refl
  length_under None false = refl
  length_under (Some n) true = refl
  length_under (Some n) false = refl

  length_is : (said_in_reply response).content_length ≡ length_field (written_length r)
  length_is =
      ap standing (other_line (codes "content-length") (codes "Content-Type") r.content_type (tag_lines r) refl
      ∙ other_line (codes "content-length") (codes "ETag") (option_map entity_tag r.etag) (location_lines r) refl
      ∙ other_line (codes "content-length") (codes "Location") r.location (allow_lines r) refl
      ∙ other_line (codes "content-length") (codes "Allow") r.allow (length_lines r) refl)
      ∙ length_under (written_length r) r.close

  coding_is : (said_in_reply response).transfer_encoding ≡ absent
  coding_is =
      ap standing (other_line (codes "transfer-encoding") (codes "Content-Type") r.content_type (tag_lines r) refl
      ∙ other_line (codes "transfer-encoding") (codes "ETag") (option_map entity_tag r.etag) (location_lines r) refl
      ∙ other_line (codes "transfer-encoding") (codes "Location") r.location (allow_lines r) refl
      ∙ other_line (codes "transfer-encoding") (codes "Allow") r.allow (length_lines r) refl
      ∙ other_line (codes "transfer-encoding") (codes "Content-Length") (option_map decimal (written_length r)) (close_lines r) refl
      ∙ close_under (codes "transfer-encoding") r.close refl)

  module _ (n : ℕ) (size : r.size ≡ Some n) (none : status.bodiless ≡ true → n ≡ 0) where
    abbrev framing_in : Bool → Standing → Standing → Result (Option Framing) ℕ
    framing_in b lengths codings =
        if b then no_framing (framing_by longest_reply true lengths codings)
        else if are_absent lengths codings then Ok None
        else some_framing (framing_by longest_reply true lengths codings)

    framed_by : (b w : Bool) → w ≡ b → (b ≡ true → n ≡ 0) → framing_in b (length_field (if w then None else r.size)) absent ≡ Ok (Some (framing.Stated n))
    framed_by true true same zero = ap (λ (k : ℕ). Ok (Some (framing.Stated k))) (sym (zero refl))
    framed_by false false same zero =
        ap (λ (o : Option ℕ). framing_in false (length_field o) absent) size
        ∙ ap some_framing (ap (stated_framing longest_reply) (behind_blank (decimal n) ∙ sized.trimmed) ∙ stated longest_reply n sized fits)
      where
        fits : n ≤ longest_reply
        fits = subst (λ (o : Option ℕ). IfSome o (λ k. k ≤ longest_reply)) size texts.size

        sized : IsSize n
        sized = is_size n (omega (arith, fits))
    framed_by true false same zero = absurd cc
    framed_by false true same zero = absurd cc

    framed : reply_framing r.status true (said_in_reply response).content_length (said_in_reply response).transfer_encoding ≡ Ok (Some (framing.Stated n))
    framed =
        ap₂ (λ (x y : Standing). reply_framing r.status true x y) length_is coding_is
        ∙ ap (λ (b : Bool). framing_in b (length_field (written_length r)) absent) status.has_none
        ∙ framed_by status.bodiless ((r.status == 100) || (r.status == 204) || (r.status == 304)) status.unwritten none

    judged_is : judged_reply response ≡ Ok (record { status = r.status; framing = Some (framing.Stated n) })
    judged_is =
        ap (λ (k : ℕ). with_status k (reply_framing k true (said_in_reply response).content_length (said_in_reply response).transfer_encoding)) status.value
        ∙ ap (with_status r.status) framed

    pub judged : IsReplyJudged (printed (start_line status ∷ map line_of (reply_lines r))) (Ok (record { status = r.status; framing = Some (framing.Stated n) }))
    judged = one_head response few_feeds ((response_head, sym (append-nil (print_response response) ∙ response_is)), few_fields) (sym judged_is)
      where
        few_feeds : line_feeds (printed (start_line status ∷ map line_of (reply_lines r))) ≤ 66
        few_feeds =
            let feeds = feeds_of_lines (start_line status ∷ map line_of (reply_lines r)) are_lines in
            let same = length-map (reply_lines r) line_of in
            omega (arith, feeds, same, few)

        few_fields : length (fields (reply_lines r)) ≤ 64
        few_fields = let same = length-map (reply_lines r) field_of in omega (arith, same, few)
