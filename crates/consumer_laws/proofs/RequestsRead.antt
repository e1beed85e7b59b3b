-- The bytes that a consumer writes are one whole message at the front of a stream, and it asks for what was chosen.
use Rattle.std.proofs.Common.{◌≡◌, ◌≢◌, ◌≤◌, ◌+◌, ◌-◌, ℕ, Bool, true, false, not, List, [], ◌∷◌, ◌++◌, append-nil, append_assoc, length, map, take, Option, Some, None, option_map, Result, Ok, Err, refl, sym, ap, ap₂, subst, ◌∙◌, arith}
use Rattle.std.specs.Prelude.{◌&&◌, nat_le, codes, unwrap_or, if◌then◌else◌}
use Rattle.std.proofs.Math.Seq.{take-append_seam, take-append-add, drop-append_seam}
use Rattle.std.proofs.lemmas.Bool.Decides.{nat_tests}
use Rattle.std.proofs.lemmas.List.{length-append, length-map}
use Rattle.httparse.specs.Grammar.{print_request}
use Rattle.http_fields.specs.declared.framing.Framing.{Framing}
use Rattle.http_fields.specs.declared.framing.Framing.TheVariants as framing
use Rattle.http_fields.specs.Bodies.{stated_body}
use Rattle.http_fields.specs.Chunks.{BodyFront, whole}
use Rattle.http_fields.specs.Fields.{Line, said_by, format_of, accept_of}
use Rattle.http_fields.specs.Framings.{framing_by}
use Rattle.http_fields.specs.Marks.{length_through, empty_line, line_feeds}
use Rattle.http_wire.specs.Conditions.{conditions_of}
use Rattle.http_wire.specs.Heads.{skipped, is_newer, lines_of}
use Rattle.http_wire.specs.Judging.{FramedHead, IsJudged, one_head, is_once, is_often, with_framing, has_body, longest_body}
use Rattle.http_wire.specs.Reading.{verb_of, request_at, asked}
use Rattle.http_wire.specs.Stream.{message, IsFront, IsFrontAfter, one_end, longest_head, plain_head_of, with_body, with_head}
use Rattle.thing_ops.specs.declared.conditions.Conditions.{Conditions}
use Rattle.thing_ops.specs.declared.request.Accept.{Accept}
use Rattle.thing_ops.specs.declared.request.Format.{Format}
use Rattle.thing_ops.specs.declared.verb.Verb.{Verb}
use Rattle.thing_ops.specs.declared.verb.Verb.TheVariants as verb
use Rattle.thing_ops.specs.Verbs.{verb_name}
use Rattle.wot_consumer.specs.declared.chosen.Chosen.{Chosen}
use Rattle.wot_consumer.specs.Messages.{path_text, request_bytes}
use Rattle.consumer_laws.specs.Asking.{request_for, any_version, IsOneMessage, CanBeSent}
use Rattle.consumer_laws.proofs.HeadLines.{AreLines, printed, lines_end, feeds_of_lines, lines_paired}
use Rattle.consumer_laws.proofs.HeadBytes.{fields, field_of, line_of}
use Rattle.consumer_laws.proofs.Targets.{path_is_read, has_no_query}
use Rattle.consumer_laws.proofs.RequestHeads.{lines_for, start_line, head_lines, http_head, head_is, bytes_are, Says, says, asks_nothing, start_is_line, header_are, request_head}

-- ---- small facts

counted : (b c : Bool) (x y : Result Framing ℕ) → b ≡ true → c ≡ false → (if b && not c then x else y) ≡ x
counted true false x y once_is seldom = refl
counted true true x y once_is seldom = absurd cc
counted false c x y once_is seldom = absurd cc

no_continue : (b c : Bool) → c ≡ false → (b && c) ≡ false
no_continue true c isnt = isnt
no_continue false c isnt = refl

unskipped : (v : Verb) (a b c d : List ℕ) → v ≢ verb.Other → skipped (verb_name v ++ a ++ b ++ c ++ d) ≡ verb_name v ++ a ++ b ++ c ++ d
unskipped verb.Get a b c d isnt = refl
unskipped verb.Head a b c d isnt = refl
unskipped verb.Put a b c d isnt = refl
unskipped verb.Post a b c d isnt = refl
unskipped verb.Patch a b c d isnt = refl
unskipped verb.Delete a b c d isnt = refl
unskipped verb.Other a b c d isnt = absurd (isnt refl)

verb_back : (v : Verb) → verb_of (verb_name v) ≡ v
verb_back verb.Get = refl
verb_back verb.Head = refl
verb_back verb.Put = refl
verb_back verb.Post = refl
verb_back verb.Patch = refl
verb_back verb.Delete = refl
verb_back verb.Other = refl

asks_any : (v : Verb) → conditions_of v [] ≡ any_version
asks_any verb.Get = refl
asks_any verb.Head = refl
asks_any verb.Put = refl
asks_any verb.Post = refl
asks_any verb.Patch = refl
asks_any verb.Delete = refl
asks_any verb.Other = refl

-- a body of a stated length, whatever is behind it
pub body_is : (body behind : List ℕ) → stated_body (length body) (body ++ behind) ≡ whole body (length body)
body_is body behind = rw fits (ap (λ (x : List ℕ). whole x (length body)) (take-append_seam body behind))
  where
    fits : nat_le (length body) (length (body ++ behind)) ≡ true
    fits = let sum = length-append body behind in grind (arith, nat_tests)

parted : (n : ℕ) → n ≤ longest_head → longest_head ≡ n + (longest_head - n)
parted n fits = omega (arith, fits)

-- ---- a request that can be sent

module _ (c : Chosen) (input : Option (List ℕ)) (can : CanBeSent c input) (known : c.verb ≢ verb.Other) (path_isnt : c.path ≢ [] ∷ []) where
  abbrev framed_head : FramedHead
  framed_head = record { head = http_head c input; framing = framing.Stated (length (unwrap_or input [])) }

  said : Says input (said_by (lines_of (http_head c input)))
  said = says c input can.body

  are_lines : AreLines (head_lines c input)
  are_lines = (start_is_line c known, header_are c can.host can.port input can.body)

  few_lines : (given : Option (List ℕ)) → length (lines_for c given) ≤ 5
  few_lines None = omega arith
  few_lines (Some bytes) = omega arith

  judged : IsJudged (printed (head_lines c input)) (Ok framed_head)
  judged =
      one_head (http_head c input) few (lines_paired 0 (head_lines c input) (λ e. absurd cc) are_lines)
      ((request_head c can.host can.port input known can.body, sym (append-nil (print_request (http_head c input)) ∙ head_is c input)), few_fields)
      (sym (ap (with_framing (http_head c input))
      (counted (is_once (said_by (lines_of (http_head c input))).host) (is_often (said_by (lines_of (http_head c input))).content_type)
      (framing_by longest_body true (said_by (lines_of (http_head c input))).content_length (said_by (lines_of (http_head c input))).transfer_encoding) (Err 400) said.host said.one_type
      ∙ said.framed)))
    where
      few : line_feeds (printed (head_lines c input)) ≤ 66
      few =
          let feeds = feeds_of_lines (head_lines c input) are_lines in
          let same = length-map (lines_for c input) line_of in
          let some = few_lines input in
          omega (arith, feeds, same, some)

      few_fields : length (fields (lines_for c input)) ≤ 64
      few_fields =
          let same = length-map (lines_for c input) field_of in
          let some = few_lines input in
          omega (arith, same, some)

  request_is : request_at (plain_head_of (http_head c input)) (unwrap_or input []) c.path ≡ request_for c input
  request_is =
      ap₂ (λ (v : Verb) (x : List Line). record (request_at (plain_head_of (http_head c input)) (unwrap_or input []) c.path) { verb = v; conditions = conditions_of v x }) (verb_back c.verb) (asks_nothing c input)
      ∙ ap₂ (λ (k : Conditions) (x : List ℕ). record { verb = c.verb; path = c.path; query = x; accept = accept_of (said_by (lines_of (http_head c input))).accept; format = format_of (said_by (lines_of (http_head c input))).content_type; body = unwrap_or input []; conditions = k })
      (asks_any c.verb) (has_no_query c.path)
      ∙ ap₂ (λ (a : Accept) (f : Format). record (request_for c input) { accept = a; format = f }) said.accept_is said.format_is

  asked_is : asked (plain_head_of (http_head c input)) (unwrap_or input []) ≡ Some (request_for c input)
  asked_is = ap (option_map (request_at (plain_head_of (http_head c input)) (unwrap_or input []))) (path_is_read c.path can.path path_isnt) ∙ ap Some request_is

  head_fits : length (printed (head_lines c input)) ≤ longest_head
  head_fits =
      let sum = length-append (printed (head_lines c input)) (unwrap_or input []) in
      let same = ap length (bytes_are c input) in
      omega (arith, can.head, same, sum)

  module _ (behind : List ℕ) where
    ends : length_through empty_line (take longest_head (printed (head_lines c input) ++ (unwrap_or input [] ++ behind))) ≡ Some (length (printed (head_lines c input)))
    ends =
        ap (λ (n : ℕ). length_through empty_line (take n (printed (head_lines c input) ++ (unwrap_or input [] ++ behind)))) (parted (length (printed (head_lines c input))) head_fits)
        ∙ ap (length_through empty_line) (take-append-add (printed (head_lines c input)) (unwrap_or input [] ++ behind) (longest_head - length (printed (head_lines c input))))
        ∙ lines_end (start_line c) (map line_of (lines_for c input)) (take (longest_head - length (printed (head_lines c input))) (unwrap_or input [] ++ behind)) are_lines.0 are_lines.1

    front_is : with_head (0 + length (printed (head_lines c input))) (Ok framed_head) (unwrap_or input [] ++ behind)
        ≡ message (plain_head_of (http_head c input)) (unwrap_or input []) (length (request_bytes c input)) false
    front_is =
        ap₂ (λ (e : Bool) (b : BodyFront). with_body (http_head c input) (0 + length (printed (head_lines c input))) e b)
        (no_continue (is_newer (http_head c input) && has_body (framing.Stated (length (unwrap_or input [])))) (said_by (lines_of (http_head c input))).continues said.continues)
        (body_is (unwrap_or input []) behind)
        ∙ ap (λ (n : ℕ). message (plain_head_of (http_head c input)) (unwrap_or input []) n false) used
      where
        used : 0 + length (printed (head_lines c input)) + length (unwrap_or input []) ≡ length (request_bytes c input)
        used =
            let sum = length-append (printed (head_lines c input)) (unwrap_or input []) in
            let same = ap length (bytes_are c input) in
            omega (arith, same, sum)

    none_skipped : skipped (printed (head_lines c input) ++ (unwrap_or input [] ++ behind)) ≡ printed (head_lines c input) ++ (unwrap_or input [] ++ behind)
    none_skipped = unskipped c.verb (32 ∷ path_text c.path) (32 ∷ codes "HTTP/1.1") (13 ∷ 10 ∷ printed (map line_of (lines_for c input))) (unwrap_or input [] ++ behind) known

    at_front : IsFrontAfter 0 (printed (head_lines c input) ++ (unwrap_or input [] ++ behind)) (message (plain_head_of (http_head c input)) (unwrap_or input []) (length (request_bytes c input)) false)
    at_front =
        one_end (length (printed (head_lines c input))) (Ok framed_head) ends
        (subst (λ (x : List ℕ). IsJudged x (Ok framed_head)) (sym (take-append_seam (printed (head_lines c input)) (unwrap_or input [] ++ behind))) judged)
        (sym (ap (with_head (0 + length (printed (head_lines c input))) (Ok framed_head)) (drop-append_seam (printed (head_lines c input)) (unwrap_or input [] ++ behind)) ∙ front_is))

    no_more : length (printed (head_lines c input) ++ (unwrap_or input [] ++ behind)) - length (printed (head_lines c input) ++ (unwrap_or input [] ++ behind)) ≡ 0
    no_more = omega arith

    is_front : IsFront (request_bytes c input ++ behind) (message (plain_head_of (http_head c input)) (unwrap_or input []) (length (request_bytes c input)) false)
    is_front =
        subst (λ (x : List ℕ). IsFront x (message (plain_head_of (http_head c input)) (unwrap_or input []) (length (request_bytes c input)) false))
        (sym (ap (λ (x : List ℕ). x ++ behind) (bytes_are c input) ∙ append_assoc (printed (head_lines c input)) (unwrap_or input []) behind))
        (subst (λ (x : List ℕ). IsFrontAfter (length (printed (head_lines c input) ++ (unwrap_or input [] ++ behind)) - length x) x (message (plain_head_of (http_head c input)) (unwrap_or input []) (length (request_bytes c input)) false))
        (sym none_skipped)
        (subst (λ (n : ℕ). IsFrontAfter n (printed (head_lines c input) ++ (unwrap_or input [] ++ behind)) (message (plain_head_of (http_head c input)) (unwrap_or input []) (length (request_bytes c input)) false))
        (sym no_more) at_front))

  pub one_message : IsOneMessage (request_bytes c input) (request_for c input)
  one_message behind = (plain_head_of (http_head c input), unwrap_or input [], is_front behind, asked_is)
