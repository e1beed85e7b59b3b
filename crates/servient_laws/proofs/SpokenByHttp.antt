-- A request is read from the HTTP message that says it.
use Rattle.std.proofs.Common.{◌≡◌, ◌≢◌, ◌<◌, ◌≤◌, ◌+◌, ◌-◌, ℕ, Bool, true, false, not, List, [], ◌∷◌, ◌++◌, append-nil, length, map, take, drop, Option, Some, option_map, Ok, Err, refl, sym, ap, ap₂, subst, ◌∙◌, arith}
use Rattle.std.specs.Prelude.{◌&&◌, nat_le, codes, decimal, Result, if◌then◌else◌}
use Rattle.std.specs.List.{AllByRecursion}
use Rattle.std.proofs.Math.Seq.{take-append_seam, take-append-add, drop-append_seam}
use Rattle.std.proofs.lemmas.Bool.Decides.{nat_tests}
use Rattle.std.proofs.lemmas.List.{length-map, take_all}
use Rattle.httparse.specs.Grammar.{print_request}
use Rattle.httparse.specs.Spans.{name_and_value}
use Rattle.http_fields.specs.declared.framing.Framing.{Framing}
use Rattle.http_fields.specs.declared.framing.Framing.TheVariants as framing
use Rattle.http_wire.specs.Heads.{skipped, is_newer, lines_of}
use Rattle.http_fields.specs.Marks.{length_through, empty_line, line_feeds}
use Rattle.http_wire.specs.Conditions.{conditions_of}
use Rattle.http_wire.proofs.NotedLines.{no_other_line_asks}
use Rattle.http_fields.specs.Fields.{Standing, once, Said, said_by, format_of, accept_of}
use Rattle.http_wire.specs.Judging.{FramedHead, IsJudged, one_head, is_once, is_often, fields_judged, with_framing, has_body, longest_body}
use Rattle.http_fields.specs.Framings.{framing_by}
use Rattle.http_wire.specs.Stream.{IsFront, IsFrontAfter, one_end, longest_head, plain_head_of, with_body, with_head}
use Rattle.http_fields.specs.Bodies.{stated_body}
use Rattle.http_fields.specs.Chunks.{BodyFront, whole}
use Rattle.http_wire.specs.Reading.{verb_of, request_at, asked}
use Rattle.http_bind.specs.Streams.{asks, read_as, to_take}
use Rattle.thing_ops.specs.declared.verb.Verb.{Verb}
use Rattle.thing_ops.specs.declared.verb.Verb.TheVariants as verb
use Rattle.thing_ops.specs.declared.request.Accept.{Accept}
use Rattle.thing_ops.specs.declared.request.Format.{Format}
use Rattle.thing_ops.specs.declared.conditions.Conditions.{Conditions}
use Rattle.thing_ops.specs.Requests.{RequestSeen}
use Rattle.servient_laws.specs.Spoken.{MayBeAsked, method_of, target_of, header_lines, lines_for, http_head, http_message, IsReadByHttp, IsSpeakable}
use Rattle.consumer_laws.proofs.HeadLines.{AreLines, printed, lines_end, feeds_of_lines, lines_paired}
use Rattle.servient_laws.proofs.SpokenTargets.{target_bytes, no_query, path_is_read}
use Rattle.servient_laws.proofs.SpokenHeads.{Says, says_behind, asks_nothing, start_line, lines_in, head_lines, head_is, start_is_line, header_are, request_head}
use Rattle.consumer_laws.proofs.RequestHeads.{stated}
use Rattle.consumer_laws.proofs.HeadBytes.{field_of, fields, line_of, IsSize, is_size}
use Rattle.servient_laws.proofs.SpokenTags.{conditions_read}

-- ---- how it is judged

counted : (b c : Bool) (x y : Result Framing ℕ) → b ≡ true → c ≡ false → (if b && not c then x else y) ≡ x
counted true false x y once_is seldom = refl
counted true true x y once_is seldom = absurd cc
counted false c x y once_is seldom = absurd cc

framed : (f : Format) (json td : Bool) (n : ℕ) (s : Said) → Says f json td (decimal n) s → IsSize n → n ≤ longest_body → fields_judged true s ≡ Ok (framing.Stated n)
framed f json td n s say size short =
    counted (is_once s.host) (is_often s.content_type) (framing_by longest_body true s.content_length s.transfer_encoding) (Err 400) say.host say.one_type
    ∙ ap₂ (λ (x y : Standing). framing_by longest_body true x y) (say.size_is ∙ ap once size.trimmed) say.coding
    ∙ stated longest_body n size short

said : (q : RequestSeen) → Says q.format q.accept.json q.accept.td (decimal (length q.body)) (said_by (lines_of (http_head q)))
said q = says_behind q.conditions q.format q.accept.json q.accept.td (decimal (length q.body))

abbrev framed_head : RequestSeen → FramedHead
framed_head q = record { head = http_head q; framing = framing.Stated (length q.body) }

are_lines : (q : RequestSeen) → AllByRecursion (AllByRecursion (λ b. b < 256)) q.path → MayBeAsked q.verb q.conditions → IsSize (length q.body) → AreLines (head_lines q)
are_lines q bytes may size = (start_is_line q bytes, header_are q may size)

judged : (q : RequestSeen) → AllByRecursion (AllByRecursion (λ b. b < 256)) q.path → MayBeAsked q.verb q.conditions → length (lines_for q) ≤ 64
    → IsSize (length q.body) → length q.body ≤ longest_body → IsJudged (printed (head_lines q)) (Ok (framed_head q))
judged q bytes may most size short =
    one_head (http_head q) few (lines_paired 0 (head_lines q) (λ e. absurd cc) (are_lines q bytes may size))
    ((request_head q bytes may size, sym (append-nil (print_request (http_head q)) ∙ head_is q)), few_fields)
    (ap (with_framing (http_head q)) (sym (framed q.format q.accept.json q.accept.td (length q.body) (said_by (lines_of (http_head q))) (said q) size short)))
  where
    few : line_feeds (printed (head_lines q)) ≤ 66
    few =
        let feeds = feeds_of_lines (head_lines q) (are_lines q bytes may size) in
        let same = length-map (lines_in q) line_of in
        omega (arith, feeds, same, most)

    few_fields : length (fields (lines_in q)) ≤ 64
    few_fields =
        let same = length-map (lines_in q) field_of in
        omega (arith, same, most)

-- ---- what is at the front

unskipped : (v : Verb) (a b c d : List ℕ) → skipped (method_of v ++ a ++ b ++ c ++ d) ≡ method_of v ++ a ++ b ++ c ++ d
unskipped verb.Get a b c d = refl
unskipped verb.Head a b c d = refl
unskipped verb.Put a b c d = refl
unskipped verb.Post a b c d = refl
unskipped verb.Patch a b c d = refl
unskipped verb.Delete a b c d = refl
unskipped verb.Other a b c d = refl

verb_back : (v : Verb) → verb_of (method_of v) ≡ v
verb_back verb.Get = refl
verb_back verb.Head = refl
verb_back verb.Put = refl
verb_back verb.Post = refl
verb_back verb.Patch = refl
verb_back verb.Delete = refl
verb_back verb.Other = refl

conditions_are : (q : RequestSeen) → MayBeAsked q.verb q.conditions → conditions_of (verb_of (method_of q.verb)) (plain_head_of (http_head q)).asking ≡ q.conditions
conditions_are q may =
    let none = asks_nothing q.format q.accept.json q.accept.td (decimal (length q.body)) in
    no_other_line_asks (verb_of (method_of q.verb)) (map name_and_value (fields (lines_for q)))
    ∙ (ap (λ (v : Verb). conditions_of v (map name_and_value (fields (lines_for q)))) (verb_back q.verb)
    ∙ conditions_read q.verb q.conditions (header_lines q.format q.accept.json q.accept.td (decimal (length q.body))) may none.matched none.none_matched)

request_is : (q : RequestSeen) → AllByRecursion (AllByRecursion (λ b. b < 256)) q.path → q.query ≡ [] → MayBeAsked q.verb q.conditions → request_at (plain_head_of (http_head q)) q.body q.path ≡ q
request_is q bytes query may =
    let say = said q in
    ap (λ (c : Conditions). record (request_at (plain_head_of (http_head q)) q.body q.path) { conditions = c }) (conditions_are q may)
    ∙ ap₂ (λ (v : Verb) (x : List ℕ). record { verb = v; path = q.path; query = x; accept = accept_of (said_by (lines_of (http_head q))).accept; format = format_of (said_by (lines_of (http_head q))).content_type; body = q.body; conditions = q.conditions })
    (verb_back q.verb) (no_query (target_of q.path) (target_bytes q.path bytes) ∙ sym query)
    ∙ ap₂ (λ (a : Accept) (f : Format). record q { accept = a; format = f }) say.accept_is say.format_is

asked_is : (q : RequestSeen) → AllByRecursion (AllByRecursion (λ b. b < 256)) q.path → q.path ≢ [] ∷ [] → q.query ≡ [] → MayBeAsked q.verb q.conditions → asked (plain_head_of (http_head q)) q.body ≡ Some q
asked_is q bytes isnt query may =
    ap (option_map (request_at (plain_head_of (http_head q)) q.body)) (path_is_read q.path bytes isnt) ∙ ap Some (request_is q bytes query may)

whole_is : (body : List ℕ) → stated_body (length body) body ≡ whole body (length body)
whole_is body = rw fits (ap (λ (x : List ℕ). whole x (length body)) (take_all (length body) body (omega arith)))
  where
    fits : nat_le (length body) (length body) ≡ true
    fits = grind (arith, nat_tests)

no_continue : (b c : Bool) → c ≡ false → (b && c) ≡ false
no_continue true c isnt = isnt
no_continue false c isnt = refl

taken : (q : RequestSeen) (m : ℕ) → AllByRecursion (AllByRecursion (λ b. b < 256)) q.path → q.path ≢ [] ∷ [] → q.query ≡ [] → MayBeAsked q.verb q.conditions → to_take false (with_head m (Ok (framed_head q)) q.body) ≡ Some (asks q)
taken q m bytes isnt query may =
    let say = said q in
    ap₂ (λ (e : Bool) (b : BodyFront). to_take false (with_body (http_head q) m e b))
    (no_continue (is_newer (http_head q) && has_body (framing.Stated (length q.body))) (said_by (lines_of (http_head q))).continues say.continues) (whole_is q.body)
    ∙ ap (λ (o : Option RequestSeen). Some (read_as o)) (asked_is q bytes isnt query may)

pub read_by_http : (q : RequestSeen) → IsSpeakable q → IsReadByHttp q
read_by_http q can =
    let size = is_size (length q.body) (omega (arith, can.body)) in
    let head = printed (head_lines q) in
    let message : http_message q ≡ head ++ q.body = ap (λ (x : List ℕ). x ++ q.body) (head_is q) in
    let none_skipped : skipped (head ++ q.body) ≡ head ++ q.body =
    unskipped q.verb (32 ∷ target_of q.path) (32 ∷ codes "HTTP/1.1") (13 ∷ 10 ∷ printed (map line_of (lines_in q))) q.body in
    let before = length (head ++ q.body) - length (skipped (head ++ q.body)) in
    let front = with_head (before + length head) (Ok (framed_head q)) (drop (length head) (head ++ q.body)) in
    let fits : length head ≤ longest_head = subst (λ (x : List ℕ). length x ≤ longest_head) (head_is q) can.head in
    let ends : length_through empty_line (take longest_head (head ++ q.body)) ≡ Some (length head) =
    ap (λ (n : ℕ). length_through empty_line (take n (head ++ q.body))) (parted (length head) fits)
    ∙ ap (length_through empty_line) (take-append-add head q.body (longest_head - length head))
    ∙ lines_end (start_line q) (map line_of (lines_in q)) (take (longest_head - length head) q.body) (start_is_line q can.bytes) (header_are q can.conditions size) in
    let is_front : IsFrontAfter before (head ++ q.body) front =
    one_end (length head) (Ok (framed_head q)) ends
    (subst (λ (x : List ℕ). IsJudged x (Ok (framed_head q))) (sym (take-append_seam head q.body)) (judged q can.bytes can.conditions can.lines size can.body)) refl in (
      front,
      subst (λ (x : List ℕ). IsFront x front) (sym message) (subst (λ (x : List ℕ). IsFrontAfter before x front) (sym none_skipped) is_front),
      ap (λ (x : List ℕ). to_take false (with_head (before + length head) (Ok (framed_head q)) x)) (drop-append_seam head q.body)
          ∙ taken q (before + length head) can.bytes can.path_is can.query can.conditions,
    )
  where
    parted : (n : ℕ) → n ≤ longest_head → longest_head ≡ n + (longest_head - n)
    parted n fits = omega (arith, fits)
