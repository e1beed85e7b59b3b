-- The lengths of the heads of replies that have no place.
use Rattle.std.proofs.Common.{ℕ, ◌<◌, ◌≤◌, ◌^◌, ◌||◌, Bool, true, false, List, [], ◌∷◌, ◌++◌, length, sym, ap, subst, arith, cond, codes, length-append}
use Rattle.std.specs.Prelude.{Option, Some, None, option_map, IfSome, ◌==◌}
use Rattle.std.specs.Fmt.{decimal}
use Rattle.std.proofs.lemmas.Fmt.{length-decimal-le}
use Rattle.std.proofs.lemmas.List.{append-nil}
use Rattle.http_replies.specs.Writing.{entity_tag, PlainReply, phrase_of, phrase_text, field_line, written_length, closing, field_lines, status_line, head_text, http_reply}
use Rattle.http_fields.specs.Marks.{line_end}
use Rattle.http_bind.specs.Written.{IsShortReply}

phrase_by : (t : Bool) (x : List ℕ) (r : Option (List ℕ)) → length x ≤ 64 → length (phrase_text r) ≤ 64 → length (phrase_text (cond t (Some x) r)) ≤ 64
phrase_by true x r one others = one
phrase_by false x r one others = others

phrase_short : (status : ℕ) → length (phrase_text (phrase_of status)) ≤ 64
phrase_short status =
    phrase_by (status == 100) (codes "100 Continue") _ (omega arith)
    (phrase_by (status == 200) (codes "200 OK") _ (omega arith)
    (phrase_by (status == 201) (codes "201 Created") _ (omega arith)
    (phrase_by (status == 204) (codes "204 No Content") _ (omega arith)
    (phrase_by (status == 304) (codes "304 Not Modified") _ (omega arith)
    (phrase_by (status == 400) (codes "400 Bad Request") _ (omega arith)
    (phrase_by (status == 403) (codes "403 Forbidden") _ (omega arith)
    (phrase_by (status == 404) (codes "404 Not Found") _ (omega arith)
    (phrase_by (status == 405) (codes "405 Method Not Allowed") _ (omega arith)
    (phrase_by (status == 406) (codes "406 Not Acceptable") _ (omega arith)
    (phrase_by (status == 412) (codes "412 Precondition Failed") _ (omega arith)
    (phrase_by (status == 413) (codes "413 Content Too Large") _ (omega arith)
    (phrase_by (status == 415) (codes "415 Unsupported Media Type") _ (omega arith)
    (phrase_by (status == 431) (codes "431 Request Header Fields Too Large") _ (omega arith)
    (phrase_by (status == 500) (codes "500 Internal Server Error") _ (omega arith)
    (phrase_by (status == 501) (codes "501 Not Implemented") _ (omega arith)
    (phrase_by (status == 503) (codes "503 Service Unavailable") _ (omega arith)
    (phrase_by (status == 507) (codes "507 Insufficient Storage") None (omega arith) (omega arith))))))))))))))))))

field_short : (name : List ℕ) (o : Option (List ℕ)) → length name ≤ 64 → IfSome o (λ t. length t ≤ 64) → length (field_line name o) ≤ 130
field_short name None few short = omega arith
field_short name (Some value) few short = omega (arith, few, short, length-append name (value ++ line_end), length-append value line_end)

size_short : (t : Bool) (o : Option ℕ) → IfSome o (λ n. n < 2 ^ 64) → IfSome (option_map decimal (cond t None o)) (λ t. length t ≤ 64)
size_short true o small = tt
size_short false None small = tt
size_short false (Some n) small = let few = length-decimal-le 20 n (omega arith) (omega (arith, small)) (omega (arith, small)) in omega (arith, few)

closing_short : (t : Bool) → IfSome (closing t) (λ t. length t ≤ 64)
closing_short true = omega arith
closing_short false = tt

tag_short : (o : Option ℕ) → IfSome o (λ n. n < 2 ^ 32) → IfSome (option_map entity_tag o) (λ t. length t ≤ 64)
tag_short None small = tt
tag_short (Some n) small =
    let few = length-decimal-le 10 n (omega arith) (omega (arith, small)) (omega (arith, small)) in omega (arith, few, length-append (decimal n) (34 ∷ []))

lines_short : (a b d e f g : List ℕ) → length a ≤ 130 → length b ≤ 130 → length d ≤ 130 → length e ≤ 130 → length f ≤ 130 → length g ≤ 130 →
    length (a ++ (b ++ (d ++ (e ++ (f ++ (g ++ [])))))) ≤ 780
lines_short a b d e f g one two three four five six =
    omega (
      arith,
      one,
      two,
      three,
      four,
      five,
      six,
      length-append a (b ++ (d ++ (e ++ (f ++ (g ++ []))))),
      length-append b (d ++ (e ++ (f ++ (g ++ [])))),
      length-append d (e ++ (f ++ (g ++ []))),
      length-append e (f ++ (g ++ [])),
      length-append f (g ++ []),
      ap length (append-nil g),
    )

head_short : (phrase lines : List ℕ) → length phrase ≤ 64 → length lines ≤ 780 → length (head_text phrase lines) ≤ 4096
head_short phrase lines few short =
    omega (
      arith,
      few,
      short,
      length-append (status_line phrase) (lines ++ line_end),
      length-append lines line_end,
      length-append (codes "HTTP/1.1 ") (phrase ++ line_end),
      length-append phrase line_end,
    )

pub short_reply : (r : PlainReply) → IsShortReply r → length (http_reply r) ≤ 4096
short_reply r short =
    head_short (phrase_text (phrase_of r.status)) (field_lines r) (phrase_short r.status)
    (lines_short (field_line (codes "Content-Type: ") r.content_type) (field_line (codes "ETag: ") (option_map entity_tag r.etag)) (field_line (codes "Location: ") r.location) (field_line (codes "Allow: ") r.allow)
    (field_line (codes "Content-Length: ") (option_map decimal (written_length r))) (field_line (codes "Connection: ") (closing r.close))
    (field_short (codes "Content-Type: ") r.content_type (omega arith) short.content_type)
    (field_short (codes "ETag: ") (option_map entity_tag r.etag) (omega arith) (tag_short r.etag short.etag))
    (field_short (codes "Location: ") r.location (omega arith) (subst (λ (o : Option (List ℕ)). IfSome o (λ t. length t ≤ 64)) (sym short.location) tt))
    (field_short (codes "Allow: ") r.allow (omega arith) short.allow)
    (field_short (codes "Content-Length: ") (option_map decimal (written_length r)) (omega arith) (size_short ((r.status == 100) || (r.status == 204) || (r.status == 304)) r.size short.size))
    (field_short (codes "Connection: ") (closing r.close) (omega arith) (closing_short r.close)))
