-- The head of a reply as its lines one after another, each with all that comes behind it.
use Rattle.std.proofs.Common.{◌≡◌, ◌<◌, ◌+◌, ℕ, List, [], ◌++◌, length, refl, sym, ap, ◌∙◌, arith, codes, append_assoc, length-append}
use Rattle.std.specs.Prelude.{Option, Some, None, option_map, IsSome}
use Rattle.std.specs.Fmt.{decimal}
use Rattle.servient_base.specs.Writing.{PutsIfRoom}
use Rattle.http_fields.specs.Marks.{line_end}
use Rattle.http_replies.specs.Writing.{entity_tag, PlainReply, phrase_of, phrase_text, field_line, field_lines, written_length, closing, status_line, http_reply}

-- from `Connection` on, and from each line before it
abbrev pub from_close : PlainReply → List ℕ
from_close r = field_line (codes "Connection: ") (closing r.close) ++ line_end

abbrev pub from_length : PlainReply → List ℕ
from_length r = field_line (codes "Content-Length: ") (option_map decimal (written_length r)) ++ from_close r

abbrev pub from_allow : PlainReply → List ℕ
from_allow r = field_line (codes "Allow: ") r.allow ++ from_length r

abbrev pub from_location : PlainReply → List ℕ
from_location r = field_line (codes "Location: ") r.location ++ from_allow r

abbrev pub from_tag : PlainReply → List ℕ
from_tag r = field_line (codes "ETag: ") (option_map entity_tag r.etag) ++ from_location r

abbrev pub from_type : PlainReply → List ℕ
from_type r = field_line (codes "Content-Type: ") r.content_type ++ from_tag r

-- six lines and an empty one
joined : (a b c d e f : List ℕ) → (a ++ (b ++ (c ++ (d ++ (e ++ (f ++ [])))))) ++ line_end ≡ a ++ (b ++ (c ++ (d ++ (e ++ (f ++ line_end)))))
joined a b c d e f =
    append_assoc a (b ++ (c ++ (d ++ (e ++ (f ++ []))))) line_end
    ∙ ap (λ (x : List ℕ). a ++ x) (append_assoc b (c ++ (d ++ (e ++ (f ++ [])))) line_end
    ∙ ap (λ (x : List ℕ). b ++ x) (append_assoc c (d ++ (e ++ (f ++ []))) line_end
    ∙ ap (λ (x : List ℕ). c ++ x) (append_assoc d (e ++ (f ++ [])) line_end
    ∙ ap (λ (x : List ℕ). d ++ x) (append_assoc e (f ++ []) line_end
    ∙ ap (λ (x : List ℕ). e ++ x) (append_assoc f [] line_end)))))

-- the status line is the first of the lines
first_line : (phrase : Option (List ℕ)) → IsSome phrase → status_line (phrase_text phrase) ≡ field_line (codes "HTTP/1.1 ") phrase
first_line None is = absurd cc
first_line (Some text) is = refl

-- the head of a reply is its status line, and all from `Content-Type` on
pub by_lines : (r : PlainReply) → IsSome (phrase_of r.status) → http_reply r ≡ field_line (codes "HTTP/1.1 ") (phrase_of r.status) ++ from_type r
by_lines r is =
    ap (λ (x : List ℕ). x ++ (field_lines r ++ line_end)) (first_line (phrase_of r.status) is)
    ∙ ap (λ (x : List ℕ). field_line (codes "HTTP/1.1 ") (phrase_of r.status) ++ x)
    (joined (field_line (codes "Content-Type: ") r.content_type) (field_line (codes "ETag: ") (option_map entity_tag r.etag)) (field_line (codes "Location: ") r.location)
    (field_line (codes "Allow: ") r.allow) (field_line (codes "Content-Length: ") (option_map decimal (written_length r))) (field_line (codes "Connection: ") (closing r.close)))

-- where there is no room for a line, there is none for it and what is behind it
pub no_room_for : (s t : List ℕ) (at : ℕ) (before now : List ℕ) → length before < at + length s → PutsIfRoom (s ++ t) at before now None
no_room_for s t at before now short = omega (arith, short, length-append s t)
