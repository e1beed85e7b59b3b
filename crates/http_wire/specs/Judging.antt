-- The judgement of a request head, and the framing of the body after it (RFC 9112, sections 3.2 and 6).
use Rattle.std.specs.Prelude.{◌≡◌, ◌<◌, ◌≤◌, ℕ, List, Bool, true, false, ◌&&◌, ◌||◌, not, nat_lt, Result, Ok, Err, if◌then◌else◌}
use Rattle.httparse.specs.Grammar.{RequestHead}
use Rattle.http_fields.specs.declared.framing.Framing.{Framing}
use Rattle.http_fields.specs.declared.framing.Framing.TheVariants as framing
use Rattle.http_fields.specs.Marks.{line_feeds}
use Rattle.http_fields.specs.Fields.{Standing, absent, once, often, Said, said_by}
use Rattle.http_fields.specs.Framings.{framing_by}
use Rattle.http_wire.specs.Heads.{are_paired, IsHead, is_newer, lines_of}

-- The most bytes that the body of a request has when it is decoded.
abbrev pub longest_body : ℕ
longest_body = 16384

-- a field comes just once
abbrev pub is_once : Standing → Bool
is_once absent = false
is_once (once value) = true
is_once often = false

-- a field comes more than once
abbrev pub is_often : Standing → Bool
is_often absent = false
is_often (once value) = false
is_often often = true

-- HTTP/1.1 asks for exactly one `Host` (RFC 9112, section 3.2), and a body has at most one type
-- (RFC 9110, section 8.3).
abbrev pub has_right_counts : Bool → Said → Bool
has_right_counts newer said = (not newer || is_once said.host) && not (is_often said.content_type)

-- the framing by what the header lines say
abbrev pub fields_judged : Bool → Said → Result Framing ℕ
fields_judged newer said =
    if has_right_counts newer said then framing_by longest_body newer said.content_length said.transfer_encoding else Err 400

-- a head, and how the body after it is framed
pub record FramedHead : Type 0 where
  pub head : RequestHead
  pub framing : Framing

abbrev pub with_framing : RequestHead → Result Framing ℕ → Result FramedHead ℕ
with_framing h (Err status) = Err status
with_framing h (Ok f) = Ok (record { head = h; framing = f })

-- The judgement of bytes that end as a head does, rule by rule. Too many header lines are 431, where a head has as many
-- as line feeds but two. A CR or LF that isn't part of CR LF is 400, and so are bytes that aren't one head by the
-- grammar. Then the fields of the head are judged.
pub data IsJudged (bytes : List ℕ) (r : Result FramedHead ℕ) : Type 0 where
  too_many_lines : 66 < line_feeds bytes → r ≡ Err 431 → IsJudged bytes r
  bare_line_end : line_feeds bytes ≤ 66 → are_paired 0 bytes ≡ false → r ≡ Err 400 → IsJudged bytes r
  no_head : line_feeds bytes ≤ 66 → are_paired 0 bytes ≡ true → ((h : RequestHead) → ¬ (IsHead bytes h)) → r ≡ Err 400 → IsJudged bytes r
  one_head : (h : RequestHead) → line_feeds bytes ≤ 66 → are_paired 0 bytes ≡ true → IsHead bytes h →
      r ≡ with_framing h (fields_judged (is_newer h) (said_by (lines_of h))) → IsJudged bytes r

-- a body is to come: it is chunked, or its length isn't 0
abbrev pub has_body : Framing → Bool
has_body (framing.Stated n) = nat_lt 0 n
has_body framing.Chunked = true

-- A head without fault asks for a 100 reply before its body is sent (RFC 9110, section 10.1.1).
abbrev pub expects : RequestHead → Framing → Bool
expects h f = is_newer h && has_body f && (said_by (lines_of h)).continues

-- A head asks that its connection be closed after the reply (RFC 9112, section 9.6); HTTP/1.0 always does.
abbrev pub closes : RequestHead → Bool
closes h = not (is_newer h) || (said_by (lines_of h)).closes
