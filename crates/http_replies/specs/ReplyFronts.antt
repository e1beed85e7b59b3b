-- The front of a stream of replies, as a client reads it (RFC 9112, sections 2, 6 and 7; RFC 9110, sections 6.4.1 and
-- 15.2): heads of interim replies, and then the reply. Of the bytes that have come the first 65,537 are read in order,
-- and what is seen first counts; so a fault that is seen there comes before that the reply is too long.
use Rattle.std.specs.Prelude.{◌≡◌, ◌<◌, ◌≤◌, ℕ, ◌+◌, ◌==◌, List, [], length, map, take, drop, Bool, true, false, ◌&&◌, ◌||◌, nat_le, nat_lt, Option, Some, None, Result, Ok, Err, if◌then◌else◌}
use Rattle.httparse.specs.Grammar.{ReadsResponse, ResponseHead, status_code}
use Rattle.httparse.specs.Spans.{name_and_value}
use Rattle.http_fields.specs.declared.framing.Framing.{Framing}
use Rattle.http_fields.specs.declared.framing.Framing.TheVariants as framing
use Rattle.http_replies.specs.declared.reply_heads.ReplyHead.{ReplyHead}
use Rattle.http_replies.specs.declared.reply_scan.ReplyFront.{ReplyFront}
use Rattle.http_replies.specs.declared.reply_scan.ReplyFront.TheVariants as front
use Rattle.http_replies.specs.declared.reply_scan.ReplyScan.{ReplyScan}
use Rattle.http_replies.specs.declared.reply_scan.ReplyScan.TheVariants as scan
use Rattle.http_fields.specs.Marks.{length_through, empty_line, line_feeds}
use Rattle.http_fields.specs.Fields.{Standing, absent, once, often, Said, said_by}
use Rattle.http_fields.specs.Framings.{framing_by}
use Rattle.http_fields.specs.Chunks.{BodyFront, unfinished, faulty, whole, chunks}
use Rattle.http_fields.specs.Bodies.{longest_reply, stated_body}

-- ## Heads

-- The bytes are exactly this head of a reply, of at most 64 header lines, by the grammar of `httparse` in its default
-- settings. A reply may have bare line feeds: a client alone reads it, and nothing is passed on.
abbrev pub IsReplyHead : List ℕ → ResponseHead → Type 0
IsReplyHead bytes h = ReadsResponse bytes h [] × (length h.fields ≤ 64)

-- the fields of its header lines
abbrev pub said_in_reply : ResponseHead → Said
said_in_reply h = said_by (map name_and_value h.fields)

-- another head comes after one with this status (RFC 9110, section 15.2)
abbrev pub is_interim : ℕ → Bool
is_interim status = nat_le 100 status && nat_le status 199

-- a reply with this status has no body, whatever its fields say (RFC 9112, section 6.3)
abbrev pub is_bodiless : ℕ → Bool
is_bodiless status = is_interim status || (status == 204) || (status == 304)

-- The framing of a body that there isn't, by that which the fields say: what is wrong with them is, but a length that
-- is too long isn't one of this body.
abbrev pub no_framing : Result Framing ℕ → Result (Option Framing) ℕ
no_framing (Ok f) = Ok (Some (framing.Stated 0))
no_framing (Err status) = if status == 413 then Ok (Some (framing.Stated 0)) else Err status

abbrev pub some_framing : Result Framing ℕ → Result (Option Framing) ℕ
some_framing (Ok f) = Ok (Some f)
some_framing (Err status) = Err status

-- neither of two fields comes
abbrev pub are_absent : Standing → Standing → Bool
are_absent absent absent = true
are_absent absent (once value) = false
are_absent absent often = false
are_absent (once value) codings = false
are_absent often codings = false

-- The framing of the body of a reply; none where it lasts until the stream ends (RFC 9112, section 6.3).
abbrev pub reply_framing : ℕ → Bool → Standing → Standing → Result (Option Framing) ℕ
reply_framing status newer lengths codings =
    if is_bodiless status then no_framing (framing_by longest_reply newer lengths codings)
    else if are_absent lengths codings then Ok None
    else some_framing (framing_by longest_reply newer lengths codings)

abbrev pub with_status : ℕ → Result (Option Framing) ℕ → Result ReplyHead ℕ
with_status status (Ok f) = Ok (record { status = status; framing = f })
with_status status (Err fault) = Err fault

abbrev pub judged_reply : ResponseHead → Result ReplyHead ℕ
judged_reply h =
    with_status (status_code h)
    (reply_framing (status_code h) (h.minor == 1) (said_in_reply h).content_length (said_in_reply h).transfer_encoding)

-- the judgement of bytes that end as a head does
pub data IsReplyJudged (bytes : List ℕ) (r : Result ReplyHead ℕ) : Type 0 where
  too_many_lines : 66 < line_feeds bytes → r ≡ Err 431 → IsReplyJudged bytes r
  no_head : line_feeds bytes ≤ 66 → ((h : ResponseHead) → ¬ (IsReplyHead bytes h)) → r ≡ Err 400 → IsReplyJudged bytes r
  one_head : (h : ResponseHead) → line_feeds bytes ≤ 66 → IsReplyHead bytes h → r ≡ judged_reply h → IsReplyJudged bytes r

-- ## Bodies

-- a body that lasts until the stream ends
abbrev pub rest_of_stream : Bool → List ℕ → BodyFront
rest_of_stream ended bytes = if ended then whole bytes (length bytes) else unfinished

-- the body at the front of the bytes after a head
abbrev pub reply_body : Bool → Option Framing → List ℕ → BodyFront
reply_body ended None bytes = rest_of_stream ended bytes
reply_body ended (Some (framing.Stated n)) bytes = stated_body n bytes
reply_body ended (Some framing.Chunked) bytes = chunks longest_reply 0 0 bytes

-- a reply with this status and the body after its head, where n bytes of the stream are before the body
abbrev pub with_reply_body : ℕ → ℕ → BodyFront → ReplyFront
with_reply_body status taken unfinished = front.Awaited
with_reply_body status taken (faulty fault) = front.Wrong fault
with_reply_body status taken (whole body used) = front.Reply status body (taken + used)

-- ## The front

-- The front of bytes of a stream that ended or goes on, after `before` bytes of it: the reply isn't whole, or something
-- is wrong, with the status that a server would answer, or the reply, with the number of bytes of the stream up to its
-- end.
pub data IsReplyAfter (ended : Bool) (f : ReplyFront) : ℕ → List ℕ → Type 0 where
  no_end : (before : ℕ) (bytes : List ℕ) → length_through empty_line bytes ≡ None → f ≡ front.Awaited → IsReplyAfter ended f before bytes
  wrong_head : (before : ℕ) (bytes : List ℕ) (n fault : ℕ) → length_through empty_line bytes ≡ Some n → IsReplyJudged (take n bytes) (Err fault) →
      f ≡ front.Wrong fault → IsReplyAfter ended f before bytes
  interim : (before : ℕ) (bytes : List ℕ) (n : ℕ) (h : ReplyHead) → length_through empty_line bytes ≡ Some n → IsReplyJudged (take n bytes) (Ok h) →
      is_interim h.status ≡ true → IsReplyAfter ended f (before + n) (drop n bytes) → IsReplyAfter ended f before bytes
  final : (before : ℕ) (bytes : List ℕ) (n : ℕ) (h : ReplyHead) → length_through empty_line bytes ≡ Some n → IsReplyJudged (take n bytes) (Ok h) →
      is_interim h.status ≡ false → f ≡ with_reply_body h.status (before + n) (reply_body ended h.framing (drop n bytes)) → IsReplyAfter ended f before bytes

-- the result of scanning n bytes whose first ones have this front
abbrev pub scanned_of : ℕ → ReplyFront → ReplyScan
scanned_of n front.Awaited = if nat_lt longest_reply n then scan.TooLong else scan.Short
scanned_of n (front.Wrong fault) = if fault == 413 then scan.TooLong else scan.Fault
scanned_of n (front.Reply status body used) = if nat_le used longest_reply then scan.Whole status body else scan.TooLong

-- The result of scanning the bytes of a stream that ended or goes on.
abbrev pub IsReply : List ℕ → Bool → ReplyScan → Type 0
IsReply bytes ended r = (f : ReplyFront) × IsReplyAfter ended f 0 (take (longest_reply + 1) bytes) × (r ≡ scanned_of (length bytes) f)
