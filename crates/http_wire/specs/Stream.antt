-- The front of a stream of requests (RFC 9112, sections 2, 6 and 7): a stream comes in any pieces, and this speaks of
-- the bytes that have come. It is a relation, because `httparse` states what a head is as one; all else in it is a
-- function, and a law says that bytes have one front. Each fault has a place, the number of bytes after which it is
-- seen, and the least place counts.
use Rattle.std.specs.Prelude.{◌≡◌, ℕ, ◌+◌, ◌-◌, List, length, take, drop, Bool, false, nat_le, Option, Some, None, Result, Ok, Err, if◌then◌else◌}
use Rattle.thing_ops.specs.declared.request.Accept.{Accept}
use Rattle.thing_ops.specs.declared.request.Format.{Format}
use Rattle.http_fields.specs.declared.framing.Framing.{Framing}
use Rattle.http_fields.specs.declared.framing.Framing.TheVariants as framing
use Rattle.httparse.specs.Grammar.{RequestHead}
use Rattle.http_wire.specs.Heads.{skipped, lines_of}
use Rattle.http_fields.specs.Marks.{length_through, empty_line}
use Rattle.http_fields.specs.Fields.{Line, said_by, format_of, accept_of}
use Rattle.http_wire.specs.Conditions.{asking_lines}
use Rattle.http_wire.specs.Judging.{FramedHead, IsJudged, expects, closes, longest_body}
use Rattle.http_fields.specs.Bodies.{stated_body}
use Rattle.http_fields.specs.Chunks.{BodyFront, unfinished, faulty, whole, chunks}

-- The most bytes of a head, counted from the first that is no skipped CR LF pair.
abbrev pub longest_head : ℕ
longest_head = 8192

-- The most bytes of a body in chunks, with chunk lines and trailers.
abbrev pub longest_coded : ℕ
longest_coded = 20480

-- A head that was read, apart from where it lies in memory. Of its header lines those are kept that ask for a version.
pub record PlainHead : Type 0 where
  pub method : List ℕ
  pub target : List ℕ
  pub close : Bool
  pub format : Format
  pub accept : Accept
  pub asking : List Line

-- the parts of a head
abbrev pub plain_head_of : RequestHead → PlainHead
plain_head_of h = record {
  method = h.method;
  target = h.target;
  close = closes h;
  format = format_of (said_by (lines_of h)).content_type;
  accept = accept_of (said_by (lines_of h)).accept;
  asking = asking_lines (lines_of h);
}

-- The front of a stream: a message that isn't whole yet, a whole one with its decoded body and the number of bytes that
-- it takes of the stream, or a fault with its status; each with whether a 100 reply is asked for.
pub data Front : Type 0 where
  short : (expect : Bool) → Front
  message : (head : PlainHead) (body : List ℕ) (used : ℕ) (expect : Bool) → Front
  fault : (status : ℕ) (expect : Bool) → Front

-- A body in chunks that isn't whole where all bytes are there that it may have is too long: they are read in order, and
-- the first fault is the one that is seen after the fewest bytes.
abbrev pub within_longest : List ℕ → BodyFront → BodyFront
within_longest bytes unfinished = if nat_le longest_coded (length bytes) then faulty 413 else unfinished
within_longest bytes (faulty status) = faulty status
within_longest bytes (whole body used) = whole body used

-- the body at the front of the bytes after a head
abbrev pub body_front : Framing → List ℕ → BodyFront
body_front (framing.Stated n) bytes = stated_body n bytes
body_front framing.Chunked bytes = within_longest bytes (chunks longest_body 0 0 (take longest_coded bytes))

-- a head and the body after it, where the head takes n bytes of the stream
abbrev pub with_body : RequestHead → ℕ → Bool → BodyFront → Front
with_body h taken expect unfinished = short expect
with_body h taken expect (faulty status) = fault status expect
with_body h taken expect (whole body used) = message (plain_head_of h) body (taken + used) expect

-- a head that was judged, and the bytes after it
abbrev pub with_head : ℕ → Result FramedHead ℕ → List ℕ → Front
with_head taken (Err status) bytes = fault status false
with_head taken (Ok h) bytes = with_body h.head taken (expects h.head h.framing) (body_front h.framing bytes)

-- where a head doesn't end within the bytes that it may have
abbrev pub without_head : List ℕ → Front
without_head bytes = if nat_le longest_head (length bytes) then fault 431 false else short false

-- the length of the head that the bytes begin with
abbrev pub head_length : List ℕ → Option ℕ
head_length bytes = length_through empty_line (take longest_head bytes)

-- the front of bytes after `before` skipped ones
pub data IsFrontAfter (before : ℕ) (bytes : List ℕ) (f : Front) : Type 0 where
  no_end : head_length bytes ≡ None → f ≡ without_head bytes → IsFrontAfter before bytes f
  one_end : (n : ℕ) (r : Result FramedHead ℕ) → head_length bytes ≡ Some n → IsJudged (take n bytes) r →
      f ≡ with_head (before + n) r (drop n bytes) → IsFrontAfter before bytes f

-- The front of a stream.
abbrev pub IsFront : List ℕ → Front → Type 0
IsFront bytes f = IsFrontAfter (length bytes - length (skipped bytes)) (skipped bytes) f

-- the front is a whole message or a fault
abbrev pub IsSettled : Front → Type 0
IsSettled (short expect) = ⊥
IsSettled (message head body used expect) = Unit {0}
IsSettled (fault status expect) = Unit {0}
