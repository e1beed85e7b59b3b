-- The parts that the code reads of the head of a reply, and of the bytes after one, apart from their place in memory.
use Rattle.std.specs.Prelude.{◌≡◌, ◌<◌, ◌≤◌, ℕ, ◌+◌, ◌==◌, List, length, drop, Bool, Option, Some, None}
use Rattle.httparse.specs.Grammar.{ResponseHead, status_code}
use Rattle.http_replies.specs.declared.reply_heads.ReplyParts.{ReplyParts}
use Rattle.http_replies.specs.declared.reply_scan.ReplyFront.{ReplyFront}
use Rattle.http_replies.specs.declared.reply_scan.ReplyStep.{ReplyStep}
use Rattle.http_replies.specs.declared.reply_scan.ReplyStep.TheVariants as step
use Rattle.http_fields.specs.Found.{said_in}
use Rattle.http_replies.specs.ReplyFronts.{IsReplyHead, IsReplyAfter, said_in_reply}

-- the parts are those of this head
pub record AreReplyParts (h : ResponseHead) (p : ReplyParts) : Type 0 where
  pub status : p.status ≡ status_code h
  pub newer : p.newer ≡ (h.minor == 1)
  pub fields : said_in p.fields ≡ said_in_reply h

-- the bytes are the head with these parts; or they are none
abbrev pub IsReplyReadAs : List ℕ → Option ReplyParts → Type 0
IsReplyReadAs bytes None = (h : ResponseHead) → ¬ (IsReplyHead bytes h)
IsReplyReadAs bytes (Some p) = (h : ResponseHead) × IsReplyHead bytes h × AreReplyParts h p

-- the front of bytes is settled by the head at it; or it is that of the bytes after a head of so many bytes
abbrev pub IsReplyStep : Bool → ℕ → List ℕ → ReplyStep → Type 0
IsReplyStep ended before bytes (step.Settled f) = IsReplyAfter ended f before bytes
IsReplyStep ended before bytes (step.Skipped n) =
    (0 < n) × (n ≤ length bytes) × ((f : ReplyFront) → IsReplyAfter ended f (before + n) (drop n bytes) → IsReplyAfter ended f before bytes)
