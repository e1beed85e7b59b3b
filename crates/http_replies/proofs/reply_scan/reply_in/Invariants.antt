use Rattle.std.proofs.Common.{◌≤◌, ◌-◌, length, drop}
use Rattle.http_replies.specs.declared.reply_scan.ReplyFront.{ReplyFront}
use Rattle.http_replies.specs.ReplyFronts.{IsReplyAfter}
use Rattle.http_replies.proofs.reply_scan.reply_in.Given as goal

-- the front of what is left is that of all bytes
abbrev pub invariant-loop-found : goal.invariant-loop-found
invariant-loop-found l =
    (l.place ≤ length l.bytes) × ((f : ReplyFront) → IsReplyAfter l.ended f l.place (drop l.place l.bytes) → IsReplyAfter l.ended f 0 l.bytes)

abbrev pub decreases-loop-found : goal.decreases-loop-found
decreases-loop-found l = length l.bytes - l.place
