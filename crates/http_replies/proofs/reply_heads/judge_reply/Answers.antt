use Rattle.std.proofs.Common.{arith, subst}
use Rattle.http_replies.specs.ReplySeen.{IsReplyReadAs}
use Rattle.http_replies.proofs.ReplyHeads.{judged_head}
use Rattle.http_replies.proofs.reply_heads.judge_reply.Goals as goal

pub returns-in-Some : goal.returns-in-Some
returns-in-Some c =
    judged_head c.args.head.now c.in-Some.parts c.framed.result
    (omega (arith, c.if-count_line_feeds-gt-MOST_LINE_FEEDS.false, c.count_line_feeds.ensures.ok))
    (subst (IsReplyReadAs c.args.head.now) c.in-Some.is c.read_reply.ensures) c.framed.ensures
