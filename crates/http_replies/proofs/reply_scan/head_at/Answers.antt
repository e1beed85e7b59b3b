use Rattle.std.proofs.Common.{sym, ◌∙◌}
use Rattle.http_replies.proofs.ReplySteps.{awaited_step}
use Rattle.http_replies.proofs.reply_scan.head_at.Goals as goal

pub returns-in-None : goal.returns-in-None
returns-in-None c = awaited_step c.args.ended c.args.before c.args.bytes.now (sym c.length_through_mark.ensures.ok ∙ c.in-None.is)
