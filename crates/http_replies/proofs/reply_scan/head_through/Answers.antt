use Rattle.std.proofs.Common.{sym, ◌∙◌}
use Rattle.http_replies.proofs.ReplySteps.{wrong_step, interim_step, final_step}
use Rattle.http_replies.proofs.reply_scan.head_through.Goals as goal

pub returns-in-Err : goal.returns-in-Err
returns-in-Err c =
    wrong_step c.args.ended c.args.before c.args.bytes.now c.front.result.now c.args.end c.in-Err.fault c.judge_reply.result c.requires.found c.front.ensures.ok
    c.judge_reply.ensures c.in-Err.is

pub returns-then-is_interim : goal.returns-then-is_interim
returns-then-is_interim c =
    interim_step c.args.ended c.args.before c.args.bytes.now c.front.result.now c.args.end c.in-Ok.head c.judge_reply.result c.requires.found c.front.ensures.ok
    c.judge_reply.ensures c.in-Ok.is (sym c.is_interim.ensures ∙ c.if-is_interim.true) c.requires.some c.requires.within

pub returns-else-is_interim : goal.returns-else-is_interim
returns-else-is_interim c =
    final_step c.args.ended c.args.before c.args.bytes.now c.front.result.now c.rest_from.result.now c.args.end c.in-Ok.head c.judge_reply.result c.with_body.result
    c.requires.found c.front.ensures.ok c.judge_reply.ensures c.in-Ok.is (sym c.is_interim.ensures ∙ c.if-is_interim.false) c.rest_from.ensures c.with_body.ensures
