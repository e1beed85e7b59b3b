use Rattle.http_replies.proofs.OneReply.{at_most_one_reply}
use Rattle.http_replies.proofs.laws.one_reply.Goals as goal

pub returns : goal.returns
returns c = at_most_one_reply
