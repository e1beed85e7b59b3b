use Rattle.consumer_laws.proofs.laws.replies_are_read_back.Goals as goal
use Rattle.consumer_laws.proofs.RepliesRead.{read}

-- src/laws.rt:19:1
pub returns : goal.returns
returns c = read
