use Rattle.consumer_laws.proofs.laws.replies_are_what_is_printed.Goals as goal
use Rattle.consumer_laws.proofs.Printing.{printed_alone}

pub returns : goal.returns
returns c = printed_alone
