use Rattle.servient_trace.proofs.ShownLaws.{sections_in_order}
use Rattle.servient_trace.proofs.laws.sections_are_shown_in_order.Goals as goal

pub returns : goal.returns
returns c = sections_in_order
