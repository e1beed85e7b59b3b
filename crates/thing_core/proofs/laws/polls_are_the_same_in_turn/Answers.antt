use Rattle.thing_core.proofs.TickLaws.{same_in_turn}
use Rattle.thing_core.proofs.laws.polls_are_the_same_in_turn.Goals as goal

pub returns : goal.returns
returns c = same_in_turn
