-- The law is a lemma.
use Rattle.servient_ends.proofs.TurnLaws.{turns_play}
use Rattle.servient_ends.proofs.laws.turns_are_moves.Goals as goal

pub returns : goal.returns
returns c = turns_play
