-- The law is a lemma.
use Rattle.servient_world.proofs.EndLaws.{answered_once}
use Rattle.servient_world.proofs.laws.answered_once.Goals as goal

pub returns : goal.returns
returns c = answered_once
