-- The law is a lemma.
use Rattle.servient_ends.proofs.ValueExample.{some_value_is_taken}
use Rattle.servient_ends.proofs.laws.some_value_is_taken.Goals as goal

pub returns : goal.returns
returns c = some_value_is_taken
