-- The law is a lemma.
use Rattle.servient_ends.proofs.WriteExample.{some_writes_act}
use Rattle.servient_ends.proofs.laws.some_writes_act.Goals as goal

pub returns : goal.returns
returns c = some_writes_act
