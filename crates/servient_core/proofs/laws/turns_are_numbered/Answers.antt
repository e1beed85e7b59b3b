use Rattle.servient_core.proofs.MachineLaws.{serves_numbered}
use Rattle.servient_core.proofs.laws.turns_are_numbered.Goals as goal

pub returns : goal.returns
returns c = λ site budget result s t seen serves. serves_numbered site budget result s seen t serves
