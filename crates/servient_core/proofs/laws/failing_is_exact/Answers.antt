use Rattle.servient_core.proofs.MachineLaws.{serves_breaks, breaks_fails}
use Rattle.servient_core.proofs.laws.failing_is_exact.Goals as goal

pub returns-clause-exactly : goal.returns-clause-exactly
returns-clause-exactly c = λ site budget result s t seen serves. ((serves_breaks site budget result s seen t serves).0, breaks_fails site budget result s seen t serves)

pub returns-clause-otherwise : goal.returns-clause-otherwise
returns-clause-otherwise c = λ site budget result s t seen serves. (serves_breaks site budget result s seen t serves).1
