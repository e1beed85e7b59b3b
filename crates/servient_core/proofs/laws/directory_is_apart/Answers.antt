use Rattle.servient_core.proofs.MeaningLaws.{asks_directory_alone, finds_no_directory}
use Rattle.servient_core.proofs.laws.directory_is_apart.Goals as goal

pub returns-clause-http : goal.returns-clause-http
returns-clause-http c = asks_directory_alone

pub returns-clause-coap : goal.returns-clause-coap
returns-clause-coap c = finds_no_directory
