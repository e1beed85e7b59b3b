-- The law is a lemma.
use Rattle.network_consumer.proofs.FailureLaws.{failing_breaks_the_network}
use Rattle.network_consumer.proofs.laws.failing_breaks_the_network.Goals as goal

pub returns : goal.returns
returns c = failing_breaks_the_network
