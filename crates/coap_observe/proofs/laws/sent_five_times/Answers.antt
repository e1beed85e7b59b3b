-- The laws are lemmas.
use Rattle.coap_observe.proofs.SendingLaws.{at_most_five, sends_the_same, due_are_gone}
use Rattle.coap_observe.proofs.laws.sent_five_times.Goals as goal

pub returns-clause-five : goal.returns-clause-five
returns-clause-five c = at_most_five

pub returns-clause-same : goal.returns-clause-same
returns-clause-same c = sends_the_same

pub returns-clause-gone : goal.returns-clause-gone
returns-clause-gone c = due_are_gone
