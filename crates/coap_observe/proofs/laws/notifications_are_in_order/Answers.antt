-- The laws are lemmas.
use Rattle.coap_observe.proofs.AccountLaws.{notifications_go_to_the_registered, notifications_are_in_order}
use Rattle.coap_observe.proofs.laws.notifications_are_in_order.Goals as goal

pub returns : goal.returns
returns c = record { registered = notifications_go_to_the_registered; order = notifications_are_in_order }
