-- The laws are lemmas.
use Rattle.coap_bind.proofs.MessageLaws.{replies_are_messages, links_are_messages, notifications_are_messages}
use Rattle.coap_bind.proofs.laws.sent_are_messages.Goals as goal

pub returns : goal.returns
returns c = record { replies = replies_are_messages; links = links_are_messages; notifications = notifications_are_messages }
