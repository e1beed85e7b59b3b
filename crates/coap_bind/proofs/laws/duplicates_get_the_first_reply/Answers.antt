-- The law is a lemma.
use Rattle.coap_bind.proofs.DuplicateLaws.{duplicates_get_the_first_reply}
use Rattle.coap_bind.proofs.laws.duplicates_get_the_first_reply.Goals as goal

pub returns : goal.returns
returns c = duplicates_get_the_first_reply
