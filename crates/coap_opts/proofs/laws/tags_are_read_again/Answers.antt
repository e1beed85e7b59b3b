-- The law is a lemma.
use Rattle.coap_opts.proofs.WrittenTags.{tags_are_read_again}
use Rattle.coap_opts.proofs.laws.tags_are_read_again.Goals as goal

pub returns : goal.returns
returns c = tags_are_read_again
