-- The steps of the code are those of the definition.
use Rattle.std.proofs.Common.{refl}
use Rattle.coap_msg.specs.Buckets.{scattered}
use Rattle.coap_msg.proofs.bucket.scatter.Goals as goal

pub returns : goal.returns
unfolding scattered
returns c = refl
