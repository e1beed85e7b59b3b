use Rattle.std.proofs.Common.{length}
use Rattle.coap_msg.proofs.Bodies.{Progress}
use Rattle.coap_msg.proofs.decoding.split_body.Given as goal

abbrev pub invariant-options : goal.invariant-options
invariant-options l = Progress l.body l.last l.rest

abbrev pub decreases-options : goal.decreases-options
decreases-options l = length l.rest
