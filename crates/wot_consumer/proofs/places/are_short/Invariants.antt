use Rattle.std.proofs.Common.{◌≤◌, All, take, length}
use Rattle.coap_msg.specs.declared.constants.TheConstants.{LONGEST_SEGMENT}
use Rattle.wot_consumer.proofs.places.are_short.Given as goal

abbrev pub invariant-loop-index : goal.invariant-loop-index
invariant-loop-index l = All (λ segment. length segment ≤ LONGEST_SEGMENT) (take l.index l.segments)
