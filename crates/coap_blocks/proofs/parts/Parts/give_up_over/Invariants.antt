-- so far only parts were given up that don't live
use Rattle.std.proofs.Common.{◌≡◌, length}
use Rattle.coap_blocks.specs.Parts.{living}
use Rattle.coap_blocks.proofs.parts.Parts.give_up_over.Given as goal

abbrev pub invariant-loop-place : goal.invariant-loop-place
invariant-loop-place l = living l.now l.self ≡ living l.now l.initial.self

abbrev pub decreases-loop-place : goal.decreases-loop-place
decreases-loop-place l = length l.self
