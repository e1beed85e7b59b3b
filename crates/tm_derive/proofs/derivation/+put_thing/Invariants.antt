use Rattle.std.proofs.Common.{◌+◌, ◌*◌}
use Rattle.tm_derive.specs.Kept.{given_of}
use Rattle.tm_derive.proofs.Putting.{PutsOn}
use Rattle.tm_derive.proofs.derivation.+put_thing.Given as goal

abbrev pub decreases-put_thing : goal.decreases-put_thing
decreases-put_thing l = 2 * l.room

abbrev pub decreases-put_things : goal.decreases-put_things
decreases-put_things l = 2 * l.room + 1

abbrev pub invariant-put_things-loop-place : goal.invariant-put_things-loop-place
invariant-put_things-loop-place l = PutsOn l.room (given_of l.common) l.above l.places l.initial.things l.things l.place-index
