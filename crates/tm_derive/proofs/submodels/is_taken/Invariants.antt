use Rattle.std.proofs.Common.{◌≡◌, drop}
use Rattle.tm_derive.specs.Optional.{is_among}
use Rattle.tm_derive.specs.Submodels.{segments_of}
use Rattle.tm_derive.proofs.submodels.is_taken.Given as goal

abbrev pub invariant-loop-thing : goal.invariant-loop-thing
invariant-loop-thing l = is_among l.segment (segments_of (drop l.thing-index l.things)) ≡ is_among l.segment (segments_of l.things)
