use Rattle.std.proofs.Common.{◌≡◌, drop}
use Rattle.tm_derive.specs.Optional.{is_among}
use Rattle.wot_terms.specs.ThingLists.{segments_in}
use Rattle.tm_derive.proofs.derivation.has_segment.Given as goal

abbrev pub invariant-loop-thing : goal.invariant-loop-thing
invariant-loop-thing l = is_among l.segment (segments_in (drop l.thing-index l.things)) ≡ is_among l.segment (segments_in l.things)
