use Rattle.std.proofs.Common.{◌≡◌, ◌++◌, drop, map, codes}
use Rattle.tm_derive.specs.Submodels.{segments_of}
use Rattle.tm_derive.specs.Finishing.{thing_link}
use Rattle.tm_derive.proofs.links.push_parts.Given as goal

abbrev pub invariant-loop-part : goal.invariant-loop-part
invariant-loop-part l =
    l.links ++ map (thing_link l.bases (codes "item")) (segments_of (drop l.part-index l.parts)) ≡ l.initial.links ++ map (thing_link l.bases (codes "item")) (segments_of l.parts)
