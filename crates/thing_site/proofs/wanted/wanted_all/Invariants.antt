use Rattle.std.proofs.Common.{◌≡◌, ◌++◌, drop, map}
use Rattle.thing_site.specs.Site.{wanted_by}
use Rattle.thing_site.proofs.wanted.wanted_all.Given as goal

abbrev pub invariant-loop-affordance : goal.invariant-loop-affordance
invariant-loop-affordance l =
    l.all.items ++ map (wanted_by l.slots l.segment) (drop l.affordance-index l.affordances) ≡ map (wanted_by l.slots l.segment) l.affordances
