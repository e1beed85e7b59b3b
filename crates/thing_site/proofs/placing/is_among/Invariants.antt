use Rattle.std.proofs.Common.{◌≡◌, drop}
use Rattle.std.specs.Prelude.{Some}
use Rattle.thing_site.specs.Site.{is_among}
use Rattle.thing_site.proofs.placing.is_among.Given as goal

abbrev pub invariant-loop-other : goal.invariant-loop-other
invariant-loop-other l = is_among (drop l.other-index l.earlier) (Some l.slot) ≡ is_among l.earlier (Some l.slot)
