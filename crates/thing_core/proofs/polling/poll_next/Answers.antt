use Rattle.std.proofs.Common.{List, length, ap, arith}
use Rattle.thing_site.specs.Site.{Placed}
use Rattle.thing_core.proofs.polling.poll_next.Goals as goal

pub returns-in-None-clause-room : goal.returns-in-None-clause-room
returns-in-None-clause-room g c = omega (arith, ap (λ (ps : List Placed). length ps) c.in-None.ensures.1)
