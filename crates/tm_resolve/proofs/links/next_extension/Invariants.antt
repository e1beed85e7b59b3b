use Rattle.std.proofs.Common.{◌≡◌}
use Rattle.std.specs.Prelude.{codes}
use Rattle.tm_resolve.specs.Links.{links_from}
use Rattle.tm_resolve.specs.Seen.{items_from}
use Rattle.tm_resolve.proofs.links.next_extension.Given as goal

abbrev pub invariant-loop-index : goal.invariant-loop-index
invariant-loop-index l = links_from (codes "tm:extends") l.index (items_from l.links l.index) ≡ links_from (codes "tm:extends") l.from (items_from l.links l.from)
