use Rattle.tm_parts.specs.Views.{values_in}
use Rattle.tm_resolve.specs.Seen.{with_values}
use Rattle.tm_resolve.proofs.ModelLinks.{LinksGoOn}
use Rattle.tm_resolve.proofs.model_links.model_links.Given as goal

abbrev pub invariant-loop-index : goal.invariant-loop-index
invariant-loop-index l = LinksGoOn (with_values (values_in l.list.values)) l.relation l.whole.from.now l.items l.links.items l.index
