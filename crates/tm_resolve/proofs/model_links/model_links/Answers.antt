use Rattle.tm_parts.specs.Views.{values_in}
use Rattle.tm_resolve.specs.Seen.{with_values}
use Rattle.tm_resolve.proofs.ModelLinks.{links_end}
use Rattle.tm_resolve.proofs.model_links.model_links.Goals as goal

pub returns : goal.returns
returns c =
    links_end (with_values (values_in c.links_under-list.result.values)) c.args.relation.now c.args.whole.from.now c.links_under-list.result.items.now _ c.loop-index.links.items c.loop-index.index c.links_under-list.ensures c.loop-index-test.false c.loop-index.invariant
