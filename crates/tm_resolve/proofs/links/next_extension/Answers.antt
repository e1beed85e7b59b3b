use Rattle.std.proofs.Common.{sym, ◌∙◌}
use Rattle.tm_parts.specs.Views.{values_in}
use Rattle.tm_resolve.specs.Seen.{with_values}
use Rattle.tm_resolve.proofs.ModelLinks.{next_found}
use Rattle.tm_resolve.proofs.links.next_extension.Goals as goal

pub returns-then-is_link-clause-next : goal.returns-then-is_link-clause-next
returns-then-is_link-clause-next c =
    sym c.loop-index.invariant ∙ next_found (with_values (values_in c.args.links.values)) c.args.links.items.now c.loop-index.index c.index-items-index.result c.loop-index-test.true c.index-items-index.is (sym c.if-is_link.ensures)
