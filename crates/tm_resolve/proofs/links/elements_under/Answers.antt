use Rattle.std.proofs.Common.{sym, ap, ◌∙◌}
use Rattle.tm_parts.specs.Views.{values_in, node_value}
use Rattle.tm_parts.specs.declared.view.Node.{Node}
use Rattle.tm_resolve.specs.Links.{elements_under}
use Rattle.tm_resolve.proofs.SeenParts.{items_seen}
use Rattle.tm_resolve.proofs.links.elements_under.Goals as goal

pub returns-in-List : goal.returns-in-List
returns-in-List c =
    items_seen (values_in c.in-List.list.values) c.in-List.list.items.now
    ∙ ap (λ (n : Node). elements_under (node_value n)) (sym c.in-List.is) ∙ ap elements_under c.node.ensures
