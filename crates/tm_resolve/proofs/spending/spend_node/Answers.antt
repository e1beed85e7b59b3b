use Rattle.std.proofs.Common.{sym, subst}
use Rattle.wot_json.specs.Meaning.{json_members}
use Rattle.tm_parts.specs.Views.{values_in, node_value}
use Rattle.tm_parts.specs.declared.view.Node.{Node}
use Rattle.tm_resolve.specs.Counting.{Spends}
use Rattle.tm_resolve.specs.Weight.{own_weight}
use Rattle.tm_resolve.proofs.Visits.{spends_list, spends_object}
use Rattle.tm_resolve.proofs.spending.spend_node.Goals as goal

pub returns-in_ok-spend-in-List : goal.returns-in_ok-spend-in-List
returns-in_ok-spend-in-List c =
    subst (λ (n : Node). Spends (own_weight (node_value n)) c.args.left c.spend-in-List-2.result) (sym c.in-List.is)
    (spends_list (values_in c.in-List.list.values) c.in-List.list.items.now c.args.left c.in_ok-spend-in-List.field-0 c.spend-in-List-2.result c.in_ok-spend-in-List.ensures c.spend-in-List-2.ensures)

pub returns-in_ok-spend-in-Object : goal.returns-in_ok-spend-in-Object
returns-in_ok-spend-in-Object c =
    subst (λ (n : Node). Spends (own_weight (node_value n)) c.args.left c.spend_names.result) (sym c.in-Object.is)
    (spends_object (values_in c.in-Object.object.values) c.in-Object.object.members.now (json_members c.as_slice.result.now) c.args.left c.in_ok-spend-in-Object.field-0 c.spend_names.result c.as_slice.ensures.members c.in_ok-spend-in-Object.ensures c.spend_names.ensures)
