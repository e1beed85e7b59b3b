use Rattle.std.proofs.Common.{◌≤◌, [], ◌∷◌, ◌∙◌, refl, sym, ap, subst, arith, List, length, length-append}
use Rattle.std.specs.Prelude.{Ok, Err}
use Rattle.std.proofs.lemmas.Result.{err_from_is_err_and}
use Rattle.wot_json.specs.Tree.{Json, Elements, Members, nesting}
use Rattle.wot_json.specs.declared.tree.Tree.{Tree}
use Rattle.tm_parts.specs.Views.{values_in, seen, seen_members, node_value}
use Rattle.tm_parts.specs.declared.reference.Reference.{Reference}
use Rattle.tm_parts.specs.declared.view.Node.{Node}
use Rattle.tm_resolve.specs.Seen.{with_values, seen_items}
use Rattle.tm_resolve.specs.Weight.{most_entries, own_visit, submodel_visits, part_visits, element_visits, member_visits}
use Rattle.tm_resolve.specs.Counting.{step_from, Weighs}
use Rattle.tm_resolve.proofs.Falls.{budget, budget_falls, entered_nests}
use Rattle.tm_resolve.proofs.SeenParts.{elements_seen, kept_members_seen, seen_element_nests, seen_member_nests}
use Rattle.tm_resolve.proofs.Visits.{loop_more, loop_stop, loop_end, object_part, links_of_thing, step_into, elements_list, members_list, submodels_list}
use Rattle.tm_resolve.proofs.weight.+weigh.Goals as goal

pub weigh_elements-weigh_part-requires : goal.weigh_elements-weigh_part-requires
weigh_elements-weigh_part-requires t c =
    let nests = seen_element_nests (values_in c.args.list.values) c.args.list.items.now c.loop-tree.tree-index c.tree-item.result c.loop-tree-test.true c.tree-item.is in (
      omega (arith, nests, ap (λ (es : List Reference). budget es c.args.sources.now.models) c.loop-tree.invariant.chain),
      subst (λ (es : List Reference). length es ≤ most_entries) (sym c.loop-tree.invariant.chain) c.requires,
    )

pub weigh_elements-returns-clause-weight : goal.weigh_elements-returns-clause-weight
weigh_elements-returns-clause-weight t c =
    let meaning : Tree → Json = with_values (values_in c.args.list.values) in
    subst (λ (es : Elements). Weighs (element_visits (step_from c.args.sources.now.models c.args.chain.now.items) c.args.from.now c.args.chain.now.items c.args.depth es) c.args.left (Ok c.loop-tree.left)) (elements_seen (values_in c.args.list.values) c.args.list.items.now)
    (loop_end (elements_list meaning c.args.sources.now.models c.args.from.now c.args.depth c.args.chain.now.items) c.args.list.items.now c.loop-tree.tree-index c.args.left c.loop-tree.left refl c.loop-tree-test.false c.loop-tree.invariant.counts)

pub weigh_elements-returns-in_err-left-clause-weight : goal.weigh_elements-returns-in_err-left-clause-weight
weigh_elements-returns-in_err-left-clause-weight t c =
    let p = err_from_is_err_and c.from_residual.result c.from_residual.ensures.1 in
    let s = c.args.sources.now.models in
    let meaning : Tree → Json = with_values (values_in c.args.list.values) in
    rw (p.1, p.2)
    (subst (λ (es : Elements). Weighs (element_visits (step_from s c.args.chain.now.items) c.args.from.now c.args.chain.now.items c.args.depth es) c.args.left (Err c.in_err-left.field-0.0)) (elements_seen (values_in c.args.list.values) c.args.list.items.now)
    (loop_stop (elements_list meaning s c.args.from.now c.args.depth c.args.chain.now.items) (λ es tree. part_visits (step_from s es) c.args.from.now es c.args.depth (meaning tree)) c.args.chain.now.items c.loop-tree.chain.items (λ tree trees. refl)
    c.args.list.items.now c.loop-tree.tree-index c.tree-item.result c.args.left c.loop-tree.left c.in_err-left.field-0.0 c.loop-tree-test.true c.tree-item.is c.loop-tree.invariant.chain c.loop-tree.invariant.counts c.in_err-left.ensures.weight))

pub weigh_members-weigh_part-requires : goal.weigh_members-weigh_part-requires
weigh_members-weigh_part-requires t c =
    let nests = seen_member_nests (values_in c.args.members.values) c.as_slice-list.result.now c.args.members.members.now c.loop-tree.tree-index c.loop-tree-item.result c.as_slice-list.ensures.members c.loop-tree-test.true c.loop-tree-item.is in (
      omega (arith, nests, ap (λ (es : List Reference). budget es c.args.sources.now.models) c.loop-tree.invariant.chain),
      subst (λ (es : List Reference). length es ≤ most_entries) (sym c.loop-tree.invariant.chain) c.requires,
    )

pub weigh_members-returns-clause-weight : goal.weigh_members-returns-clause-weight
weigh_members-returns-clause-weight t c =
    let meaning : Tree → Json = with_values (values_in c.args.members.values) in
    subst (λ (ms : Members). Weighs (member_visits (step_from c.args.sources.now.models c.args.chain.now.items) c.args.from.now c.args.chain.now.items c.args.depth ms) c.args.left (Ok c.loop-tree.left))
    (kept_members_seen (values_in c.args.members.values) c.as_slice-list.result.now c.args.members.members.now c.as_slice-list.ensures.members)
    (loop_end (members_list meaning c.args.sources.now.models c.args.from.now c.args.depth c.args.chain.now.items) c.as_slice-list.result.now c.loop-tree.tree-index c.args.left c.loop-tree.left refl c.loop-tree-test.false c.loop-tree.invariant.counts)

pub weigh_members-returns-in_err-left-clause-weight : goal.weigh_members-returns-in_err-left-clause-weight
weigh_members-returns-in_err-left-clause-weight t c =
    let p = err_from_is_err_and c.from_residual.result c.from_residual.ensures.1 in
    let s = c.args.sources.now.models in
    let meaning : Tree → Json = with_values (values_in c.args.members.values) in
    rw (p.1, p.2)
    (subst (λ (ms : Members). Weighs (member_visits (step_from s c.args.chain.now.items) c.args.from.now c.args.chain.now.items c.args.depth ms) c.args.left (Err c.in_err-left.field-0.0))
    (kept_members_seen (values_in c.args.members.values) c.as_slice-list.result.now c.args.members.members.now c.as_slice-list.ensures.members)
    (loop_stop (members_list meaning s c.args.from.now c.args.depth c.args.chain.now.items) (λ es m. part_visits (step_from s es) c.args.from.now es c.args.depth (meaning m.1)) c.args.chain.now.items c.loop-tree.chain.items (λ m ms. refl)
    c.as_slice-list.result.now c.loop-tree.tree-index c.loop-tree-item.result c.args.left c.loop-tree.left c.in_err-left.field-0.0 c.loop-tree-test.true c.loop-tree-item.is c.loop-tree.invariant.chain c.loop-tree.invariant.counts c.in_err-left.ensures.weight))

pub weigh_members-loop-tree-preserved : goal.weigh_members-loop-tree-preserved
weigh_members-loop-tree-preserved t c =
    let s = c.args.sources.now.models in
    let meaning : Tree → Json = with_values (values_in c.args.members.values) in
    record {
      chain = c.in_ok-left.ensures.chain ∙ c.loop-tree.invariant.chain;
      counts = loop_more (members_list meaning s c.args.from.now c.args.depth c.args.chain.now.items) (λ es m. part_visits (step_from s es) c.args.from.now es c.args.depth (meaning m.1)) c.args.chain.now.items c.loop-tree.chain.items (λ m ms. refl)
          c.as_slice-list.result.now c.loop-tree.tree-index c.loop-tree-item.result c.args.left c.loop-tree.left c.in_ok-left.left c.loop-tree-test.true c.loop-tree-item.is c.loop-tree.invariant.chain c.loop-tree.invariant.counts c.in_ok-left.ensures.weight;
    }

pub weigh_submodels-returns-clause-weight : goal.weigh_submodels-returns-clause-weight
weigh_submodels-returns-clause-weight t c =
    loop_end (submodels_list (with_values (values_in c.args.links.values)) c.args.sources.now.models c.args.from.now c.args.chain.now.items) c.args.links.items.now c.loop-tree.tree-index c.args.left c.loop-tree.left refl c.loop-tree-test.false c.loop-tree.invariant.counts

pub weigh_submodels-returns-in_err-left-clause-weight : goal.weigh_submodels-returns-in_err-left-clause-weight
weigh_submodels-returns-in_err-left-clause-weight t c =
    let s = c.args.sources.now.models in
    let meaning : Tree → Json = with_values (values_in c.args.links.values) in
    let p = err_from_is_err_and c.from_residual.result c.from_residual.ensures.1 in
    rw (p.1, p.2)
    (loop_stop (submodels_list meaning s c.args.from.now c.args.chain.now.items) (λ es link. submodel_visits (step_from s es) c.args.from.now es (meaning link)) c.args.chain.now.items c.loop-tree.chain.items (λ link links. refl)
    c.args.links.items.now c.loop-tree.tree-index c.tree-item.result c.args.left c.loop-tree.left c.in_err-left.field-0.0 c.loop-tree-test.true c.tree-item.is c.loop-tree.invariant.chain c.loop-tree.invariant.counts c.in_err-left.ensures.weight)

pub weigh_submodels-loop-tree-preserved : goal.weigh_submodels-loop-tree-preserved
weigh_submodels-loop-tree-preserved t c =
    let s = c.args.sources.now.models in
    let meaning : Tree → Json = with_values (values_in c.args.links.values) in
    record {
      chain = c.in_ok-left.ensures.chain ∙ c.loop-tree.invariant.chain;
      counts = loop_more (submodels_list meaning s c.args.from.now c.args.chain.now.items) (λ es link. submodel_visits (step_from s es) c.args.from.now es (meaning link)) c.args.chain.now.items c.loop-tree.chain.items (λ link links. refl)
          c.args.links.items.now c.loop-tree.tree-index c.tree-item.result c.args.left c.loop-tree.left c.in_ok-left.left c.loop-tree-test.true c.tree-item.is c.loop-tree.invariant.chain c.loop-tree.invariant.counts c.in_ok-left.ensures.weight;
    }

pub weigh_links-returns-in-Thing-clause-weight : goal.weigh_links-returns-in-Thing-clause-weight
weigh_links-returns-in-Thing-clause-weight t c =
    links_of_thing c.args.sources.now.models c.args.role c.args.from.now c.args.chain.now.items c.weigh_extension.new.chain.items (seen c.args.whole) (seen_items c.links_under.result) c.args.left c.in_ok-left.left c.weigh_submodels.result
    c.in-Thing.is c.links_under.ensures c.in_ok-left.ensures.chain c.in_ok-left.ensures.weight c.weigh_submodels.ensures.weight

pub weigh_part-returns-in-Object-clause-weight : goal.weigh_part-returns-in-Object-clause-weight
weigh_part-returns-in-Object-clause-weight t c =
    object_part (step_from c.args.sources.now.models c.args.chain.now.items) c.args.from.now c.args.chain.now.items c.args.depth (seen c.args.part) (seen_members c.in-Object.members) c.args.left c.in_ok-left.left c.weigh_object.result
    (sym (ap node_value c.in-Object.is) ∙ c.node-node.ensures)
    (subst (λ (n : Node). Weighs (own_visit c.args.chain.now.items c.args.depth (node_value n) ∷ []) c.args.left (Ok c.in_ok-left.left)) c.in-Object.is (c.in_ok-left.ensures.weight c.args.chain.now.items c.requires))
    c.weigh_object.ensures.weight

pub weigh_step-weigh_target-requires : goal.weigh_step-weigh_target-requires
weigh_step-weigh_target-requires t c =
    let s = c.args.sources.now.models in
    let deep = entered_nests s c.args.chain.now.items c.args.target.now (seen c.in-Some.part.view) (rw c.deref.ensures.value at (sym c.in-Some.ensures.part)) in
    let falls = budget_falls c.args.chain.now.items c.args.target.now s (nesting (seen c.in-Some.part.view)) c.in_ok-push_target.ensures.room deep in
    let longer = ap (λ (es : List Reference). length es) c.in_ok-push_target.ensures.ok ∙ length-append c.args.chain.now.items (c.args.target.now ∷ []) in (
      omega (arith, falls, ap (λ (es : List Reference). budget es s) c.in_ok-push_target.ensures.ok),
      (omega (arith, longer, c.len.ensures, c.if-len-ge-MOST_ENTRIES.false), c.in-Some.ensures.from),
    )

pub weigh_step-returns-in_err-left-clause-weight : goal.weigh_step-returns-in_err-left-clause-weight
weigh_step-returns-in_err-left-clause-weight t c =
    let p = err_from_is_err_and c.from_residual-in_err-left.result c.from_residual-in_err-left.ensures.1 in
    rw (p.1, p.2)
    (step_into c.args.sources.now.models c.args.role c.args.depth c.args.chain.now.items c.push_target.new.chain.items c.args.target.now (seen c.in-Some.part.view) c.args.left (Err c.in_err-left.field-0.0)
    (rw c.deref.ensures.value at (sym c.in-Some.ensures.part)) (omega (arith, c.len.ensures, c.if-len-ge-MOST_ENTRIES.false)) c.in_ok-push_target.ensures.ok c.in_err-left.ensures.weight)

pub weigh_step-returns-clause-weight : goal.weigh_step-returns-clause-weight
weigh_step-returns-clause-weight t c =
    step_into c.args.sources.now.models c.args.role c.args.depth c.args.chain.now.items c.push_target.new.chain.items c.args.target.now (seen c.in-Some.part.view) c.args.left (Ok c.in_ok-left.left)
    (rw c.deref.ensures.value at (sym c.in-Some.ensures.part)) (omega (arith, c.len.ensures, c.if-len-ge-MOST_ENTRIES.false)) c.in_ok-push_target.ensures.ok c.in_ok-left.ensures.weight
