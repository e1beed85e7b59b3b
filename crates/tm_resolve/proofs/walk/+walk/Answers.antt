use Rattle.std.proofs.Common.{◌≡◌, ℕ, ◌+◌, ◌≤◌, ◌∙◌, sym, ap, subst, arith, List, [], ◌∷◌, ◌++◌, drop, length, length-append}
use Rattle.std.specs.Prelude.{Some, None, Ok, Err}
use Rattle.std.specs.Str.{bytes_eq}
use Rattle.std.proofs.lemmas.Grind.{common_steps}
use Rattle.std.proofs.lemmas.Result.{err_from_is_err_and}
use Rattle.wot_json.specs.Meaning.{json_of, json_members}
use Rattle.wot_json.specs.Merge.{merge}
use Rattle.wot_json.specs.Places.{step_text, element_step_text}
use Rattle.wot_json.specs.Tree.{Json, object, members_of, nesting, AreOrdered}
use Rattle.wot_json.specs.declared.tree.Tree.TheVariants as tree
use Rattle.tm_parts.specs.References.{reference}
use Rattle.tm_parts.specs.Views.{seen, seen_members, values_in}
use Rattle.tm_parts.specs.declared.reference.Reference.{Reference}
use Rattle.tm_resolve.specs.Chain.{pointer_of}
use Rattle.tm_resolve.specs.Links.{reference_name}
use Rattle.tm_resolve.specs.Seen.{with_values}
use Rattle.tm_resolve.specs.Faults.{member_faults, reference_faults}
use Rattle.tm_resolve.specs.Value.{reference_value}
use Rattle.tm_resolve.specs.Walking.{steps_from, IsRefusal}
use Rattle.tm_resolve.specs.Weight.{most_entries}
use Rattle.tm_resolve.proofs.Falls.{budget, budget_falls, entered_nests}
use Rattle.tm_resolve.proofs.Outcomes.{refused_before, refused_after, none_then_none}
use Rattle.tm_resolve.proofs.Loops.{piece_after, part_same, MembersGoOn, members_more, members_without, order_more, order_next, order_without}
use Rattle.tm_resolve.proofs.SeenParts.{seen_element_nests, seen_member_nests}
use Rattle.tm_resolve.proofs.SeenWalks.{reference_refused, seen_object_gives, seen_elements_refused, seen_elements_end, seen_members_refused, seen_members_end}
use Rattle.tm_resolve.proofs.StepsInto.{step_into, extension_refused}
use Rattle.tm_resolve.proofs.walk.+walk.Goals as goal

pub target_value-stepped_value-requires : goal.target_value-stepped_value-requires
target_value-stepped_value-requires t c =
    let s = c.args.sources.now.models in
    let deep = entered_nests s c.args.chain.now.items c.args.target.now (seen c.in-Ok.part.view) (rw c.deref.ensures.value at c.in-Ok.ensures.ok) in
    let falls = budget_falls c.args.chain.now.items c.args.target.now s (nesting (seen c.in-Ok.part.view)) c.in_ok-push_target.ensures.room deep in
    let longer = ap (λ (es : List Reference). length es) c.in_ok-push_target.ensures.ok ∙ length-append c.args.chain.now.items (c.args.target.now ∷ []) in (
      omega (arith, falls, ap (λ (es : List Reference). budget es s) c.in_ok-push_target.ensures.ok),
      (omega (arith, longer, c.len.ensures, c.if-len-ge-MOST_ENTRIES.false), c.in-Ok.ensures.from),
    )

pub target_value-returns-in_err-value-clause-outcome : goal.target_value-returns-in_err-value-clause-outcome
target_value-returns-in_err-value-clause-outcome t c =
    let p = err_from_is_err_and c.from_residual-in_err-value.result c.from_residual-in_err-value.ensures.1 in
    rw (p.1, p.2)
    (step_into c.args.sources.now.models (reference c.args.url.now (pointer_of c.args.place.now)) c.args.chain.now.items c.push_target.new.chain.items c.args.target.now (seen c.in-Ok.part.view) (Err c.in_err-value.field-0.0)
    (rw c.deref.ensures.value at c.in-Ok.ensures.ok) (omega (arith, c.len.ensures, c.if-len-ge-MOST_ENTRIES.false)) c.in_ok-push_target.ensures.ok c.in_err-value.ensures.outcome)

pub target_value-returns-clause-outcome : goal.target_value-returns-clause-outcome
target_value-returns-clause-outcome t c =
    step_into c.args.sources.now.models (reference c.args.url.now (pointer_of c.args.place.now)) c.args.chain.now.items c.push_target.new.chain.items c.args.target.now (seen c.in-Ok.part.view) (Ok c.in_ok-value.value)
    (rw c.deref.ensures.value at c.in-Ok.ensures.ok) (omega (arith, c.len.ensures, c.if-len-ge-MOST_ENTRIES.false)) c.in_ok-push_target.ensures.ok c.in_ok-value.ensures.outcome

pub model_value-returns-in_err-extended-in-One-clause-outcome : goal.model_value-returns-in_err-extended-in-One-clause-outcome
model_value-returns-in_err-extended-in-One-clause-outcome t c =
    let p = err_from_is_err_and c.from_residual.result c.from_residual.ensures.1 in
    let steps = steps_from c.args.sources.now.models c.args.chain.now.items in
    rw (p.1, p.2)
    (extension_refused steps c.args.chain.now.items c.args.from.now (seen c.args.whole) (c.in-One.index, seen c.in-One.link) _ c.in_err-extended-in-One.field-0.0
    c.in-One.ensures c.in_err-extended-in-One.ensures.outcome)

pub object_value-returns-in_err-members_value-in-None-clause-outcome : goal.object_value-returns-in_err-members_value-in-None-clause-outcome
object_value-returns-in_err-members_value-in-None-clause-outcome t c =
    let p = err_from_is_err_and c.from_residual.result c.from_residual.ensures.1 in
    let steps = steps_from c.args.sources.now.models c.args.chain.now.items in
    rw (p.1, p.2)
    (seen_object_gives steps c.args.chain.now.items (reference c.args.from.now (pointer_of c.args.place.now.items)) (seen_members c.args.members) None (Err c.in_err-members_value-in-None.field-0.0) (sym c.in-None.ensures) c.in_err-members_value-in-None.ensures.outcome)

pub object_value-returns-in-None-clause-outcome : goal.object_value-returns-in-None-clause-outcome
object_value-returns-in-None-clause-outcome t c =
    let steps = steps_from c.args.sources.now.models c.args.chain.now.items in
    seen_object_gives steps c.args.chain.now.items (reference c.args.from.now (pointer_of c.args.place.now.items)) (seen_members c.args.members) None (Ok (tree.Obj c.in_ok-members_value-in-None.field-0)) (sym c.in-None.ensures)
    (ap object c.in_ok-members_value-in-None.ensures.outcome.0, c.in_ok-members_value-in-None.ensures.outcome.1)

pub object_value-returns-in_err-imported-clause-outcome : goal.object_value-returns-in_err-imported-clause-outcome
object_value-returns-in_err-imported-clause-outcome t c =
    let p = err_from_is_err_and c.from_residual-in_err-imported.result c.from_residual-in_err-imported.ensures.1 in
    let steps = steps_from c.args.sources.now.models c.args.chain.now.items in
    let from = reference c.args.from.now (pointer_of c.args.place.now.items) in
    rw (p.1, p.2)
    (seen_object_gives steps c.args.chain.now.items from (seen_members c.args.members) (Some (seen c.in-Some.reference)) (Err c.in_err-imported.field-0.0) (sym c.in-Some.ensures)
    (refused_before c.in_err-imported.field-0.0 (reference_faults steps c.args.chain.now.items from (Some (seen c.in-Some.reference))) (member_faults steps c.args.chain.now.items from (seen_members c.args.members))
    (subst (λ (p : List (List ℕ)). IsRefusal c.in_err-imported.field-0.0 (reference_faults steps c.args.chain.now.items (reference c.args.from.now (pointer_of p)) (Some (seen c.in-Some.reference)))) c.deref.ensures.value c.in_err-imported.ensures.outcome)))

pub object_value-returns-in_err-members_value-clause-outcome : goal.object_value-returns-in_err-members_value-clause-outcome
object_value-returns-in_err-members_value-clause-outcome t c =
    let p = err_from_is_err_and c.from_residual-in_err-members_value.result c.from_residual-in_err-members_value.ensures.1 in
    let steps = steps_from c.args.sources.now.models c.args.chain.now.items in
    let from = reference c.args.from.now (pointer_of c.args.place.now.items) in
    rw (p.1, p.2)
    (seen_object_gives steps c.args.chain.now.items from (seen_members c.args.members) (Some (seen c.in-Some.reference)) (Err c.in_err-members_value.field-0.0) (sym c.in-Some.ensures)
    (refused_after c.in_err-members_value.field-0.0 (reference_faults steps c.args.chain.now.items from (Some (seen c.in-Some.reference))) (member_faults steps c.args.chain.now.items from (seen_members c.args.members))
    (subst (λ (p : List (List ℕ)). reference_faults steps c.args.chain.now.items (reference c.args.from.now (pointer_of p)) (Some (seen c.in-Some.reference)) ≡ []) c.deref.ensures.value c.in_ok-imported.ensures.outcome.1) (rw c.in_ok-imported.ensures.chain at c.in_err-members_value.ensures.outcome)))

pub object_value-returns-clause-outcome : goal.object_value-returns-clause-outcome
object_value-returns-clause-outcome t c =
    let steps = steps_from c.args.sources.now.models c.args.chain.now.items in
    let from = reference c.args.from.now (pointer_of c.args.place.now.items) in
    let others = rw c.in_ok-imported.ensures.chain at c.in_ok-members_value.ensures.outcome in
    seen_object_gives steps c.args.chain.now.items from (seen_members c.args.members) (Some (seen c.in-Some.reference)) (Ok c.in_ok-merged.field-0) (sym c.in-Some.ensures) (
      c.in_ok-merged.ensures ∙ ap (λ (v : Json). merge v (object (members_of c.in_ok-members_value.field-0))) c.in_ok-imported.ensures.outcome.0 ∙ ap (λ (v : Json). merge (reference_value steps.value c.args.from.now c.args.chain.now.items (seen c.in-Some.reference)) v) (ap object others.0),
      none_then_none (reference_faults steps c.args.chain.now.items from (Some (seen c.in-Some.reference))) (member_faults steps c.args.chain.now.items from (seen_members c.args.members))
          (subst (λ (p : List (List ℕ)). reference_faults steps c.args.chain.now.items (reference c.args.from.now (pointer_of p)) (Some (seen c.in-Some.reference)) ≡ []) c.deref.ensures.value c.in_ok-imported.ensures.outcome.1) others.1,
    )

pub imported_value-returns-in_err-imported-clause-outcome : goal.imported_value-returns-in_err-imported-clause-outcome
imported_value-returns-in_err-imported-clause-outcome t c =
    let p = err_from_is_err_and c.from_residual-in_err-imported.result c.from_residual-in_err-imported.ensures.1 in
    let steps = steps_from c.args.sources.now.models c.args.chain.now.items in
    rw (p.1, p.2)
    (reference_refused steps c.args.chain.now.items (reference c.args.from.now (pointer_of c.args.place.now)) (seen c.args.reference) c.in-Some.target c.in_err-imported.field-0.0
    (sym c.in_ok-target.ensures ∙ c.in-Some.is)
    (subst (λ (url : List ℕ). IsRefusal c.in_err-imported.field-0.0 (steps.faults (reference url (pointer_of c.args.place.now)) c.args.chain.now.items c.in-Some.target)) c.as_str-url.ensures c.in_err-imported.ensures.outcome))

pub items_value-part_value-requires : goal.items_value-part_value-requires
items_value-part_value-requires t c =
    let nests = seen_element_nests (values_in c.args.list.values) c.args.list.items.now c.loop-index.index c.index-items-index.result c.loop-index-test.true c.index-items-index.is in (
      omega (arith, nests, ap (λ (es : List Reference). budget es c.args.sources.now.models) c.loop-index.invariant.chain),
      subst (λ (es : List Reference). length es ≤ most_entries) (sym c.loop-index.invariant.chain) c.requires,
    )

pub items_value-returns-in_err-value-clause-outcome : goal.items_value-returns-in_err-value-clause-outcome
items_value-returns-in_err-value-clause-outcome t c =
    let p = err_from_is_err_and c.from_residual-in_err-value.result c.from_residual-in_err-value.ensures.1 in
    let s = c.args.sources.now.models in
    let values = values_in c.args.list.values in
    let from = reference c.args.from.now (pointer_of c.args.place.now.items) in
    let placed = piece_after c.push_element.new.place.items c.loop-index.place.items (element_step_text c.loop-index.index) c.in_ok-push_element.ensures
    ∙ ap (λ (ps : List (List ℕ)). pointer_of ps ++ element_step_text c.loop-index.index) c.loop-index.invariant.place in
    rw (p.1, p.2)
    (seen_elements_refused (steps_from s c.args.chain.now.items) c.args.chain.now.items from values c.args.list.items.now c.loop-index.values c.loop-index.index c.index-items-index.result c.in_err-value.field-0.0
    c.loop-index-test.true c.index-items-index.is c.loop-index.invariant.done
    (part_same s c.args.from.now (pointer_of c.args.place.now.items ++ element_step_text c.loop-index.index) (pointer_of c.push_element.new.place.items) c.args.chain.now.items c.loop-index.chain.items (with_values values c.index-items-index.result) (Err c.in_err-value.field-0.0)
    c.loop-index.invariant.chain placed c.in_err-value.ensures.outcome))

pub items_value-returns-clause-outcome : goal.items_value-returns-clause-outcome
items_value-returns-clause-outcome t c =
    seen_elements_end (steps_from c.args.sources.now.models c.args.chain.now.items) c.args.chain.now.items (reference c.args.from.now (pointer_of c.args.place.now.items)) (values_in c.args.list.values) c.args.list.items.now c.loop-index.values c.loop-index.index
    c.loop-index-test.false c.loop-index.invariant.done

pub members_value-part_value-requires : goal.members_value-part_value-requires
members_value-part_value-requires t c =
    let nests = seen_member_nests (values_in c.args.members.values) c.as_slice-list.result.now c.args.members.members.now c.loop-name.name-index c.loop-name-item.result c.as_slice-list.ensures.members c.loop-name-test.true c.loop-name-item.is in (
      omega (arith, nests, ap (λ (es : List Reference). budget es c.args.sources.now.models) c.loop-name.invariant.chain),
      subst (λ (es : List Reference). length es ≤ most_entries) (sym c.loop-name.invariant.chain) c.requires,
    )

pub members_value-returns-in_err-value-clause-outcome : goal.members_value-returns-in_err-value-clause-outcome
members_value-returns-in_err-value-clause-outcome t c =
    let p = err_from_is_err_and c.from_residual-in_err-value.result c.from_residual-in_err-value.ensures.1 in
    let s = c.args.sources.now.models in
    let values = values_in c.args.members.values in
    let from = reference c.args.from.now (pointer_of c.args.place.now.items) in
    let named = ap (λ (n : List ℕ). pointer_of c.args.place.now.items ++ step_text n) c.as_str-in-loop-name.ensures in
    let placed = piece_after c.push_member.new.place.items c.loop-name.place.items (step_text c.as_str-in-loop-name.result.now) c.in_ok-push_member.ensures
    ∙ ap (λ (ps : List (List ℕ)). pointer_of ps ++ step_text c.as_str-in-loop-name.result.now) c.loop-name.invariant.place ∙ named in
    rw (p.1, p.2)
    (seen_members_refused (steps_from s c.args.chain.now.items) c.args.chain.now.items from values c.as_slice-list.result.now c.args.members.members.now c.loop-name.values c.loop-name.name-index c.loop-name-item.result c.in_err-value.field-0.0
    c.as_slice-list.ensures.members c.loop-name-test.true c.loop-name-item.is (ap (λ (n : List ℕ). bytes_eq n reference_name) (sym c.as_str.ensures) ∙ sym c.eq.ensures ∙ c.if-eq.false) c.loop-name.invariant.done
    (part_same s c.args.from.now (pointer_of c.args.place.now.items ++ step_text c.loop-name-item.result.0) (pointer_of c.push_member.new.place.items) c.args.chain.now.items c.loop-name.chain.items (with_values values c.loop-name-item.result.1) (Err c.in_err-value.field-0.0)
    c.loop-name.invariant.chain placed c.in_err-value.ensures.outcome))

pub members_value-push-requires : goal.members_value-push-requires
members_value-push-requires t c =
    order_next c.loop-name.values c.as_slice-list.result.now c.loop-name.name-index c.loop-name-item.result c.in_ok-copy_of.field-0 (json_of c.in_ok-value.value)
    c.loop-name-test.true c.loop-name-item.is (c.in_ok-copy_of.ensures ∙ c.as_str-in-loop-name-2.ensures) c.loop-name.invariant.order

pub members_value-returns-clause-outcome : goal.members_value-returns-clause-outcome
members_value-returns-clause-outcome t c =
    seen_members_end (steps_from c.args.sources.now.models c.args.chain.now.items) c.args.chain.now.items (reference c.args.from.now (pointer_of c.args.place.now.items)) (values_in c.args.members.values) c.as_slice-list.result.now c.args.members.members.now c.loop-name.values c.loop-name.name-index
    c.as_slice-list.ensures.members c.loop-name-test.false c.loop-name.invariant.done

pub members_value-loop-name-preserved-then-eq : goal.members_value-loop-name-preserved-then-eq
members_value-loop-name-preserved-then-eq t c = record {
  chain = c.loop-name.invariant.chain;
  place = c.loop-name.invariant.place;
  done = members_without (steps_from c.args.sources.now.models c.args.chain.now.items) c.args.chain.now.items (reference c.args.from.now (pointer_of c.args.place.now.items)) (with_values (values_in c.args.members.values)) c.as_slice-list.result.now c.loop-name.values c.loop-name.name-index c.loop-name-item.result
      c.loop-name-test.true c.loop-name-item.is (ap (λ (n : List ℕ). bytes_eq n reference_name) (sym c.as_str.ensures) ∙ sym c.eq.ensures ∙ c.if-eq.true) c.loop-name.invariant.done;
  order = order_without c.loop-name.values c.as_slice-list.result.now c.loop-name.name-index c.loop-name-item.result c.loop-name-test.true c.loop-name-item.is c.loop-name.invariant.order;
}

pub members_value-loop-name-preserved : goal.members_value-loop-name-preserved
members_value-loop-name-preserved t c =
    let s = c.args.sources.now.models in
    let meaning = with_values (values_in c.args.members.values) in
    let from = reference c.args.from.now (pointer_of c.args.place.now.items) in
    let named = ap (λ (n : List ℕ). pointer_of c.args.place.now.items ++ step_text n) c.as_str-in-loop-name.ensures in
    let placed = piece_after c.push_member.new.place.items c.loop-name.place.items (step_text c.as_str-in-loop-name.result.now) c.in_ok-push_member.ensures
    ∙ ap (λ (ps : List (List ℕ)). pointer_of ps ++ step_text c.as_str-in-loop-name.result.now) c.loop-name.invariant.place ∙ named in
    let part = part_same s c.args.from.now (pointer_of c.args.place.now.items ++ step_text c.loop-name-item.result.0) (pointer_of c.push_member.new.place.items) c.args.chain.now.items c.loop-name.chain.items (meaning c.loop-name-item.result.1) (Ok c.in_ok-value.value)
    c.loop-name.invariant.chain placed c.in_ok-value.ensures.outcome in
    let copied = c.in_ok-copy_of.ensures ∙ c.as_str-in-loop-name-2.ensures in
    record {
      chain = c.in_ok-value.ensures.chain ∙ c.loop-name.invariant.chain;
      place = grind (arith, common_steps);
      done = subst (λ (ms : List (List ℕ × Json)). MembersGoOn (steps_from s c.args.chain.now.items) c.args.chain.now.items from meaning c.as_slice-list.result.now ms (c.loop-name.name-index + 1))
          (sym c.in_ok-push.ensures.ok)
          (members_more (steps_from s c.args.chain.now.items) c.args.chain.now.items from meaning c.as_slice-list.result.now c.loop-name.values c.loop-name.name-index c.loop-name-item.result c.in_ok-copy_of.field-0 (json_of c.in_ok-value.value)
          c.loop-name-test.true c.loop-name-item.is (ap (λ (n : List ℕ). bytes_eq n reference_name) (sym c.as_str.ensures) ∙ sym c.eq.ensures ∙ c.if-eq.false) copied c.loop-name.invariant.done part.0 part.1);
      order = subst (λ (ms : List (List ℕ × Json)). AreOrdered (ms ++ json_members (drop (c.loop-name.name-index + 1) c.as_slice-list.result.now)))
          (sym c.in_ok-push.ensures.ok)
          (order_more c.loop-name.values c.as_slice-list.result.now c.loop-name.name-index c.loop-name-item.result c.in_ok-copy_of.field-0 (json_of c.in_ok-value.value)
          c.loop-name-test.true c.loop-name-item.is copied c.loop-name.invariant.order);
    }
