use Rattle.std.proofs.Common.{◌++◌, ◌∙◌, ℕ, List, ◌∷◌, length, option_map, arith, sym, ap, subst}
use Rattle.std.specs.Vec.Iter.{into_iter_items}
use Rattle.wot_json.specs.Tree.{Json, members_of, most_member_nesting, AreOrdered}
use Rattle.wot_json.specs.Meaning.{json_of, json_members}
use Rattle.wot_json.specs.Merge.{merged_members}
use Rattle.wot_json.specs.declared.tree.Tree.{Tree}
use Rattle.wot_json.proofs.MergeLaws.{merge_step, merged_ordered}
use Rattle.wot_json.proofs.MemberOrder.{before_others, rest_ordered}
use Rattle.tm_resolve.specs.Merging.{TakesAt}
use Rattle.tm_resolve.proofs.Moving.{cut_ordered, all_merged, patch_itself}
use Rattle.tm_resolve.proofs.merging.+merging.Goals as goal

pub merged-returns-in_default : goal.merged-returns-in_default
merged-returns-in_default t c = patch_itself (json_of c.args.target) c.args.patch c.in_default.not-Obj

pub merge_members-loop-name-preserved : goal.merge_members-loop-name-preserved
merge_members-loop-name-preserved t c =
    let l = c.loop-name in
    let steps = c.in-Some.ensures.steps in
    let name : List ℕ = c.in-Some.name in
    let v : Json = json_of c.in-Some.change in
    let value = option_map json_of c.in_ok-value.value in
    let rest : List (List ℕ × Json) = json_members l.rest.items in
    let out : List (List ℕ × Json) = json_members l.done.items in
    let behind : List (List ℕ × Json) = json_members c.take_at.new.rest.items in
    let copied : List (List ℕ × Json) = json_members c.take_at.new.into.items in
    let cs : List (List ℕ × Json) = json_members (into_iter_items c.next.new.self) in
    let takes = subst (λ (n : List ℕ). TakesAt n rest out value behind copied) c.as_str.ensures c.in_ok-value.ensures in
    let changes : AreOrdered ((name, v) ∷ cs) = subst (λ (ms : List (List ℕ × Tree)). AreOrdered (json_members ms)) steps.0 l.invariant.changes in
    record {
      whole = merge_step out copied (json_members c.push_change.new.into.items) rest takes.before behind cs (merged_members c.args.members (members_of c.args.changes)) value name v
          takes.cut (before_others (name, v) cs changes) takes.moved c.in_ok-push_change.ensures
          (ap (λ (ms : List (List ℕ × Tree)). out ++ merged_members rest (members_of (json_members ms))) (sym steps.0) ∙ l.invariant.whole);
      order = cut_ordered name rest takes.before value behind takes.cut l.invariant.order;
      changes = rest_ordered (name, v) cs changes;
      nests = omega (arith, l.invariant.nests, ap (λ (ms : List (List ℕ × Tree)). most_member_nesting (json_members ms)) steps.0);
      count = omega (arith, ap length steps.0, l.invariant.count, steps.1);
    }

pub merge_members-from_vec-requires : goal.merge_members-from_vec-requires
merge_members-from_vec-requires t c =
    let l = c.loop-name in
    subst AreOrdered
    (sym (all_merged l.rest.items l.done.items c.into_vec-left.result.items c.append.new.self.items (into_iter_items l.name-iterator) (merged_members c.args.members (members_of c.args.changes))
    l.invariant.whole (omega (arith, l.invariant.count, c.in-None.ensures.steps.0)) c.into_vec-left.ensures.items c.in_ok-append.ensures.items))
    (merged_ordered c.args.members (members_of c.args.changes) c.into_vec.ensures.ordered)

pub merge_members-returns : goal.merge_members-returns
merge_members-returns t c =
    let l = c.loop-name in
    c.from_vec.ensures
    ∙ all_merged l.rest.items l.done.items c.into_vec-left.result.items c.append.new.self.items (into_iter_items l.name-iterator) (merged_members c.args.members (members_of c.args.changes))
    l.invariant.whole (omega (arith, l.invariant.count, c.in-None.ensures.steps.0)) c.into_vec-left.ensures.items c.in_ok-append.ensures.items
