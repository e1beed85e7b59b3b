use Rattle.std.proofs.Common.{◌≡◌, ◌++◌, ◌+◌, ◌<◌, ◌∙◌, ℕ, List, ◌∷◌, drop, get_or, length, arith, sym, ap, subst, add-one, drop-cons}
use Rattle.std.proofs.lemmas.List.{map-append, drop_all}
use Rattle.wot_json.specs.Tree.{Json, members_of, AreOrdered}
use Rattle.wot_json.specs.Meaning.{json_of, json_member, json_members}
use Rattle.wot_json.specs.Merge.{merged_members}
use Rattle.wot_json.specs.declared.tree.Tree.{Tree}
use Rattle.wot_json.proofs.MergeLaws.{merge_step, merged_ordered}
use Rattle.wot_json.proofs.MemberCuts.{ordered_drop}
use Rattle.wot_json.proofs.MemberOrder.{before_others}
use Rattle.wot_json.proofs.Nesting.{read_member_nests}
use Rattle.wot_json.proofs.patch.+merge.Goals as goal

-- the changes at a place are the one there and those after
changes_at : (ms : List (List ℕ × Tree)) (i : ℕ) (m : List ℕ × Tree) → i < length ms → m ≡ get_or ms i m → drop i ms ≡ m ∷ drop (i + 1) ms
changes_at ms i m within is = (rw (add-one, drop-cons ms i m)) ∙ ap (λ (x : List ℕ × Tree). x ∷ drop (i + 1) ms) (sym is)

pub merge_members-push_change-requires : goal.merge_members-push_change-requires
merge_members-push_change-requires t c =
    let view = ap json_members c.deref-member-items.ensures.value ∙ c.changes.view_is in
    let nests = read_member_nests c.deref-member-items.result.now c.args.changes.now c.loop-member.member-index c.member-item.result view c.loop-member-test.true c.member-item.is in
    (omega (arith, c.decreases, nests), tt)

pub merge_members-loop-member-preserved : goal.merge_members-loop-member-preserved
merge_members-loop-member-preserved t c =
    let list : List (List ℕ × Tree) = c.deref-member-items.result.now in
    let i : ℕ = c.loop-member.member-index in
    let m : List ℕ × Tree = c.member-item.result in
    let left : drop i list ≡ m ∷ drop (i + 1) list = changes_at list i m c.loop-member-test.true c.member-item.is in
    let order : AreOrdered (json_members list) = subst (λ (xs : List (List ℕ × Tree)). AreOrdered (json_members xs)) (sym c.deref-member-items.ensures.value) c.changes.invariant in
    let left_order : AreOrdered (json_members (m ∷ drop (i + 1) list)) = subst (λ (xs : List (List ℕ × Tree)). AreOrdered (json_members xs)) left (ordered_drop list i order) in
    let old : List (List ℕ × Tree) = c.loop-member.merged.items in
    let rest : List (List ℕ × Json) = json_members c.loop-member.rest.now in
    let before : List (List ℕ × Tree) = c.cut_at.result.0.now in
    let copied = ap json_members c.in_ok-push_copies.ensures ∙ map-append json_member old before in
    let cut = rw c.as_str.ensures at c.cut_at.ensures.cut in
    record {
      whole = merge_step (json_members old) (json_members c.push_copies.new.into.items) (json_members c.push_change.new.into.items) rest (json_members before) (json_members c.cut_at.result.2.now) (json_members (drop (i + 1) list)) _ _ m.0 (json_of m.1)
          cut (before_others (json_member m) (json_members (drop (i + 1) list)) left_order) copied c.in_ok-push_change.ensures
          (ap (λ (xs : List (List ℕ × Tree)). json_members old ++ merged_members rest (members_of (json_members xs))) (sym left) ∙ c.loop-member.invariant.whole);
      order = c.cut_at.ensures.order;
    }

pub merge_members-invariant_of-result : goal.merge_members-invariant_of-result
merge_members-invariant_of-result t c =
    let list : List (List ℕ × Tree) = c.deref-member-items.result.now in
    let old : List (List ℕ × Tree) = c.loop-member.merged.items in
    let rest : List (List ℕ × Tree) = c.loop-member.rest.now in
    let all = ap json_members c.in_ok-push_copies-2.ensures ∙ map-append json_member old rest
    ∙ ap (λ (xs : List (List ℕ × Tree)). json_members old ++ merged_members (json_members rest) (members_of (json_members xs))) (sym (drop_all c.loop-member.member-index list c.loop-member-test.false))
    ∙ c.loop-member.invariant.whole in
    subst AreOrdered (sym all) (merged_ordered (json_members c.args.members.now) (members_of (json_members list)) c.requires)
