use Rattle.std.proofs.Common.{◌≡◌, ◌++◌, ◌∙◌, List, ℕ, sym, ap, subst, append-nil}
use Rattle.std.proofs.lemmas.List.{drop_all}
use Rattle.wot_json.specs.Tree.{Json, AreOrdered}
use Rattle.wot_json.specs.Meaning.{json_members}
use Rattle.wot_json.specs.declared.tree.Tree.{Tree}
use Rattle.wot_forms.specs.FormsPatch.{affordances_patch}
use Rattle.wot_forms.proofs.PatchedForms.{ordered_affordances}
use Rattle.wot_forms.proofs.generation.affordances_patch.Goals as goal

pub from_vec-requires : goal.from_vec-requires
from_vec-requires c =
    let list : List (List ℕ × Tree) = c.as_slice-list.result.now in
    let done : List (List ℕ × Json) = json_members c.loop-member.patch.items in
    let all : done ≡ affordances_patch c.args.at.now.bases.now c.args.at.now.segment.now c.args.kind (json_members list) =
    sym (append-nil done)
    ∙ ap (λ (xs : List (List ℕ × Tree)). done ++ affordances_patch c.args.at.now.bases.now c.args.at.now.segment.now c.args.kind (json_members xs)) (sym (drop_all c.loop-member.member-index list c.loop-member-test.false))
    ∙ c.loop-member.invariant in
    let ordered : AreOrdered (json_members list) = subst AreOrdered (sym c.as_slice-list.ensures.members) c.as_slice-list.ensures.ordered in
    subst AreOrdered (sym all) (ordered_affordances c.args.at.now.bases.now c.args.at.now.segment.now c.args.kind (json_members list) ordered)
