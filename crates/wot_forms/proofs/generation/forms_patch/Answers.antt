use Rattle.std.proofs.Common.{◌≡◌, ◌∙◌, List, ℕ, sym, ap, subst}
use Rattle.wot_json.specs.Tree.{Json, AreOrdered, object, members_of}
use Rattle.wot_json.specs.Merge.{merge}
use Rattle.wot_json.specs.Meaning.{json_members}
use Rattle.wot_forms.specs.FormsPatch.{forms_patch, IsOrderedWithin}
use Rattle.wot_forms.proofs.PatchedForms.{patch_ordered, patched, gathered}
use Rattle.wot_forms.proofs.generation.forms_patch.Goals as goal
use Rattle.wot_forms.proofs.generation.forms_patch.Goals.{In_ok-put_holder-3}

-- the parts put together are the whole patch
whole : (c : In_ok-put_holder-3) → json_members c.put_holder-3.new.patch.items ≡ forms_patch c.args.at.now.bases.now c.args.at.now.segment.now (members_of c.args.members.now)
whole c = gathered c.args.at.now.bases.now c.args.at.now.segment.now (members_of c.args.members.now)
    (json_members c.new-patch.result.items) (json_members c.put_holder.new.patch.items) (json_members c.put_holder-2.new.patch.items) (json_members c.put.new.members.items) (json_members c.put_holder-3.new.patch.items)
    _ _ _ _
    (ap json_members c.new-patch.ensures.items)
    c.in_ok-put_holder.ensures.ok c.in_ok-put_holder-2.ensures.ok c.in_ok-put.ensures c.in_ok-put_holder-3.ensures.ok
    c.value_under-actions.ensures c.value_under-events.ensures c.value_under-properties.ensures c.in_ok-forms.ensures

pub from_vec-requires : goal.from_vec-requires
from_vec-requires c =
    subst AreOrdered (sym (whole (goal.at.from_vec-requires c).In_ok-put_holder-3)) (patch_ordered c.args.at.now.bases.now c.args.at.now.segment.now (members_of c.args.members.now))

pub returns : goal.returns
returns c =
    let ms = members_of c.args.members.now in
    let is : c.from_vec.result ≡ forms_patch c.args.at.now.bases.now c.args.at.now.segment.now ms = c.from_vec.ensures ∙ whole (goal.at.returns c).In_ok-put_holder-3 in
    ap (λ (xs : List (List ℕ × Json)). merge (object ms) (object (members_of xs))) is
    ∙ patched c.args.at.now.bases.now c.args.at.now.segment.now ms
    (subst IsOrderedWithin c.value_under-actions.ensures c.in_ok-put_holder.ensures.ordered)
    (subst IsOrderedWithin c.value_under-events.ensures c.in_ok-put_holder-2.ensures.ordered)
    (subst IsOrderedWithin c.value_under-properties.ensures c.in_ok-put_holder-3.ensures.ordered)
