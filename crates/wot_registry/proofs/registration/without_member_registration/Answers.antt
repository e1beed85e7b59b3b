use Rattle.std.proofs.Common.{List, ℕ, sym, ap, subst, ◌∙◌, rules}
use Rattle.std.specs.Prelude.{codes, not}
use Rattle.std.specs.Str.{bytes_eq}
use Rattle.std.proofs.lemmas.Fn.{filter_same}
use Rattle.wot_json.specs.Tree.{AreOrdered}
use Rattle.wot_json.specs.Meaning.{json_members}
use Rattle.wot_json.specs.Merge.{without_member}
use Rattle.wot_json.specs.declared.tree.Tree.{Tree}
use Rattle.wot_registry.proofs.Members.{filtered_without, without_in_order}
use Rattle.wot_registry.proofs.registration.without_member_registration.Goals as goal

pub from_vec-requires : goal.from_vec-requires
from_vec-requires c =
    let kept = filter_same _ (λ (m : List ℕ × Tree). not (bytes_eq m.0 (codes "registration"))) _ (λ x b f' k. search rules) _ _ c.retain.ensures.filtered in
    subst AreOrdered (sym (ap json_members kept ∙ filtered_without (codes "registration") c.into_vec-list.result.items))
    (without_in_order (codes "registration") (json_members c.into_vec-list.result.items) (subst AreOrdered (sym c.into_vec-list.ensures.members) c.into_vec-list.ensures.ordered))

pub returns : goal.returns
returns c =
    let kept = filter_same _ (λ (m : List ℕ × Tree). not (bytes_eq m.0 (codes "registration"))) _ (λ x b f' k. search rules) _ _ c.retain.ensures.filtered in
    c.from_vec.ensures ∙ ap json_members kept ∙ filtered_without (codes "registration") c.into_vec-list.result.items ∙ ap (without_member (codes "registration")) c.into_vec-list.ensures.members
