use Rattle.std.proofs.Common.{List, ℕ, sym, ap, subst, ◌∙◌, rules}
use Rattle.std.specs.Prelude.{codes, not}
use Rattle.std.specs.Str.{bytes_eq}
use Rattle.std.proofs.lemmas.Fn.{filter_same}
use Rattle.wot_json.specs.Tree.{Json, object, members_of, AreOrdered}
use Rattle.wot_json.specs.Meaning.{json_members}
use Rattle.wot_json.specs.Merge.{without_member}
use Rattle.wot_json.specs.declared.tree.Tree.{Tree}
use Rattle.tm_resolve.proofs.Moving.{filtered_without, without_in_order}
use Rattle.tm_resolve.proofs.merging.without_links.Goals as goal

pub from_vec-requires : goal.from_vec-requires
from_vec-requires c =
    let items : List (List ℕ × Tree) = c.into_vec-members.result.items in
    let kept = filter_same _ (λ (m : List ℕ × Tree). not (bytes_eq m.0 (codes "links"))) _ (λ x b f' k. search rules) _ _ c.retain.ensures.filtered in
    subst AreOrdered (sym (ap json_members kept ∙ filtered_without (codes "links") items))
    (without_in_order (codes "links") (json_members items) (subst AreOrdered (sym c.into_vec-members.ensures.members) c.into_vec-members.ensures.ordered))

pub returns : goal.returns
returns c =
    let kept = filter_same _ (λ (m : List ℕ × Tree). not (bytes_eq m.0 (codes "links"))) _ (λ x b f' k. search rules) _ _ c.retain.ensures.filtered in
    ap (λ (ms : List (List ℕ × Json)). object (members_of ms))
    (c.from_vec.ensures ∙ ap json_members kept ∙ filtered_without (codes "links") c.into_vec-members.result.items ∙ ap (without_member (codes "links")) (c.into_vec-members.ensures.members ∙ c.members_of_target.ensures))
