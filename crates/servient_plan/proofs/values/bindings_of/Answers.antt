use Rattle.std.proofs.Common.{◌≡◌, ◌∙◌, ap, sym, Some}
use Rattle.wot_json.specs.Meaning.{json_of}
use Rattle.wot_json.specs.declared.tree.Tree.TheVariants.{Obj}
use Rattle.wot_json.proofs.EqualTrees.{listed_members_lem}
use Rattle.servient_plan.specs.Plan.{bindings_in}
use Rattle.servient_plan.proofs.values.bindings_of.Goals as goal

pub returns-in-Obj : goal.returns-in-Obj
returns-in-Obj c =
    let given : c.args.tree.now ≡ Obj c.in-Obj.members = sym c.in_ok-tree.ensures ∙ c.in-Obj.is in
    ap (λ b. Some b) (c.from_vec.ensures ∙ c.into_vec.ensures.members ∙ sym (listed_members_lem c.in-Obj.members)) ∙ ap (λ t. bindings_in (Some (json_of t))) (sym given)
