use Rattle.std.proofs.Common.{List, ℕ, ◌≡◌, ◌∙◌, ap, subst, sym}
use Rattle.std.specs.Prelude.{IfOk}
use Rattle.wot_json.specs.Tree.{Json}
use Rattle.wot_json.specs.Meaning.{json_of, json_members}
use Rattle.wot_json.specs.Merge.{members_under}
use Rattle.wot_json.proofs.EqualTrees.{listed_members_lem}
use Rattle.servient_plan.specs.Plan.{unknown_in}
use Rattle.servient_plan.proofs.unknown.unknown_in.Goals as goal

pub returns-in-Obj : goal.returns-in-Obj
returns-in-Obj c =
    let is : json_members c.as_slice.result.now ≡ members_under (json_of c.args.tree.now) =
    c.as_slice.ensures.members ∙ sym (listed_members_lem c.in-Obj.members) ∙ ap (λ t. members_under (json_of t)) (sym c.in-Obj.is) in
    subst (λ (ms : List (List ℕ × Json)). IfOk c.unknown_among.result (λ names. names ≡ unknown_in ms)) is c.unknown_among.ensures
