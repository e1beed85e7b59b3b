use Rattle.std.proofs.Common.{◌∙◌, sym, ap, []}
use Rattle.std.specs.Prelude.{Some}
use Rattle.std.proofs.lemmas.Result.{err_from_is_err_and}
use Rattle.wot_json.specs.Tree.{Json}
use Rattle.wot_json.specs.Meaning.{json_of}
use Rattle.tm_derive.specs.Derivation.{choosing_faults, submodels, thing_tree}
use Rattle.tm_derive.specs.Kept.{given_of}
use Rattle.tm_derive.specs.Submodels.{submodel_faults}
use Rattle.tm_derive.proofs.Outcomes.{refused_before, refused_after, none_then_none}
use Rattle.tm_derive.proofs.OneThing.{tree_is, description_refused, description_valid}
use Rattle.tm_derive.proofs.making.make_from.Goals as goal

pub returns-in_err-texts : goal.returns-in_err-texts
returns-in_err-texts c =
    let p = err_from_is_err_and c.from_residual.result c.from_residual.ensures.1 in
    rw (p.1, p.2)
    (refused_before c.in_err-texts.field-0.0 (choosing_faults (given_of c.args.common.now) c.args.place.now) _ c.in_err-texts.ensures)

pub returns-in_err-children : goal.returns-in_err-children
returns-in_err-children c =
    let p = err_from_is_err_and c.from_residual-in_err-children.result c.from_residual-in_err-children.ensures.1 in
    let given = given_of c.args.common.now in
    let place = c.args.place.now in
    rw (p.1, p.2)
    (refused_after c.in_err-children.field-0.0 (choosing_faults given place) _ c.in_ok-texts.ensures.1
    (refused_before c.in_err-children.field-0.0 (submodel_faults given.models c.args.above.now place [] 1 (submodels given place)) _ c.in_err-children.ensures))

pub returns-in_err-judge_tree : goal.returns-in_err-judge_tree
returns-in_err-judge_tree c =
    let p = err_from_is_err_and c.from_residual-in_err-judge_tree.result c.from_residual-in_err-judge_tree.ensures.1 in
    let given = given_of c.args.common.now in
    let place = c.args.place.now in
    let value = json_of c.args.value.now in
    let made = c.in_ok-tree.ensures ∙ tree_is given place c.as_slice.result.now c.as_slice-2.result.now value (c.as_slice.ensures.value ∙ c.in_ok-texts.ensures.0) (c.as_slice-2.ensures.value ∙ c.in_ok-children.ensures.0) in
    rw (p.1, p.2)
    (refused_after c.in_err-judge_tree.field-0.0 (choosing_faults given place) _ c.in_ok-texts.ensures.1
    (refused_after c.in_err-judge_tree.field-0.0 (submodel_faults given.models c.args.above.now place [] 1 (submodels given place)) _ c.in_ok-children.ensures.1
    (description_refused place.segment c.as_str.result.now (json_of c.in_ok-tree.tree) (thing_tree given place value) c.in_err-judge_tree.field-0.0 c.as_str.ensures made c.in_err-judge_tree.ensures)))

pub returns : goal.returns
returns c =
    let given = given_of c.args.common.now in
    let place = c.args.place.now in
    let value = json_of c.args.value.now in
    let made = c.in_ok-tree.ensures ∙ tree_is given place c.as_slice.result.now c.as_slice-2.result.now value (c.as_slice.ensures.value ∙ c.in_ok-texts.ensures.0) (c.as_slice-2.ensures.value ∙ c.in_ok-children.ensures.0) in (
      ap (λ (t : Json). Some t) (sym made),
      c.in_ok-children.ensures.0,
      none_then_none (choosing_faults given place) _ c.in_ok-texts.ensures.1
          (none_then_none (submodel_faults given.models c.args.above.now place [] 1 (submodels given place)) _ c.in_ok-children.ensures.1
          (description_valid place.segment c.as_str.result.now (json_of c.in_ok-tree.tree) (thing_tree given place value) c.as_str.ensures made c.in_ok-judge_tree.ensures)),
    )
