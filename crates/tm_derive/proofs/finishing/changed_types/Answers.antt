use Rattle.std.proofs.Common.{ap, ◌∙◌, List}
use Rattle.std.specs.Prelude.{Some, filter, not}
use Rattle.wot_json.specs.Tree.{Json}
use Rattle.tm_derive.specs.Finishing.{types_left, is_model_type}
use Rattle.tm_derive.proofs.Values.{types_changed}
use Rattle.tm_derive.proofs.finishing.changed_types.Goals as goal

pub returns-in_ok-types_left-in-List : goal.returns-in_ok-types_left-in-List
returns-in_ok-types_left-in-List c =
    ap (λ (v : Json). Some v) c.in_ok-types_left-in-List.ensures
    ∙ ap (λ (vs : List Json). Some (types_left (filter (λ v. not (is_model_type v)) vs))) c.as_slice.ensures
    ∙ types_changed c.args.types.now c.in-List.list c.in-List.is
