use Rattle.std.proofs.Common.{◌≡◌, ◌++◌, drop}
use Rattle.std.specs.Prelude.{filter, not}
use Rattle.wot_json.specs.Meaning.{json_items}
use Rattle.tm_derive.specs.Finishing.{is_model_type}
use Rattle.tm_derive.proofs.finishing.other_types.Given as goal

abbrev pub invariant-loop-value : goal.invariant-loop-value
invariant-loop-value l =
    l.left ++ filter (λ v. not (is_model_type v)) (json_items (drop l.value-index l.list)) ≡ filter (λ v. not (is_model_type v)) (json_items l.list)
