use Rattle.std.proofs.Common.{◌≡◌, drop}
use Rattle.std.specs.List.{list_all}
use Rattle.wot_json.specs.Meaning.{json_items}
use Rattle.wot_forms.specs.Generated.{is_object}
use Rattle.tm_derive.proofs.links.are_objects.Given as goal

abbrev pub invariant-loop-value : goal.invariant-loop-value
invariant-loop-value l = list_all is_object (json_items (drop l.value-index l.list)) ≡ list_all is_object (json_items l.list)
