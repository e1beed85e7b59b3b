use Rattle.std.proofs.Common.{◌≡◌, ◌++◌, drop}
use Rattle.std.specs.List.{flat_map}
use Rattle.wot_json.specs.Meaning.{json_items}
use Rattle.wot_forms.specs.Forms.{ops_named}
use Rattle.wot_forms.proofs.listing.listed_operations.Given as goal

abbrev pub invariant-loop-name : goal.invariant-loop-name
invariant-loop-name l = l.ops.items ++ flat_map ops_named (json_items (drop l.name-index l.names)) ≡ flat_map ops_named (json_items l.names)
