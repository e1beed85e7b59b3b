use Rattle.std.proofs.Common.{◌≡◌, drop}
use Rattle.wot_json.specs.Tree.{elements_of}
use Rattle.wot_json.specs.Meaning.{json_items}
use Rattle.wot_schema.specs.Faults.{are_texts}
use Rattle.wot_schema.proofs.shape.are_texts.Given as goal

abbrev pub invariant-loop-item : goal.invariant-loop-item
invariant-loop-item l = are_texts (elements_of (json_items l.item-items)) ≡ are_texts (elements_of (json_items (drop l.item-index l.item-items)))
