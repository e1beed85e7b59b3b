use Rattle.std.proofs.Common.{◌≡◌, drop}
use Rattle.std.specs.List.{list_any}
use Rattle.wot_json.specs.Meaning.{json_items}
use Rattle.wot_json.specs.Texts.{is_text_of}
use Rattle.wot_json.proofs.texts.is_among.Given as goal

abbrev pub invariant-loop-item : goal.invariant-loop-item
invariant-loop-item l = list_any (is_text_of l.text) (json_items (drop l.item-index l.items)) ≡ list_any (is_text_of l.text) (json_items l.items)
