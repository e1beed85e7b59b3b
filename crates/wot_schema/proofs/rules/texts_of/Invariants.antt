use Rattle.std.proofs.Common.{◌≡◌, map, take, drop}
use Rattle.std.specs.Prelude.{IsTrue}
use Rattle.wot_json.specs.Tree.{string, elements_of}
use Rattle.wot_json.specs.Meaning.{json_items}
use Rattle.wot_schema.specs.Faults.{are_texts}
use Rattle.wot_schema.proofs.rules.texts_of.Given as goal

abbrev pub invariant-loop-item : goal.invariant-loop-item
invariant-loop-item l = record {
  texts : map string l.texts.items ≡ json_items (take l.item-index l.items);
  rest : IsTrue (are_texts (elements_of (json_items (drop l.item-index l.items))));
}
