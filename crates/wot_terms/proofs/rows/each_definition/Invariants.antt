use Rattle.std.proofs.Common.{◌≡◌, drop}
use Rattle.wot_json.specs.Tree.{elements_of, members_of}
use Rattle.wot_json.specs.Meaning.{json_items}
use Rattle.wot_terms.specs.Faults.{each_element, is, is_text_with, is_defined}
use Rattle.wot_terms.proofs.rows.each_definition.Given as goal

abbrev pub invariant-loop-index : goal.invariant-loop-index
invariant-loop-index l =
    each_element (is (is_text_with (is_defined (members_of l.root)))) 0 (elements_of (json_items l.names))
    ≡ each_element (is (is_text_with (is_defined (members_of l.root)))) l.index (elements_of (json_items (drop l.index l.names)))
