use Rattle.std.proofs.Common.{◌≡◌, drop}
use Rattle.wot_json.specs.Tree.{elements_of}
use Rattle.wot_json.specs.Meaning.{json_items}
use Rattle.wot_terms.specs.Faults.{each_element}
use Rattle.wot_terms.specs.Rows.{entry_judge}
use Rattle.wot_terms.proofs.entries.each_element.Given as goal

abbrev pub invariant-loop-index : goal.invariant-loop-index
invariant-loop-index l = each_element (entry_judge l.entry) 0 (elements_of (json_items l.items)) ≡ each_element (entry_judge l.entry) l.index (elements_of (json_items (drop l.index l.items)))
