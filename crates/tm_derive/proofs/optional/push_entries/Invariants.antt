use Rattle.std.proofs.Common.{◌≡◌, ◌++◌, drop}
use Rattle.std.specs.List.{flat_map}
use Rattle.wot_json.specs.Meaning.{json_items}
use Rattle.tm_derive.specs.Optional as spec
use Rattle.tm_derive.proofs.optional.push_entries.Given as goal

abbrev pub invariant-loop-index : goal.invariant-loop-index
invariant-loop-index l = record {
  texts : l.texts.items ++ flat_map spec.entry_texts (json_items (drop l.index l.entries)) ≡ l.initial.texts.items ++ flat_map spec.entry_texts (json_items l.entries);
  faults : spec.faulty_entries l.index (json_items (drop l.index l.entries)) ≡ spec.faulty_entries 0 (json_items l.entries);
}
