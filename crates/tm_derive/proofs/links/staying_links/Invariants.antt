use Rattle.std.proofs.Common.{◌≡◌, ◌++◌, drop}
use Rattle.wot_json.specs.Meaning.{json_items}
use Rattle.tm_derive.specs.Finishing.{staying_links}
use Rattle.tm_derive.proofs.links.staying_links.Given as goal

abbrev pub invariant-loop-index : goal.invariant-loop-index
invariant-loop-index l = l.staying ++ staying_links l.leaving l.index (json_items (drop l.index l.list)) ≡ staying_links l.leaving 0 (json_items l.list)
