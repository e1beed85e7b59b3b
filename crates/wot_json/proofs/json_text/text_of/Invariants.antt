use Rattle.std.proofs.Common.{◌<◌, ◌-◌, length}
use Rattle.wot_json.specs.Json.{json_text}
use Rattle.wot_json.proofs.json_text.text_of.Given as goal

abbrev pub invariant-loop-room : goal.invariant-loop-room
invariant-loop-room l = 0 < l.size

abbrev pub decreases-loop-room : goal.decreases-loop-room
decreases-loop-room l = length (json_text l.tree) - l.size
