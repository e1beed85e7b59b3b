use Rattle.std.proofs.Common.{take}
use Rattle.std.specs.List.{flat_map}
use Rattle.wot_json.specs.Json.{escaped_byte}
use Rattle.servient_base.specs.Writing.{Puts}
use Rattle.wot_json.proofs.json_text.put_all_escaped.Given as goal

abbrev pub invariant-loop-byte : goal.invariant-loop-byte
invariant-loop-byte l = Puts (flat_map escaped_byte (take l.byte-index l.bytes)) l.at l.end l.initial.out l.out
