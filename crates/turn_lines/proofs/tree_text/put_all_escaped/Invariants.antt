use Rattle.std.proofs.Common.{take}
use Rattle.std.specs.List.{flat_map}
use Rattle.wot_json.specs.Json.{escaped_byte}
use Rattle.turn_lines.specs.Buffer.{buffered_of, HasPut}
use Rattle.turn_lines.proofs.tree_text.put_all_escaped.Given as goal

abbrev pub invariant-loop-byte : goal.invariant-loop-byte
invariant-loop-byte g l = HasPut (flat_map escaped_byte (take l.byte-index l.bytes)) (buffered_of l.initial.lines) (buffered_of l.lines) (g.O.Out.seen l.initial.out) (g.O.Out.seen l.out)
