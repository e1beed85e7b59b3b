use Rattle.std.proofs.Common.{refl, sym, ap, arith}
use Rattle.std.specs.List.{flat_map}
use Rattle.std.proofs.lemmas.List.{take_all}
use Rattle.wot_json.specs.Json.{escaped_byte}
use Rattle.turn_lines.specs.Buffer.{buffered_of}
use Rattle.turn_lines.proofs.Putting.{put_none, put_more, put_same}
use Rattle.turn_lines.proofs.tree_text.put_all_escaped.Goals as goal

pub loop-byte-init : goal.loop-byte-init
loop-byte-init g c = put_none (buffered_of c.args.lines.now) (g.O.Out.seen c.args.out.now)

pub loop-byte-preserved : goal.loop-byte-preserved
loop-byte-preserved g c = put_more escaped_byte c.args.bytes.now c.loop-byte.byte-index 0 _ c.loop-byte-test.true refl c.loop-byte.invariant c.put_escaped.ensures

pub returns : goal.returns
returns g c = put_same _ _ (ap (flat_map escaped_byte) (sym (take_all c.loop-byte.byte-index c.args.bytes.now (omega (arith, c.loop-byte-test.false))))) c.loop-byte.invariant
