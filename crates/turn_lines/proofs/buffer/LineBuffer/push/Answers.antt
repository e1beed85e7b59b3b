use Rattle.std.proofs.Common.{◌≡◌, ◌∙◌, ◌<◌, ℕ, List, [], ◌∷◌, ◌++◌, take, length, get_or, refl, sym, ap, subst, arith}
use Rattle.std.proofs.lemmas.List.{take_more, take_all}
use Rattle.turn_lines.specs.Buffer.{buffered_of, HasPut}
use Rattle.turn_lines.proofs.Putting.{put_none, put_then, put_same}
use Rattle.turn_lines.proofs.buffer.LineBuffer.push.Goals as goal

pub loop-byte-init : goal.loop-byte-init
loop-byte-init g c = put_none (buffered_of c.args.self.now) (g.O.Out.seen c.args.out.now)

pub loop-byte-preserved : goal.loop-byte-preserved
loop-byte-preserved g c =
    put_same _ _ (take_more c.args.bytes.now c.loop-byte.byte-index 0 c.loop-byte-test.true) (put_then c.loop-byte.invariant c.push_byte.ensures)

pub returns : goal.returns
returns g c = put_same _ _ (sym (take_all c.loop-byte.byte-index c.args.bytes.now (omega (arith, c.loop-byte-test.false)))) c.loop-byte.invariant
