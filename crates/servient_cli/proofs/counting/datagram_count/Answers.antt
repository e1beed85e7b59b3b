use mir.Val.{bool_byte}
use Rattle.std.proofs.Common.{◌≡◌, ◌∙◌, ◌+◌, ◌≤◌, ℕ, Bool, true, false, cond, take, length, arith, ap, sym, refl}
use Rattle.servient_cli.specs.Counting.{is_datagram, came}
use Rattle.servient_cli.proofs.CountLaws.{came_more}
use Rattle.servient_cli.proofs.counting.datagram_count.Goals as goal

byte_is : (b : Bool) → bool_byte b ≡ cond b 1 0
byte_is true = refl
byte_is false = refl

byte_small : (b : Bool) → bool_byte b ≤ 1
byte_small true = omega arith
byte_small false = omega arith

pub loop-place-preserved : goal.loop-place-preserved
loop-place-preserved c =
    let events = c.args.events.now in
    let place = c.loop-place.place in
    let more = came_more events place c.at.result.now (omega (arith, c.loop-place-test.true, c.len-place-end.ensures)) c.at.ensures.item in
    record {
      counted = ap (λ (n : ℕ). n + c.from-count.result) c.loop-place.invariant.counted
          ∙ ap (λ (n : ℕ). length (came (take place events)) + n) (c.from-count.ensures ∙ ap (λ (b : Bool). bool_byte b) c.is_datagram.ensures ∙ byte_is (is_datagram c.at.result.now.event.what))
          ∙ sym more;
      few = omega (arith, c.loop-place.invariant.few, c.from-count.ensures, byte_small c.is_datagram.result);
    }
