use Rattle.std.proofs.Common.{arith, sym, length, ◌==◌, get_or, eq-eqb}
use Rattle.std.proofs.lemmas.List.Sums.{position_or_len_is}
use Rattle.tm_parts.proofs.placeholder.length_before.Goals as goal

pub returns-then-byte-stop : goal.returns-then-byte-stop
returns-then-byte-stop c =
    sym (position_or_len_is (λ b. b == c.args.stop) c.args.text.now c.loop-place.place 0 c.loop-place.auto.place-end c.loop-place.invariant
    (λ within. eq-eqb (get_or c.args.text.now c.loop-place.place 0) c.args.stop (omega arith)))

pub returns : goal.returns
returns c =
    sym (position_or_len_is (λ b. b == c.args.stop) c.args.text.now (length c.args.text.now) 0 (omega arith) (λ k h. c.loop-place.invariant k (omega arith)) (λ within. absurd (omega arith)))
