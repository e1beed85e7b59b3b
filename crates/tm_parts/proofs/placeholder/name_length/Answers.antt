use Rattle.std.proofs.Common.{arith, sym, length, ◌∙◌}
use Rattle.std.proofs.lemmas.List.Sums.{prefix_len_is}
use Rattle.tm_parts.specs.Placeholders.{is_name_byte}
use Rattle.tm_parts.proofs.placeholder.name_length.Goals as goal

pub returns-then-not-is_name_byte : goal.returns-then-not-is_name_byte
returns-then-not-is_name_byte c =
    sym (prefix_len_is is_name_byte c.args.text.now c.loop-place.place 0 c.loop-place.auto.place-end c.loop-place.invariant
    (λ within. sym c.is_name_byte.ensures ∙ c.if-not-is_name_byte.true))

pub returns : goal.returns
returns c =
    sym (prefix_len_is is_name_byte c.args.text.now (length c.args.text.now) 0 (omega arith) (λ k h. c.loop-place.invariant k (omega arith)) (λ within. absurd (omega arith)))
