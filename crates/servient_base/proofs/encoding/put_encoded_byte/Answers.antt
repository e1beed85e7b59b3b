use Rattle.std.proofs.Common.{List, ℕ, sym, subst, ◌∙◌}
use Rattle.servient_base.specs.Writing.{PutsIfRoom}
use Rattle.servient_base.proofs.EncodedBytes.{escaped, unescaped}
use Rattle.servient_base.proofs.encoding.put_encoded_byte.Goals as goal

pub returns-then-should_percent_encode : goal.returns-then-should_percent_encode
returns-then-should_percent_encode c =
    subst (λ (t : List ℕ). PutsIfRoom t c.args.at c.args.out.now c.put_piece.new.out c.put_piece.result)
    (c.as_bytes.ensures.value ∙ c.percent_encode_byte.ensures ∙ escaped c.args.byte (sym c.should_percent_encode.ensures ∙ c.if-should_percent_encode.true))
    c.put_piece.ensures

pub returns-else-should_percent_encode : goal.returns-else-should_percent_encode
returns-else-should_percent_encode c =
    subst (λ (t : List ℕ). PutsIfRoom t c.args.at c.args.out.now c.put_piece-else-should_percent_encode.new.out c.put_piece-else-should_percent_encode.result)
    (unescaped c.args.byte (sym c.should_percent_encode.ensures ∙ c.if-should_percent_encode.false))
    c.put_piece-else-should_percent_encode.ensures
