use Rattle.std.proofs.Common.{List, ℕ, [], ◌∷◌, subst, sym, ◌∙◌}
use Rattle.servient_base.proofs.Pieces.{puts_then_if_room}
use Rattle.servient_base.specs.Writing.{PutsIfRoom}
use Rattle.core_links.specs.Writing.{quoted}
use Rattle.core_links.proofs.Values.{digits_as_they_are, others_in_quotes}
use Rattle.core_links.proofs.writing.put_value.Goals as goal

pub returns-then-has_digits_alone : goal.returns-then-has_digits_alone
returns-then-has_digits_alone c =
    subst (λ (text : List ℕ). PutsIfRoom (61 ∷ text) c.args.at c.args.out.now c.put_piece-then-has_digits_alone.new.out c.put_piece-then-has_digits_alone.result)
    (sym (digits_as_they_are c.args.value.now (sym c.has_digits_alone.ensures ∙ c.if-has_digits_alone.true)))
    (puts_then_if_room (61 ∷ []) c.args.value.now c.args.at c.in_ok-at.at c.args.out.now c.put_piece.new.out c.put_piece-then-has_digits_alone.new.out c.put_piece-then-has_digits_alone.result
    c.put_piece.auto.out c.in_ok-at.ensures c.put_piece-then-has_digits_alone.ensures)

pub returns-else-has_digits_alone : goal.returns-else-has_digits_alone
returns-else-has_digits_alone c =
    subst (λ (text : List ℕ). PutsIfRoom (61 ∷ text) c.args.at c.args.out.now c.put_quoted.new.out c.put_quoted.result)
    (sym (others_in_quotes c.args.value.now (sym c.has_digits_alone.ensures ∙ c.if-has_digits_alone.false)))
    (puts_then_if_room (61 ∷ []) (quoted c.args.value.now) c.args.at c.in_ok-at.at c.args.out.now c.put_piece.new.out c.put_quoted.new.out c.put_quoted.result
    c.put_piece.auto.out c.in_ok-at.ensures c.put_quoted.ensures)
