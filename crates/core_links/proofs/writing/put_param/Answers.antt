use Rattle.std.proofs.Common.{List, ℕ, subst, [], ◌∷◌, ◌++◌}
use Rattle.servient_base.proofs.Pieces.{puts_then_if_room}
use Rattle.servient_base.specs.Writing.{Puts}
use Rattle.core_links.specs.Writing.{set_text}
use Rattle.core_links.proofs.writing.put_param.Goals as goal

pub returns : goal.returns
returns c =
    puts_then_if_room (59 ∷ []) (c.args.param.now.name ++ set_text c.args.param.now.value) c.args.at c.in_ok-at.at c.args.out.now c.put_piece.new.out c.put_set.new.out c.put_set.result
    c.put_piece.auto.out c.in_ok-at.ensures
    (puts_then_if_room c.args.param.now.name (set_text c.args.param.now.value) c.in_ok-at.at c.in_ok-at-2.at c.put_piece.new.out c.put_piece-2.new.out c.put_set.new.out c.put_set.result
    c.put_piece-2.auto.out (subst (λ (text : List ℕ). Puts text c.in_ok-at.at c.in_ok-at-2.at c.put_piece.new.out c.put_piece-2.new.out) c.as_slice.ensures c.in_ok-at-2.ensures) c.put_set.ensures)
