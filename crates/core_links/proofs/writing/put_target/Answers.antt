use Rattle.std.proofs.Common.{[], ◌∷◌, ◌++◌}
use Rattle.servient_base.proofs.Pieces.{puts_then_if_room}
use Rattle.core_links.proofs.writing.put_target.Goals as goal

pub returns : goal.returns
returns c =
    puts_then_if_room (60 ∷ []) (c.args.target.now ++ 62 ∷ []) c.args.at c.in_ok-at.at c.args.out.now c.put_piece.new.out c.put_piece-3.new.out c.put_piece-3.result
    c.put_piece.auto.out c.in_ok-at.ensures
    (puts_then_if_room c.args.target.now (62 ∷ []) c.in_ok-at.at c.in_ok-at-2.at c.put_piece.new.out c.put_piece-2.new.out c.put_piece-3.new.out c.put_piece-3.result
    c.put_piece-2.auto.out c.in_ok-at-2.ensures c.put_piece-3.ensures)
