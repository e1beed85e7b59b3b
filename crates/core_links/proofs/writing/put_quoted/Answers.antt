use Rattle.std.proofs.Common.{[], ◌∷◌, ◌++◌}
use Rattle.std.specs.List.{flat_map}
use Rattle.servient_base.proofs.Pieces.{puts_then_if_room}
use Rattle.core_links.specs.Writing.{quoted_byte}
use Rattle.core_links.proofs.writing.put_quoted.Goals as goal

pub returns : goal.returns
returns c =
    puts_then_if_room (34 ∷ []) (flat_map quoted_byte c.args.value.now ++ 34 ∷ []) c.args.at c.in_ok-at.at c.args.out.now c.put_piece.new.out c.put_piece-2.new.out c.put_piece-2.result
    c.put_piece.auto.out c.in_ok-at.ensures
    (puts_then_if_room (flat_map quoted_byte c.args.value.now) (34 ∷ []) c.in_ok-at.at c.in_ok-at-2.at c.put_piece.new.out c.put_bytes.new.out c.put_piece-2.new.out c.put_piece-2.result
    c.put_bytes.auto.out c.in_ok-at-2.ensures c.put_piece-2.ensures)
