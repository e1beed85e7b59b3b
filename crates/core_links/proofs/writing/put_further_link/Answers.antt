use Rattle.std.proofs.Common.{[], ◌∷◌}
use Rattle.servient_base.proofs.Pieces.{puts_then_if_room}
use Rattle.core_links.specs.Writing.{link_text}
use Rattle.core_links.proofs.writing.put_further_link.Goals as goal

pub returns : goal.returns
returns c =
    puts_then_if_room (44 ∷ []) (link_text c.args.link.now) c.args.at c.in_ok-at.at c.args.out.now c.put_piece.new.out c.put_link.new.out c.put_link.result
    c.put_piece.auto.out c.in_ok-at.ensures c.put_link.ensures
