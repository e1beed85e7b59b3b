use Rattle.std.proofs.Common.{codes}
use Rattle.servient_base.proofs.Pieces.{puts_then_if_room}
use Rattle.servient_base.specs.Encoding.{encoded}
use Rattle.http_bind.proofs.place.put_segment.Goals as goal

pub returns : goal.returns
returns c =
    puts_then_if_room (codes "/") (encoded c.args.segment.now) c.args.at c.in_ok-at.at c.args.out.now c.put_piece.new.out c.put_encoded.new.out c.put_encoded.result
    c.put_piece.auto.out c.in_ok-at.ensures c.put_encoded.ensures
