use Rattle.std.proofs.Common.{◌++◌, List, ℕ, Option, subst, sym}
use Rattle.std.specs.Prelude.{option_map}
use Rattle.std.specs.Borrow.{Bor}
use Rattle.servient_base.specs.Writing.{PutsIfRoom}
use Rattle.servient_base.proofs.Pieces.{puts_then_if_room}
use Rattle.http_fields.specs.Marks.{line_end}
use Rattle.http_replies.specs.Writing.{field_line}
use Rattle.http_replies.proofs.reply.put_line.Goals as goal

pub returns-in_ok-at-in-Some-2 : goal.returns-in_ok-at-in-Some-2
returns-in_ok-at-in-Some-2 c =
    let name = c.args.name.now in
    let value = c.in-Some.value.now in
    subst (λ (v : Option (Bor (List ℕ))). PutsIfRoom (field_line name (option_map (λ t. t.now) v)) c.args.at c.args.out.now c.put_piece-in-Some-2.new.out c.put_piece-in-Some-2.result)
    (sym c.in-Some.is)
    (puts_then_if_room name (value ++ line_end) c.args.at c.in_ok-at-in-Some.at c.args.out.now c.put_piece.new.out c.put_piece-in-Some-2.new.out c.put_piece-in-Some-2.result
    c.put_piece.auto.out c.in_ok-at-in-Some.ensures
    (puts_then_if_room value line_end c.in_ok-at-in-Some.at c.in_ok-at-in-Some-2.at c.put_piece.new.out c.put_piece-in-Some.new.out c.put_piece-in-Some-2.new.out c.put_piece-in-Some-2.result
    c.put_piece-in-Some.auto.out c.in_ok-at-in-Some-2.ensures c.put_piece-in-Some-2.ensures))
