use Rattle.std.proofs.Common.{codes, subst, sym, ap, List, ℕ, ◌++◌}
use Rattle.std.proofs.lemmas.List.{append-nil}
use Rattle.servient_base.specs.Writing.{PutsIfRoom}
use Rattle.servient_base.proofs.Pieces.{puts_then_if_room}
use Rattle.http_bind.specs.Places.{segment_text}
use Rattle.http_bind.proofs.place.put_entry.Goals as goal

pub returns : goal.returns
returns c =
    subst (λ (t : List ℕ). PutsIfRoom t 0 c.args.out.now c.put_segment-2.new.out c.put_segment-2.result) (ap (λ (t : List ℕ). segment_text (codes "things") ++ t) (sym (append-nil (segment_text c.args.id.now))))
    (puts_then_if_room (segment_text (codes "things")) (segment_text c.args.id.now) 0 c.in_ok-at.at c.args.out.now c.put_segment.new.out c.put_segment-2.new.out c.put_segment-2.result
    c.put_segment.auto.out c.in_ok-at.ensures c.put_segment-2.ensures)
