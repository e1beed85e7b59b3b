use Rattle.std.proofs.Common.{◌≡◌}
use Rattle.std.specs.Prelude.{◌==◌}
use Rattle.std.specs.List.{slice_split}
use Rattle.http_fields.specs.Pieces.{pieces_left}
use Rattle.http_wire.specs.Asked.{both_tags, named_in}
use Rattle.http_wire.proofs.conditions.note_items.Given as goal

abbrev pub invariant-loop-item : goal.invariant-loop-item
invariant-loop-item l =
    both_tags l.initial.tags (named_in l.weak (slice_split (λ b. b == 44) l.value)) ≡ both_tags l.tags (named_in l.weak (pieces_left l.item-iterator))
