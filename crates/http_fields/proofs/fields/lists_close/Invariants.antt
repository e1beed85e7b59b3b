use Rattle.std.proofs.Common.{◌≡◌}
use Rattle.std.specs.List.{list_any}
use Rattle.http_fields.specs.Fields.{has_item, is_close}
use Rattle.http_fields.specs.Pieces.{pieces_left}
use Rattle.http_fields.proofs.fields.lists_close.Given as goal

abbrev pub invariant-loop-item : goal.invariant-loop-item
invariant-loop-item l = has_item is_close l.value ≡ list_any is_close (pieces_left l.item-iterator)
