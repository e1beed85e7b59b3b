use Rattle.std.proofs.Common.{◌≡◌, ◌||◌}
use Rattle.std.specs.List.{list_any}
use Rattle.http_fields.specs.Fields.{has_item, takes_json, takes_td}
use Rattle.http_fields.specs.Pieces.{pieces_left}
use Rattle.http_fields.proofs.fields.types_of.Given as goal

abbrev pub invariant-loop-item : goal.invariant-loop-item
invariant-loop-item l =
    (has_item takes_json l.value ≡ (l.json || list_any takes_json (pieces_left l.item-iterator)))
    × (has_item takes_td l.value ≡ (l.td || list_any takes_td (pieces_left l.item-iterator)))
