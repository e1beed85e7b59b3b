use Rattle.std.proofs.Common.{◌∙◌, ap, ℕ, List, ◌∷◌, []}
use Rattle.std.specs.Prelude.{◌==◌}
use Rattle.std.specs.List.{slice_split}
use Rattle.http_fields.specs.Pieces.{pieces_left}
use Rattle.http_wire.specs.Conditions.{tags_of}
use Rattle.http_wire.specs.Asked.{both_tags, opened}
use Rattle.http_wire.proofs.NotedLines.{item_kept}
use Rattle.http_wire.proofs.conditions.note_items.Goals as goal

pub loop-item-preserved : goal.loop-item-preserved
loop-item-preserved c =
    item_kept c.args.weak c.args.tags.now c.loop-item.tags c.note_item.new.tags (slice_split (λ b. b == 44) c.args.value.now) (pieces_left c.loop-item.item-iterator)
    (pieces_left c.next.new.self) c.in-Some.item.now c.loop-item.invariant c.in-Some.ensures.steps
    (c.in_ok-note_item.ensures ∙ ap (λ (xs : List ℕ). both_tags c.loop-item.tags (tags_of (xs ∷ []))) (c.opened.ensures ∙ ap (opened c.args.weak) c.trim.ensures))
