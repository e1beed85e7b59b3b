use Rattle.std.proofs.Common.{rules, ◌≡◌, ◌++◌, sym, ap, ◌∙◌}
use Rattle.tm_parts.specs.Placeholders.{plain, pieces}
use Rattle.std.specs.Prelude.{map}
use Rattle.tm_parts.specs.Pieces.{pieces_of}
use Rattle.tm_parts.specs.declared.placeholder.Piece.{Piece}
use Rattle.tm_parts.proofs.Cuts.{placeholders_after_plain}
use Rattle.tm_parts.proofs.placeholder.first_placeholder.Goals as goal

pub loop-rest-preserved : goal.loop-rest-preserved
loop-rest-preserved c =
    let plain_text : pieces c.loop-rest.rest.now ≡ map plain c.in-Plain-default.field-0-0.now ++ pieces c.first_piece.result.1.now =
    c.first_piece.ensures.pieces ∙ ap (λ (p : Piece). pieces_of p ++ pieces c.first_piece.result.1.now) c.in-Plain-default.is-0 in
    (sym (placeholders_after_plain c.loop-rest.rest.now c.in-Plain-default.field-0-0.now c.first_piece.result.1.now plain_text) ∙ c.loop-rest.invariant.0, search rules)
