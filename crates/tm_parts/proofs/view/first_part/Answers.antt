use Rattle.std.proofs.Common.{[], ◌∷◌, ◌++◌, ap, ◌∙◌, refl, rules}
use Rattle.std.specs.Prelude.{map}
use Rattle.tm_parts.specs.Placeholders.{plain, placeholder, pieces}
use Rattle.tm_parts.specs.Pieces.{pieces_of}
use Rattle.tm_parts.specs.declared.placeholder.Piece as code
use Rattle.tm_parts.specs.Views.{values_in}
use Rattle.tm_parts.proofs.Texts.{text_of_plain}
use Rattle.tm_parts.proofs.Seen.{seen_cut, unbound_shown, cut_before_rest}
use Rattle.tm_parts.proofs.view.first_part.Goals as goal

pub split_at-requires : goal.split_at-requires
split_at-requires c =
    cut_before_rest c.args.text.now c.first_piece.result.1.now (pieces_of c.first_piece.result.0) _ c.first_piece.ensures.pieces (search rules) refl

pub returns-in-Plain-clause-seen : goal.returns-in-Plain-clause-seen
returns-in-Plain-clause-seen c =
    seen_cut (values_in c.args.values) c.args.text.now c.first_piece.result.1.now (map plain c.in-Plain.plain.now) c.in-Plain.plain.now
    (c.first_piece.ensures.pieces ∙ ap (λ (p : code.Piece). pieces_of p ++ pieces c.first_piece.result.1.now) c.in-Plain.is)
    (text_of_plain (values_in c.args.values) c.in-Plain.plain.now)

pub returns-in-None-clause-seen : goal.returns-in-None-clause-seen
returns-in-None-clause-seen c =
    let cut = c.first_piece.ensures.pieces ∙ ap (λ (p : code.Piece). pieces_of p ++ pieces c.first_piece.result.1.now) c.in-Placeholder.is in
    seen_cut (values_in c.args.values) c.args.text.now c.first_piece.result.1.now (placeholder c.in-Placeholder.name.now ∷ []) c.split_at.result.0.now cut
    (unbound_shown (values_in c.args.values) c.args.text.now c.first_piece.result.1.now c.in-Placeholder.name.now c.split_at.result.0.now cut c.in-None.ensures c.split_at.ensures.front)
