use Rattle.std.proofs.Common.{ap, ◌∙◌}
use Rattle.std.specs.List.{flat_map}
use Rattle.tm_parts.specs.Pieces.{pieces_of}
use Rattle.tm_parts.specs.Substitution.{piece_faults}
use Rattle.tm_parts.specs.declared.placeholder.Piece.{Piece}
use Rattle.tm_parts.proofs.Texts.{faults_of_plain}
use Rattle.tm_parts.proofs.judging.judge_piece.Goals as goal

pub returns-in-Plain-clause-ok : goal.returns-in-Plain-clause-ok
returns-in-Plain-clause-ok c =
    ap (λ (p : Piece). flat_map (piece_faults c.args.values.now) (pieces_of p)) c.in-Plain.is ∙ faults_of_plain c.args.values.now c.in-Plain.field-0.now
