use Rattle.std.proofs.Common.{ap, ◌∙◌, rules}
use Rattle.http_fields.specs.Pieces.{pieces_of}
use Rattle.http_fields.proofs.Places.{further_pieces, one_piece, goes_on}
use Rattle.http_fields.proofs.lines.PiecesIterator.next.Goals as goal

pub returns-in-Some-clause-steps : goal.returns-in-Some-clause-steps
returns-in-Some-clause-steps c =
    ap (pieces_of c.args.self.now.byte) c.in_ok-bytes.was ∙ further_pieces c.args.self.now.byte c.in_ok-bytes.bytes.now c.in-Some.place (search rules)

pub returns-in-Some-clause-goes : goal.returns-in-Some-clause-goes
returns-in-Some-clause-goes c =
    goes_on _ _ _ (ap (pieces_of c.args.self.now.byte) c.in_ok-bytes.was ∙ further_pieces c.args.self.now.byte c.in_ok-bytes.bytes.now c.in-Some.place (search rules))

pub returns-in-None-clause-steps : goal.returns-in-None-clause-steps
returns-in-None-clause-steps c =
    ap (pieces_of c.args.self.now.byte) c.in_ok-bytes.was ∙ one_piece c.args.self.now.byte c.in_ok-bytes.bytes.now (search rules)
