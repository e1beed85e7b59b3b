use Rattle.std.proofs.Common.{◌≡◌, map}
use Rattle.http_fields.specs.Pieces.{pieces_left}
use Rattle.http_wire.specs.Asked.{line_in, lines_in, noted_of, noted_then}
use Rattle.http_wire.proofs.conditions.note_lines.Given as goal

abbrev pub invariant-loop-line : goal.invariant-loop-line
invariant-loop-line l =
    noted_then l.initial.noted (noted_of (lines_in l.lines)) ≡ noted_then l.noted (noted_of (map line_in (pieces_left l.line-iterator)))
