use Rattle.http_fields.specs.Pieces.{pieces_left}
use Rattle.std.specs.Prelude.{◌==◌}
use Rattle.std.specs.List.{slice_split}
use Rattle.http_wire.proofs.NotedLines.{line_kept}
use Rattle.http_wire.proofs.conditions.note_lines.Goals as goal

pub loop-line-preserved : goal.loop-line-preserved
loop-line-preserved c =
    line_kept c.args.noted.now c.loop-line.noted c.note_line.new.noted (slice_split (λ b. b == 10) c.args.lines.now) (pieces_left c.loop-line.line-iterator)
    (pieces_left c.next.new.self) c.in-Some.line.now c.loop-line.invariant c.in-Some.ensures.steps c.in_ok-note_line.ensures
