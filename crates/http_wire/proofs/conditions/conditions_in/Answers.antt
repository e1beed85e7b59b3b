use Rattle.std.proofs.Common.{◌∙◌, ap, sym}
use Rattle.http_wire.specs.Asked.{lines_in, asked_by}
use Rattle.http_wire.proofs.NotedLines.{nothing_before, asked_of, no_other_line_asks}
use Rattle.http_wire.proofs.conditions.conditions_in.Goals as goal

pub returns : goal.returns
returns c =
    c.asked_by.ensures
    ∙ ap (asked_by c.args.verb) (nothing_before c.none.result c.none-2.result c.note_lines.new.noted (lines_in c.args.lines.now) c.none.ensures c.none-2.ensures c.in_ok-note_lines.ensures)
    ∙ asked_of c.args.verb (lines_in c.args.lines.now)
    ∙ sym (no_other_line_asks c.args.verb (lines_in c.args.lines.now))
