use Rattle.std.proofs.Common.{◌∙◌, sym}
use Rattle.servient_script.specs.Print.{in_slot}
use Rattle.turn_lines.specs.Buffer.{buffered_of}
use Rattle.turn_lines.proofs.Putting.{put_then}
use Rattle.turn_lines.proofs.QuietLines.{quiet_line, said_line}
use Rattle.turn_lines.proofs.line.put_line.Goals as goal

pub returns-then-is_quiet : goal.returns-then-is_quiet
returns-then-is_quiet g c = quiet_line c.args.logged.moment (in_slot c.args.logged.slot c.args.logged.turn.now) (buffered_of c.args.lines.now) (g.O.Out.seen c.args.out.now) (sym c.is_quiet.ensures ∙ c.if-is_quiet.true)

pub returns : goal.returns
returns g c =
    said_line c.args.logged.moment (in_slot c.args.logged.slot c.args.logged.turn.now) _ _ _ _ (sym c.is_quiet.ensures ∙ c.if-is_quiet.false)
    (put_then (put_then c.push_number.ensures c.push.ensures) c.put_turn.ensures)
