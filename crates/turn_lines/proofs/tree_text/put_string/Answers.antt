use Rattle.turn_lines.proofs.Putting.{put_then}
use Rattle.turn_lines.proofs.tree_text.put_string.Goals as goal

pub returns : goal.returns
returns g c = put_then (put_then c.push.ensures c.put_all_escaped.ensures) c.push-2.ensures
