use Rattle.std.proofs.Common.{◌∙◌, sym}
use Rattle.turn_lines.proofs.Putting.{put_same}
use Rattle.turn_lines.proofs.buffer.LineBuffer.push_number.Goals as goal

pub returns : goal.returns
returns g c = put_same _ _ (sym (c.as_bytes.ensures.value ∙ c.format.ensures.text)) c.push.ensures
