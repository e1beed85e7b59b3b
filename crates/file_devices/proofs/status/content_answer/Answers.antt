use Rattle.std.proofs.Common.{sym, ◌∙◌}
use Rattle.file_devices.specs.Running.{gives}
use Rattle.file_devices.proofs.status.content_answer.Goals as goal

pub returns : goal.returns
returns c = gives (sym c.says_running.ensures ∙ c.if-says_running.false) (sym c.says_nothing.ensures ∙ c.if-says_nothing.false) c.in_ok-output.output c.in_ok-output.ensures c.output_answer.ensures
