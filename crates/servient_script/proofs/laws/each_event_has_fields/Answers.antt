use Rattle.servient_script.proofs.LineTexts.{AreFields-line_fields}
use Rattle.servient_script.proofs.laws.each_event_has_fields.Goals as goal

pub returns : goal.returns
returns c = λ e is. AreFields-line_fields e is
