use Rattle.description_laws.proofs.laws.acts_have_their_form.Goals as goal
use Rattle.description_laws.proofs.Told.{tell}

-- src/laws.rt:26:1
pub returns : goal.returns
returns c = tell
