use Rattle.description_laws.proofs.laws.forms_lead_to_their_affordances.Goals as goal
use Rattle.description_laws.proofs.Leading.{lead}

-- src/laws.rt:16:1
pub returns : goal.returns
returns c = lead
