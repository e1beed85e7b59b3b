use Rattle.wot_terms.specs.Faults.{here}
use Rattle.wot_terms.proofs.fault.missing.Goals as goal

pub returns : goal.returns
returns c = c.in_member.ensures here c.wrong.ensures.ok
