use Rattle.thing_core.proofs.CompleteLaws.{complete}
use Rattle.thing_core.proofs.laws.requests_are_complete.Goals as goal

pub returns : goal.returns
returns c = complete
