use Rattle.servient_laws.proofs.InMemoryLaws.{nothing_fails_in_memory}
use Rattle.servient_laws.proofs.laws.nothing_fails_in_memory.Goals as goal

pub returns : goal.returns
returns c = nothing_fails_in_memory
