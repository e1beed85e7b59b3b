use Rattle.servient_laws.proofs.MemoryLaws.{memory_is_seen}
use Rattle.servient_laws.proofs.laws.memory_is_seen.Goals as goal

pub returns : goal.returns
returns c = memory_is_seen
