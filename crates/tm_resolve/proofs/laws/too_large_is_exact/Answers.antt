use Rattle.tm_resolve.proofs.NeverLarge.{large_exactly}
use Rattle.tm_resolve.proofs.laws.too_large_is_exact.Goals as goal

pub returns : goal.returns
returns c = large_exactly
