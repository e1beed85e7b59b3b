use Rattle.std.proofs.Common.{◌≡◌, true, false, arith}
use Rattle.servient_edge.proofs.mio_net.MioNetNet.dial.Goals as goal

-- one more fault was counted
pub returns-else-eq-clause-shows : goal.returns-else-eq-clause-shows
returns-else-eq-clause-shows g c = record { history = tt; left = tt; faults = omega (arith, c.connect.ensures.faults, c.count_fault.ensures.faults); no_failure = λ never. let no : false ≡ true = never in absurd cc }
