use Rattle.std.proofs.Common.{◌≡◌, true, false, arith}
use Rattle.servient_edge.proofs.mio_net.MioNetNet.next.Goals as goal

-- one more fault was counted
pub returns-in-Err-clause-shows : goal.returns-in-Err-clause-shows
returns-in-Err-clause-shows g c = record { history = tt; left = tt; faults = omega (arith, c.come.ensures.faults, c.count_fault.ensures.faults); no_failure = λ never. let no : false ≡ true = never in absurd cc }
