use Rattle.std.proofs.Common.{◌≡◌, true, false, arith}
use Rattle.servient_edge.proofs.mio_net.MioNetNet.listen.Goals as goal

-- one more fault was counted
pub returns-else-eq : goal.returns-else-eq
returns-else-eq g c = record { history = tt; left = tt; faults = omega (arith, c.start_listening.ensures, c.count_fault.ensures.faults); no_failure = λ never. let no : false ≡ true = never in absurd cc }
