use Rattle.std.proofs.Common.{◌≡◌, true, false, arith}
use Rattle.servient_edge.proofs.mio_net.MioNetNet.find.Goals as goal

-- one more fault was counted
pub returns-else-eq : goal.returns-else-eq
returns-else-eq g c = record { history = tt; left = tt; faults = omega (arith, c.look_up.ensures, c.count_fault.ensures.faults); no_failure = λ never. let no : false ≡ true = never in absurd cc }
