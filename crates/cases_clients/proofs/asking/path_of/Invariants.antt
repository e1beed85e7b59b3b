-- no segment so far is too long
use Rattle.std.specs.Prelude.{◌≤◌, length, All}
use Rattle.cases_clients.proofs.asking.path_of.Given as goal

abbrev pub invariant-loop-segment : goal.invariant-loop-segment
invariant-loop-segment l = All (λ segment. length segment ≤ 255) l.path
