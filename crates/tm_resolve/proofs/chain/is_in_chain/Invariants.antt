use Rattle.std.proofs.Common.{◌≡◌, drop}
use Rattle.tm_resolve.specs.Chain as spec
use Rattle.tm_resolve.proofs.chain.is_in_chain.Given as goal

abbrev pub invariant-loop-entry : goal.invariant-loop-entry
invariant-loop-entry l = spec.is_in_chain l.target (drop l.entry-index l.chain) ≡ spec.is_in_chain l.target l.chain
