use Rattle.std.proofs.Common.{◌≡◌, ◌++◌, drop}
use Rattle.tm_derive.proofs.derivation.with_model.Given as goal

abbrev pub invariant-loop-model : goal.invariant-loop-model
invariant-loop-model l = l.models.items ++ drop l.model-index l.above ≡ l.above
