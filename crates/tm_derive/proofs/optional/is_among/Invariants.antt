use Rattle.std.proofs.Common.{◌≡◌, drop}
use Rattle.tm_derive.specs.Optional as spec
use Rattle.tm_derive.proofs.optional.is_among.Given as goal

abbrev pub invariant-loop-other : goal.invariant-loop-other
invariant-loop-other l = spec.is_among l.text (drop l.other-index l.texts) ≡ spec.is_among l.text l.texts
