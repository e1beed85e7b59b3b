use Rattle.std.proofs.Common.{◌≡◌, drop}
use Rattle.tm_derive.specs.Optional as spec
use Rattle.tm_derive.proofs.optional.is_chosen.Given as goal

abbrev pub invariant-loop-chosen_for : goal.invariant-loop-chosen_for
invariant-loop-chosen_for l = spec.is_chosen (drop l.chosen_for-index l.choices) l.segment l.text ≡ spec.is_chosen l.choices l.segment l.text
