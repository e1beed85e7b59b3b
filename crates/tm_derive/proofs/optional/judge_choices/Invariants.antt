use Rattle.std.proofs.Common.{◌≡◌, drop}
use Rattle.tm_derive.specs.Optional as spec
use Rattle.tm_derive.proofs.optional.judge_choices.Given as goal

abbrev pub invariant-loop-chosen_for : goal.invariant-loop-chosen_for
invariant-loop-chosen_for l = spec.unlisted_choices l.texts l.segment (drop l.chosen_for-index l.choices) ≡ spec.unlisted_choices l.texts l.segment l.choices
