use Rattle.std.proofs.Common.{◌≡◌, drop}
use Rattle.tm_derive.specs.Optional.{choices_elsewhere}
use Rattle.wot_terms.specs.ThingLists.{segments_in}
use Rattle.tm_derive.proofs.derivation.judge_elsewhere.Given as goal

abbrev pub invariant-loop-chosen_for : goal.invariant-loop-chosen_for
invariant-loop-chosen_for l = choices_elsewhere (segments_in l.things) (drop l.chosen_for-index l.choices) ≡ choices_elsewhere (segments_in l.things) l.choices
