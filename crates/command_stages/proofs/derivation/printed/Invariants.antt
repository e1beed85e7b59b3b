use Rattle.std.proofs.Common.{◌≡◌, ◌++◌, drop}
use Rattle.wot_terms.specs.ThingLists.{kept_things}
use Rattle.command_stages.specs.Deriving.{things_text}
use Rattle.command_stages.proofs.derivation.printed.Given as goal

abbrev pub invariant-loop-thing : goal.invariant-loop-thing
invariant-loop-thing l = l.text ++ things_text (kept_things (drop l.thing-index l.things)) ≡ things_text (kept_things l.things)
