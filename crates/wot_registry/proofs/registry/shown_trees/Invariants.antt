use Rattle.std.proofs.Common.{◌≡◌, map, take}
use Rattle.wot_json.specs.Meaning.{json_of}
use Rattle.wot_registry.specs.Times.{times_of}
use Rattle.wot_registry.specs.Registration.{shown}
use Rattle.wot_registry.proofs.registry.shown_trees.Given as goal

-- the descriptions shown so far
abbrev pub invariant-loop-entry : goal.invariant-loop-entry
invariant-loop-entry l = l.trees ≡ map (λ e. shown l.epoch (times_of e.0 l.times) (json_of e.1)) (take l.entry-index l.entries)
