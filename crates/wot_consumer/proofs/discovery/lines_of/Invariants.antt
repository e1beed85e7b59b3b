use Rattle.std.proofs.Common.{◌≡◌, List, ℕ, ◌++◌, drop}
use Rattle.std.specs.Prelude.{option_map}
use Rattle.wot_consumer.proofs.ThingLines.{lines_left}
use Rattle.wot_consumer.proofs.discovery.lines_of.Given as goal

-- the lines so far, and those of the links that are left, are all
abbrev pub invariant-loop-link : goal.invariant-loop-link
invariant-loop-link l = lines_left l.server l.links ≡ option_map (λ (more : List ℕ). l.lines ++ more) (lines_left l.server (drop l.link-index l.links))
