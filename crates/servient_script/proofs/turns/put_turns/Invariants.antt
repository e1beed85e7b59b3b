use Rattle.std.proofs.Common.{List, map}
use Rattle.thing_handler.specs.Turns.{RunTurn}
use Rattle.servient_script.specs.Merging.{IsMerged}
use Rattle.servient_script.proofs.MergeLaws.{HasPut}
use Rattle.servient_script.proofs.turns.put_turns.Given as goal

abbrev pub invariant-loop-number : goal.invariant-loop-number
invariant-loop-number l =
    (turns : List RunTurn) → IsMerged 0 (map (λ left. left.now) l.initial.by_slot) turns
    → HasPut l.number (map (λ left. left.now) l.by_slot) l.initial.out l.out turns
