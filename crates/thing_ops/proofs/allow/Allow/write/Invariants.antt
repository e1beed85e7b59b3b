use Rattle.std.proofs.Common.{◌≤◌, ◌*◌, take}
use Rattle.std.specs.List.{filter}
use Rattle.servient_base.specs.Writing.{Puts}
use Rattle.thing_ops.specs.Verbs.{takes, names_of, in_order}
use Rattle.thing_ops.proofs.allow.Allow.write.Given as goal

abbrev pub invariant-loop-verb : goal.invariant-loop-verb
invariant-loop-verb l =
    Puts (names_of (filter (takes l.self) (take l.verb-index in_order))) 0 l.at l.initial.out l.out × (l.at ≤ 8 * l.verb-index)
