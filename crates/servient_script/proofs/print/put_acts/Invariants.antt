use Rattle.std.proofs.Common.{◌≡◌, ◌++◌, take}
use Rattle.std.specs.List.{flat_map}
use Rattle.servient_script.specs.Print.{act_line}
use Rattle.servient_script.proofs.print.put_acts.Given as goal

abbrev pub invariant-loop-act : goal.invariant-loop-act
invariant-loop-act l = l.out ≡ l.initial.out ++ flat_map act_line (take l.act-index l.acts)
