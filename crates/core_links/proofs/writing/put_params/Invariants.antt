use Rattle.std.proofs.Common.{take}
use Rattle.std.specs.List.{flat_map}
use Rattle.servient_base.specs.Writing.{Puts}
use Rattle.core_links.specs.Writing.{param_text}
use Rattle.core_links.proofs.writing.put_params.Given as goal

abbrev pub invariant-loop-param : goal.invariant-loop-param
invariant-loop-param l = Puts (flat_map param_text (take l.param-index l.params)) l.at l.end l.initial.out l.out
