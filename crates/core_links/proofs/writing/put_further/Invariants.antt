use Rattle.std.proofs.Common.{take}
use Rattle.std.specs.List.{flat_map}
use Rattle.servient_base.specs.Writing.{Puts}
use Rattle.core_links.specs.Writing.{further_text}
use Rattle.core_links.proofs.writing.put_further.Given as goal

abbrev pub invariant-loop-link : goal.invariant-loop-link
invariant-loop-link l = Puts (flat_map further_text (take l.link-index l.links)) l.at l.end l.initial.out l.out
