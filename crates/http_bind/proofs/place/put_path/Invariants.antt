use Rattle.std.proofs.Common.{take}
use Rattle.std.specs.List.{flat_map}
use Rattle.servient_base.specs.Writing.{Puts}
use Rattle.http_bind.specs.Places.{segment_text}
use Rattle.http_bind.proofs.place.put_path.Given as goal

abbrev pub invariant-loop-index : goal.invariant-loop-index
invariant-loop-index l = Puts (flat_map segment_text (take l.index l.path)) 0 l.end l.initial.out l.out
