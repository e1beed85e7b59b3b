use Rattle.std.proofs.Common.{take}
use Rattle.std.specs.List.{flat_map}
use Rattle.servient_base.specs.Writing.{Puts}
use Rattle.core_links.specs.Writing.{quoted_byte}
use Rattle.core_links.proofs.writing.put_bytes.Given as goal

abbrev pub invariant-loop-byte : goal.invariant-loop-byte
invariant-loop-byte l = Puts (flat_map quoted_byte (take l.byte-index l.value)) l.at l.end l.initial.out l.out
