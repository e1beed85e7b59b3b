use Rattle.std.proofs.Common.{take}
use Rattle.std.specs.List.{flat_map}
use Rattle.servient_base.specs.Writing.{Puts}
use Rattle.servient_base.specs.Encoding.{encoded_byte}
use Rattle.servient_base.proofs.encoding.put_encoded.Given as goal

abbrev pub invariant-loop-byte : goal.invariant-loop-byte
invariant-loop-byte l = Puts (flat_map encoded_byte (take l.byte-index l.bytes)) l.at l.end l.initial.out l.out
