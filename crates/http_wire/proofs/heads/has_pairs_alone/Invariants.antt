use Rattle.std.proofs.Common.{◌≡◌, ◌&&◌, drop}
use Rattle.http_wire.specs.Heads.{are_paired}
use Rattle.http_wire.proofs.heads.has_pairs_alone.Given as goal

abbrev pub invariant-loop-byte : goal.invariant-loop-byte
invariant-loop-byte l = are_paired 0 l.bytes ≡ (l.paired && are_paired l.before (drop l.byte-index l.bytes))
