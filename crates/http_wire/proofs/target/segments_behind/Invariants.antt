use Rattle.std.proofs.Common.{◌≡◌, ◌++◌, map}
use Rattle.percent_encoding.specs.Percent.{percent_decode}
use Rattle.http_wire.specs.Targets.{segments_behind}
use Rattle.http_fields.specs.Pieces.{pieces_left}
use Rattle.http_wire.proofs.target.segments_behind.Given as goal

abbrev pub invariant-loop-part : goal.invariant-loop-part
invariant-loop-part l = segments_behind l.path ≡ l.segments ++ map percent_decode (pieces_left l.part-iterator)
