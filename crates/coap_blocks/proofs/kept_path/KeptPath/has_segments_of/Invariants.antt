-- so far the segments before `index` are the same
use Rattle.std.proofs.Common.{◌≡◌, drop}
use Rattle.coap_blocks.specs.Paths.{is_same_path}
use Rattle.coap_blocks.proofs.kept_path.KeptPath.has_segments_of.Given as goal

abbrev pub invariant-loop-index : goal.invariant-loop-index
invariant-loop-index l = is_same_path l.fn.self l.fn.path ≡ is_same_path (drop l.index l.fn.self) (drop l.index l.fn.path)
