-- so far the segments before `index` were taken
use Rattle.std.proofs.Common.{◌≡◌, take}
use Rattle.coap_blocks.proofs.kept_path.KeptPath.fill.Given as goal

abbrev pub invariant-loop-index : goal.invariant-loop-index
invariant-loop-index l = l.self ≡ take l.index l.fn.path
