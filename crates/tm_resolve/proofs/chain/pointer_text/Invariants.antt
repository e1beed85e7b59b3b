use Rattle.std.proofs.Common.{◌≡◌, ◌++◌, drop}
use Rattle.std.specs.Prelude.{string_bytes}
use Rattle.tm_resolve.specs.Chain.{pointer_of}
use Rattle.tm_resolve.proofs.chain.pointer_text.Given as goal

abbrev pub invariant-loop-piece : goal.invariant-loop-piece
invariant-loop-piece l = string_bytes l.text ++ pointer_of (drop l.piece-index l.place) ≡ pointer_of l.place
