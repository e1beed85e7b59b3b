-- there is room for another piece
use Rattle.http_bind.specs.Slots.{HasRoom}
use Rattle.cases_bindings.proofs.streams.hear_pieces.Given as goal

abbrev pub invariant-loop-piece : goal.invariant-loop-piece
invariant-loop-piece l = HasRoom 5 l.http
