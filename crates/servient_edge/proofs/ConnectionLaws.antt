-- Laws of what a turn of a connection gives.
use Rattle.std.proofs.Common.{ℕ, List}
use Rattle.servient_edge.specs.declared.turns.Took.{Took}
use Rattle.servient_edge.specs.declared.turns.Took.TheVariants as took
use Rattle.servient_edge.specs.Connection.{IsEnd, Leaves}

-- at its end nothing is said of what it keeps
pub leaves_at_end : (result : Took) (before after : List ℕ) → IsEnd result → Leaves before result after
leaves_at_end (took.Bytes count) before after e = absurd e
leaves_at_end took.Unwanted before after e = absurd e
leaves_at_end took.Nothing before after e = absurd e
leaves_at_end took.Ended before after e = tt
leaves_at_end took.Over before after e = tt
