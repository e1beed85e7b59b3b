use Rattle.http_wire.proofs.NotedLines.{no_other_line_asks}
use Rattle.http_wire.proofs.laws.no_other_line_asks.Goals as goal

pub returns : goal.returns
returns c = no_other_line_asks
