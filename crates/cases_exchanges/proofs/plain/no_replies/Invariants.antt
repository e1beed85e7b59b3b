-- so far each slot below the loop's number has a place
use Rattle.std.proofs.Common.{◌≡◌, length}
use Rattle.cases_exchanges.proofs.plain.no_replies.Given as goal

abbrev pub invariant-loop-slot : goal.invariant-loop-slot
invariant-loop-slot l = length l.replies.items ≡ l._slot
