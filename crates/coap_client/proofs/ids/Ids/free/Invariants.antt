-- so far each id was used
use Rattle.std.proofs.Common.{◌≡◌, ◌+◌, ◌<◌, ◌%◌, ℕ, true}
use Rattle.coap_client.specs.Names.{is_used}
use Rattle.coap_client.proofs.ids.Ids.free.Given as goal

abbrev pub invariant-loop-ahead : goal.invariant-loop-ahead
invariant-loop-ahead l = (k : ℕ) → k < l.ahead → is_used l.self-inside.uses.items l.now ((l.next + k) % 65536) ≡ true
