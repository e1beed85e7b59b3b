use Rattle.std.proofs.Common.{◌≡◌, vec_len}
use Rattle.gateway_program.proofs.Racks.{Made}
use Rattle.gateway_program.proofs.handlers.handlers_of.Given as goal

abbrev pub invariant-loop-slot : goal.invariant-loop-slot
invariant-loop-slot l = Made l.slot l.entries l.handlers.items × (vec_len l.handlers ≡ l.slot)
