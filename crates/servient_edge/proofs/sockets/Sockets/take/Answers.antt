use Rattle.std.proofs.Common.{inl, refl}
use Rattle.servient_edge.proofs.sockets.Sockets.take.Goals as goal

-- no turn gave anything, and after the last nothing has changed
pub returns-then-not-is_waiting-clause-number : goal.returns-then-not-is_waiting-clause-number
returns-then-not-is_waiting-clause-number g c = (c.loop.self.numbers, c.loop.invariant.0, λ number. inl refl)

pub returns-clause-number : goal.returns-clause-number
returns-clause-number g c = (c.loop.self.numbers, c.loop.invariant.0, λ number. inl refl)
