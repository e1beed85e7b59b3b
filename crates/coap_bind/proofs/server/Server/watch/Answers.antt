-- A registration is that of the token.
use Rattle.std.proofs.Common.{List, ℕ, subst}
use Rattle.coap_observe.specs.Watching.{Registers}
use Rattle.coap_bind.specs.Observing.{registers}
use Rattle.coap_bind.proofs.server.Server.watch.Goals as goal

pub returns-in-Registers-clause-watches : goal.returns-in-Registers-clause-watches
returns-in-Registers-clause-watches c =
    let P : List ℕ → Type 0 = λ token. Registers c.args.pending.now.from token c.in-Registers.target c.args.self.now.observers c.register.result c.register.new.self in
    registers c.in-Registers.target c.register.result c.in-Registers.is (subst P c.as_bytes-token.ensures.ok c.register.ensures.ok) c.sequence_of.ensures
