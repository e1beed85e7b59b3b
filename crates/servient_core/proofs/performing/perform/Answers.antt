use Rattle.std.proofs.Common.{subst, arith}
use Rattle.thing_ops.specs.declared.outcome.Outcome.{Outcome}
use Rattle.thing_ops.specs.Requests.{request_seen}
use Rattle.servient_core.specs.Keeping.{IsSendable}
use Rattle.servient_core.proofs.OutcomeLaws.{acts_sendable}
use Rattle.servient_core.proofs.performing.perform.Goals as goal

pub returns-clause-sendable : goal.returns-clause-sendable
returns-clause-sendable g c = λ short.
    let act = c.perform.ensures in
    subst (λ (o : Outcome). IsSendable o) act.outcome
    (acts_sendable c.args.exposed.now.site (request_seen c.args.request.now) act.done c.args.exposed.now.state act.made.seen c.perform.new.self.state short
    (omega (arith, c.next_invocation-next.ensures, c.next_invocation-next.type_inv)) act.made.move)
