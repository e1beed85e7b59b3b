use Rattle.std.specs.Prelude.{◌==◌}
use Rattle.http_bind.proofs.Staying.{oldest_is, oldest_below}
use Rattle.http_bind.proofs.bind.HttpBind.waiting.Goals as goal

pub returns-clause-waits : goal.returns-clause-waits
returns-clause-waits c = λ n is.
    oldest_is (λ w. w.target == c.args.target) n c.args.self.now c.self.inside.slots.items c.self.inside.waits c.oldest_for.result c.self.view_is c.oldest_for.ensures is

pub returns-clause-bound : goal.returns-clause-bound
returns-clause-bound c = λ n is.
    oldest_below (λ w. w.target == c.args.target) n c.self.inside.slots.items c.self.inside.waits c.oldest_for.result c.self.invariant c.oldest_for.ensures is
