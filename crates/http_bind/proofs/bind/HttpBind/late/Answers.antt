use Rattle.http_bind.specs.Streams.{is_late}
use Rattle.http_bind.proofs.Staying.{oldest_is, oldest_below}
use Rattle.http_bind.proofs.bind.HttpBind.late.Goals as goal

pub returns-clause-waits : goal.returns-clause-waits
returns-clause-waits c = λ n is.
    oldest_is (is_late c.args.now) n c.args.self.now c.self.inside.slots.items c.self.inside.waits c.oldest_late.result c.self.view_is c.oldest_late.ensures is

pub returns-clause-bound : goal.returns-clause-bound
returns-clause-bound c = λ n is.
    oldest_below (is_late c.args.now) n c.self.inside.slots.items c.self.inside.waits c.oldest_late.result c.self.invariant c.oldest_late.ensures is
