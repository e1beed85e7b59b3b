use Rattle.std.proofs.Common.{length, ap, arith, ℕ, List, ◌∙◌}
use Rattle.thing_core.specs.Kept.{Kept}
use Rattle.servient_core.proofs.DeliverLaws.{delivering_begins, delivering_more, delivering_ends}
use Rattle.servient_core.proofs.layers.Layers.deliver.Goals as goal

pub loop-target-init : goal.loop-target-init
loop-target-init g c = delivering_begins c.args.self.now (g.N.Net.seen c.args.net.now)

pub loop-target-smaller : goal.loop-target-smaller
loop-target-smaller g c =
    omega (
      arith,
      ap (λ (l : List ℕ). length l) c.in-Some.ensures.first,
      ap (λ (x : Kept). length x.pending) c.deliver_one.ensures.exposed,
    )

pub loop-target-preserved : goal.loop-target-preserved
loop-target-preserved g c =
    delivering_more c.in-Some.target c.args.self.now c.loop-target.self c.deliver_one.new.self c.emitted.new.self
    (g.N.Net.seen c.args.net.now) (g.N.Net.seen c.loop-target.net) (g.N.Net.seen c.deliver_one.new.net)
    c.loop-target.invariant c.in-Some.ensures.first c.in-Some.ensures.state c.in-Some.ensures.site c.deliver_one.ensures.delivered c.deliver_one.ensures.exposed c.deliver_one.ensures.only

pub returns-clause-delivered : goal.returns-clause-delivered
returns-clause-delivered g c =
    delivering_ends c.args.self.now c.loop-target.self c.emitted.new.self (g.N.Net.seen c.args.net.now) (g.N.Net.seen c.loop-target.net) c.loop-target.invariant
    c.in_default.ensures.first.0 c.in_default.ensures.state

pub returns-clause-only : goal.returns-clause-only
returns-clause-only g c =
    let only = c.loop-target.invariant.only in
    record { moment = only.moment; site = c.in_default.ensures.site ∙ only.site; exchanges = only.exchanges; left = only.left }
