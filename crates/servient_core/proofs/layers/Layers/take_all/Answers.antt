use Rattle.std.proofs.Common.{Bool, subst, ◌∙◌}
use Rattle.servient_base.specs.Moves.{Refines}
use Rattle.servient_trace.specs.Trace.{Shows, outside}
use Rattle.servient_core.specs.Serving.{StandsFor}
use Rattle.servient_core.specs.Connections.{TakesOne}
use Rattle.servient_core.proofs.LoopLaws.{others_then}
use Rattle.servient_core.proofs.ConnectionLaws.{taking_begins, taking_more, taking_ends}
use Rattle.servient_core.proofs.layers.Layers.take_all.Goals as goal

pub loop-init : goal.loop-init
loop-init g c = taking_begins c.args.c c.args.self.now (outside (g.N.Net.seen c.args.net.now) (g.R.Handlers.slots c.args.rack.now)) c.requires.on

pub loop-smaller : goal.loop-smaller
loop-smaller g c = c.take.ensures.less c.loop-test.true

pub loop-preserved : goal.loop-preserved
loop-preserved g c =
    let v = outside (g.N.Net.seen c.loop.net) (g.R.Handlers.slots c.loop.rack) in
    let u = outside (g.N.Net.seen c.take.new.net) (g.R.Handlers.slots c.take.new.rack) in
    taking_more c.args.c c.args.self.now c.loop.self c.take.new.self (outside (g.N.Net.seen c.args.net.now) (g.R.Handlers.slots c.args.rack.now)) v u c.loop.invariant
    (subst (λ (b : Bool). Refines StandsFor Shows (TakesOne b c.loop.self.exposed.site c.args.c) c.loop.self c.take.new.self v u) c.loop-test.true c.take.ensures.takes)
    c.take.ensures.on c.take.ensures.left c.take.ensures.site

pub returns-clause-taken : goal.returns-clause-taken
returns-clause-taken g c =
    let v = outside (g.N.Net.seen c.loop.net) (g.R.Handlers.slots c.loop.rack) in
    let u = outside (g.N.Net.seen c.take.new.net) (g.R.Handlers.slots c.take.new.rack) in
    taking_ends c.args.c c.args.self.now c.loop.self c.take.new.self (outside (g.N.Net.seen c.args.net.now) (g.R.Handlers.slots c.args.rack.now)) v u c.loop.invariant
    (subst (λ (b : Bool). Refines StandsFor Shows (TakesOne b c.loop.self.exposed.site c.args.c) c.loop.self c.take.new.self v u) c.loop-test.false c.take.ensures.takes)

pub returns-clause-site : goal.returns-clause-site
returns-clause-site g c = c.take.ensures.site ∙ c.loop.invariant.site

pub returns-clause-left : goal.returns-clause-left
returns-clause-left g c = others_then c.args.c c.args.self.now.http c.loop.self.http c.take.new.self.http c.loop.invariant.left c.take.ensures.left
