use Rattle.std.proofs.Common.{◌<◌, Bool, length, sym, subst}
use Rattle.thing_site.specs.Site.{Site}
use Rattle.thing_core.specs.Rounds.{events_left}
use Rattle.servient_trace.specs.Trace.{outside}
use Rattle.servient_core.specs.Keeping.{PollsOne}
use Rattle.servient_core.proofs.DeliverLaws.{polling_begins, polling_more, polling_smaller, polling_ends}
use Rattle.servient_core.proofs.layers.Layers.poll_all.Goals as goal

pub loop-round-init : goal.loop-round-init
loop-round-init g c =
    polling_begins c.args.self.now c.new-round.result (outside (g.N.Net.seen c.args.net.now) (g.R.Handlers.slots c.args.rack.now)) (c.new-round.ensures c.args.self.now.exposed.site.things)
    c.requires.ready c.requires.fits

pub poll_next-requires-clause-ready : goal.poll_next-requires-clause-ready
poll_next-requires-clause-ready g c = c.loop-round.invariant.ready

pub poll_next-requires-clause-fits : goal.poll_next-requires-clause-fits
poll_next-requires-clause-fits g c = c.loop-round.invariant.fits

pub loop-round-smaller : goal.loop-round-smaller
loop-round-smaller g c =
    let v = outside (g.N.Net.seen c.loop-round.net) (g.R.Handlers.slots c.loop-round.rack) in
    let u = outside (g.N.Net.seen c.poll_next.new.net) (g.R.Handlers.slots c.poll_next.new.rack) in
    subst (λ (site : Site). length (events_left c.poll_next.new.round site.things) < length (events_left c.loop-round.round c.loop-round.self.exposed.site.things)) (sym c.poll_next.ensures.site)
    (polling_smaller c.loop-round.self c.poll_next.new.self c.loop-round.round c.poll_next.new.round v u
    (subst (λ (b : Bool). PollsOne c.poll_next.new.round c.loop-round.self c.poll_next.new.self v u b c.loop-round.round) c.loop-round-test.true c.poll_next.ensures.polled))

pub loop-round-preserved : goal.loop-round-preserved
loop-round-preserved g c =
    let v = outside (g.N.Net.seen c.loop-round.net) (g.R.Handlers.slots c.loop-round.rack) in
    let u = outside (g.N.Net.seen c.poll_next.new.net) (g.R.Handlers.slots c.poll_next.new.rack) in
    polling_more c.args.self.now c.loop-round.self c.poll_next.new.self c.loop-round.round c.poll_next.new.round
    (outside (g.N.Net.seen c.args.net.now) (g.R.Handlers.slots c.args.rack.now)) v u c.loop-round.invariant
    (subst (λ (b : Bool). PollsOne c.poll_next.new.round c.loop-round.self c.poll_next.new.self v u b c.loop-round.round) c.loop-round-test.true c.poll_next.ensures.polled)
    c.poll_next.ensures.ready c.poll_next.ensures.site c.poll_next.ensures.fits

pub returns : goal.returns
returns g c =
    let v = outside (g.N.Net.seen c.loop-round.net) (g.R.Handlers.slots c.loop-round.rack) in
    let u = outside (g.N.Net.seen c.poll_next.new.net) (g.R.Handlers.slots c.poll_next.new.rack) in
    polling_ends c.args.self.now c.loop-round.self c.poll_next.new.self c.loop-round.round c.poll_next.new.round
    (outside (g.N.Net.seen c.args.net.now) (g.R.Handlers.slots c.args.rack.now)) v u c.loop-round.invariant
    (subst (λ (b : Bool). PollsOne c.poll_next.new.round c.loop-round.self c.poll_next.new.self v u b c.loop-round.round) c.loop-round-test.false c.poll_next.ensures.polled)
