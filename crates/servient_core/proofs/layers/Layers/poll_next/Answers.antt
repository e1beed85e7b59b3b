use Rattle.std.proofs.Common.{Bool, subst, ◌∙◌}
use Rattle.thing_core.specs.Rounds.{PollsNext}
use Rattle.servient_core.proofs.DeliverLaws.{none_polled, one_polled, ready_after, poll_fits}
use Rattle.servient_core.proofs.layers.Layers.poll_next.Goals as goal

pub returns-then-not-poll_next-clause-polled : goal.returns-then-not-poll_next-clause-polled
returns-then-not-poll_next-clause-polled g c =
    let k = c.args.self.now in
    none_polled k c.poll_next.new.self c.args.round.now c.poll_next.new.round (g.N.Net.seen c.args.net.now) (g.R.Handlers.slots c.args.rack.now) (g.R.Handlers.slots c.poll_next.new.rack)
    (subst (λ (b : Bool). PollsNext b c.args.round.now c.poll_next.new.round k.exposed c.poll_next.new.self (g.R.Handlers.slots c.args.rack.now) (g.R.Handlers.slots c.poll_next.new.rack))
    c.if-not-poll_next.true c.poll_next.ensures)

pub returns-clause-polled : goal.returns-clause-polled
returns-clause-polled g c =
    let k = c.args.self.now in
    one_polled k c.deliver.new.self c.poll_next.new.self c.args.round.now c.poll_next.new.round (g.N.Net.seen c.args.net.now) (g.N.Net.seen c.deliver.new.net)
    (g.R.Handlers.slots c.args.rack.now) (g.R.Handlers.slots c.poll_next.new.rack)
    (subst (λ (b : Bool). PollsNext b c.args.round.now c.poll_next.new.round k.exposed c.poll_next.new.self (g.R.Handlers.slots c.args.rack.now) (g.R.Handlers.slots c.poll_next.new.rack))
    c.if-not-poll_next.false c.poll_next.ensures)
    c.deliver.ensures.delivered

pub returns-clause-ready : goal.returns-clause-ready
returns-clause-ready g c =
    let k = c.args.self.now in
    ready_after (record k { exposed = c.poll_next.new.self }) c.deliver.new.self c.requires.ready.room c.requires.ready.moment c.requires.ready.clock c.deliver.ensures.only c.deliver.ensures.pending

pub returns-clause-site : goal.returns-clause-site
returns-clause-site g c =
    let k = c.args.self.now in
    let p = subst (λ (b : Bool). PollsNext b c.args.round.now c.poll_next.new.round k.exposed c.poll_next.new.self (g.R.Handlers.slots c.args.rack.now) (g.R.Handlers.slots c.poll_next.new.rack))
    c.if-not-poll_next.false c.poll_next.ensures in
    c.deliver.ensures.only.site ∙ p.2.site

pub returns-clause-fits : goal.returns-clause-fits
returns-clause-fits g c =
    let k = c.args.self.now in
    poll_fits k c.deliver.new.self c.poll_next.new.self c.args.round.now c.poll_next.new.round (g.N.Net.seen c.args.net.now) (g.N.Net.seen c.deliver.new.net)
    (g.R.Handlers.slots c.args.rack.now) (g.R.Handlers.slots c.poll_next.new.rack)
    (subst (λ (b : Bool). PollsNext b c.args.round.now c.poll_next.new.round k.exposed c.poll_next.new.self (g.R.Handlers.slots c.args.rack.now) (g.R.Handlers.slots c.poll_next.new.rack))
    c.if-not-poll_next.false c.poll_next.ensures)
    c.deliver.ensures.delivered c.deliver.ensures.only c.requires.fits
