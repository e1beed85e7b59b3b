use Rattle.std.proofs.Common.{subst, sym, ◌<◌}
use Rattle.http_bind.specs.Slots.{Slots}
use Rattle.servient_core.proofs.PartLaws.{room_after}
use Rattle.servient_core.proofs.ConnectionLaws.{closing_begins, closing_more, closing_ends, closing_leaves_fewer, closing_ready, none_left, open_count}
use Rattle.servient_core.proofs.layers.Layers.close_idle.Goals as goal

pub loop-c-init : goal.loop-c-init
loop-c-init g c = (closing_begins c.args.self.now (g.N.Net.seen c.args.net.now), c.requires.room)

pub loop-c-smaller : goal.loop-c-smaller
loop-c-smaller g c =
    subst (λ (b : Slots). open_count b.places < open_count c.loop-c.self.http.places) (sym c.ended.ensures.held)
    (closing_leaves_fewer c.in-Some.c c.loop-c.self.http.places (c.idle.ensures.open c.in-Some.c c.in-Some.is))

pub loop-c-preserved : goal.loop-c-preserved
loop-c-preserved g c = (
  closing_more c.in-Some.c c.args.self.now c.loop-c.self c.ended.new.self (g.N.Net.seen c.args.net.now) (g.N.Net.seen c.loop-c.net) (g.N.Net.seen c.close.new.self)
      c.loop-c.invariant.0 (c.idle.ensures.idle c.in-Some.c c.in-Some.is) c.ended.ensures.leads c.close.ensures,
  room_after c.in-Some.c c.loop-c.self.http c.ended.new.self c.loop-c.invariant.1 c.ended.ensures.others c.ended.ensures.room,
)

pub returns-clause-closed : goal.returns-clause-closed
returns-clause-closed g c = λ slots.
    closing_ends c.args.self.now c.loop-c.self (g.N.Net.seen c.args.net.now) (g.N.Net.seen c.loop-c.net) slots c.loop-c.invariant.0 (c.idle.ensures.none (none_left c.idle.result (λ x is. search (c.in_default.not-Some, is))))

pub returns-clause-ready : goal.returns-clause-ready
returns-clause-ready g c =
    closing_ready c.args.self.now c.loop-c.self (g.N.Net.seen c.args.net.now) (g.N.Net.seen c.loop-c.net) c.loop-c.invariant.0 c.requires c.loop-c.invariant.1

pub returns-clause-exposed : goal.returns-clause-exposed
returns-clause-exposed g c = c.loop-c.invariant.0.exposed
