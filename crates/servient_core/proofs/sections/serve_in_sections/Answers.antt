use Rattle.std.proofs.Common.{◌+◌, ℕ, ap, arith}
use Rattle.servient_outside.specs.Network.{in_buffer}
use Rattle.servient_trace.specs.Trace.{outside}
use Rattle.servient_core.proofs.ServingLaws.{same_event}
use Rattle.servient_core.proofs.SectionsServed.{endures_none, endures_checked, endures_more, checked_early, sections_stopped, sections_failed}
use Rattle.servient_core.proofs.sections.serve_in_sections.Goals as goal

pub loop-count-init : goal.loop-count-init
loop-count-init g c = endures_none c.args.bounds.turns c.args.servient.now _ _ c.requires (ap (λ (n : ℕ). n + 4096) c.turns-due.ensures.count)

pub step-requires-clause-fits : goal.step-requires-clause-fits
step-requires-clause-fits g c =
    let e = endures_checked c.args.bounds.turns c.args.servient.now c.loop-count.servient
    (outside (g.N.Net.seen c.args.net.now) (g.R.Handlers.slots c.args.rack.now)) (g.N.Net.seen c.loop-count.net) (g.R.Handlers.slots c.loop-count.rack) (g.R.Handlers.slots c.forget_if_due-due.new.rack)
    c.loop-count.count c.loop-count.due c.turns-turns.result c.forget_if_due-due.result c.loop-count.invariant c.turns-turns.ensures.count c.forget_if_due-due.ensures in
    e.fits

pub returns-in-Failed-clause-serves : goal.returns-in-Failed-clause-serves
returns-in-Failed-clause-serves g c =
    let e = endures_checked c.args.bounds.turns c.args.servient.now c.loop-count.servient
    (outside (g.N.Net.seen c.args.net.now) (g.R.Handlers.slots c.args.rack.now)) (g.N.Net.seen c.loop-count.net) (g.R.Handlers.slots c.loop-count.rack) (g.R.Handlers.slots c.forget_if_due-due.new.rack)
    c.loop-count.count c.loop-count.due c.turns-turns.result c.forget_if_due-due.result c.loop-count.invariant c.turns-turns.ensures.count c.forget_if_due-due.ensures in
    sections_failed _ _ _ (g.N.Net.seen c.loop-count.net) _ (g.R.Handlers.slots c.forget_if_due-due.new.rack) c.args.bounds c.loop-count.count c.forget_if_due-due.result
    e c.loop-count-test.true c.in-Failed.ensures.shows

pub returns-in-Stop-clause-serves : goal.returns-in-Stop-clause-serves
returns-in-Stop-clause-serves g c =
    let e = endures_checked c.args.bounds.turns c.args.servient.now c.loop-count.servient
    (outside (g.N.Net.seen c.args.net.now) (g.R.Handlers.slots c.args.rack.now)) (g.N.Net.seen c.loop-count.net) (g.R.Handlers.slots c.loop-count.rack) (g.R.Handlers.slots c.forget_if_due-due.new.rack)
    c.loop-count.count c.loop-count.due c.turns-turns.result c.forget_if_due-due.result c.loop-count.invariant c.turns-turns.ensures.count c.forget_if_due-due.ensures in
    let early = checked_early c.turns-turns.result c.loop-count.due c.forget_if_due-due.result (g.R.Handlers.slots c.loop-count.rack) (g.R.Handlers.slots c.forget_if_due-due.new.rack) c.forget_if_due-due.ensures in
    sections_stopped _ _ _ _ (g.N.Net.seen c.loop-count.net) _ (g.R.Handlers.slots c.forget_if_due-due.new.rack) _ c.args.bounds c.loop-count.count c.forget_if_due-due.result (in_buffer c.in-Got.event c.next.new.buffer)
    e c.loop-count-test.true (omega (arith, early, c.turns-turns.ensures.count)) (omega (arith, c.if-turns-bounds.false, c.turns-turns.ensures.count)) c.in-Got.ensures.shows
    (same_event c.loop-count.servient.exposed.site c.in-Got.event c.byte_count-size.result c.next.new.buffer _ _ _ _ c.byte_count-size.ensures c.step.ensures.step) c.in-Stop.is

pub loop-count-preserved : goal.loop-count-preserved
loop-count-preserved g c =
    let e = endures_checked c.args.bounds.turns c.args.servient.now c.loop-count.servient
    (outside (g.N.Net.seen c.args.net.now) (g.R.Handlers.slots c.args.rack.now)) (g.N.Net.seen c.loop-count.net) (g.R.Handlers.slots c.loop-count.rack) (g.R.Handlers.slots c.forget_if_due-due.new.rack)
    c.loop-count.count c.loop-count.due c.turns-turns.result c.forget_if_due-due.result c.loop-count.invariant c.turns-turns.ensures.count c.forget_if_due-due.ensures in
    let early = checked_early c.turns-turns.result c.loop-count.due c.forget_if_due-due.result (g.R.Handlers.slots c.loop-count.rack) (g.R.Handlers.slots c.forget_if_due-due.new.rack) c.forget_if_due-due.ensures in
    endures_more c.args.bounds.turns _ _ _ _ (g.N.Net.seen c.loop-count.net) _ (g.R.Handlers.slots c.forget_if_due-due.new.rack) _ c.loop-count.count c.forget_if_due-due.result (in_buffer c.in-Got.event c.next.new.buffer)
    e (omega (arith, early, c.turns-turns.ensures.count)) (omega (arith, c.if-turns-bounds.false, c.turns-turns.ensures.count)) c.in-Got.ensures.shows
    (same_event c.loop-count.servient.exposed.site c.in-Got.event c.byte_count-size.result c.next.new.buffer _ _ _ _ c.byte_count-size.ensures c.step.ensures.step) c.step.ensures.site c.step.ensures.fits c.in_default.not-Stop
