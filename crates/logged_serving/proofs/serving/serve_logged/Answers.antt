use Rattle.std.proofs.Common.{◌+◌, ℕ, ap, arith, refl}
use Rattle.servient_outside.specs.Network.{in_buffer}
use Rattle.servient_trace.specs.Trace.{outside}
use Rattle.servient_core.proofs.ServingLaws.{same_event}
use Rattle.servient_core.proofs.SectionsServed.{checked_early}
use Rattle.logged_serving.proofs.LoggedRounds.{is_stepped, goes_none, goes_checked, goes_more, logged_stopped, logged_unwritten, logged_numbered, logged_counted, logged_failed}
use Rattle.logged_serving.proofs.serving.serve_logged.Goals as goal

pub loop-count-init : goal.loop-count-init
loop-count-init g c = record {
  goes = goes_none c.args.log.now.bounds.turns c.args.servient.now _ (g.O.Out.seen c.args.out.now) _ c.requires.fits (ap (λ (n : ℕ). n + 4096) c.turns-due.ensures.count);
  lines = c.requires.lines;
  written = c.requires.written;
}

pub step-requires-clause-fits : goal.step-requires-clause-fits
step-requires-clause-fits g c =
    let w = outside (g.N.Net.seen c.args.net.now) (g.R.Handlers.slots c.args.rack.now) in
    let slots = g.R.Handlers.slots c.forget_if_due-due.new.rack in
    let out = g.O.Out.seen c.args.out.now in
    let middle = g.O.Out.seen c.loop-count.out in
    let goes = goes_checked c.args.log.now.bounds.turns c.args.servient.now c.loop-count.servient w (g.N.Net.seen c.loop-count.net) (g.R.Handlers.slots c.loop-count.rack) slots out middle
    c.loop-count.count c.loop-count.due c.turns-first.result c.forget_if_due-due.result c.loop-count.invariant.goes c.turns-first.ensures.count c.forget_if_due-due.ensures.forgets in
    goes.fits

pub write_turns-requires-clause-kept : goal.write_turns-requires-clause-kept
write_turns-requires-clause-kept g c =
    (is_stepped c.loop-count.servient.exposed.site c.loop-count.servient c.step.new.self (g.N.Net.seen c.next.new.self) (g.R.Handlers.slots c.forget_if_due-due.new.rack)
    (outside (g.N.Net.seen c.step.new.net) (g.R.Handlers.slots c.step.new.rack)) _ c.forget_if_due-due.new.log.written.items c.turns-first.result c.turns-after.result
    c.step.ensures.step c.forget_if_due-due.ensures.written c.turns-first.ensures.count c.turns-after.ensures.count).kept

pub returns-then-first-bounds : goal.returns-then-first-bounds
returns-then-first-bounds g c =
    logged_numbered _ _ _ _ c.args.log.now.bounds _ _ c.loop-count.count c.loop-count.due c.loop-count.invariant.goes (omega (arith, c.if-first-bounds.true, c.turns-first.ensures.count))

pub returns-in-Failed : goal.returns-in-Failed
returns-in-Failed g c =
    let w = outside (g.N.Net.seen c.args.net.now) (g.R.Handlers.slots c.args.rack.now) in
    let slots = g.R.Handlers.slots c.forget_if_due-due.new.rack in
    let out = g.O.Out.seen c.args.out.now in
    let middle = g.O.Out.seen c.loop-count.out in
    let goes = goes_checked c.args.log.now.bounds.turns c.args.servient.now c.loop-count.servient w (g.N.Net.seen c.loop-count.net) (g.R.Handlers.slots c.loop-count.rack) slots out middle
    c.loop-count.count c.loop-count.due c.turns-first.result c.forget_if_due-due.result c.loop-count.invariant.goes c.turns-first.ensures.count c.forget_if_due-due.ensures.forgets in
    logged_failed c.args.servient.now c.loop-count.servient w (g.N.Net.seen c.loop-count.net) _ slots c.args.log.now.bounds out middle c.loop-count.count c.forget_if_due-due.result goes c.loop-count-test.true c.in-Failed.ensures.shows

pub returns-in-Failed-write_turns : goal.returns-in-Failed-write_turns
returns-in-Failed-write_turns g c =
    let w = outside (g.N.Net.seen c.args.net.now) (g.R.Handlers.slots c.args.rack.now) in
    let slots = g.R.Handlers.slots c.forget_if_due-due.new.rack in
    let out = g.O.Out.seen c.args.out.now in
    let middle = g.O.Out.seen c.loop-count.out in
    let goes = goes_checked c.args.log.now.bounds.turns c.args.servient.now c.loop-count.servient w (g.N.Net.seen c.loop-count.net) (g.R.Handlers.slots c.loop-count.rack) slots out middle
    c.loop-count.count c.loop-count.due c.turns-first.result c.forget_if_due-due.result c.loop-count.invariant.goes c.turns-first.ensures.count c.forget_if_due-due.ensures.forgets in
    let site = c.loop-count.servient.exposed.site in
    let e = in_buffer c.in-Got.event c.next.new.buffer in
    let step = same_event site c.in-Got.event c.byte_count-size.result c.next.new.buffer _ _ _ _ c.byte_count-size.ensures c.step.ensures.step in
    let early = checked_early c.turns-first.result c.loop-count.due c.forget_if_due-due.result (g.R.Handlers.slots c.loop-count.rack) slots c.forget_if_due-due.ensures.forgets in
    logged_unwritten c.args.servient.now c.loop-count.servient c.step.new.self w (g.N.Net.seen c.loop-count.net) (g.N.Net.seen c.next.new.self) slots (outside (g.N.Net.seen c.step.new.net) (g.R.Handlers.slots c.step.new.rack)) c.args.log.now.bounds out middle (g.O.Out.seen c.write_turns.new.out) c.write_turns.result c.loop-count.count c.forget_if_due-due.result c.turns-first.result c.turns-after.result c.in-Got.event.moment c.forget_if_due-due.new.log.written.items e goes
    c.loop-count-test.true (omega (arith, early, c.turns-first.ensures.count)) (omega (arith, c.if-first-bounds.false, c.turns-first.ensures.count))
    c.in-Got.ensures.shows step c.forget_if_due-due.ensures.written c.turns-first.ensures.count c.turns-after.ensures.count refl c.write_turns.ensures.shows c.in-Failed-write_turns.is

pub returns-in-Stop : goal.returns-in-Stop
returns-in-Stop g c =
    let w = outside (g.N.Net.seen c.args.net.now) (g.R.Handlers.slots c.args.rack.now) in
    let slots = g.R.Handlers.slots c.forget_if_due-due.new.rack in
    let out = g.O.Out.seen c.args.out.now in
    let middle = g.O.Out.seen c.loop-count.out in
    let goes = goes_checked c.args.log.now.bounds.turns c.args.servient.now c.loop-count.servient w (g.N.Net.seen c.loop-count.net) (g.R.Handlers.slots c.loop-count.rack) slots out middle
    c.loop-count.count c.loop-count.due c.turns-first.result c.forget_if_due-due.result c.loop-count.invariant.goes c.turns-first.ensures.count c.forget_if_due-due.ensures.forgets in
    let site = c.loop-count.servient.exposed.site in
    let e = in_buffer c.in-Got.event c.next.new.buffer in
    let step = same_event site c.in-Got.event c.byte_count-size.result c.next.new.buffer _ _ _ _ c.byte_count-size.ensures c.step.ensures.step in
    let early = checked_early c.turns-first.result c.loop-count.due c.forget_if_due-due.result (g.R.Handlers.slots c.loop-count.rack) slots c.forget_if_due-due.ensures.forgets in
    logged_stopped c.args.servient.now c.loop-count.servient c.step.new.self w (g.N.Net.seen c.loop-count.net) (g.N.Net.seen c.next.new.self) slots (outside (g.N.Net.seen c.step.new.net) (g.R.Handlers.slots c.step.new.rack)) c.args.log.now.bounds out middle (g.O.Out.seen c.write_turns.new.out) c.write_turns.result c.loop-count.count c.forget_if_due-due.result c.turns-first.result c.turns-after.result c.in-Got.event.moment c.forget_if_due-due.new.log.written.items e goes
    c.loop-count-test.true (omega (arith, early, c.turns-first.ensures.count)) (omega (arith, c.if-first-bounds.false, c.turns-first.ensures.count))
    c.in-Got.ensures.shows step c.forget_if_due-due.ensures.written c.turns-first.ensures.count c.turns-after.ensures.count refl c.write_turns.ensures.shows c.in-Done.is c.in-Stop.is

pub loop-count-preserved : goal.loop-count-preserved
loop-count-preserved g c =
    let w = outside (g.N.Net.seen c.args.net.now) (g.R.Handlers.slots c.args.rack.now) in
    let slots = g.R.Handlers.slots c.forget_if_due-due.new.rack in
    let out = g.O.Out.seen c.args.out.now in
    let middle = g.O.Out.seen c.loop-count.out in
    let goes = goes_checked c.args.log.now.bounds.turns c.args.servient.now c.loop-count.servient w (g.N.Net.seen c.loop-count.net) (g.R.Handlers.slots c.loop-count.rack) slots out middle
    c.loop-count.count c.loop-count.due c.turns-first.result c.forget_if_due-due.result c.loop-count.invariant.goes c.turns-first.ensures.count c.forget_if_due-due.ensures.forgets in
    let site = c.loop-count.servient.exposed.site in
    let e = in_buffer c.in-Got.event c.next.new.buffer in
    let step = same_event site c.in-Got.event c.byte_count-size.result c.next.new.buffer _ _ _ _ c.byte_count-size.ensures c.step.ensures.step in
    let early = checked_early c.turns-first.result c.loop-count.due c.forget_if_due-due.result (g.R.Handlers.slots c.loop-count.rack) slots c.forget_if_due-due.ensures.forgets in
    let stepped = is_stepped site c.loop-count.servient c.step.new.self (g.N.Net.seen c.next.new.self) slots (outside (g.N.Net.seen c.step.new.net) (g.R.Handlers.slots c.step.new.rack)) e
    c.forget_if_due-due.new.log.written.items c.turns-first.result c.turns-after.result step c.forget_if_due-due.ensures.written c.turns-first.ensures.count c.turns-after.ensures.count in
    record {
      goes = goes_more c.args.log.now.bounds.turns c.args.servient.now c.loop-count.servient c.step.new.self w (g.N.Net.seen c.loop-count.net) (g.N.Net.seen c.next.new.self) slots (outside (g.N.Net.seen c.step.new.net) (g.R.Handlers.slots c.step.new.rack)) out middle (g.O.Out.seen c.write_turns.new.out) c.write_turns.result c.loop-count.count c.forget_if_due-due.result c.turns-first.result c.turns-after.result c.in-Got.event.moment c.forget_if_due-due.new.log.written.items e goes
          (omega (arith, early, c.turns-first.ensures.count)) (omega (arith, c.if-first-bounds.false, c.turns-first.ensures.count))
          c.in-Got.ensures.shows step c.forget_if_due-due.ensures.written c.turns-first.ensures.count c.turns-after.ensures.count refl c.write_turns.ensures.shows c.in-Done.is c.step.ensures.site c.step.ensures.fits c.in_default.not-Stop;
      lines = c.write_turns.ensures.lines c.in-Done.is;
      written = c.write_turns.ensures.written stepped.turns stepped.merged stepped.length_is;
    }

pub returns : goal.returns
returns g c = logged_counted _ _ _ _ c.args.log.now.bounds _ _ c.loop-count.count c.loop-count.due c.loop-count.invariant.goes (omega arith)
