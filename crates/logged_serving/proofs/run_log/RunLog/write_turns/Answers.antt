use Rattle.std.proofs.Common.{refl, arith, ◌∙◌}
use Rattle.std.specs.List.{flat_map}
use Rattle.turn_lines.specs.Buffer.{buffered_of}
use Rattle.turn_lines.specs.Lines.{logged_turn}
use Rattle.turn_lines.proofs.Putting.{put_none}
use Rattle.turn_lines.proofs.Flushed.{flushed_all, emptied}
use Rattle.logged_serving.proofs.Counting.{logged_none, logged_next, logged_all, all_counted}
use Rattle.logged_serving.proofs.run_log.RunLog.write_turns.Goals as goal

pub loop-number-init : goal.loop-number-init
loop-number-init g c = record {
  kept = c.requires.kept;
  bounds = refl;
  logged = λ turns merged count.
      logged_none c.args.step.first c.args.step.moment c.args.self.now.written.items (g.R.Handlers.slots c.args.rack.now) turns (buffered_of c.args.self.now.lines) (g.O.Out.seen c.args.out.now) merged
      (put_none (buffered_of c.args.self.now.lines) (g.O.Out.seen c.args.out.now));
}

pub loop-number-preserved : goal.loop-number-preserved
loop-number-preserved g c = record {
  kept = c.write_next.ensures.kept;
  bounds = c.write_next.ensures.bounds ∙ c.loop-number.invariant.bounds;
  logged = λ turns merged count.
      logged_next c.args.step.first c.loop-number.number c.args.step.moment c.loop-number.self.written.items c.write_next.new.self.written.items (g.R.Handlers.slots c.args.rack.now) turns
      (buffered_of c.args.self.now.lines) (buffered_of c.loop-number.self.lines) (buffered_of c.write_next.new.self.lines)
      (g.O.Out.seen c.args.out.now) (g.O.Out.seen c.loop-number.out) (g.O.Out.seen c.write_next.new.out)
      (c.loop-number.invariant.logged turns merged count) (omega (arith, c.loop-number-test.true, count)) c.write_next.ensures.left c.write_next.ensures.put;
}

pub returns-clause-shows : goal.returns-clause-shows
returns-clause-shows g c = λ turns merged count.
    let slots = g.R.Handlers.slots c.args.rack.now in
    flushed_all (flat_map (logged_turn c.args.step.moment) turns) (buffered_of c.args.self.now.lines) (buffered_of c.loop-number.self.lines) (buffered_of c.flush.new.self)
    (g.O.Out.seen c.args.out.now) (g.O.Out.seen c.loop-number.out) (g.O.Out.seen c.flush.new.out) c.flush.result c.requires.lines
    (logged_all c.args.step.first c.loop-number.number c.args.step.moment c.loop-number.self.written.items slots turns _ _ _ _ (c.loop-number.invariant.logged turns merged count) (omega (arith, c.loop-number-test.false, c.loop-number.auto, count)))
    c.flush.ensures.put c.flush.ensures.empty c.flush.ensures.answer

pub returns-clause-lines : goal.returns-clause-lines
returns-clause-lines g c = λ done. emptied (buffered_of c.flush.new.self) c.flush.result c.flush.ensures.empty c.flush.ensures.answer done

pub returns-clause-written : goal.returns-clause-written
returns-clause-written g c = λ turns merged count.
    let slots = g.R.Handlers.slots c.args.rack.now in
    all_counted c.args.step.first c.loop-number.number c.args.step.moment c.loop-number.self.written.items slots turns _ _ _ _ (c.loop-number.invariant.logged turns merged count) (omega (arith, c.loop-number-test.false, c.loop-number.auto, count))
    c.loop-number.invariant.kept
