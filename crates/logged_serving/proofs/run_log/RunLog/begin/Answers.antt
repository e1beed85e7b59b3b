use Rattle.turn_lines.specs.Buffer.{buffered_of}
use Rattle.turn_lines.proofs.Flushed.{flushed_all, emptied}
use Rattle.logged_serving.proofs.run_log.RunLog.begin.Goals as goal

pub returns-clause-shows : goal.returns-clause-shows
returns-clause-shows g c =
    flushed_all _ (buffered_of c.args.self.now.lines) (buffered_of c.put_heading.new.lines) (buffered_of c.flush.new.self)
    (g.O.Out.seen c.args.out.now) (g.O.Out.seen c.put_heading.new.out) (g.O.Out.seen c.flush.new.out) c.flush.result c.requires
    c.put_heading.ensures c.flush.ensures.put c.flush.ensures.empty c.flush.ensures.answer

pub returns-clause-lines : goal.returns-clause-lines
returns-clause-lines g c = λ done. emptied (buffered_of c.flush.new.self) c.flush.result c.flush.ensures.empty c.flush.ensures.answer done
