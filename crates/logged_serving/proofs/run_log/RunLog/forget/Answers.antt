use Rattle.logged_serving.proofs.Counting.{forgot_counts, lent_none}
use Rattle.logged_serving.proofs.run_log.RunLog.forget.Goals as goal

pub returns-clause-written : goal.returns-clause-written
returns-clause-written g c =
    forgot_counts (g.R.Handlers.slots c.args.rack.now) (g.R.Handlers.slots c.forget.new.self) c.args.self.now.written.items _ c.requires c.forget.ensures
    (lent_none c.args.self.now.written.items c.as_mut_slice.result.now c.count_none.new.counts c.args.self.now.written.len c.count_none.ensures c.as_mut_slice.ensures.value c.as_mut_slice.ensures.len)
