use Rattle.std.proofs.Common.{◌∙◌, List, ℕ, set, ap, arith}
use Rattle.std.proofs.lemmas.List.Edits.{fill_none, fill_more}
use Rattle.logged_serving.proofs.Counting.{all_none}
use Rattle.logged_serving.proofs.run_log.count_none.Goals as goal

pub loop-index-init : goal.loop-index-init
loop-index-init c = fill_none c.args.counts.now 0

pub loop-index-preserved : goal.loop-index-preserved
loop-index-preserved c =
    ap (λ (x : List ℕ). set x c.loop-index.index 0) c.loop-index.invariant ∙ fill_more c.loop-index.index 0 c.args.counts.now (omega (arith, c.loop-index-test.true))

pub returns : goal.returns
returns c = c.loop-index.invariant ∙ all_none c.loop-index.index c.args.counts.now (omega (arith, c.loop-index-test.false, c.loop-index.auto))
