use Rattle.std.proofs.Common.{refl, ◌∙◌}
use Rattle.std.specs.Prelude.{Some}
use Rattle.core_links.specs.Steps.{stops}
use Rattle.core_links.proofs.Runs.{run_more, step_taken, step_refused}
use Rattle.core_links.proofs.reading.take_all.Goals as goal

pub returns-then-not-branch : goal.returns-then-not-branch
returns-then-not-branch c =
    stops c.loop-index.index c.loop-index.reader refl c.loop-index-test.true c.loop-index.invariant
    (step_refused c.in_ok-take.field-0 _ c.take.new.self c.in_ok-take.ensures c.if-not-branch.true)

pub loop-index-preserved : goal.loop-index-preserved
loop-index-preserved c =
    run_more (Some c.args.reader.now) c.args.bytes.now c.loop-index.index _ c.loop-index.reader c.loop-index-test.true refl c.loop-index.invariant
    ∙ step_taken c.in_ok-take.field-0 _ c.take.new.self c.in_ok-take.ensures c.if-not-branch.false
