use Rattle.std.proofs.Common.{◌∙◌, arith}
use Rattle.servient_outside.specs.Network.{in_buffer}
use Rattle.servient_core.proofs.ServingLaws.{progress_none, progress_more, serves_failed, serves_stopped, serves_spent, same_event}
use Rattle.servient_core.proofs.serving.serve.Goals as goal

pub loop-count-init : goal.loop-count-init
loop-count-init g c = progress_none c.args.servient.now _ c.requires

pub returns-in-Failed-clause-serves : goal.returns-in-Failed-clause-serves
returns-in-Failed-clause-serves g c =
    serves_failed _ _ _ (g.N.Net.seen c.loop-count.net) _ (g.R.Handlers.slots c.loop-count.rack) c.args.budget c.loop-count.count
    c.loop-count.invariant c.in-Failed.ensures.shows c.loop-count-test.true

pub returns-in-Stop-clause-serves : goal.returns-in-Stop-clause-serves
returns-in-Stop-clause-serves g c =
    serves_stopped _ _ _ _ (g.N.Net.seen c.loop-count.net) _ (g.R.Handlers.slots c.loop-count.rack) _ c.args.budget c.loop-count.count (in_buffer c.in-Got.event c.next.new.buffer)
    c.loop-count.invariant c.in-Got.ensures.shows
    (same_event c.loop-count.servient.exposed.site c.in-Got.event c.byte_count-size.result c.next.new.buffer _ _ _ _ c.byte_count-size.ensures c.step.ensures.step) c.in-Stop.is c.loop-count-test.true

pub returns-in-Stop-clause-site : goal.returns-in-Stop-clause-site
returns-in-Stop-clause-site g c = c.step.ensures.site ∙ c.loop-count.invariant.site

pub returns-in-Failed-clause-site : goal.returns-in-Failed-clause-site
returns-in-Failed-clause-site g c = c.loop-count.invariant.site

pub loop-count-preserved : goal.loop-count-preserved
loop-count-preserved g c =
    progress_more _ _ _ _ (g.N.Net.seen c.loop-count.net) _ (g.R.Handlers.slots c.loop-count.rack) _ c.loop-count.count (in_buffer c.in-Got.event c.next.new.buffer)
    c.loop-count.invariant c.in-Got.ensures.shows
    (same_event c.loop-count.servient.exposed.site c.in-Got.event c.byte_count-size.result c.next.new.buffer _ _ _ _ c.byte_count-size.ensures c.step.ensures.step) c.step.ensures.site c.step.ensures.fits c.in_default.not-Stop

pub returns-clause-serves : goal.returns-clause-serves
returns-clause-serves g c = serves_spent _ _ _ _ c.args.budget c.loop-count.count c.loop-count.invariant (omega arith)

pub returns-clause-site : goal.returns-clause-site
returns-clause-site g c = c.loop-count.invariant.site
