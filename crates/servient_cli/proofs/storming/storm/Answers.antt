use Rattle.std.proofs.lemmas.Result.{err_from_is_err_and}
use Rattle.thing_site.specs.Exposing.{kinds_of}
use Rattle.servient_trace.specs.Trace.{outside}
use Rattle.command_stages.specs.Stages.{around}
use Rattle.command_stages.specs.Inputs.{TakesBuiltIn}
use Rattle.servient_cli.specs.Storming.{StormsOn, with_few_exchanges}
use Rattle.command_stages.proofs.StageLaws.{then_ends, error_ends}
use Rattle.servient_cli.proofs.storming.storm.Goals as goal

pub returns-in_err-planned : goal.returns-in_err-planned
returns-in_err-planned g c = λ files net.
    let slots = g.R.Handlers.slots c.args.rack.now in
    let a = around files (outside net slots) in
    let error = err_from_is_err_and c.from_residual.result c.from_residual.ensures.1 in
    rw (error.1, error.2) (error_ends TakesBuiltIn (λ p. StormsOn (kinds_of slots) c.args.seed c.args.count (with_few_exchanges p)) a a c.in_err-planned.field-0.0 (c.in_err-planned.ensures.stage a))

pub returns : goal.returns
returns g c = λ files net.
    let slots = g.R.Handlers.slots c.args.rack.now in
    let a = around files (outside net slots) in
    let b = around files (outside net (g.R.Handlers.slots c.storm_on.new.rack)) in
    then_ends TakesBuiltIn (λ p. StormsOn (kinds_of slots) c.args.seed c.args.count (with_few_exchanges p)) a a b c.in_ok-planned.planned c.storm_on.result
    (c.in_ok-planned.ensures.stage a) (c.storm_on.ensures files net)
