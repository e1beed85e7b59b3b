use Rattle.std.specs.Prelude.{Ok, Err}
use Rattle.std.proofs.lemmas.Result.{err_from_is_err_and}
use Rattle.thing_site.specs.Exposing.{kinds_of}
use Rattle.command_stages.specs.declared.ending.Ended.TheVariants as ended
use Rattle.command_stages.specs.Deriving.{Derives}
use Rattle.command_stages.specs.Tabling.{PrintsTable}
use Rattle.command_stages.proofs.StageLaws.{then_ends, error_ends}
use Rattle.command_stages.proofs.tabling.derive_and_table.Goals as goal

pub returns-in_err-things : goal.returns-in_err-things
returns-in_err-things g c = λ a.
    let p = c.args.planned.now in
    let kinds = kinds_of (g.R.Handlers.slots c.args.rack.now) in
    let error = err_from_is_err_and c.from_residual.result c.from_residual.ensures.1 in
    rw (error.1, error.2) (error_ends (Derives p) (PrintsTable c.args.name.now kinds p.plan) a a c.in_err-things.field-0.0 (c.in_err-things.ensures.stage a))

pub returns-in_err-tabled : goal.returns-in_err-tabled
returns-in_err-tabled g c = λ a.
    let p = c.args.planned.now in
    let kinds = kinds_of (g.R.Handlers.slots c.args.rack.now) in
    let error = err_from_is_err_and c.from_residual-in_err-tabled.result c.from_residual-in_err-tabled.ensures.1 in
    rw (error.1, error.2) (then_ends (Derives p) (PrintsTable c.args.name.now kinds p.plan) a a a c.in_ok-things.things (Err ended.NoMemory) (c.in_ok-things.ensures.stage a) (c.in_err-tabled.ensures a))

pub returns : goal.returns
returns g c = λ a.
    let p = c.args.planned.now in
    let kinds = kinds_of (g.R.Handlers.slots c.args.rack.now) in
    then_ends (Derives p) (PrintsTable c.args.name.now kinds p.plan) a a a c.in_ok-things.things (Ok c.in_ok-tabled.field-0) (c.in_ok-things.ensures.stage a) (c.in_ok-tabled.ensures a)
