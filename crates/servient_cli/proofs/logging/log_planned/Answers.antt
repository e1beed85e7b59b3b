use Rattle.std.proofs.Common.{◌*◌, ◌∙◌, sym, subst}
use Rattle.std.specs.Prelude.{Err}
use Rattle.std.proofs.lemmas.Result.{err_from_is_err_and}
use Rattle.thing_site.specs.Exposing.{kinds_of}
use Rattle.servient_core.specs.declared.sections.RunBounds.{RunBounds}
use Rattle.servient_plan.specs.Plan.{place_of}
use Rattle.servient_trace.specs.Trace.{outside}
use Rattle.command_stages.specs.Stages.{AndThen, around}
use Rattle.servient_cli.specs.Opening.{Opens}
use Rattle.servient_cli.specs.Listening.{Listens}
use Rattle.servient_cli.specs.LoggedServing.{bounds_of, status_at_log_end, line_at_log_end, ComesOutInTurn, TakesLog, ServesWithLog, ListensAndLogs}
use Rattle.servient_cli.proofs.ConsumingStages.{error_in_turn, then_in_turn}
use Rattle.servient_cli.proofs.LoggedStages.{printing_as}
use Rattle.servient_cli.proofs.UsageStages.{open_not, take_log_not, listen_not}
use Rattle.servient_cli.proofs.UnseenStages.{listens_untaken, opens_unseen, taken_unseen, untaken}
use Rattle.servient_cli.proofs.logging.log_planned.Goals as goal

pub returns-in_err-counted : goal.returns-in_err-counted
returns-in_err-counted g c = λ files.
    let slots = g.R.Handlers.slots c.args.rack.now in
    let b = around files (outside (g.N.Net.seen c.args.net.now) slots) in
    let q = c.args.request in
    let p = c.args.planned.now in
    let e = c.in_err-counted.field-0.0 in
    let error = err_from_is_err_and c.from_residual.result c.from_residual.ensures.1 in
    rw (error.1, error.2) (error_in_turn (Opens q.plan.now (kinds_of slots) p) (λ site. AndThen TakesLog (λ _. ListensAndLogs q.budget q.idle p.plan site)) b b (g.O.Out.seen c.args.out.now) e (open_not q.plan.now (kinds_of slots) p) (λ s r st. untaken s (opens_unseen q.plan.now (kinds_of slots) p s r st)) (c.in_err-counted.ensures.stage b))

pub returns-in_err-log : goal.returns-in_err-log
returns-in_err-log g c = λ files.
    let slots = g.R.Handlers.slots c.args.rack.now in
    let b = around files (outside (g.N.Net.seen c.args.net.now) slots) in
    let o = g.O.Out.seen c.args.out.now in
    let q = c.args.request in
    let p = c.args.planned.now in
    let site = c.in_ok-counted.counted.servient.exposed.site in
    let e = c.in_err-log.field-0.0 in
    let error = err_from_is_err_and c.from_residual-in_err-log.result c.from_residual-in_err-log.ensures.1 in
    rw (error.1, error.2) (then_in_turn (Opens q.plan.now (kinds_of slots) p) (λ s. AndThen TakesLog (λ _. ListensAndLogs q.budget q.idle p.plan s)) b b b o o site (Err e) (c.in_ok-counted.ensures.stage b)
    (error_in_turn TakesLog (λ _. ListensAndLogs q.budget q.idle p.plan site) b b o e take_log_not (λ s r st. untaken s (taken_unseen s r st)) (c.in_err-log.ensures.stage b)))

pub returns-in_err-listen : goal.returns-in_err-listen
returns-in_err-listen g c = λ files.
    let slots = g.R.Handlers.slots c.args.rack.now in
    let b = around files (outside (g.N.Net.seen c.args.net.now) slots) in
    let d = around files (outside (g.N.Net.seen c.listen.new.net) slots) in
    let o = g.O.Out.seen c.args.out.now in
    let q = c.args.request in
    let p = c.args.planned.now in
    let site = c.in_ok-counted.counted.servient.exposed.site in
    let e = c.in_err-listen.field-0.0 in
    let place = place_of p.plan (q.idle * 1000) in
    let error = err_from_is_err_and c.from_residual-in_err-listen.result c.from_residual-in_err-listen.ensures.1 in
    rw (error.1, error.2) (then_in_turn (Opens q.plan.now (kinds_of slots) p) (λ s. AndThen TakesLog (λ _. ListensAndLogs q.budget q.idle p.plan s)) b b d o o site (Err e) (c.in_ok-counted.ensures.stage b)
    (then_in_turn TakesLog (λ _. ListensAndLogs q.budget q.idle p.plan site) b b d o o tt (Err e) (c.in_ok-log.ensures.stage b)
    (error_in_turn (Listens place) (λ _. ServesWithLog (bounds_of q.budget site) p.plan site) b d o e (listen_not place) (listens_untaken place) (c.in_err-listen.ensures files slots))))

pub returns : goal.returns
returns g c = λ files.
    let slots = g.R.Handlers.slots c.args.rack.now in
    let b = around files (outside (g.N.Net.seen c.args.net.now) slots) in
    let d = around files (outside (g.N.Net.seen c.listen.new.net) slots) in
    let f = around files (outside (g.N.Net.seen c.log_counted-ended.new.net) (g.R.Handlers.slots c.log_counted-ended.new.rack)) in
    let o = g.O.Out.seen c.args.out.now in
    let now = g.O.Out.seen c.log_counted-ended.new.out in
    let q = c.args.request in
    let p = c.args.planned.now in
    let site = c.in_ok-counted.counted.servient.exposed.site in
    let place = place_of p.plan (q.idle * 1000) in
    let r = c.end_of.result in
    let end = c.log_counted-ended.result in
    let served = subst (λ (x : RunBounds). ComesOutInTurn (ServesWithLog x p.plan site) d f o now (status_at_log_end end) (line_at_log_end end)) c.in_ok-log.ensures.bounds (c.log_counted-ended.ensures files) in
    then_in_turn (Opens q.plan.now (kinds_of slots) p) (λ s. AndThen TakesLog (λ _. ListensAndLogs q.budget q.idle p.plan s)) b b f o now site r (c.in_ok-counted.ensures.stage b)
    (then_in_turn TakesLog (λ _. ListensAndLogs q.budget q.idle p.plan site) b b f o now tt r (c.in_ok-log.ensures.stage b)
    (then_in_turn (Listens place) (λ _. ServesWithLog (bounds_of q.budget site) p.plan site) b d f o now tt r (c.in_ok-listen.ensures files slots)
    (printing_as (ServesWithLog (bounds_of q.budget site) p.plan site) d f o now (status_at_log_end end) (line_at_log_end end) r served c.end_of.ensures.status c.end_of.ensures.text)))
