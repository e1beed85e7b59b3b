use Rattle.std.proofs.Common.{[], ◌∙◌, ◌*◌, ℕ, refl, ap, subst}
use Rattle.std.proofs.lemmas.Result.{err_from_is_err_and}
use Rattle.servient_outside.specs.declared.net.Listened.TheVariants as listened
use Rattle.servient_outside.specs.declared.place.Place.{Place}
use Rattle.servient_outside.specs.Network.{listens_as}
use Rattle.servient_plan.specs.Plan.{place_of}
use Rattle.servient_trace.specs.Trace.{outside}
use Rattle.command_stages.specs.Lines.{network_line, memory_line}
use Rattle.command_stages.specs.Stages.{around}
use Rattle.command_stages.specs.Ending.{ComesOut}
use Rattle.servient_cli.specs.Listening.{Listens, is_listening, cannot_listen, place_memory, listen_memory}
use Rattle.command_stages.proofs.StageLaws.{ends_memory, happens_end, happens_goes}
use Rattle.servient_cli.proofs.listening.listen.Goals as goal

pub returns-in_err-place : goal.returns-in_err-place
returns-in_err-place g c = λ files slots.
    let error = err_from_is_err_and c.from_residual.result c.from_residual.ensures.1 in
    rw (error.1, error.2) (ends_memory (Listens _) (around files (outside (g.N.Net.seen c.args.net.now) slots)) (place_memory (refl, refl)))

pub returns-in-Ready : goal.returns-in-Ready
returns-in-Ready g c = λ files slots.
    let place = c.in_ok-place.place in
    let n = g.N.Net.seen c.args.net.now in
    let m = g.N.Net.seen c.listen.new.self in
    subst (λ (p : Place). ComesOut (Listens p) (around files (outside n slots)) (around files (outside m slots)) _ []) (c.in_ok-place.ensures ∙ ap (λ (k : ℕ). place_of c.args.plan.now (k * 1000)) c.from.ensures)
    (happens_goes (Listens place) files n m slots (listens_as place listened.Ready) tt c.in-Ready.ensures (is_listening refl refl))

pub returns-in-Failed : goal.returns-in-Failed
returns-in-Failed g c = λ files slots.
    let place = c.in_ok-place.place in
    let n = g.N.Net.seen c.args.net.now in
    let m = g.N.Net.seen c.listen.new.self in
    subst (λ (p : Place). ComesOut (Listens p) (around files (outside n slots)) (around files (outside m slots)) _ network_line) (c.in_ok-place.ensures ∙ ap (λ (k : ℕ). place_of c.args.plan.now (k * 1000)) c.from.ensures)
    (happens_end (Listens place) files n m slots (listens_as place listened.Failed) 6 network_line c.in-Failed.ensures (cannot_listen (refl, refl)))

pub returns : goal.returns
returns g c = λ files slots.
    let place = c.in_ok-place.place in
    let n = g.N.Net.seen c.args.net.now in
    let m = g.N.Net.seen c.listen.new.self in
    subst (λ (p : Place). ComesOut (Listens p) (around files (outside n slots)) (around files (outside m slots)) _ memory_line) (c.in_ok-place.ensures ∙ ap (λ (k : ℕ). place_of c.args.plan.now (k * 1000)) c.from.ensures)
    (happens_end (Listens place) files n m slots (listens_as place listened.NoMemory) 9 memory_line c.in-NoMemory.ensures (listen_memory (refl, refl)))
