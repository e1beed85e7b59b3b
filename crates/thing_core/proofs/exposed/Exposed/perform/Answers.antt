use Rattle.std.proofs.Common.{◌≡◌, List, length, sym, ap, subst, ◌∙◌}
use Rattle.thing_ops.specs.Requests.{RequestSeen, request_seen}
use Rattle.thing_handler.specs.Handler.{Seen}
use Rattle.thing_site.specs.Site.{Site}
use Rattle.thing_core.specs.Refusals.{Asked}
use Rattle.thing_site.specs.Fits.{Fits}
use Rattle.thing_core.specs.Kept.{Kept}
use Rattle.thing_core.specs.Performing.{MakesAct}
use Rattle.thing_core.proofs.SlotLaws.{SiteStands, site_stands, slots_stand, inputs_fit, may_be_done}
use Rattle.thing_core.proofs.LastLaws.{act_keeps}
use Rattle.thing_core.proofs.PerformLaws.{done_makes, refusal_makes}
use Rattle.thing_core.proofs.exposed.Exposed.perform.Goals as goal

-- the Things that were handed on fit the rack
here : (slots : List Seen) (old : Kept) (site : Site) → old.site ≡ site → Fits old.site slots → SiteStands (length slots) site
here slots old site same fits = site_stands slots site (subst (λ (x : Site). Fits x slots) same fits)

pub act-requires-clause-slots : goal.act-requires-clause-slots
act-requires-clause-slots g c =
    let a : Asked = record { site = c.self.inside.things; state = c.self.inside.machine.state; request = request_seen c.args.request.now } in
    slots_stand (length (g.R.Handlers.slots c.args.rack.now)) a c.in-Ok.task.act
    (here (g.R.Handlers.slots c.args.rack.now) c.args.self.now a.site (sym (ap (λ (k : Kept). k.site) c.self.view_is)) c.requires.fits) c.in-Ok.ensures.0

pub act-requires-clause-inputs : goal.act-requires-clause-inputs
act-requires-clause-inputs g c =
    let a : Asked = record { site = c.self.inside.things; state = c.self.inside.machine.state; request = request_seen c.args.request.now } in
    inputs_fit (length (g.R.Handlers.slots c.args.rack.now)) a c.in-Ok.task.act c.in-Ok.task.inputs.items
    (here (g.R.Handlers.slots c.args.rack.now) c.args.self.now a.site (sym (ap (λ (k : Kept). k.site) c.self.view_is)) c.requires.fits)
    c.in-Ok.ensures.0 c.in-Ok.ensures.1 c.in-Ok.ensures.2

pub act-requires-clause-state : goal.act-requires-clause-state
act-requires-clause-state g c =
    let a : Asked = record { site = c.self.inside.things; state = c.self.inside.machine.state; request = request_seen c.args.request.now } in
    may_be_done (length (g.R.Handlers.slots c.args.rack.now)) a c.in-Ok.task.act
    (here (g.R.Handlers.slots c.args.rack.now) c.args.self.now a.site (sym (ap (λ (k : Kept). k.site) c.self.view_is)) c.requires.fits)
    c.in-Ok.ensures.0 c.in-Ok.ensures.2

pub invariant_of-self : goal.invariant_of-self
invariant_of-self g c =
    act_keeps c.in-Ok.task.act (request_seen c.args.request.now) c.in-Ok.task.inputs.items c.act.ensures.done c.self.inside.machine.state c.act.ensures.made.seen c.act.new.machine.state
    c.act.ensures.made.move
    ∙ c.self.invariant

pub returns-in-Ok : goal.returns-in-Ok
returns-in-Ok g c =
    let q : RequestSeen = request_seen c.args.request.now in
    let new : Kept = record { site = c.self.inside.things; state = c.act.new.machine.state; pending = c.act.new.machine.pending } in
    subst (λ (k : Kept). MakesAct k new q c.act.result (g.R.Handlers.slots c.args.rack.now) (g.R.Handlers.slots c.act.new.rack)) c.self.view_is
    (done_makes c.self.inside.things q c.in-Ok.task.act c.in-Ok.task.inputs.items c.act.result c.self.inside.machine c.act.new.machine
    (g.R.Handlers.slots c.args.rack.now) (g.R.Handlers.slots c.act.new.rack) (ap (λ (k : Kept). k.pending) c.self.view_is ∙ c.requires.pending) c.in-Ok.ensures.0 c.in-Ok.ensures.1 c.in-Ok.ensures.2 c.act.ensures)

pub returns-in-Err : goal.returns-in-Err
returns-in-Err g c =
    let q : RequestSeen = request_seen c.args.request.now in
    subst (λ (k : Kept). MakesAct k k q c.in-Err.outcome (g.R.Handlers.slots c.args.rack.now) (g.R.Handlers.slots c.args.rack.now)) c.self.view_is
    (refusal_makes c.self.inside.things q c.in-Err.outcome c.self.inside.machine (g.R.Handlers.slots c.args.rack.now)
    (ap (λ (k : Kept). k.pending) c.self.view_is ∙ c.requires.pending) c.in-Err.ensures)
