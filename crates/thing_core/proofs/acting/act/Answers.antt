use Rattle.std.proofs.Common.{ℕ, [], refl, sym, ap, subst, inl}
use Rattle.wot_json.specs.Json.{text_of}
use Rattle.thing_ops.specs.declared.outcome.Outcome.TheVariants as outcome
use Rattle.thing_ops.specs.Requests.{request_seen}
use Rattle.thing_site.specs.declared.place.ThingAct.{ThingAct}
use Rattle.thing_site.specs.Site.{ExposedThing}
use Rattle.thing_state.specs.State.{last_of}
use Rattle.thing_core.specs.Thing.{only, event_outcome, Performs}
use Rattle.thing_core.proofs.MoveLaws.{answers_done, memory_out}
use Rattle.thing_core.proofs.acting.act.Goals as goal

pub returns-in-Describes : goal.returns-in-Describes
returns-in-Describes g c =
    answers_done (Performs c.args.task.act (request_seen c.args.request.now) c.args.task.inputs.items)
    (outcome.Description (text_of c.thing.result.now.description) c.args.request.now.accept.td) c.describe.result c.args.machine.now (g.R.Handlers.slots c.args.rack.now) c.describe.ensures
    (subst (λ (x : ThingAct). Performs x (request_seen c.args.request.now) c.args.task.inputs.items
    (only (outcome.Description (text_of c.thing.result.now.description) c.args.request.now.accept.td)) c.args.machine.now.state [] c.args.machine.now.state) (sym c.in-Describes.is)
    (ap (λ (t : ExposedThing). only (outcome.Description (text_of t.description) c.args.request.now.accept.td)) c.thing.ensures, record { next = refl; saw = refl }))

pub returns-in-Err : goal.returns-in-Err
returns-in-Err g c =
    memory_out (Performs c.args.task.act (request_seen c.args.request.now) c.args.task.inputs.items) c.args.machine.now c.args.machine.now (g.R.Handlers.slots c.args.rack.now) refl refl

pub returns-in-ReadsEvent : goal.returns-in-ReadsEvent
returns-in-ReadsEvent g c =
    answers_done (Performs c.args.task.act (request_seen c.args.request.now) c.args.task.inputs.items)
    (event_outcome (last_of c.slot-event.result c.last.result.now)) c.last_emission.result c.args.machine.now (g.R.Handlers.slots c.args.rack.now) c.last_emission.ensures
    (subst (λ (x : ThingAct). Performs x (request_seen c.args.request.now) c.args.task.inputs.items
    (only (event_outcome (last_of c.slot-event.result c.last.result.now))) c.args.machine.now.state [] c.args.machine.now.state) (sym c.in-ReadsEvent.is)
    (λ i. only (event_outcome (last_of (c.slot-event.ensures i) (c.last.ensures i))), record { next = refl; saw = refl }))

pub returns-in-Waits : goal.returns-in-Waits
returns-in-Waits g c =
    answers_done (Performs c.args.task.act (request_seen c.args.request.now) c.args.task.inputs.items)
    (outcome.Wait c.slot-target.result) (outcome.Wait c.slot-target.result) c.args.machine.now (g.R.Handlers.slots c.args.rack.now) (inl refl)
    (subst (λ (x : ThingAct). Performs x (request_seen c.args.request.now) c.args.task.inputs.items
    (only (outcome.Wait c.slot-target.result)) c.args.machine.now.state [] c.args.machine.now.state) (sym c.in-Waits.is)
    (ap (λ (n : ℕ). only (outcome.Wait n)) c.slot-target.ensures, record { next = refl; saw = refl }))
