use Rattle.std.proofs.Common.{subst, ◌∙◌, ℕ, List, sym, ap}
use Rattle.std.specs.Prelude.{Ok, Err}
use Rattle.wot_json.specs.Meaning.{json_of}
use Rattle.thing_ops.specs.declared.outcome.Outcome.TheVariants as outcome
use Rattle.thing_handler.specs.declared.handler.CallKind.TheVariants as call
use Rattle.thing_site.specs.Site.{Placed}
use Rattle.thing_core.specs.Performing.{open_object, with_member, IsValueOf}
use Rattle.thing_state.specs.Calls.{HasRoomAfter, Called, IsTaken}
use Rattle.thing_state.specs.Course.{Course}
use Rattle.wot_terms.specs.declared.affordance.Affordance.{Affordance}
use Rattle.thing_state.specs.State.{with_seen}
use Rattle.thing_state.proofs.CallLaws.{makes_call}
use Rattle.thing_core.proofs.ReadLaws.{read_goes_on, read_stops, value_taken, value_refused, open_more}
use Rattle.thing_core.proofs.reading.read_one.Goals as goal

pub returns-in-Err-clause-read : goal.returns-in-Err-clause-read
returns-in-Err-clause-read g c = λ ps members.
    let p : Placed = c.args.field.now in
    let k = c.in-Err.ensures in
    read_stops p ps members k.called c.in-Err.outcome c.args.machine.now c.read_value.new.machine
    (g.R.Handlers.slots c.args.rack.now) (g.R.Handlers.slots c.read_value.new.rack) (makes_call (λ called. IsValueOf called (Err c.in-Err.outcome)) c.spot-property.result.now.slot c.args.field.now.slot call.Read c.args.machine.now c.read_value.new.machine (g.R.Handlers.slots c.args.rack.now) (g.R.Handlers.slots c.read_value.new.rack) (ap (λ (q : Placed). q.slot) c.spot-property.ensures) k) (k.comes p.affordance.output)

pub returns-in-Some-clause-read : goal.returns-in-Some-clause-read
returns-in-Some-clause-read g c = λ members is.
    let p : Placed = c.args.field.now in
    let k = c.in-Ok.ensures in (
      json_of c.in-Ok.value,
      c.put_member.ensures.items
          ∙ ap (λ (l : List ℕ). with_member l c.name.result.now c.in-Some.value.now) is
          ∙ (λ i. with_member (open_object members) (c.name.ensures i) (c.in-Some.ensures.1 i))
          ∙ sym (open_more members p.affordance.name (json_of c.in-Ok.value)),
      λ ps. read_goes_on p ps members k.called (json_of c.in-Ok.value) c.args.machine.now c.read_value.new.machine c.see-version.new.self
          (g.R.Handlers.slots c.args.rack.now) (g.R.Handlers.slots c.read_value.new.rack) (makes_call (λ called. IsValueOf called (Ok c.in-Ok.value)) c.spot-property.result.now.slot c.args.field.now.slot call.Read c.args.machine.now c.read_value.new.machine (g.R.Handlers.slots c.args.rack.now) (g.R.Handlers.slots c.read_value.new.rack) (ap (λ (q : Placed). q.slot) c.spot-property.ensures) k)
          (value_taken p.affordance.output k.called c.in-Ok.value k.comes (subst (λ (x : Affordance). IsTaken x.output (json_of c.in-Ok.value)) (c.affordance.ensures ∙ ap (λ (q : Placed). q.affordance) c.spot-property.ensures) c.in-Some.ensures.0))
          (ap (λ (x : Course). x.state) c.see-version.ensures.seen
          ∙ (λ i. with_seen ((c.slot.ensures ∙ ap (λ (q : Placed). q.slot) c.spot-property.ensures) i) (c.in-Some.ensures.1 i) c.read_value.new.machine.state)),
    )

pub returns-clause-read : goal.returns-clause-read
returns-clause-read g c = λ ps members.
    let p : Placed = c.args.field.now in
    let k = c.in-Ok.ensures in
    read_stops p ps members k.called outcome.BadAnswer c.args.machine.now c.read_value.new.machine
    (g.R.Handlers.slots c.args.rack.now) (g.R.Handlers.slots c.read_value.new.rack) (makes_call (λ called. IsValueOf called (Ok c.in-Ok.value)) c.spot-property.result.now.slot c.args.field.now.slot call.Read c.args.machine.now c.read_value.new.machine (g.R.Handlers.slots c.args.rack.now) (g.R.Handlers.slots c.read_value.new.rack) (ap (λ (q : Placed). q.slot) c.spot-property.ensures) k)
    (value_refused p.affordance.output k.called c.in-Ok.value k.comes (subst (λ (x : Affordance). ¬ (IsTaken x.output (json_of c.in-Ok.value))) (c.affordance.ensures ∙ ap (λ (q : Placed). q.affordance) c.spot-property.ensures) c.in-None.ensures))

pub see-version-requires-clause-room : goal.see-version-requires-clause-room
see-version-requires-clause-room g c =
    let k = c.in-Ok.ensures in
    subst (λ (x : Called). HasRoomAfter x c.read_value.new.machine.state) k.comes k.versions
