use Rattle.std.proofs.Common.{◌≡◌, ℕ, subst, refl, ap, ◌∙◌}
use Rattle.std.specs.Prelude.{Ok, Err}
use Rattle.wot_json.specs.Json.{json_text}
use Rattle.wot_json.specs.Meaning.{json_of}
use Rattle.thing_ops.specs.declared.outcome.Outcome.TheVariants as outcome
use Rattle.thing_handler.specs.declared.handler.CallKind.TheVariants as call
use Rattle.thing_state.specs.Calls.{Called, IsTaken, HasRoomAfter}
use Rattle.thing_core.specs.Thing.{Reads, read_outcome}
use Rattle.thing_state.specs.State.{with_seen, version_of}
use Rattle.thing_core.specs.Performing.{IsValueOf}
use Rattle.thing_state.specs.Course.{Course}
use Rattle.wot_terms.specs.declared.affordance.Affordance.{Affordance}
use Rattle.thing_state.proofs.CallLaws.{makes_call}
use Rattle.thing_core.proofs.MoveLaws.{memory_out}
use Rattle.thing_core.proofs.ReadLaws.{read_done, value_taken, value_refused}
use Rattle.thing_core.proofs.reading.read.Goals as goal

pub returns-in-Err : goal.returns-in-Err
returns-in-Err g c = memory_out (Reads c.args.spot c.args.conditions.now) c.args.machine.now c.args.machine.now (g.R.Handlers.slots c.args.rack.now) refl refl

pub returns-in-Err-read_value : goal.returns-in-Err-read_value
returns-in-Err-read_value g c =
    let k = c.in-Err-read_value.ensures in
    read_done c.args.spot c.args.conditions.now k.called (Err c.in-Err-read_value.outcome) c.in-Err-read_value.outcome c.args.machine.now c.read_value.new.machine c.read_value.new.machine
    (g.R.Handlers.slots c.args.rack.now) (g.R.Handlers.slots c.read_value.new.rack) (makes_call (λ called. IsValueOf called (Err c.in-Err-read_value.outcome)) c.args.spot.slot c.args.spot.slot call.Read c.args.machine.now c.read_value.new.machine (g.R.Handlers.slots c.args.rack.now) (g.R.Handlers.slots c.read_value.new.rack) refl k)
    (k.comes c.args.spot.affordance.output) refl refl refl

pub returns-in-Some : goal.returns-in-Some
returns-in-Some g c =
    let k = c.in-Ok-read_value.ensures in
    let slot : c.slot.result ≡ c.args.spot.slot = c.slot.ensures in
    let text : c.in-Some.text.now ≡ json_text c.in-Ok-read_value.value = c.in-Some.ensures.1 in
    let state : c.see-version.new.self.state ≡ with_seen c.args.spot.slot (json_text c.in-Ok-read_value.value) c.read_value.new.machine.state =
    ap (λ (x : Course). x.state) c.see-version.ensures.seen ∙ (λ i. with_seen (slot i) (text i) c.read_value.new.machine.state) in
    read_done c.args.spot c.args.conditions.now k.called (Ok (json_of c.in-Ok-read_value.value)) c.judged.result c.args.machine.now c.read_value.new.machine c.see-version.new.self
    (g.R.Handlers.slots c.args.rack.now) (g.R.Handlers.slots c.read_value.new.rack) (makes_call (λ called. IsValueOf called (Ok c.in-Ok-read_value.value)) c.args.spot.slot c.args.spot.slot call.Read c.args.machine.now c.read_value.new.machine (g.R.Handlers.slots c.args.rack.now) (g.R.Handlers.slots c.read_value.new.rack) refl k)
    (value_taken c.args.spot.affordance.output k.called c.in-Ok-read_value.value k.comes (subst (λ (x : Affordance). IsTaken x.output (json_of c.in-Ok-read_value.value)) c.affordance.ensures c.in-Some.ensures.0))
    state (ap (λ (x : Course). x.pending) c.see-version.ensures.seen)
    (c.judged.ensures
    ∙ (λ i. read_outcome c.args.conditions.now ((c.see-version.ensures.version ∙ ap (λ (n : ℕ). version_of n c.see-version.new.self.state.versions) slot) i) (text i)))

pub returns-in-None : goal.returns-in-None
returns-in-None g c =
    let k = c.in-Ok-read_value.ensures in
    read_done c.args.spot c.args.conditions.now k.called (Err outcome.BadAnswer) outcome.BadAnswer c.args.machine.now c.read_value.new.machine c.read_value.new.machine
    (g.R.Handlers.slots c.args.rack.now) (g.R.Handlers.slots c.read_value.new.rack) (makes_call (λ called. IsValueOf called (Ok c.in-Ok-read_value.value)) c.args.spot.slot c.args.spot.slot call.Read c.args.machine.now c.read_value.new.machine (g.R.Handlers.slots c.args.rack.now) (g.R.Handlers.slots c.read_value.new.rack) refl k)
    (value_refused c.args.spot.affordance.output k.called c.in-Ok-read_value.value k.comes (subst (λ (x : Affordance). ¬ (IsTaken x.output (json_of c.in-Ok-read_value.value))) c.affordance.ensures c.in-None.ensures)) refl refl refl

pub see-version-requires-clause-room : goal.see-version-requires-clause-room
see-version-requires-clause-room g c =
    let k = c.in-Ok-read_value.ensures in
    subst (λ (x : Called). HasRoomAfter x c.read_value.new.machine.state) k.comes k.versions
