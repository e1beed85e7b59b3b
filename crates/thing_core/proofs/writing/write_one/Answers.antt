use Rattle.std.proofs.Common.{◌≡◌, ◌∙◌, ◌++◌, map, ap, subst, false, rules}
use Rattle.std.specs.Prelude.{Err}
use Rattle.thing_state.specs.State.{Emission, last_after, versions_after}
use Rattle.thing_handler.specs.declared.handler.Answer.{Answer}
use Rattle.thing_handler.specs.declared.handler.CallKind.TheVariants as call
use Rattle.thing_site.specs.Site.{Placed}
use Rattle.thing_state.specs.Calls.{Called, gives, ComesAs, HasRoomAfter}
use Rattle.thing_core.specs.Thing.{emissions_of_write}
use Rattle.thing_core.specs.Performing.{emissions_of_text, is_done}
use Rattle.thing_state.proofs.CallLaws.{makes_answered, makes_call}
use Rattle.thing_core.proofs.WriteLoop.{write_goes_on, write_stops, unanswered_write}
use Rattle.thing_core.proofs.writing.write_one.Goals as goal

pub returns-in-Done-clause-written : goal.returns-in-Done-clause-written
returns-in-Done-clause-written g c =
    let parts = c.into_parts-spot.result in
    let spot : c.slot.result ≡ c.args.input.affordance.slot = c.slot.ensures ∙ ap (λ (p : Placed). p.slot) c.into_parts-spot.ensures.spot in
    let same : emissions_of_text parts.0 c.as_slice.result.now ≡ emissions_of_write c.args.input =
    λ k. emissions_of_text (c.into_parts-spot.ensures.spot k) ((c.as_slice.ensures ∙ c.into_parts-spot.ensures.text) k) in (
      c.keep_written.ensures.pending
          ∙ (λ k. c.in-Ok.ensures.pending k ++ map (λ (e : Emission). e.target) (same k)),
      write_goes_on c.args.input parts.1 (gives c.in-Ok.answer) c.args.machine.now c.call.new.machine c.keep_written.new.machine
          (g.R.Handlers.slots c.args.rack.now) (g.R.Handlers.slots c.call.new.rack) c.into_parts-spot.ensures.value
          (makes_answered c.slot.result c.args.input.affordance.slot (call.Write parts.1) c.in-Ok.answer c.args.machine.now c.call.new.machine (g.R.Handlers.slots c.args.rack.now) (g.R.Handlers.slots c.call.new.rack) spot c.in-Ok.ensures) (ap (λ (x : Answer). is_done (gives x)) c.in-Done.is)
          (c.keep_written.ensures.state ∙ (λ k. record c.call.new.machine.state {
            versions = versions_after (c.into_parts-spot.ensures.spot k).slot ((c.as_slice.ensures ∙ c.into_parts-spot.ensures.text) k) c.call.new.machine.state.versions;
            last = last_after (same k) c.call.new.machine.state.last;
          })),
    )

pub returns-clause-written : goal.returns-clause-written
returns-clause-written g c =
    let isnt : is_done (gives c.in-Ok.answer) ≡ false = search rules in
    let parts = c.into_parts-spot.result in
    let spot : c.slot.result ≡ c.args.input.affordance.slot = c.slot.ensures ∙ ap (λ (p : Placed). p.slot) c.into_parts-spot.ensures.spot in (
      c.in-Ok.ensures.pending,
      write_stops c.args.input parts.1 (gives c.in-Ok.answer) c.failure.result c.args.machine.now c.call.new.machine
          (g.R.Handlers.slots c.args.rack.now) (g.R.Handlers.slots c.call.new.rack) c.into_parts-spot.ensures.value
          (makes_answered c.slot.result c.args.input.affordance.slot (call.Write parts.1) c.in-Ok.answer c.args.machine.now c.call.new.machine (g.R.Handlers.slots c.args.rack.now) (g.R.Handlers.slots c.call.new.rack) spot c.in-Ok.ensures) isnt c.failure.ensures,
    )

pub returns-in-Err-clause-written : goal.returns-in-Err-clause-written
returns-in-Err-clause-written g c =
    let k = c.in-Err.ensures in
    let parts = c.into_parts-spot.result in
    let spot : c.slot.result ≡ c.args.input.affordance.slot = c.slot.ensures ∙ ap (λ (p : Placed). p.slot) c.into_parts-spot.ensures.spot in (
      k.pending,
      write_stops c.args.input parts.1 k.called c.in-Err.outcome c.args.machine.now c.call.new.machine
          (g.R.Handlers.slots c.args.rack.now) (g.R.Handlers.slots c.call.new.rack) c.into_parts-spot.ensures.value
          (makes_call (λ called. ComesAs called (Err c.in-Err.outcome)) c.slot.result c.args.input.affordance.slot (call.Write parts.1) c.args.machine.now c.call.new.machine (g.R.Handlers.slots c.args.rack.now) (g.R.Handlers.slots c.call.new.rack) spot k)
          (unanswered_write k.called c.in-Err.outcome k.comes).0 (unanswered_write k.called c.in-Err.outcome k.comes).1,
    )

pub keep_written-requires-clause-versions : goal.keep_written-requires-clause-versions
keep_written-requires-clause-versions g c =
    let k = c.in-Ok.ensures in
    subst (λ (x : Called). HasRoomAfter x c.call.new.machine.state) k.comes k.versions
