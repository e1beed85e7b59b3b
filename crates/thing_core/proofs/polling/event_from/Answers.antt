use Rattle.std.proofs.Common.{◌∙◌, sym, ap, refl}
use Rattle.thing_core.proofs.polling.event_from.Goals as goal
use Rattle.std.proofs.Common.{arith}
use Rattle.std.proofs.lemmas.List.{at_drop_all}
use Rattle.wot_terms.specs.declared.kind.Kind.TheVariants as kind
use Rattle.wot_terms.specs.declared.affordance.Affordance.{Affordance}
use Rattle.thing_site.specs.Site.{is_kind}
use Rattle.thing_core.proofs.PlacedLists.{events_among}
use Rattle.thing_state.proofs.PlacedLists.{placed_end}
use Rattle.thing_core.proofs.RoundLaws.{next_is_event, next_is_none}

pub loop-index-init : goal.loop-index-init
loop-index-init c = refl

pub returns-in-None : goal.returns-in-None
returns-in-None c = c.loop-index.invariant ∙ placed_end events_among c.args.thing.now.affordances c.loop-index.index (sym c.spot.ensures ∙ c.in-None.is)

pub returns-then-is_kind : goal.returns-then-is_kind
returns-then-is_kind c =
    c.loop-index.invariant
    ∙ next_is_event c.args.thing.now.affordances c.loop-index.index c.in-Some.spot (sym c.spot.ensures ∙ c.in-Some.is)
    (sym (c.is_kind.ensures ∙ ap (λ (x : Affordance). is_kind kind.Event x.kind) c.affordance.ensures) ∙ c.if-is_kind.true)

pub loop-index-preserved : goal.loop-index-preserved
loop-index-preserved c =
    c.loop-index.invariant
    ∙ next_is_none c.args.thing.now.affordances c.loop-index.index c.in-Some.spot (sym c.spot.ensures ∙ c.in-Some.is)
    (sym (c.is_kind.ensures ∙ ap (λ (x : Affordance). is_kind kind.Event x.kind) c.affordance.ensures) ∙ c.if-is_kind.false)

pub returns : goal.returns
returns c = c.loop-index.invariant ∙ at_drop_all events_among c.args.thing.now.affordances c.loop-index.index (omega (arith, c.loop-index-test.false, c.len-index-end.ensures))
