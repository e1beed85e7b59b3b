use Rattle.std.proofs.Common.{◌∙◌, refl, sym, arith}
use Rattle.thing_core.proofs.RoundLaws.{left_behind, left_next, left_none}
use Rattle.thing_core.proofs.polling.next_event.Goals as goal

pub loop-round-init : goal.loop-round-init
loop-round-init c = refl

pub returns-in-Some : goal.returns-in-Some
returns-in-Some c =
    sym c.loop-round.invariant
    ∙ left_next c.args.things.now c.loop-round.round.thing c.loop-round.round.affordance c.event_from.new.number c.index-things-round.result c.in-Some.spot
    c.loop-round-test.true c.index-things-round.is c.in-Some.ensures

pub loop-round-preserved : goal.loop-round-preserved
loop-round-preserved c =
    left_behind c.args.things.now c.loop-round.round.thing c.loop-round.round.affordance c.index-things-round.result c.loop-round-test.true c.index-things-round.is c.in_default.ensures
    ∙ c.loop-round.invariant

pub returns : goal.returns
returns c =
    let none = left_none c.args.things.now c.loop-round.round.thing c.loop-round.round.affordance (omega (arith, c.loop-round-test.false)) in
    (sym c.loop-round.invariant ∙ none, none)
