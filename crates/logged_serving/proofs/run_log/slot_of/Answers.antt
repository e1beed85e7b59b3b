use Rattle.std.proofs.Common.{◌∙◌, sym, ap, arith}
use Rattle.servient_script.specs.Merging.{begins_with, turns_after}
use Rattle.servient_script.proofs.MergeLaws.{as_long, kept_at}
use Rattle.logged_serving.proofs.Counting.{later_at, as_many_after, slot_found, no_slot, none_more}
use Rattle.logged_serving.proofs.run_log.slot_of.Goals as goal

pub turns-requires : goal.turns-requires
turns-requires g c = omega (arith, c.loop-slot-test.true, as_long c.args.written.now (g.R.Handlers.slots c.args.rack.now) c.requires)

pub split_at-requires : goal.split_at-requires
split_at-requires g c = kept_at c.args.written.now (g.R.Handlers.slots c.args.rack.now) c.loop-slot.slot 0 c.turns.result.now c.requires c.loop-slot-test.true c.turns.ensures

pub returns-then-begins_with : goal.returns-then-begins_with
returns-then-begins_with g c =
    let slots = g.R.Handlers.slots c.args.rack.now in
    let here = later_at c.args.written.now slots c.loop-slot.slot 0 c.turns.result.now c.requires c.loop-slot-test.true c.turns.ensures in
    sym (slot_found c.args.number c.loop-slot.slot (turns_after c.args.written.now slots) (omega (arith, c.loop-slot-test.true, as_many_after c.args.written.now slots c.requires)) c.loop-slot.invariant
    (ap (begins_with c.args.number) (here ∙ sym c.split_at.ensures.back) ∙ sym c.begins_with.ensures ∙ c.if-begins_with.true))

pub loop-slot-preserved : goal.loop-slot-preserved
loop-slot-preserved g c =
    let slots = g.R.Handlers.slots c.args.rack.now in
    let here = later_at c.args.written.now slots c.loop-slot.slot 0 c.turns.result.now c.requires c.loop-slot-test.true c.turns.ensures in
    none_more c.args.number c.loop-slot.slot (turns_after c.args.written.now slots) c.loop-slot.invariant
    (ap (begins_with c.args.number) (here ∙ sym c.split_at.ensures.back) ∙ sym c.begins_with.ensures ∙ c.if-begins_with.false)

pub returns : goal.returns
returns g c =
    let slots = g.R.Handlers.slots c.args.rack.now in
    sym (no_slot c.args.number c.loop-slot.slot (turns_after c.args.written.now slots)
    (omega (arith, c.loop-slot.auto.slot-end, c.loop-slot-test.false, as_many_after c.args.written.now slots c.requires)) c.loop-slot.invariant)
