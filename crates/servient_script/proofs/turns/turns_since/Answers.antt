use Rattle.std.proofs.Common.{◌≡◌, ◌∙◌, ◌++◌, ◌∷◌, [], List, ℕ, map, take, sym, ap, arith, add-one, length}
use Rattle.std.proofs.lemmas.List.{map-append}
use Rattle.thing_handler.specs.declared.handler.Turn.{Turn}
use Rattle.servient_script.specs.Merging.{turns_after}
use Rattle.servient_script.proofs.MergeLaws.{as_long, kept_at, after_more, after_all}
use Rattle.servient_script.proofs.turns.turns_since.Goals as goal

pub turns-requires : goal.turns-requires
turns-requires g c = omega (arith, c.loop-slot-test.true, as_long c.args.counts.now (g.R.Handlers.slots c.args.rack.now) c.requires)

pub split_at-requires : goal.split_at-requires
split_at-requires g c = kept_at c.args.counts.now (g.R.Handlers.slots c.args.rack.now) c.loop-slot.slot 0 c.turns.result.now c.requires c.loop-slot-test.true c.turns.ensures

pub loop-slot-preserved : goal.loop-slot-preserved
loop-slot-preserved g c =
    let slots = g.R.Handlers.slots c.args.rack.now in
    let more = after_more c.args.counts.now slots c.loop-slot.slot 0 c.turns.result.now c.requires c.loop-slot-test.true c.turns.ensures in
    ap (map (λ turns. turns.now)) c.in_ok-push.ensures.items ∙ map-append (λ turns. turns.now) c.loop-slot.since.items (c.split_at.result.1 ∷ [])
    ∙ ap (λ (ts : List (List Turn)). ts ++ c.split_at.result.1.now ∷ []) c.loop-slot.invariant
    ∙ ap (λ (t : List Turn). take c.loop-slot.slot (turns_after c.args.counts.now slots) ++ t ∷ []) c.split_at.ensures.back
    ∙ sym more ∙ ap (λ (n : ℕ). take n (turns_after c.args.counts.now slots)) (sym (add-one c.loop-slot.slot))

pub returns : goal.returns
returns g c =
    let slots = g.R.Handlers.slots c.args.rack.now in
    c.loop-slot.invariant ∙ ends c.loop-slot.slot (omega (arith, c.loop-slot.auto.slot-end, c.loop-slot-test.false)) ∙ after_all c.args.counts.now slots c.requires
  where
    ends : (i : ℕ) → length c.args.counts.now ≡ i → take i (turns_after c.args.counts.now (g.R.Handlers.slots c.args.rack.now)) ≡ take (length c.args.counts.now) (turns_after c.args.counts.now (g.R.Handlers.slots c.args.rack.now))
    ends i same = ap (λ (n : ℕ). take n (turns_after c.args.counts.now (g.R.Handlers.slots c.args.rack.now))) (sym same)
