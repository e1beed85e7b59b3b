use Rattle.std.proofs.Common.{◌+◌, ◌++◌, List, map, drop, ap, sym, ◌∙◌, arith}
use Rattle.std.specs.List.{filter}
use Rattle.std.proofs.lemmas.List.{append-nil, at_drop_all}
use Rattle.thing_state.specs.State.{LastValue, silent}
use Rattle.thing_site.specs.Site.{Placed, is_emitter}
use Rattle.thing_state.proofs.PlacedLists.{placed_more, placed_end, silent_more}
use Rattle.thing_state.proofs.emitters.push_silent.Goals as goal

pub returns-in-None : goal.returns-in-None
returns-in-None c =
    sym (append-nil c.loop-index.last.items)
    ∙ ap (λ (l : List LastValue). c.loop-index.last.items ++ l) (sym (placed_end (λ (ps : List Placed). map silent (filter is_emitter ps)) c.args.thing.now.affordances c.loop-index.index (sym c.in-None.ensures)))
    ∙ c.loop-index.invariant

pub loop-index-preserved : goal.loop-index-preserved
loop-index-preserved c =
    sym (silent_more c.loop-index.last.items c.push_if_emitter.new.last.items c.in-Some.spot (drop (c.loop-index.index + 1) c.args.thing.now.affordances) c.in_ok-push_if_emitter.ensures)
    ∙ ap (λ (l : List LastValue). c.loop-index.last.items ++ l)
    (sym (placed_more (λ (ps : List Placed). map silent (filter is_emitter ps)) c.args.thing.now.affordances c.loop-index.index c.in-Some.spot (sym c.in-Some.ensures)))
    ∙ c.loop-index.invariant

pub returns : goal.returns
returns c =
    sym (append-nil c.loop-index.last.items)
    ∙ ap (λ (l : List LastValue). c.loop-index.last.items ++ l)
    (sym (at_drop_all (λ (ps : List Placed). map silent (filter is_emitter ps)) c.args.thing.now.affordances c.loop-index.index (omega (arith, c.loop-index-test.false, c.len-index-end.ensures))))
    ∙ c.loop-index.invariant
