use Rattle.std.proofs.Common.{◌+◌, ◌++◌, List, [], ◌∷◌, drop, ap, sym, ◌∙◌, append_assoc, arith}
use Rattle.std.proofs.lemmas.List.{append-nil, at_drop_all}
use Rattle.thing_site.specs.Site.{Placed}
use Rattle.thing_state.proofs.PlacedLists.{placed_more, placed_end}
use Rattle.thing_core.proofs.PlacedLists.{readable_of, readable_more}
use Rattle.thing_core.proofs.reading.fields_of.Goals as goal

pub returns-in-None : goal.returns-in-None
returns-in-None c =
    sym (append-nil c.loop-index.fields.items)
    ∙ ap (λ (l : List Placed). c.loop-index.fields.items ++ l) (sym (placed_end readable_of c.args.thing.now.affordances c.loop-index.index (sym c.in-None.ensures)))
    ∙ c.loop-index.invariant

pub loop-index-preserved : goal.loop-index-preserved
loop-index-preserved c =
    let p : Placed = c.in-Some.spot in
    let rest : List Placed = drop (c.loop-index.index + 1) c.args.thing.now.affordances in
    ap (λ (l : List Placed). l ++ readable_of rest) c.in_ok-push_if_readable.ensures
    ∙ append_assoc c.loop-index.fields.items (readable_of (p ∷ [])) (readable_of rest)
    ∙ ap (λ (l : List Placed). c.loop-index.fields.items ++ l)
    (sym (readable_more p rest) ∙ sym (placed_more readable_of c.args.thing.now.affordances c.loop-index.index p (sym c.in-Some.ensures)))
    ∙ c.loop-index.invariant

pub returns : goal.returns
returns c =
    sym (append-nil c.loop-index.fields.items)
    ∙ ap (λ (l : List Placed). c.loop-index.fields.items ++ l)
    (sym (at_drop_all readable_of c.args.thing.now.affordances c.loop-index.index (omega (arith, c.loop-index-test.false, c.len-index-end.ensures))))
    ∙ c.loop-index.invariant
