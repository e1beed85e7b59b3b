use Rattle.std.proofs.Common.{◌+◌, ◌++◌, List, map, drop, ap, sym, ◌∙◌, arith}
use Rattle.std.proofs.lemmas.List.{append-nil, at_drop_all}
use Rattle.thing_state.specs.State.{Version, unseen}
use Rattle.thing_site.specs.Site.{Placed}
use Rattle.thing_state.proofs.PlacedLists.{placed_more, placed_end, properties_among, unseen_more}
use Rattle.thing_state.proofs.properties.push_unseen.Goals as goal

pub returns-in-None : goal.returns-in-None
returns-in-None c =
    sym (append-nil c.loop-index.versions.items)
    ∙ ap (λ (l : List Version). c.loop-index.versions.items ++ l) (sym (placed_end (λ (ps : List Placed). map (unseen c.args.left_out) (properties_among ps)) c.args.thing.now.affordances c.loop-index.index (sym c.in-None.ensures)))
    ∙ c.loop-index.invariant

pub loop-index-preserved : goal.loop-index-preserved
loop-index-preserved c =
    sym (unseen_more c.args.left_out c.loop-index.versions.items c.push_if_property.new.versions.items c.in-Some.spot (drop (c.loop-index.index + 1) c.args.thing.now.affordances) c.in_ok-push_if_property.ensures)
    ∙ ap (λ (l : List Version). c.loop-index.versions.items ++ l)
    (sym (placed_more (λ (ps : List Placed). map (unseen c.args.left_out) (properties_among ps)) c.args.thing.now.affordances c.loop-index.index c.in-Some.spot (sym c.in-Some.ensures)))
    ∙ c.loop-index.invariant

pub returns : goal.returns
returns c =
    sym (append-nil c.loop-index.versions.items)
    ∙ ap (λ (l : List Version). c.loop-index.versions.items ++ l)
    (sym (at_drop_all (λ (ps : List Placed). map (unseen c.args.left_out) (properties_among ps)) c.args.thing.now.affordances c.loop-index.index (omega (arith, c.loop-index-test.false, c.len-index-end.ensures))))
    ∙ c.loop-index.invariant
