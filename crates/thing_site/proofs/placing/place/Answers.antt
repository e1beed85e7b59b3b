use Rattle.std.proofs.Common.{List, ℕ, map, ap, ◌∙◌}
use Rattle.std.proofs.lemmas.Result.{err_from_is_err_and}
use Rattle.wot_json.specs.Meaning.{json_of}
use Rattle.wot_terms.specs.declared.affordance.Affordance.{Affordance}
use Rattle.wot_terms.specs.ThingLists.{kept_thing}
use Rattle.thing_site.specs.Site.{ExposedThing, wanted_by}
use Rattle.thing_site.specs.Exposing.{kinds_of}
use Rattle.thing_site.specs.Order.{are_rising}
use Rattle.thing_site.proofs.RisingLaws.{affordances_rise}
use Rattle.thing_site.proofs.Judging.{placed_well, placed_faulty}
use Rattle.thing_site.proofs.placing.place.Goals as goal

pub returns-in_err-slots : goal.returns-in_err-slots
returns-in_err-slots g c =
    let p = err_from_is_err_and c.from_residual-in_err-slots.result c.from_residual-in_err-slots.ensures.1 in
    rw (p.1, p.2)
    (placed_faulty (kinds_of (g.R.Handlers.slots c.args.rack.now)) c.args.slots.now (kept_thing c.args.thing.now) c.args.earlier.now.items c.judge_all.new.earlier.items
    c.in_err-slots.field-0.0 c.in_ok-wanted.wanted.items
    (c.in_ok-wanted.ensures
    ∙ ap (λ (segment : List ℕ). map (wanted_by c.args.slots.now segment) c.affordances-2.result.now) c.as_str.ensures
    ∙ ap (λ (list : List Affordance). map (wanted_by c.args.slots.now c.args.thing.now.segment) list) (c.affordances-2.ensures ∙ c.in_ok-affordances.ensures))
    c.in_err-slots.ensures.fault)

pub of-requires-2 : goal.of-requires-2
of-requires-2 g c = ap are_rising c.in_ok-affordances.ensures ∙ affordances_rise (json_of c.args.thing.now.tree) c.tree_is_well_formed.ensures

pub returns : goal.returns
returns g c =
    let held = c.of-2.ensures in
    placed_well (kinds_of (g.R.Handlers.slots c.args.rack.now)) c.args.slots.now (kept_thing c.args.thing.now) c.args.earlier.now.items c.judge_all.new.earlier.items
    c.of-2.result c.in_ok-affordances.affordances c.in_ok-slots.slots.items c.in_ok-wanted.wanted.items
    (ap (λ (t : ExposedThing). t.segment) held ∙ c.in_ok-segment.ensures ∙ c.as_str-2.ensures) (ap (λ (t : ExposedThing). t.description) held ∙ ap json_of c.in_ok-tree.ensures)
    (ap (λ (t : ExposedThing). t.affordances) held) c.in_ok-affordances.ensures
    (c.in_ok-wanted.ensures
    ∙ ap (λ (segment : List ℕ). map (wanted_by c.args.slots.now segment) c.affordances-2.result.now) c.as_str.ensures
    ∙ ap (λ (list : List Affordance). map (wanted_by c.args.slots.now c.args.thing.now.segment) list) (c.affordances-2.ensures ∙ c.in_ok-affordances.ensures))
    c.in_ok-slots.ensures.slots c.in_ok-slots.ensures.ok
