use Rattle.std.proofs.Common.{◌≡◌, ◌∙◌, [], List, ℕ, ap, true, None, false, rules}
use Rattle.std.proofs.lemmas.Fn.{always_returns_same}
use Rattle.wot_terms.specs.declared.affordance.Affordance.{Affordance}
use Rattle.thing_site.specs.Order.{are_rising}
use Rattle.thing_site.specs.Exposing.{placed_all}
use Rattle.thing_site.specs.Site.{Placed, ExposedThing, affordance_named}
use Rattle.thing_site.proofs.Halving.{order_of, found_by_halving, missing_by_halving}
use Rattle.thing_site.proofs.held.HeldThing.affordance.Goals as goal

pub returns-in-Ok : goal.returns-in-Ok
returns-in-Ok c =
    let searched = c.in-Ok.ensures in
    let rising : are_rising c.affordances-affordances.result.now ≡ true = ap (λ (list : List Affordance). are_rising list) c.affordances-affordances.ensures ∙ c.self.invariant in
    let shown : placed_all c.affordances-affordances.result.now c.as_slice.result.now ≡ c.args.self.now.affordances =
    ap (λ (list : List Affordance). placed_all list c.as_slice.result.now) c.affordances-affordances.ensures
    ∙ ap (λ (slots : List ℕ). placed_all c.self.inside.affordances slots) c.as_slice.ensures.value
    ∙ ap (λ (thing : ExposedThing). thing.affordances) c.self.view_is in
    c.spot_at.ensures
    ∙ found_by_halving c.affordances-affordances.result.now c.as_slice.result.now c.args.kind c.args.name.now c.in-Ok.index
    (record { kind = c.args.kind; name = []; input = None; output = None; read_only = false; write_only = false; observable = false }) rising searched.bound
    (searched.position (order_of c.args.kind c.args.name.now) (always_returns_same _ _ _ (λ a r g called. (search rules, search rules))))
    ∙ ap (λ (placed : List Placed). affordance_named c.args.kind c.args.name.now placed) shown

pub returns-in-Err : goal.returns-in-Err
returns-in-Err c =
    let searched = c.in-Err.ensures in
    let rising : are_rising c.affordances-affordances.result.now ≡ true = ap (λ (list : List Affordance). are_rising list) c.affordances-affordances.ensures ∙ c.self.invariant in
    let shown : placed_all c.affordances-affordances.result.now c.self.inside.slots.items ≡ c.args.self.now.affordances =
    ap (λ (list : List Affordance). placed_all list c.self.inside.slots.items) c.affordances-affordances.ensures
    ∙ ap (λ (thing : ExposedThing). thing.affordances) c.self.view_is in
    missing_by_halving c.affordances-affordances.result.now c.self.inside.slots.items c.args.kind c.args.name.now c.in-Err.field-0
    (record { kind = c.args.kind; name = []; input = None; output = None; read_only = false; write_only = false; observable = false }) rising
    (searched.position (order_of c.args.kind c.args.name.now) (always_returns_same _ _ _ (λ a r g called. (search rules, search rules))))
    ∙ ap (λ (placed : List Placed). affordance_named c.args.kind c.args.name.now placed) shown
