use Rattle.std.proofs.Common.{rules, List, ℕ, ap, ◌∙◌}
use Rattle.std.proofs.lemmas.Fn.{always_returns_same}
use Rattle.wot_json.specs.Tree.{Json}
use Rattle.tm_parts.specs.Kept.{kept_values}
use Rattle.tm_parts.specs.Substitution.{bound_value}
use Rattle.tm_parts.proofs.Halving.{order_of, found_by_halving, missing_by_halving}
use Rattle.tm_parts.proofs.Named.{name_of, value_of, bound_is_found}
use Rattle.tm_parts.proofs.values.Values.get.Goals as goal

pub returns-in-Ok : goal.returns-in-Ok
returns-in-Ok c =
    let searched = c.in-Ok.ensures in
    found_by_halving name_of value_of c.self.inside.list.items c.deref.result.now c.args.name.now c.in-Ok.place c.index.result.now c.deref.ensures.value c.self.invariant searched.bound
    (searched.position (order_of name_of c.args.name.now) (always_returns_same _ _ _ (λ a r g called. (search rules, search rules)))) c.index.ensures
    ∙ bound_is_found c.args.name.now (kept_values c.self.inside.list.items) ∙ ap (λ (values : List (List ℕ × Json)). bound_value c.args.name.now values) c.self.view_is

pub returns-in-Err : goal.returns-in-Err
returns-in-Err c =
    let searched = c.in-Err.ensures in
    missing_by_halving name_of value_of c.self.inside.list.items c.deref.result.now c.args.name.now c.in-Err.field-0 c.deref.ensures.value c.self.invariant
    (searched.position (order_of name_of c.args.name.now) (always_returns_same _ _ _ (λ a r g called. (search rules, search rules))))
    ∙ bound_is_found c.args.name.now (kept_values c.self.inside.list.items) ∙ ap (λ (values : List (List ℕ × Json)). bound_value c.args.name.now values) c.self.view_is
