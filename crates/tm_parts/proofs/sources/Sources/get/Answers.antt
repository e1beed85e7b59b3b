use Rattle.std.proofs.Common.{rules, ap, ◌∙◌}
use Rattle.std.specs.Prelude.{Some, Result}
use Rattle.std.proofs.lemmas.Fn.{always_returns_same}
use Rattle.wot_json.specs.Tree.{Json}
use Rattle.tm_parts.specs.declared.substitution.PartFault.{PartFault}
use Rattle.tm_parts.proofs.Halving.{order_of, name_by_halving}
use Rattle.tm_parts.proofs.SourceLookup.{url_of, found_by_halving, missing_by_halving}
use Rattle.tm_parts.proofs.sources.Sources.get.Goals as goal

pub returns-in-Ok-clause-model : goal.returns-in-Ok-clause-model
returns-in-Ok-clause-model c =
    let searched = c.in-Ok.ensures in
    ap (λ (m : Result Json PartFault). Some m) c.entered.ensures.model
    ∙ found_by_halving c.self.inside.models.items c.deref.result.now c.self.inside.values c.args.self.now c.args.url.now c.in-Ok.place c.index.result.now c.deref.ensures.value c.self.view_is c.self.invariant searched.bound
    (searched.position (order_of url_of c.args.url.now) (always_returns_same _ _ _ (λ a r g called. (search rules, search rules)))) c.index.ensures

pub returns-in-Ok-clause-location : goal.returns-in-Ok-clause-location
returns-in-Ok-clause-location c =
    let searched = c.in-Ok.ensures in
    c.entered.ensures.location
    ∙ name_by_halving url_of c.self.inside.models.items c.deref.result.now c.args.url.now c.in-Ok.place c.index.result.now c.deref.ensures.value
    (searched.position (order_of url_of c.args.url.now) (always_returns_same _ _ _ (λ a r g called. (search rules, search rules)))) c.index.ensures

pub returns-in-Err-clause-model : goal.returns-in-Err-clause-model
returns-in-Err-clause-model c =
    let searched = c.in-Err.ensures in
    missing_by_halving c.self.inside.models.items c.deref.result.now c.self.inside.values c.args.self.now c.args.url.now c.in-Err.field-0 c.deref.ensures.value c.self.view_is c.self.invariant
    (searched.position (order_of url_of c.args.url.now) (always_returns_same _ _ _ (λ a r g called. (search rules, search rules))))
