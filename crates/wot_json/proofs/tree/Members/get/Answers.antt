use Rattle.std.proofs.Common.{rules}
use Rattle.std.proofs.lemmas.Fn.{always_returns_same}
use Rattle.wot_json.proofs.NameLookup.{order_of, found_by_halving, missing_by_halving}
use Rattle.wot_json.proofs.tree.Members.get.Goals as goal

pub returns-in-Ok : goal.returns-in-Ok
returns-in-Ok c =
    let searched = c.in-Ok.ensures in
    found_by_halving c.self.inside.list.items c.deref.result.now c.args.self.now c.args.name.now c.in-Ok.place c.index.result.now c.deref.ensures.value c.self.view_is c.self.invariant searched.bound
    (searched.position (order_of c.args.name.now) (always_returns_same _ _ _ (λ a r g called. (search rules, search rules)))) c.index.ensures

pub returns-in-Err : goal.returns-in-Err
returns-in-Err c =
    let searched = c.in-Err.ensures in
    missing_by_halving c.self.inside.list.items c.deref.result.now c.args.self.now c.args.name.now c.in-Err.field-0 c.deref.ensures.value c.self.view_is c.self.invariant
    (searched.position (order_of c.args.name.now) (always_returns_same _ _ _ (λ a r g called. (search rules, search rules))))
