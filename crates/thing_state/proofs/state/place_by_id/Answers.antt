use Rattle.std.proofs.Common.{rules}
use Rattle.std.proofs.lemmas.Fn.{always_returns_same}
use Rattle.thing_state.specs.State.{running}
use Rattle.thing_state.proofs.IdLaws.{id_order, place_by_halving, no_place_by_halving}
use Rattle.thing_state.proofs.state.place_by_id.Goals as goal

pub returns-in-Ok : goal.returns-in-Ok
returns-in-Ok c =
    let searched = c.in-Ok.ensures in
    place_by_halving c.args.invocations.now c.args.id c.in-Ok.index (record { id = 0; slot = 0; status = running }) c.requires searched.bound
    (searched.position (id_order c.args.id) (always_returns_same _ _ _ (λ a r g called. (search rules, search rules))))

pub returns-in-Err : goal.returns-in-Err
returns-in-Err c =
    let searched = c.in-Err.ensures in
    no_place_by_halving c.args.invocations.now c.args.id c.in-Err.field-0 (record { id = 0; slot = 0; status = running }) c.requires
    (searched.position (id_order c.args.id) (always_returns_same _ _ _ (λ a r g called. (search rules, search rules))))
