use Rattle.std.proofs.Common.{◌<◌, ◌++◌, ◌∷◌, [], ◌∙◌, ap, arith, List, ℕ}
use Rattle.std.proofs.lemmas.Result.{err_from_is_err_and}
use Rattle.wot_json.specs.Meaning.{json_of}
use Rattle.tm_derive.specs.Kept.{given_of}
use Rattle.tm_derive.proofs.Putting.{place_more, thing_put, thing_refused}
use Rattle.tm_derive.proofs.derivation.+put_thing.Goals as goal

pub put_thing-returns-in_err-made : goal.put_thing-returns-in_err-made
put_thing-returns-in_err-made t c =
    let p = err_from_is_err_and c.from_residual.result c.from_residual.ensures.1 in
    let some : 0 < c.args.room = omega (arith, c.if-room-eq0.false) in
    rw (p.1, p.2)
    (thing_refused c.args.room (given_of c.args.common.now) c.args.above.now c.args.place.now c.in_err-made.field-0.0 some c.in_err-made.ensures)

pub put_thing-returns : goal.put_thing-returns
put_thing-returns t c =
    let some : 0 < c.args.room = omega (arith, c.if-room-eq0.false) in
    let tree = json_of c.in_ok-made.made.tree in
    thing_put c.args.room (given_of c.args.common.now) c.args.above.now c.as_slice.result.now c.args.place.now c.as_slice-2.result.now tree c.args.things.now c.push.new.self c.put_things.new.things c.put_things.result some
    c.in_ok-made.ensures.0 c.in_ok-made.ensures.2
    (c.in_ok-push.ensures.ok ∙ ap (λ (s : List ℕ). c.args.things.now ++ (s, tree) ∷ []) (c.in_ok-segment.ensures ∙ c.as_str.ensures))
    (c.as_slice.ensures.value ∙ c.in_ok-models.ensures ∙ ap (λ (u : List ℕ). c.args.above.now ++ u ∷ []) c.as_str-2.ensures)
    (c.as_slice-2.ensures.value ∙ c.in_ok-made.ensures.1)
    c.put_things.ensures

pub put_things-loop-place-preserved : goal.put_things-loop-place-preserved
put_things-loop-place-preserved t c =
    place_more c.args.room (given_of c.args.common.now) c.args.above.now c.args.places.now c.args.things.now c.loop-place.things c.put_thing.new.things c.loop-place.place-index c.place-item.result
    c.loop-place-test.true c.place-item.is c.loop-place.invariant c.in_ok-put_thing.ensures.0 c.in_ok-put_thing.ensures.1 c.in_ok-put_thing.ensures.2
