use Rattle.std.proofs.Common.{◌+◌, ◌<◌, List, ℕ, length, take, sym, subst, arith}
use Rattle.thing_site.specs.Index.{Indexes}
use Rattle.thing_site.proofs.IndexLaws.{added_same, added_new}
use Rattle.thing_site.proofs.indexed.add_number.Goals as goal

pub returns-in-Ok : goal.returns-in-Ok
returns-in-Ok c =
    let within : c.args.number < length c.args.things.now = omega (arith, c.requires.number) in
    added_same c.args.things.now c.args.index.now.items c.as_slice.result.now c.segment_at.result.now c.args.number c.in-Ok.field-0 c.requires.index within
    c.as_slice.ensures.value c.segment_at.ensures c.in-Ok.ensures.bound c.in-Ok.ensures.place

pub returns-in_ok-insert-in-Err : goal.returns-in_ok-insert-in-Err
returns-in_ok-insert-in-Err c =
    let within : c.args.number < length c.args.things.now = omega (arith, c.requires.number) in
    subst (λ (ns : List ℕ). Indexes c.args.things.now ns (take (c.args.number + 1) c.args.things.now)) (sym c.in_ok-insert-in-Err.ensures.items)
    (added_new c.args.things.now c.args.index.now.items c.as_slice.result.now c.segment_at.result.now c.args.number c.in-Err.place c.requires.index within
    c.as_slice.ensures.value c.segment_at.ensures c.in-Err.ensures.place)
