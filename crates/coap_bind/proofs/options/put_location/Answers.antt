-- Where a segment has no room, the place has none; and each index is within it.
use Rattle.std.proofs.Common.{◌≡◌, ◌∙◌, [], get_or, Some, sym, ap, arith}
use Rattle.std.specs.Prelude.{slice_get}
use Rattle.std.proofs.lemmas.Result.{err_from_is_err_and}
use Rattle.std.proofs.lemmas.Option.{slice_get-get_or}
use Rattle.coap_msg.specs.Opts.{WrittenOptions}
use Rattle.coap_msg.proofs.OptionParts.{segment_written, no_room_at_segment}
use Rattle.coap_bind.proofs.options.put_location.Goals as goal

pub returns-in_err-put_segment-in-Some-clause-ok : goal.returns-in_err-put_segment-in-Some-clause-ok
returns-in_err-put_segment-in-Some-clause-ok c =
    let p = err_from_is_err_and c.from_residual.result c.from_residual.ensures.1 in
    rw p.1 (no_room_at_segment 8 c.args.options.now c.loop-index.options c.args.place.now c.loop-index.index c.in-Some.segment.now (omega arith)
    (sym c.in-Some.ensures) c.loop-index.invariant.room c.loop-index.invariant.list c.in_err-put_segment-in-Some.ensures.ok)

pub returns-in-None-clause-ok : goal.returns-in-None-clause-ok
returns-in-None-clause-ok c =
    let there : slice_get c.args.place.now c.loop-index.index ≡ Some (get_or c.args.place.now c.loop-index.index [])
    = slice_get-get_or c.args.place.now c.loop-index.index [] (omega arith) in
    absurd (let none = c.in-None.ensures in cc)

pub loop-index-preserved : goal.loop-index-preserved
loop-index-preserved c = record {
  room = ap (λ (w : WrittenOptions). w.room) c.in_ok-put_segment-in-Some.ensures.ok ∙ c.loop-index.invariant.room;
  list = segment_written 8 c.args.options.now c.loop-index.options c.put_segment.new.options c.args.place.now c.loop-index.index c.in-Some.segment.now
      (omega arith) (sym c.in-Some.ensures) c.loop-index.invariant.list c.in_ok-put_segment-in-Some.ensures.ok;
  last = omega (arith, c.in_ok-put_segment-in-Some.ensures.last);
}
