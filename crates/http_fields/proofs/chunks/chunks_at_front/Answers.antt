use Rattle.std.proofs.Common.{◌++◌, true, List, ℕ, ap, sym, ◌∙◌, arith, length, ◌≤◌, ◌+◌, take, drop}
use Rattle.http_fields.specs.Chunks.{chunk_at, whole}
use Rattle.http_fields.specs.Bodies.{decoded, body_in, longest_reply}
use Rattle.http_fields.proofs.FewerBytes.{body_alone}
use Rattle.http_fields.proofs.MoreData.{raised}
use Rattle.http_fields.proofs.ChunkRows.{read_more, read_last, data_at, length-drop_from}
use Rattle.http_fields.proofs.chunks.chunks_at_front.Goals as goal

pub loop-status-preserved : goal.loop-status-preserved
loop-status-preserved c =
    let inv = c.loop-status.invariant in
    let within : c.in-More.after + c.in-More.size + 2 ≤ length (drop c.loop-status.place c.args.bytes.now) =
    omega (arith, c.in-More.ensures.within.0, ap length c.rest_from.ensures) in (
      inv.0 ++ data_at c.args.bytes.now c.loop-status.place c.in-More.after c.in-More.size,
      read_more c.args.most c.args.bytes.now inv.0 c.loop-status.place c.loop-status.sum c.in-More.after c.in-More.size inv.1
          (sym (c.in-More.ensures.ok ∙ ap (chunk_at c.args.most c.loop-status.sum) c.rest_from.ensures)) within,
      omega (arith, within, inv.2, length-drop_from c.loop-status.place c.args.bytes.now),
      c.in-More.ensures.within.1,
    )

pub in_chunks-requires : goal.in_chunks-requires
in_chunks-requires c =
    let inv = c.loop-status.invariant in
    let end = c.loop-status.place + c.in-Last.used in
    let read = read_last c.args.most c.args.bytes.now inv.0 c.loop-status.place c.loop-status.sum c.in-Last.used inv.1
    (sym (c.in-Last.ensures.ok ∙ ap (chunk_at c.args.most c.loop-status.sum) c.rest_from.ensures)) in
    let within : end ≤ length c.args.bytes.now =
    omega (arith, c.in-Last.ensures.within, ap length c.rest_from.ensures, inv.2, length-drop_from c.loop-status.place c.args.bytes.now) in
    rw c.front.ensures.ok (inv.0, raised c.args.most longest_reply c.requires 0 0 (take end c.args.bytes.now) inv.0 (length (take end c.args.bytes.now)) (body_alone c.args.most c.args.bytes.now inv.0 end read within), inv.1.sum_is)

pub returns-in-Last-clause-ok : goal.returns-in-Last-clause-ok
returns-in-Last-clause-ok c =
    let inv = c.loop-status.invariant in
    let end = c.loop-status.place + c.in-Last.used in
    let read = read_last c.args.most c.args.bytes.now inv.0 c.loop-status.place c.loop-status.sum c.in-Last.used inv.1
    (sym (c.in-Last.ensures.ok ∙ ap (chunk_at c.args.most c.loop-status.sum) c.rest_from.ensures)) in
    let within : end ≤ length c.args.bytes.now =
    omega (arith, c.in-Last.ensures.within, ap length c.rest_from.ensures, inv.2, length-drop_from c.loop-status.place c.args.bytes.now) in
    ap (λ (xs : List ℕ). whole xs end)
    (c.in_chunks.ensures.ok ∙ ap (decoded true) c.front.ensures.ok ∙ ap body_in (raised c.args.most longest_reply c.requires 0 0 (take end c.args.bytes.now) inv.0 (length (take end c.args.bytes.now)) (body_alone c.args.most c.args.bytes.now inv.0 end read within)))
    ∙ sym read
