use Rattle.std.proofs.Common.{◌≡◌, ◌++◌, ap, sym, ◌∙◌, arith, length, ◌≤◌, ◌+◌, take, drop, List, ℕ, length-append}
use Rattle.http_fields.specs.Chunks.{chunk_at, chunks}
use Rattle.http_fields.specs.Bodies.{longest_reply}
use Rattle.http_fields.proofs.ChunkRows.{IsRead, read_more, whole_behind, data_at, length-data_at, length-drop_from}
use Rattle.http_fields.proofs.chunks.copy_chunks.Goals as goal

pub put_bytes-sum-requires : goal.put_bytes-sum-requires
put_bytes-sum-requires c =
    let inv = c.loop-after.invariant in
    let coded = c.args.coded.now in
    let place = c.loop-after.place in
    let after = c.in-More.after in
    let size = c.in-More.size in
    let within : after + size + 2 ≤ length (drop place coded) =
    omega (arith, c.in-More.ensures.within.0, ap length c.rest_from.ensures) in
    let part : c.part.result.now ≡ data_at coded place after size =
    c.part.ensures ∙ ap (λ (xs : List ℕ). take size (drop after xs)) c.rest_from-in-More.ensures in
    let read : IsRead longest_reply coded (inv.0 ++ data_at coded place after size) (place + (after + size + 2)) (c.loop-after.sum + size) =
    read_more longest_reply coded inv.0 place c.loop-after.sum after size inv.1
    (sym (c.in-More.ensures.ok ∙ ap (chunk_at longest_reply c.loop-after.sum) c.rest_from.ensures)) within in
    let behind = whole_behind (inv.0 ++ data_at coded place after size) (place + (after + size + 2))
    (chunks longest_reply 0 (c.loop-after.sum + size) (drop (place + (after + size + 2)) coded)) c.requires.0 (length coded) (sym read.rest_is ∙ c.requires.1) in
    omega (
      arith,
      ap length part,
      length-data_at coded place after size within,
      ap length behind.body_is,
      length-append (inv.0 ++ data_at coded place after size) behind.others,
      read.sum_is,
      c.requires.2,
      inv.3,
    )

pub loop-after-preserved : goal.loop-after-preserved
loop-after-preserved c =
    let inv = c.loop-after.invariant in
    let coded = c.args.coded.now in
    let place = c.loop-after.place in
    let after = c.in-More.after in
    let size = c.in-More.size in
    let within : after + size + 2 ≤ length (drop place coded) =
    omega (arith, c.in-More.ensures.within.0, ap length c.rest_from.ensures) in
    let part : c.part.result.now ≡ data_at coded place after size =
    c.part.ensures ∙ ap (λ (xs : List ℕ). take size (drop after xs)) c.rest_from-in-More.ensures in
    let sized : length c.part.result.now ≡ size = ap length part ∙ length-data_at coded place after size within in
    let end : c.put_bytes-sum.result ≡ c.loop-after.sum + size = c.put_bytes-sum.ensures.end ∙ ap (λ (n : ℕ). c.loop-after.sum + n) sized in
    let read : IsRead longest_reply coded (inv.0 ++ data_at coded place after size) (place + (after + size + 2)) (c.loop-after.sum + size) =
    read_more longest_reply coded inv.0 place c.loop-after.sum after size inv.1
    (sym (c.in-More.ensures.ok ∙ ap (chunk_at longest_reply c.loop-after.sum) c.rest_from.ensures)) within in (
      inv.0 ++ data_at coded place after size,
      rw end read,
      c.put_bytes-sum.ensures.bytes ∙ ap (λ (xs : List ℕ). xs ++ c.part.result.now) inv.2 ∙ ap (λ (xs : List ℕ). inv.0 ++ xs) part,
      c.put_bytes-sum.auto.out ∙ inv.3,
      omega (arith, within, inv.4, length-drop_from place coded),
      omega (arith, end, c.in-More.ensures.within.1),
    )
