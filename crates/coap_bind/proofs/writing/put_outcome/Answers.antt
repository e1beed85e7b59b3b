-- The payload isn't too long, so the reply has its portion.
use Rattle.std.proofs.Common.{◌≡◌, rules, List, ℕ, sym, ap, subst, arith, length}
use Rattle.coap_msg.specs.Grammar.{spelling}
use Rattle.coap_msg.specs.Written.{IsWritten}
use Rattle.thing_ops.specs.Outcomes.{payload_of}
use Rattle.coap_bind.specs.Blocks.{Portion, reply_with}
use Rattle.coap_bind.specs.Writing.{Reply, observed, head_in, coap_reply}
use Rattle.coap_bind.proofs.LengthLaws.{answer_is}
use Rattle.coap_bind.proofs.writing.put_outcome.Goals as goal

pub returns : goal.returns
returns c =
    let u = c.args.said.blocks.now in
    let o = c.args.said.outcome.now in
    let R : Reply → Type 0 = λ r. IsWritten (spelling (coap_reply (observed c.args.said.observe r) (head_in c.args.pending.now) c.args.next_id)) c.put_portion.result c.args.out.now c.put_portion.new.out in
    let P : Portion → Type 0 = λ p. R (reply_with p o) in
    let payload : c.unwrap_or-payload.result.now ≡ payload_of o = search rules in
    subst R (sym (answer_is u o (omega (arith, c.if-payload-most_bytes.false, c.most_bytes.ensures, ap (λ (x : List ℕ). length x) payload)))) (subst P c.portion_of-portion.ensures.ok c.put_portion.ensures)
