use Rattle.std.proofs.Common.{arith}
use Rattle.std.proofs.lemmas.Bool.{leb-true, le-leb}
use Rattle.coap_msg.proofs.WholeOptions.{whole_where_read, cut_at_delta, cut_at_size}
use Rattle.coap_msg.proofs.decoding.is_whole.Goals as goal

pub returns-in-Some-take_number : goal.returns-in-Some-take_number
returns-in-Some-take_number c =
    let whole = whole_where_read c.args.first c.in-Some.field-0-0 c.in-Some-take_number.size c.args.after.now c.in-Some.middle.now c.in-Some-take_number.rest.now
    (λ i. omega (arith, c.type_inv.after i)) c.in-Some.ensures.ok c.in-Some-take_number.ensures.ok in
    (λ within. whole.0 (leb-true _ _ within), λ w. le-leb _ _ (whole.1 w))

pub returns-in-None-take_number : goal.returns-in-None-take_number
returns-in-None-take_number c =
    (λ is. absurd (cc), λ w. absurd (cut_at_size c.args.first c.in-Some.field-0-0 c.args.after.now c.in-Some.middle.now c.in-Some.ensures.ok c.in-None-take_number.ensures.ok w))

pub returns-in-None : goal.returns-in-None
returns-in-None c = (λ is. absurd (cc), λ w. absurd (cut_at_delta c.args.first c.args.after.now c.in-None.ensures.ok w))
