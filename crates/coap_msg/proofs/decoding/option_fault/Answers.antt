use Rattle.std.proofs.Common.{◌∷◌, refl, inl, inr}
use Rattle.coap_msg.specs.Faults.{BeginsWhole, of_nibble, of_cut, of_number}
use Rattle.coap_msg.proofs.WholeOptions.{number_is_large}
use Rattle.coap_msg.proofs.decoding.option_fault.Goals as goal
use Rattle.coap_msg.proofs.decoding.option_fault.Goals.{then-first-eq-RESERVED-via-then-first-eq-RESERVED, then-first-eq-RESERVED-via-else-first-eq-RESERVED+then-first-eq-RESERVED-2}

pub returns-then-first-eq-RESERVED : goal.returns-then-first-eq-RESERVED
returns-then-first-eq-RESERVED c = of_nibble c.args.first c.args.after.now refl refl c.requires.marker
    (elim c.then-first-eq-RESERVED.branch [
      | then-first-eq-RESERVED-via-then-first-eq-RESERVED w ↦ inl w.if-first-eq-RESERVED.true
      | then-first-eq-RESERVED-via-else-first-eq-RESERVED+then-first-eq-RESERVED-2 w ↦ inr w.if-first-eq-RESERVED-2.true
    ])

pub returns-then-is_whole : goal.returns-then-is_whole
returns-then-is_whole c =
    let whole : BeginsWhole (c.args.first ∷ c.args.after.now) = c.is_whole.ensures.0 c.if-is_whole.true in
    of_number whole refl (number_is_large c.args.last (c.args.first ∷ c.args.after.now) c.requires.none whole)

pub returns-else-is_whole : goal.returns-else-is_whole
returns-else-is_whole c =
    of_cut c.args.first c.args.after.now refl refl
    (λ reserved. elim reserved [ inl high ↦ c.if-first-eq-RESERVED.false high | inr low ↦ c.if-first-eq-RESERVED-2.false low ])
    (λ w. absurd (let is = c.is_whole.ensures.1 w in let isnt = c.if-is_whole.false in cc))
