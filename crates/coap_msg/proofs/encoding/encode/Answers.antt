use Rattle.std.proofs.Common.{◌≡◌, ℕ, List, [], ◌∷◌, ◌++◌, length, take, refl, ap, ◌∙◌, arith, rules, append_assoc}
use Rattle.std.proofs.lemmas.Bool.Decides.{nat_tests}
use Rattle.servient_base.proofs.Lists.{drop-further}
use Rattle.coap_msg.specs.Grammar.{IsWellFormed, header, payload_spelling}
use Rattle.coap_msg.specs.PlainMessage.{plain_message}
use Rattle.coap_msg.proofs.Messages.{pieces_spell, at_most_one_message}
use Rattle.coap_msg.proofs.encoding.encode.Goals as goal
use Rattle.coap_msg.proofs.encoding.encode.Goals.{then-is_empty, else-is_empty}

-- the marker is written where there is a payload, and only there
no_payload : (payload marker : List ℕ) → length payload ≡ 0 → marker ≡ [] → marker ++ payload ≡ payload_spelling payload
no_payload [] marker none is = rw is refl
no_payload (b ∷ bs) marker none is = absurd (omega arith)

some_payload : (payload marker : List ℕ) → (length payload ≡ 0 → ⊥) → marker ≡ 255 ∷ [] → marker ++ payload ≡ payload_spelling payload
some_payload [] marker some is = absurd (some refl)
some_payload (b ∷ bs) marker some is = rw is refl

pub returns-clause-ok : goal.returns-clause-ok
returns-clause-ok c =
    let bounds : IsWellFormed (plain_message c.args.message.now) = search rules in
    let marked : c.if-is_empty.marker.now ++ c.args.message.now.payload.now ≡ payload_spelling c.args.message.now.payload.now = elim c.if-is_empty.branch [
      | then-is_empty w ↦ no_payload c.args.message.now.payload.now c.if-is_empty.marker.now (grind (arith, nat_tests)) (search rules)
      | else-is_empty w ↦ some_payload c.args.message.now.payload.now c.if-is_empty.marker.now (grind (arith, nat_tests)) (search rules)
    ] in
    let head : take c.put_bytes-at.result c.put_bytes-at.new.out ≡ header (plain_message c.args.message.now) = search rules in
    pieces_spell (plain_message c.args.message.now) _ _ _ _ _ bounds
    head c.put_bytes-at-2.ensures.bytes c.as_bytes-2.ensures.ok c.put_bytes-at-3.ensures.bytes
    (c.put_bytes.ensures.bytes ∙ ap (λ (done : List ℕ). done ++ c.args.message.now.payload.now) c.put_bytes-at-4.ensures.bytes
    ∙ append_assoc _ c.if-is_empty.marker.now c.args.message.now.payload.now ∙ ap (λ (more : List ℕ). take c.put_bytes-at-3.result c.put_bytes-at-3.new.out ++ more) marked)

pub returns-clause-unique : goal.returns-clause-unique
returns-clause-unique c m spells =
    at_most_one_message m (plain_message c.args.message.now) _ spells (returns-clause-ok c)

pub returns-clause-after : goal.returns-clause-after
returns-clause-after c =
    let end = c.put_bytes.result in
    c.put_bytes.ensures.rest
    ∙ drop-further c.put_bytes-at-4.result end c.put_bytes-at-4.new.out c.put_bytes-at-3.new.out (omega arith) c.put_bytes-at-4.ensures.rest
    ∙ drop-further c.put_bytes-at-3.result end c.put_bytes-at-3.new.out c.put_bytes-at-2.new.out (omega arith) c.put_bytes-at-3.ensures.rest
    ∙ drop-further c.put_bytes-at-2.result end c.put_bytes-at-2.new.out c.put_bytes-at.new.out (omega arith) c.put_bytes-at-2.ensures.rest
    ∙ drop-further c.put_bytes-at.result end c.put_bytes-at.new.out c.args.out.now (omega arith) c.put_bytes-at.ensures.rest
