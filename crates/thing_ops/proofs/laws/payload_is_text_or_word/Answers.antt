use Rattle.std.proofs.Common.{◌≡◌, refl}
use Rattle.std.specs.Prelude.{unwrap_or}
use Rattle.thing_ops.specs.Outcomes.{Payload, text, word, nothing, answer_of, payload_bytes, carried_text, plain_word}
use Rattle.thing_ops.proofs.laws.payload_is_text_or_word.Goals as goal

of_payload : (p : Payload) → payload_bytes p ≡ unwrap_or (carried_text p) (plain_word p)
of_payload (text bytes) = refl
of_payload (word bytes) = refl
of_payload nothing = refl

pub returns : goal.returns
returns c = λ o. of_payload (answer_of o).payload
