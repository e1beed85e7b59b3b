-- Empty messages (RFC 7252, sections 4.1 and 4.2): acknowledgements and Resets, and the messages to which they reply.
use Rattle.std.specs.Prelude.{◌+◌, ◌*◌, ◌/◌, ◌==◌, ℕ, Bool, List, [], ◌∷◌, Option, Some, None, if◌then◌else◌}
use Rattle.coap_msg.specs.declared.message.Type4.{Type4}
use Rattle.coap_msg.specs.declared.message.Type4.TheVariants.{Con, Non, Ack, Rst}
use Rattle.coap_msg.specs.declared.constants.TheConstants.{EMPTY}
use Rattle.coap_msg.specs.Grammar.{CoapMessage}

-- an empty message of this type and message ID (section 4.1)
abbrev pub empty_message : Type4 → ℕ → CoapMessage
empty_message kind id = record { kind = kind; code = EMPTY; id = id; token = []; options = []; payload = [] }

-- A Confirmable message that is taken is acknowledged, and any other Confirmable one is reset (section 4.2). Nothing
-- else is replied to: a Non-confirmable message that isn't taken is ignored (section 4.3), and so are an
-- acknowledgement and a Reset.
abbrev pub empty_reply : Type4 → ℕ → Bool → Option CoapMessage
empty_reply Con id taken = Some (empty_message (if taken then Ack else Rst) id)
empty_reply Non id taken = None
empty_reply Ack id taken = None
empty_reply Rst id taken = None

-- Bytes that spell no message are reset where their header has the version 1 and says that they are Confirmable
-- (sections 3 and 4.2), and ignored otherwise.
abbrev pub rejection_of : List ℕ → Option CoapMessage
rejection_of [] = None
rejection_of (first ∷ []) = None
rejection_of (first ∷ code ∷ []) = None
rejection_of (first ∷ code ∷ high ∷ []) = None
rejection_of (first ∷ code ∷ high ∷ low ∷ rest) =
    if first / 16 == 4 then Some (empty_message Rst (256 * high + low)) else None
