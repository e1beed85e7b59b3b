-- The view that contracts have of a message that `decode` read (RFC 7252, section 3).
use Rattle.coap_msg.specs.declared.message.Message.{Message}
use Rattle.coap_msg.specs.Grammar.{CoapMessage}

-- a message that was read, apart from where it lies in memory
abbrev pub message_of : Message → CoapMessage
message_of m =
    record {
      kind = m.kind;
      code = m.code;
      id = m.id;
      token = m.token.now;
      options = m.options;
      payload = m.payload.now;
    }
