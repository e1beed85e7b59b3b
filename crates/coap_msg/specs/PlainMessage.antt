-- The view that contracts have of a message that `encode` writes (RFC 7252, section 3).
use Rattle.coap_msg.specs.declared.encoding.Plain.{Plain}
use Rattle.coap_msg.specs.Grammar.{CoapMessage}

-- a message to write, apart from where it lies in memory
abbrev pub plain_message : Plain → CoapMessage
plain_message m =
    record {
      kind = m.kind;
      code = m.code;
      id = m.id;
      token = m.token.now;
      options = m.options.now.list;
      payload = m.payload.now;
    }
