-- The type of the message of a request (RFC 7252, sections 4.2 and 4.3).
use Rattle.coap_msg.specs.declared.message.Type4.{Type4}
use Rattle.coap_msg.specs.declared.message.Type4.TheVariants.{Con}
use Rattle.coap_msg.specs.declared.message.RequestType.{RequestType}
use Rattle.coap_msg.specs.declared.message.RequestType.TheVariants.{Confirmable, NonConfirmable}

-- A request is sent in a Confirmable message (section 4.2), and any other in a Non-confirmable one (section 4.3). Every
-- type but Confirmable counts as that, because a caller has asked whether a message is a request.
abbrev pub request_type : Type4 → RequestType
request_type Con = Confirmable
request_type _ = NonConfirmable
