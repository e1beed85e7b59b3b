-- Ends of CoAP exchanges (RFC 7252, section 1.2).
use Rattle.std.specs.Prelude.{◌==◌, ◌&&◌, Bool}
use Rattle.coap_msg.specs.declared.endpoint.Endpoint.{Endpoint}

-- the two are one endpoint
abbrev pub is_same_endpoint : Endpoint → Endpoint → Bool
is_same_endpoint a b = a.host == b.host && a.port == b.port
