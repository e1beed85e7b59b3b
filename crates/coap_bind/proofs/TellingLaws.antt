-- Results that say the treatment of a datagram.
use Rattle.std.proofs.Common.{ℕ, List, Option, Some, None, refl}
use Rattle.coap_msg.specs.Grammar.{CoapMessage}
use Rattle.coap_msg.specs.Written.{IsReplied}
use Rattle.coap_bind.specs.declared.next.CoapNext.TheVariants.{Nothing, Send}
use Rattle.coap_bind.specs.Server.{Heard, ignored, answered_at_once, asked, replied_at_once}
use Rattle.coap_bind.specs.Telling.{Tells}
use Rattle.coap_bind.specs.Settling.{TellsDone}

pub tells_nothing : (heard : Heard) (old new : List ℕ) → TellsDone heard None old new → Tells heard Nothing old new
tells_nothing ignored old new h = (refl, h)
tells_nothing (answered_at_once bytes) old new h = absurd h
tells_nothing (asked what request) old new h = absurd h

pub tells_send : (heard : Heard) (n : ℕ) (old new : List ℕ) → TellsDone heard (Some n) old new → Tells heard (Send n) old new
tells_send ignored n old new h = absurd h
tells_send (answered_at_once bytes) n old new h = (bytes, refl, h)
tells_send (asked what request) n old new h = absurd h

-- a message that is written, if there is one, is sent back at once
pub tells_reply : (reply : Option CoapMessage) (n : Option ℕ) (old new : List ℕ) → IsReplied reply n old new → TellsDone (replied_at_once reply) n old new
tells_reply None None old new h = h
tells_reply None (Some n) old new h = absurd h
tells_reply (Some m) None old new h = absurd h
tells_reply (Some m) (Some n) old new h = h
