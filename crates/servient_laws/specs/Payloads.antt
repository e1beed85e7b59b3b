-- The content of a reply: by either binding the payload of the outcome and the tag of the version that was read, or by
-- CoAP the block of it that was asked for.
use Rattle.std.specs.Prelude.{◌≡◌, ◌≤◌, ◌++◌, ℕ, List, [], ◌∷◌, length, Option, Some, None, Contains}
use Rattle.coap_msg.specs.declared.constants.TheConstants.{ETAG, LONGEST_PAYLOAD}
use Rattle.coap_msg.specs.declared.endpoint.Endpoint.{Endpoint}
use Rattle.coap_msg.specs.Grammar.{CoapMessage, spelling}
use Rattle.coap_msg.specs.Numbers.{number_bytes}
use Rattle.coap_opts.specs.Reading.{values_under}
use Rattle.thing_ops.specs.declared.outcome.Outcome.{Outcome}
use Rattle.thing_ops.specs.Outcomes.{payload_of, version_of}
use Rattle.http_replies.specs.Writing.{PlainReply, http_reply}
use Rattle.coap_bind.specs.declared.blocks.BlockUse.{BlockUse}
use Rattle.coap_bind.specs.declared.blocks.BlockUse.TheVariants as blocks
use Rattle.coap_bind.specs.Blocks.{most_bytes, portion_of}
use Rattle.http_bind.specs.declared.owed.Owed.{Owed}
use Rattle.http_bind.specs.Replying.{reply_head, reply_body}
use Rattle.http_bind.specs.Streams.{Connection, connection_at, waits_of}
use Rattle.servient_outside.specs.declared.net.Act.TheVariants as act
use Rattle.servient_outside.specs.Network.{did}
use Rattle.servient_trace.specs.Trace.{Sighting, at_network}
use Rattle.servient_core.specs.Machine.{Site, State}
use Rattle.servient_core.specs.Meaning.{Message, by_coap, by_http, ComesTo}
use Rattle.thing_core.specs.Thing.{Done}

-- no part of the payload is asked for
abbrev pub AsksForAll : BlockUse → Type 0
AsksForAll blocks.Whole = Unit {0}
AsksForAll (blocks.Gives g) = g.szx ≡ None
AsksForAll (blocks.Joined b) = Unit {0}

-- the tags that a message has: that of the version which was read, if one was (RFC 7252, section 5.10.6.1)
abbrev pub tags_for : Option ℕ → List (List ℕ)
tags_for None = []
tags_for (Some version) = number_bytes version ∷ []

-- A datagram was sent to an endpoint whose payload is that of an outcome, where no part of it was asked for and it
-- isn't too long to be sent at once (RFC 7252, section 4.6); else the part that is to be given first (RFC 7959, section
-- 2.4), if it isn't too long for that. It has the tag of the version that was read, unless that is too long.
pub record SaysByCoap (from : Endpoint) (u : BlockUse) (o : Outcome) (seen : List Sighting) : Type 0 where
  pub message : CoapMessage
  pub sent : Contains seen (at_network (did (act.Datagram from (spelling message))))
  pub payload : AsksForAll u → length (payload_of o) ≤ LONGEST_PAYLOAD → message.payload ≡ payload_of o
  pub part : length (payload_of o) ≤ most_bytes u o → message.payload ≡ (portion_of u o).payload
  pub tags : length (payload_of o) ≤ most_bytes u o → values_under ETAG message.options ≡ tags_for (version_of o)

-- A reply was sent on a connection: its head, which has the tag of the version that was read, if one was (RFC 9110,
-- section 8.8.3), and after it the payload of an outcome, which a HEAD request alone isn't owed (section 9.3.2).
pub record SaysByHttp (c : ℕ) (o : Outcome) (s : State) (seen : List Sighting) : Type 0 where
  pub connection : Connection
  pub owed : Owed
  pub there : connection_at c s.http ≡ Some connection
  pub owes : connection.owed ≡ Some owed
  pub head : List ℕ
  pub head_is : reply_head owed.closes o ≡ Some head
  pub says : PlainReply
  pub spells : head ≡ http_reply says
  pub tag : says.etag ≡ version_of o
  pub sent : Contains seen (at_network (did (act.Sent c (head ++ reply_body owed.bodiless o))))

abbrev pub Says : Message → Outcome → State → List Sighting → Type 0
Says (by_coap from ask request) o s seen = SaysByCoap from request.blocks o seen
Says (by_http c q) o s seen = SaysByHttp c o s seen

-- The reply to a message has the payload of its outcome, unless that is to wait, or the part of it that is to be given
-- first, and the tag of the version that was read. So two messages of one meaning have one payload, but for that, and
-- one tag.
abbrev pub PayloadsAreOfOutcomes : Type 0
PayloadsAreOfOutcomes =
    (site : Site) (m : Message) (done : Done) (s t : State) (seen : List Sighting)
    → ComesTo site m done s seen t → waits_of done.outcome ≡ None → Says m done.outcome s seen
