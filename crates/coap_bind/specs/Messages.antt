-- Replies and notifications are messages within the bounds of one (RFC 7252, sections 3 and 12.1.2).
use Rattle.std.specs.Prelude.{◌<◌, ◌≤◌, ◌^◌, ℕ, Option, List, length}
use Rattle.coap_msg.specs.declared.constants.TheConstants.{LONGEST_TOKEN}
use Rattle.coap_msg.specs.Grammar.{IsWellFormed}
use Rattle.thing_ops.specs.declared.outcome.Outcome.{Outcome}
use Rattle.thing_ops.specs.Outcomes.{HasCode}
use Rattle.coap_observe.specs.declared.notice.Notice.{Notice}
use Rattle.coap_observe.specs.Watching.{IsSendable}
use Rattle.coap_bind.specs.declared.blocks.BlockUse.{BlockUse}
use Rattle.coap_bind.specs.Blocks.{answer_reply}
use Rattle.coap_bind.specs.Links.{links_reply, method_reply}
use Rattle.coap_bind.specs.Writing.{ReplyHead, observed, coap_reply, notification}
use Rattle.coap_bind.specs.Laws.{HasShortPlace}

-- A reply to a request is a message, if the id and the token of that are those of one.
abbrev pub RepliesAreMessages : Type 0
RepliesAreMessages =
    (o : Outcome) (observe : Option ℕ) (blocks : BlockUse) (head : ReplyHead) (next : ℕ) → HasCode o → HasShortPlace o
    → head.id < 2 ^ 16 → length head.token ≤ LONGEST_TOKEN → next < 2 ^ 16 → IsWellFormed (coap_reply (observed observe (answer_reply blocks o)) head next)

-- So is a reply with the links, and one that refuses another verb than GET for them.
abbrev pub LinksAreMessages : Type 0
LinksAreMessages =
    (szx : Option ℕ) (text : List ℕ) (head : ReplyHead) (next : ℕ) → head.id < 2 ^ 16 → length head.token ≤ LONGEST_TOKEN → next < 2 ^ 16
    → IsWellFormed (coap_reply (links_reply szx text) head next) × IsWellFormed (coap_reply method_reply head next)

-- And so is a notification.
abbrev pub NotificationsAreMessages : Type 0
NotificationsAreMessages = (n : Notice) (value : List ℕ) → IsSendable n → n.id < 2 ^ 16 → IsWellFormed (notification n value)
