-- A reply over HTTP that a servient writes is read by a consumer as it was meant (RFC 9110, section 15; RFC 9112, section
-- 6.3; TD 1.1, sections 5.3.1.3 and 5.3.1.4).
use Rattle.std.specs.Prelude.{◌≡◌, ◌≢◌, ◌≤◌, ◌<◌, ◌^◌, ℕ, List, [], ◌++◌, length, Bool, false, IfSome, Some}
use Rattle.thing_ops.specs.declared.outcome.Outcome.{Outcome}
use Rattle.thing_ops.specs.Outcomes.{answer_of, payload_of, version_of}
use Rattle.http_fields.specs.Bodies.{longest_reply}
use Rattle.http_replies.specs.declared.reply_scan.ReplyScan.TheVariants as scan
use Rattle.http_replies.specs.ReplyFronts.{IsReply}
use Rattle.http_bind.specs.Replying.{reply}

-- The bytes of a stream are read as a reply with this status and payload, and a part of them as a reply that isn't whole
-- yet, whether the connection stays or has ended.
pub record AreReadBack (bytes : List ℕ) (status : ℕ) (payload : List ℕ) : Type 0 where
  pub whole : (ended : Bool) → IsReply bytes ended (scan.Whole status payload)
  pub early : (ended : Bool) (part missing : List ℕ) → part ++ missing ≡ bytes → missing ≢ [] → IsReply part ended scan.Short

-- The reply to a request other than HEAD, with whatever outcome, of at most 65,536 bytes. A version has 32 bits; the law
-- ranges over every number.
abbrev pub RepliesAreReadBack : Type 0
RepliesAreReadBack =
    (o : Outcome) (closes : Bool) (status : ℕ) (bytes : List ℕ)
    → (answer_of o).status ≡ Some status → reply false closes o ≡ Some bytes → IfSome (version_of o) (λ v. v < 2 ^ 32) → length bytes ≤ longest_reply
    → AreReadBack bytes status (payload_of o)
