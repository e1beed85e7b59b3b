-- Heads of replies as they are written into a room.
use Rattle.std.specs.Prelude.{◌≡◌, ◌<◌, ◌≤◌, ◌⊎◌, ◌^◌, ℕ, Bool, List, length, take, codes, Option, Some, None, IfSome}
use Rattle.thing_ops.specs.declared.outcome.Outcome.{Outcome}
use Rattle.http_replies.specs.Writing.{PlainReply, http_reply}
use Rattle.http_bind.specs.Replying.{head_of, location_of, longest_reply_head}

-- The head with its place was written to the beginning; or it is too long, or there is no place.
abbrev pub PutsPlaced : ℕ → Bool → Outcome → List ℕ → Option ℕ → Type 0
PutsPlaced status closes o now (Some end) =
    (take end now ≡ http_reply (head_of status closes (location_of o) o)) × (end ≤ longest_reply_head)
    × (length (http_reply (head_of status closes (location_of o) o)) ≤ longest_reply_head)
PutsPlaced status closes o now None =
    (longest_reply_head < length (http_reply (head_of status closes (location_of o) o))) ⊎ (location_of o ≡ None)

-- A reply without a place, whose other fields are short.
pub record IsShortReply (r : PlainReply) : Type 0 where
  pub content_type : IfSome r.content_type (λ t. length t ≤ 64)
  pub etag : IfSome r.etag (λ n. n < 2 ^ 32)
  pub location : r.location ≡ None
  pub allow : IfSome r.allow (λ t. length t ≤ 64)
  pub size : IfSome r.size (λ n. n < 2 ^ 64)

-- the parts of the head of the reply with a text of this many bytes
abbrev pub head_of_text : ℕ → Bool → PlainReply
head_of_text size closes = record {
  status = 200;
  content_type = Some (codes "application/json");
  etag = None;
  location = None;
  allow = None;
  size = Some size;
  close = closes;
}
