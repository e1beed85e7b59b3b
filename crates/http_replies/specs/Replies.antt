-- Replies as code has them.
use Rattle.std.specs.Prelude.{ℕ, List, option_map}
use Rattle.http_replies.specs.declared.reply.Reply.{Reply}
use Rattle.http_replies.specs.Writing.{PlainReply}

-- the reply to write
abbrev pub plain_reply : Reply → PlainReply
plain_reply r = record {
  status = r.status;
  content_type = option_map (λ t. t.now) r.content_type;
  etag = r.etag;
  location = option_map (λ t. t.now) r.location;
  allow = option_map (λ t. t.now) r.allow;
  size = r.length;
  close = r.close;
}
