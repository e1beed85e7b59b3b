use Rattle.std.proofs.Common.{arith, ◌≤◌, length, ℕ, List, refl}
use Rattle.std.specs.Prelude.{Option, Some, None, IsSome}
use Rattle.servient_base.specs.Writing.{PutsIfRoom}
use Rattle.http_replies.specs.Writing.{http_reply}
use Rattle.http_replies.specs.Replies.{plain_reply}
use Rattle.http_bind.proofs.ShortReplies.{short_reply}
use Rattle.http_bind.proofs.writing.put_short.Goals as goal

fits : (text before now : List ℕ) (r : Option ℕ) → length text ≤ length before → PutsIfRoom text 0 before now r → IsSome r
fits text before now None short puts = absurd (omega arith)
fits text before now (Some end) short puts = refl

pub unwrap-requires : goal.unwrap-requires
unwrap-requires c =
    fits (http_reply (plain_reply c.args.reply.now)) c.args.out.now c.put_reply.new.out c.put_reply.result
    (omega (arith, short_reply (plain_reply c.args.reply.now) c.requires.short, c.requires.room)) c.put_reply.ensures
