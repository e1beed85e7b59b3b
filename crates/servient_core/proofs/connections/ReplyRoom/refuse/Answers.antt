use Rattle.std.proofs.Common.{◌++◌, ◌∙◌, ℕ, List, Bool, map, ap, subst, ◌≤◌, arith}
use Rattle.http_bind.specs.Slots.{left_at}
use Rattle.std.proofs.Common.{cond}
use Rattle.std.specs.Prelude.{not}
use Rattle.servient_outside.specs.Network.{NetShows, did}
use Rattle.servient_core.specs.Machine.{acts_of_reply}
use Rattle.servient_core.proofs.PartLaws.{others_left}
use Rattle.servient_core.proofs.ConnectionLaws.{isnt_100}
use Rattle.servient_core.proofs.connections.ReplyRoom.refuse.Goals as goal

pub returns-clause-refused : goal.returns-clause-refused
returns-clause-refused g c =
    let out = c.refused-out.result in
    let bytes : List ℕ = out.head.now ++ out.body.now in
    record {
      bytes = bytes;
      leads = c.refused-out.ensures.refuses c.requires.status;
      shows = subst (λ (t : Bool). NetShows (g.N.Net.seen c.args.net.now) (g.N.Net.seen c.send.new.net) (map did (acts_of_reply c.args.c (record { bytes = bytes; closes = t }))))
          (c.refused-out.ensures.close ∙ ap not (isnt_100 c.args.status c.requires.status)) c.send.ensures;
    }

pub returns-clause-closed : goal.returns-clause-closed
returns-clause-closed g c =
    subst (λ (t : Bool). left_at c.args.c c.refused-out.new.self ≤ cond t (left_at c.args.c c.args.http.now) 0) (isnt_100 c.args.status c.requires.status) c.refused-out.ensures.left

pub returns-clause-left : goal.returns-clause-left
returns-clause-left g c =
    let none = subst (λ (t : Bool). left_at c.args.c c.refused-out.new.self ≤ cond t (left_at c.args.c c.args.http.now) 0) (isnt_100 c.args.status c.requires.status) c.refused-out.ensures.left in
    others_left c.args.c c.args.http.now c.refused-out.new.self c.refused-out.ensures.others (omega (arith, none))
