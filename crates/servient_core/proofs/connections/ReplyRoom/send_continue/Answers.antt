use Rattle.std.proofs.Common.{◌++◌, ℕ, List, Bool, map, subst, refl}
use Rattle.servient_outside.specs.Network.{NetShows, did}
use Rattle.servient_core.specs.Machine.{acts_of_reply}
use Rattle.servient_core.proofs.PartLaws.{others_left}
use Rattle.servient_core.proofs.connections.ReplyRoom.send_continue.Goals as goal

pub returns-clause-continued : goal.returns-clause-continued
returns-clause-continued g c =
    let out = c.refused-out.result in
    let bytes : List ℕ = out.head.now ++ out.body.now in
    record {
      bytes = bytes;
      leads = c.refused-out.ensures.continues refl;
      shows = subst (λ (t : Bool). NetShows (g.N.Net.seen c.args.net.now) (g.N.Net.seen c.send.new.net) (map did (acts_of_reply c.args.c (record { bytes = bytes; closes = t })))) c.refused-out.ensures.close c.send.ensures;
    }

pub returns-clause-left : goal.returns-clause-left
returns-clause-left g c = others_left c.args.c c.args.http.now c.refused-out.new.self c.refused-out.ensures.others c.refused-out.ensures.left
