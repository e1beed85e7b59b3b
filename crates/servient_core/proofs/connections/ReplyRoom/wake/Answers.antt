use Rattle.std.proofs.Common.{◌++◌}
use Rattle.servient_core.proofs.PartLaws.{others_left}
use Rattle.servient_core.proofs.connections.ReplyRoom.wake.Goals as goal

pub returns-clause-replied : goal.returns-clause-replied
returns-clause-replied g c =
    let out = c.woken-out.result in
    record { reply = record { bytes = out.head.now ++ out.body.now; closes = out.close }; leads = c.woken-out.ensures.leads; shows = c.send.ensures }

pub returns-clause-left : goal.returns-clause-left
returns-clause-left g c = others_left c.args.c c.args.http.now c.woken-out.new.self c.woken-out.ensures.others c.woken-out.ensures.left
