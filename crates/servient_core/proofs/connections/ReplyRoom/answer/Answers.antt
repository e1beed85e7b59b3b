use Rattle.std.proofs.Common.{◌++◌, ℕ, List, Bool, subst, cond}
use Rattle.std.specs.Prelude.{Some, None}
use Rattle.http_bind.specs.Streams.{HttpReply, Answers}
use Rattle.http_bind.specs.Slots.{Leads}
use Rattle.servient_outside.proofs.NetLaws.{net_shows_none}
use Rattle.servient_core.proofs.PartLaws.{others_left}
use Rattle.servient_core.proofs.connections.ReplyRoom.answer.Goals as goal

pub returns-then-not-out-clause-answered : goal.returns-then-not-out-clause-answered
returns-then-not-out-clause-answered g c =
    let out = c.answered-out.result in
    let reply : HttpReply = (record { bytes = out.head.now ++ out.body.now; closes = out.close }) in
    record {
      reply = Some reply;
      leads = subst (λ (b : Bool). Leads (Answers c.args.c c.args.outcome.now c.args.moment (cond b None (Some reply))) c.args.http.now c.answered-out.new.self)
          c.if-not-out.true c.answered-out.ensures.leads;
      shows = c.send.ensures;
    }

pub returns-else-not-out-clause-answered : goal.returns-else-not-out-clause-answered
returns-else-not-out-clause-answered g c =
    let out = c.answered-out.result in
    let reply : HttpReply = (record { bytes = out.head.now ++ out.body.now; closes = out.close }) in
    record {
      reply = None;
      leads = subst (λ (b : Bool). Leads (Answers c.args.c c.args.outcome.now c.args.moment (cond b None (Some reply))) c.args.http.now c.answered-out.new.self)
          c.if-not-out.false c.answered-out.ensures.leads;
      shows = net_shows_none (g.N.Net.seen c.args.net.now);
    }

pub returns-then-not-out-clause-left : goal.returns-then-not-out-clause-left
returns-then-not-out-clause-left g c = others_left c.args.c c.args.http.now c.answered-out.new.self c.answered-out.ensures.others c.answered-out.ensures.left

pub returns-else-not-out-clause-left : goal.returns-else-not-out-clause-left
returns-else-not-out-clause-left g c = others_left c.args.c c.args.http.now c.answered-out.new.self c.answered-out.ensures.others c.answered-out.ensures.left
