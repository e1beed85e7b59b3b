use Rattle.std.proofs.Common.{◌∙◌, ap}
use Rattle.servient_core.specs.declared.layers.Layers.{Layers}
use Rattle.servient_core.proofs.EndLaws.{notifying_begins, notifying_more, notifying_ends}
use Rattle.servient_core.proofs.layers.Layers.send_notifications.Goals as goal

pub loop-notice-init : goal.loop-notice-init
loop-notice-init g c = notifying_begins c.args.self.now (g.N.Net.seen c.args.net.now)

pub loop-notice-smaller : goal.loop-notice-smaller
loop-notice-smaller g c = c.in-Some.ensures.less

pub loop-notice-preserved : goal.loop-notice-preserved
loop-notice-preserved g c =
    notifying_more c.in-Some.notice c.args.self.now c.loop-notice.self c.next_send.new.self (g.N.Net.seen c.args.net.now) (g.N.Net.seen c.loop-notice.net) (g.N.Net.seen c.notify.new.net)
    c.loop-notice.invariant c.in-Some.ensures.sends c.in-Some.ensures.exchanges c.notify.ensures

pub returns-clause-sent : goal.returns-clause-sent
returns-clause-sent g c =
    notifying_ends c.args.self.now c.loop-notice.self c.next_send.new.self (g.N.Net.seen c.args.net.now) (g.N.Net.seen c.loop-notice.net) c.loop-notice.invariant
    c.in_default.ensures.sends

pub returns-clause-rest : goal.returns-clause-rest
returns-clause-rest g c = ap (λ (x : Layers). record x { coap = c.next_send.new.self }) c.loop-notice.invariant.rest

pub returns-clause-exchanges : goal.returns-clause-exchanges
returns-clause-exchanges g c = c.in_default.ensures.exchanges ∙ c.loop-notice.invariant.exchanges
