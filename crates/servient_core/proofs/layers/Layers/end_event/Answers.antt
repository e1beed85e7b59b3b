use Rattle.std.proofs.Common.{ap, ◌∙◌}
use Rattle.servient_core.specs.declared.layers.Layers.{Layers}
use Rattle.servient_core.proofs.EndLaws.{ends_event, ready_notified, ready_answered}
use Rattle.servient_core.proofs.layers.Layers.end_event.Goals as goal

pub close_idle-requires : goal.close_idle-requires
close_idle-requires g c =
    ready_answered c.send_notifications.new.self c.answer_late_waits.new.self
    (ready_notified c.args.self.now c.send_notifications.new.self c.requires c.send_notifications.ensures.rest c.send_notifications.ensures.exchanges)
    c.answer_late_waits.ensures.rest c.answer_late_waits.ensures.left

pub returns-clause-ends : goal.returns-clause-ends
returns-clause-ends g c =
    ends_event c.args.self.now c.send_notifications.new.self c.answer_late_waits.new.self c.close_idle.new.self
    (g.N.Net.seen c.args.net.now) (g.N.Net.seen c.send_notifications.new.net) (g.N.Net.seen c.answer_late_waits.new.net) (g.N.Net.seen c.close_idle.new.net)
    c.send_notifications.ensures.sent c.answer_late_waits.ensures.answered c.close_idle.ensures.closed

pub returns-clause-exposed : goal.returns-clause-exposed
returns-clause-exposed g c =
    c.close_idle.ensures.exposed
    ∙ ap (λ (x : Layers). x.exposed) c.answer_late_waits.ensures.rest
    ∙ ap (λ (x : Layers). x.exposed) c.send_notifications.ensures.rest
