use Rattle.std.proofs.Common.{◌≡◌, ◌∙◌, sym}
use Rattle.std.specs.Prelude.{None}
use Rattle.http_bind.specs.Streams.{oldest_late}
use Rattle.servient_core.specs.Machine.{AnswersLateWait}
use Rattle.servient_core.proofs.DeliverLaws.{answers_late_wait, none_late, answering_begins, answering_more, answering_ends}
use Rattle.servient_core.proofs.layers.Layers.answer_late_waits.Goals as goal

pub loop-c-init : goal.loop-c-init
loop-c-init g c = answering_begins (AnswersLateWait) (λ s. oldest_late s.moment s.http.waits ≡ None) c.args.self.now (g.N.Net.seen c.args.net.now)

pub loop-c-smaller : goal.loop-c-smaller
loop-c-smaller g c = c.wake.ensures.fewer

pub loop-c-preserved : goal.loop-c-preserved
loop-c-preserved g c =
    let oldest = sym c.late.ensures.first ∙ c.in-Some.is in
    let sends = c.wake.ensures.replied in
    answering_more (AnswersLateWait) (λ s. oldest_late s.moment s.http.waits ≡ None) c.args.self.now c.loop-c.self c.wake.new.http (g.N.Net.seen c.args.net.now) (g.N.Net.seen c.loop-c.net) (g.N.Net.seen c.wake.new.net)
    c.loop-c.invariant
    (λ slots. answers_late_wait c.in-Some.c c.loop-c.self c.wake.new.http (g.N.Net.seen c.loop-c.net) (g.N.Net.seen c.wake.new.net) slots oldest sends)
    c.wake.ensures.left

pub returns-clause-answered : goal.returns-clause-answered
returns-clause-answered g c =
    answering_ends (AnswersLateWait) (λ s. oldest_late s.moment s.http.waits ≡ None) c.args.self.now c.loop-c.self (g.N.Net.seen c.args.net.now) (g.N.Net.seen c.loop-c.net) c.loop-c.invariant
    (none_late c.loop-c.self (sym c.late.ensures.first ∙ c.in_default.is))

pub returns-clause-rest : goal.returns-clause-rest
returns-clause-rest g c = c.loop-c.invariant.rest

pub returns-clause-left : goal.returns-clause-left
returns-clause-left g c = c.loop-c.invariant.left
