use Rattle.std.proofs.Common.{◌≡◌, ◌∙◌, ℕ, List, sym, subst}
use Rattle.std.specs.Prelude.{Option, None}
use Rattle.http_bind.specs.Streams.{oldest_for}
use Rattle.servient_core.specs.Machine.{AnswersWait}
use Rattle.servient_core.specs.Keeping.{SendsToWait}
use Rattle.servient_core.proofs.DeliverLaws.{answers_wait, none_waits, answering_begins, answering_more, answering_ends}
use Rattle.servient_core.proofs.layers.Layers.answer_waits.Goals as goal

pub loop-c-init : goal.loop-c-init
loop-c-init g c = answering_begins (AnswersWait c.args.target) (λ s. oldest_for c.args.target s.http.waits ≡ None) c.args.self.now (g.N.Net.seen c.args.net.now)

pub loop-c-smaller : goal.loop-c-smaller
loop-c-smaller g c = c.wake.ensures.fewer

pub loop-c-preserved : goal.loop-c-preserved
loop-c-preserved g c =
    let oldest = sym c.waiting.ensures.first ∙ c.in-Some.is in
    let sends = subst (λ (text : Option (List ℕ)). SendsToWait c.in-Some.c text c.loop-c.self.moment c.loop-c.self.http c.wake.new.http (g.N.Net.seen c.loop-c.net) (g.N.Net.seen c.wake.new.net))
    c.last-text.ensures.text c.wake.ensures.replied in
    answering_more (AnswersWait c.args.target) (λ s. oldest_for c.args.target s.http.waits ≡ None) c.args.self.now c.loop-c.self c.wake.new.http (g.N.Net.seen c.args.net.now) (g.N.Net.seen c.loop-c.net) (g.N.Net.seen c.wake.new.net)
    c.loop-c.invariant
    (λ slots. answers_wait c.in-Some.c c.args.target c.loop-c.self c.wake.new.http (g.N.Net.seen c.loop-c.net) (g.N.Net.seen c.wake.new.net) slots oldest sends)
    c.wake.ensures.left

pub returns-clause-answered : goal.returns-clause-answered
returns-clause-answered g c =
    answering_ends (AnswersWait c.args.target) (λ s. oldest_for c.args.target s.http.waits ≡ None) c.args.self.now c.loop-c.self (g.N.Net.seen c.args.net.now) (g.N.Net.seen c.loop-c.net) c.loop-c.invariant
    (none_waits c.args.target c.loop-c.self (sym c.waiting.ensures.first ∙ c.in_default.is))

pub returns-clause-rest : goal.returns-clause-rest
returns-clause-rest g c = c.loop-c.invariant.rest

pub returns-clause-left : goal.returns-clause-left
returns-clause-left g c = c.loop-c.invariant.left
