use Rattle.network_consumer.specs.Deeds.{sight}
use Rattle.network_consumer.proofs.AwaitingLaws.{Progress}
use Rattle.network_consumer.proofs.asking.await_end.Given as goal

abbrev pub invariant-loop-count : goal.invariant-loop-count
invariant-loop-count g l =
    Progress l.task.purpose l.task.chosen.now l.most l.initial.waiting l.waiting
    (sight (g.N.Net.seen l.initial.net) (g.O.Out.seen l.initial.out)) (sight (g.N.Net.seen l.net) (g.O.Out.seen l.out)) l.count
