use Rattle.std.proofs.Common.{◌∙◌, sym, ap, subst, ◌≤◌, ◌*◌}
use Rattle.storm_events.specs.declared.storm.Storm.{Storm}
use Rattle.storm_events.specs.Storm.{with_event}
use Rattle.storm_events.proofs.StormLaws.{moment_bound, one_more}
use Rattle.storm_events.proofs.storm.Storm.run.Goals as goal

pub let_come-requires : goal.let_come-requires
let_come-requires c = subst (λ (s : Storm). s.moment ≤ 499 * c.loop-i.i) (sym c.loop-i.invariant) (moment_bound c.args.seed c.loop-i.i)

pub loop-i-preserved : goal.loop-i-preserved
loop-i-preserved c =
    c.in_ok-let_come.ensures ∙ ap (with_event c.loop-i.i) c.loop-i.invariant ∙ sym (one_more c.args.seed c.loop-i.i)
