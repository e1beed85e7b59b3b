use Rattle.std.proofs.Common.{◌∙◌, sym, ap}
use Rattle.thing_state.specs.State.{running_count}
use Rattle.thing_state.proofs.InvocationLists.{running_are_counted}
use Rattle.thing_core.proofs.RefusalLaws.{free_by_count, full_by_count}
use Rattle.thing_core.proofs.admitting.refusal_by_state.Goals as goal

pub returns-then-running_count-ge-MOST_INVOCATIONS : goal.returns-then-running_count-ge-MOST_INVOCATIONS
returns-then-running_count-ge-MOST_INVOCATIONS c =
    full_by_count c.args.machine.now.state c.args.conditions.now c.in-Invokes.field-0 c.args.act.now c.running_count.result c.in-Invokes.is
    (c.running_count.ensures ∙ sym (running_are_counted c.invocations.result.now) ∙ ap running_count c.invocations.ensures.items) c.if-running_count-ge-MOST_INVOCATIONS.true

pub returns-else-running_count-ge-MOST_INVOCATIONS : goal.returns-else-running_count-ge-MOST_INVOCATIONS
returns-else-running_count-ge-MOST_INVOCATIONS c =
    free_by_count c.args.machine.now.state c.args.conditions.now c.in-Invokes.field-0 c.args.act.now c.running_count.result c.in-Invokes.is
    (c.running_count.ensures ∙ sym (running_are_counted c.invocations.result.now) ∙ ap running_count c.invocations.ensures.items) c.if-running_count-ge-MOST_INVOCATIONS.false
