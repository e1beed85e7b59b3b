use Rattle.std.proofs.Common.{◌∙◌, ap, slice_set, get_or, option_map}
use Rattle.thing_state.specs.State.{Invocation}
use Rattle.thing_state.proofs.InvocationLists.{completed_at, none_completes}
use Rattle.thing_state.proofs.machine.complete_one.Goals as goal

pub returns-in-Some : goal.returns-in-Some
returns-in-Some c =
    ap (λ (x : Invocation). slice_set c.args.invocations.now c.in-Some.index x) c.complete.ensures
    ∙ completed_at c.args.id (option_map (λ t. t.now) c.args.output) c.args.invocations.now c.in-Some.index
    (get_or c.args.invocations.now c.in-Some.index c.index-invocations-index.result) c.in-Some.ensures
    (ap (λ (d : Invocation). get_or c.args.invocations.now c.in-Some.index d) c.index-invocations-index.is)

pub returns-in-None : goal.returns-in-None
returns-in-None c = none_completes c.args.id (option_map (λ t. t.now) c.args.output) c.args.invocations.now c.in-None.ensures
