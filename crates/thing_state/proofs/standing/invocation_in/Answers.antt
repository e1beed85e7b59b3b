use Rattle.std.proofs.Common.{◌∙◌}
use Rattle.thing_state.proofs.IdLaws.{named_at, none_named}
use Rattle.thing_state.proofs.standing.invocation_in.Goals as goal

pub returns-in-Some : goal.returns-in-Some
returns-in-Some c =
    c.of_slot.ensures
    ∙ named_at c.args.slot c.args.id c.args.invocations.now c.in-Some.index c.index-invocations-index.result c.requires c.in-Some.ensures c.index-invocations-index.is

pub returns-in-None : goal.returns-in-None
returns-in-None c = none_named c.args.slot c.args.id c.args.invocations.now c.in-None.ensures
