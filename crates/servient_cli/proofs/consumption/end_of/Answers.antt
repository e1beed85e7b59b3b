use Rattle.std.proofs.Common.{Err, subst, sym}
use Rattle.network_consumer.specs.declared.consumed.Consumed.{Consumed}
use Rattle.servient_cli.specs.Consuming.{IsEndOf}
use Rattle.servient_cli.proofs.ConsumingStages.{outcome_ends}
use Rattle.servient_cli.proofs.consumption.end_of.Goals as goal

pub returns-in-Other : goal.returns-in-Other
returns-in-Other c =
    subst (λ (r : Consumed). IsEndOf r (Err c.end_with.result)) (sym c.in-Other.is) (outcome_ends _ c.undone.result c.end_with.result c.undone.ensures c.end_with.ensures)
