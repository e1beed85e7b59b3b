-- The meaning of a failed operation for the network.
use Rattle.std.specs.Prelude.{◌≤◌, List}
use Rattle.servient_outside.specs.Network.{break_count}
use Rattle.wot_consumer.specs.declared.chosen.Chosen.{Chosen}
use Rattle.network_consumer.specs.declared.operation.ThingOperation.{ThingOperation}
use Rattle.network_consumer.specs.declared.consumed.Consumed.TheVariants.{Failed}
use Rattle.network_consumer.specs.Deeds.{Deed, happened_in}
use Rattle.network_consumer.specs.Consuming.{Consumes, Discovers}

-- In an operation that ended so a call of the network failed, and so in a discovery: nothing that comes leads to that.
pub record FailingBreaksTheNetwork : Type 0 where
  pub consumes : (o : ThingOperation) (c : Chosen) (deeds : List Deed) → Consumes o c deeds Failed → 1 ≤ break_count (happened_in deeds)
  pub discovers : (c : Chosen) (deeds : List Deed) → Discovers c deeds Failed → 1 ≤ break_count (happened_in deeds)
