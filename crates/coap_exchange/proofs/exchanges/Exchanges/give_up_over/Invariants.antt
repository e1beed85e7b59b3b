-- so far only exchanges were given up that don't live at the moment
use Rattle.std.proofs.Common.{◌≡◌, length}
use Rattle.coap_msg.specs.declared.message.RequestType.{RequestType}
use Rattle.coap_exchange.specs.Kept.{AllLive}
use Rattle.coap_exchange.specs.Table.{at_moment}
use Rattle.coap_exchange.proofs.exchanges.Exchanges.give_up_over.Given as goal

abbrev pub invariant-loop-slot : goal.invariant-loop-slot
invariant-loop-slot l = record {
  same : at_moment l.now l.self ≡ at_moment l.now l.initial.self;
  moment : l.self.moment ≡ l.initial.self.moment;
  others : (other : RequestType) → AllLive l.now other l.initial.self → AllLive l.now other l.self;
}

abbrev pub decreases-loop-slot : goal.decreases-loop-slot
decreases-loop-slot l = length l.self.exchanges
