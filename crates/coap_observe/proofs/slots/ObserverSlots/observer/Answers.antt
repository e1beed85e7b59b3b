-- The slot is that of an observer.
use Rattle.std.proofs.Common.{arith}
use Rattle.coap_observe.proofs.PlaceLaws.{slot_below}
use Rattle.coap_observe.proofs.CallUses.{holds_place}
use Rattle.coap_observe.proofs.slots.ObserverSlots.observer.Goals as goal

pub index-requires : goal.index-requires
index-requires c =
    let below = slot_below c.self.inside.capacity c.self.inside.observers.items c.self.inside.order c.self.inside.targets c.self.inside.endpoints c.args.self.now c.args.slot c.self.invariant c.self.view_is c.requires in
    omega (arith, c.self.inside.observers.ok.0, below)

pub returns : goal.returns
returns c = λ p at.
    holds_place c.self.inside.capacity c.self.inside.observers.items c.self.inside.order c.self.inside.targets c.self.inside.endpoints c.args.self.now c.args.slot
    c.index.result.now p c.self.invariant c.self.view_is at c.index.ensures
