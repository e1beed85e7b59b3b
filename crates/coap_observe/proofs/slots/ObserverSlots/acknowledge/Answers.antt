-- The observer keeps its target and its endpoint.
use Rattle.std.proofs.Common.{refl, arith}
use Rattle.coap_observe.specs.Watching.{acknowledged}
use Rattle.coap_observe.proofs.CallUses.{kept_by, seen_by}
use Rattle.coap_observe.proofs.PlaceLaws.{slot_below}
use Rattle.coap_observe.proofs.slots.ObserverSlots.acknowledge.Goals as goal

pub index_mut-requires : goal.index_mut-requires
index_mut-requires c =
    let below = slot_below c.self.inside.capacity c.self.inside.observers.items c.self.inside.order c.self.inside.targets c.self.inside.endpoints c.args.self.now c.args.slot c.self.invariant c.self.view_is c.requires in
    omega (arith, c.self.inside.observers.ok.0, below)

pub invariant_of-self : goal.invariant_of-self
invariant_of-self c =
    kept_by (acknowledged) (λ w. refl) (λ w. refl) c.self.inside.capacity c.self.inside.observers.items c.self.inside.order c.self.inside.targets c.self.inside.endpoints c.args.self.now c.args.slot
    c.index_mut.result.now c.acknowledge.new.self c.self.invariant c.self.view_is c.requires c.index_mut.ensures.value c.acknowledge.ensures

pub returns : goal.returns
returns c =
    seen_by acknowledged c.self.inside.capacity c.self.inside.observers.items c.self.inside.order c.self.inside.targets c.self.inside.endpoints c.args.self.now c.args.slot
    c.index_mut.result.now c.acknowledge.new.self c.self.invariant c.self.view_is c.requires c.index_mut.ensures.value c.acknowledge.ensures
