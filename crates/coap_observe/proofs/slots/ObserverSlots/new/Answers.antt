-- All slots are free.
use Rattle.std.proofs.Common.{ℕ, List, map, ap, subst, sym, arith}
use Rattle.slot_lists.specs.Lists.{Lists, empty_lists}
use Rattle.coap_observe.specs.Kept.{AreKept, place_at}
use Rattle.coap_observe.specs.Places.{Places}
use Rattle.coap_observe.proofs.KeptLaws.{kept_first}
use Rattle.coap_observe.proofs.slots.ObserverSlots.new.Goals as goal

pub invariant_of-result : goal.invariant_of-result
invariant_of-result c =
    subst (λ (t : Lists). AreKept c.args.capacity c.in_ok-observers.observers.items c.in_ok-order.order t c.in_ok-endpoints.endpoints) (sym c.in_ok-targets.ensures)
    (subst (λ (t : Lists). AreKept c.args.capacity c.in_ok-observers.observers.items c.in_ok-order.order (empty_lists c.args.capacity c.args.capacity) t) (sym c.in_ok-endpoints.ensures)
    (kept_first c.args.capacity c.in_ok-observers.observers.items c.in_ok-order.order (omega arith) c.in_ok-observers.ensures
    c.in_ok-order.ensures.capacity c.in_ok-order.ensures.lists c.in_ok-order.ensures.slots c.in_ok-order.ensures.count c.in_ok-order.ensures.used))

pub returns : goal.returns
returns c =
    let at : List ℕ → Places = λ slots. record { capacity = c.args.capacity; list = map (place_at c.in_ok-observers.observers.items) slots } in
    ap at c.in_ok-order.ensures.used
