-- The entries that live stay, and the slots of the others are free.
use Rattle.std.proofs.Common.{◌≡◌, ◌∙◌, List, ◌++◌, not, map, ap, sym, refl}
use Rattle.std.specs.List.{filter}
use Rattle.coap_exchange.specs.Admission.{lives}
use Rattle.cases_exchanges.specs.Plain.{arrival_of, exchange_of}
use Rattle.coap_exchange.specs.Table.{Exchange, Table, at_moment}
use Rattle.coap_exchange.proofs.ListLaws.{filter-map}
use Rattle.cases_exchanges.proofs.PlainLaws.{stays_kept_later}
use Rattle.cases_exchanges.proofs.plain.PlainExchanges.advance_to.Goals as goal

pub invariant_of-self : goal.invariant_of-self
invariant_of-self c =
    stays_kept_later c.self.inside _ c.args.now c.self.invariant c.keep_living.ensures.items
    (c.free_slots.ensures.slots ∙ ap (λ es. c.self.inside.free.items ++ map (λ e. e.slot) (filter (λ e. not (lives c.args.now (arrival_of e))) es)) c.as_slice.ensures.value)
    refl refl refl c.keep_living.ensures.room c.free_slots.ensures.room

pub returns : goal.returns
returns c =
    let at : List Exchange → Table = λ es. record { capacity = c.self.inside.capacity; moment = c.args.now; exchanges = es } in
    let kept : map (exchange_of c.self.inside.replies.items) c.keep_living.new.entries.items
    ≡ map (exchange_of c.self.inside.replies.items) (filter (λ e. lives c.args.now (arrival_of e)) c.self.inside.entries.items)
    = ap (map (exchange_of c.self.inside.replies.items)) c.keep_living.ensures.items in
    let swapped : filter (λ e. lives c.args.now e.arrival) (map (exchange_of c.self.inside.replies.items) c.self.inside.entries.items)
    ≡ map (exchange_of c.self.inside.replies.items) (filter (λ e. lives c.args.now (arrival_of e)) c.self.inside.entries.items)
    = filter-map (λ e. lives c.args.now e.arrival) (exchange_of c.self.inside.replies.items) c.self.inside.entries.items in
    ap at (kept ∙ sym swapped) ∙ ap (at_moment c.args.now) c.self.view_is
