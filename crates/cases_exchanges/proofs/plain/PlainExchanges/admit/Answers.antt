-- The slot was free: it is a place for a reply, and no other exchange has it.
use Rattle.std.proofs.Common.{◌≡◌, ◌<◌, ◌+◌, ◌∙◌, true, List, ◌∷◌, [], ◌++◌, length, map, set, None, if◌then◌else◌, length-append, ap, subst, refl, arith}
use Rattle.std.specs.Prelude.{is_ok}
use Rattle.std.proofs.lemmas.List.{length-map}
use Rattle.std.proofs.Math.ListN.{length-set}
use Rattle.cases_exchanges.specs.Plain.{arrival_of, exchange_of, table_of}
use Rattle.coap_exchange.specs.Table.{Exchange, Table, exchange_in, with_exchange}
use Rattle.cases_exchanges.specs.declared.entry.Entry.{Entry}
use Rattle.cases_exchanges.proofs.PlainLaws.{was_free, free_is_empty, stays_kept_admitting, admits, lives_at_first}
use Rattle.cases_exchanges.proofs.plain.PlainExchanges.admit.Goals as goal

pub index_mut-requires : goal.index_mut-requires
index_mut-requires c =
    let free = was_free c.self.inside c.self.invariant c.pop.new.self.items c.in_ok-slot.slot c.in_ok-slot.ensures.items in
    let below : c.in_ok-slot.slot < c.self.inside.capacity = free.0 in
    omega (arith, c.self.invariant.places, c.self.inside.replies.ok.0)

pub invariant_of-self-2 : goal.invariant_of-self-2
invariant_of-self-2 c =
    let e : Entry = record { moment = c.self.inside.moment; from = c.args.from; id = c.args.id; kind = c.args.kind; slot = c.in_ok-slot.slot } in
    let left : length c.self.inside.free.items ≡ length c.pop.new.self.items + 1 = ap length c.in_ok-slot.ensures.items ∙ length-append c.pop.new.self.items (c.in_ok-slot.slot ∷ []) in
    let ok : is_ok c.push.result ≡ true = c.push.ensures.succeeds (omega (arith, c.self.invariant.count, c.self.invariant.entries_room, c.self.inside.entries.ok.0)) in
    let pushed : c.push.new.self.items ≡ c.self.inside.entries.items ++ e ∷ []
    = c.push.ensures.items ∙ ap (λ b. if b then c.self.inside.entries.items ++ e ∷ [] else c.self.inside.entries.items) ok in
    stays_kept_admitting c.self.inside _ e c.self.invariant c.in_ok-slot.ensures.items pushed (lives_at_first (arrival_of e))
    refl refl (length-set c.self.inside.replies.items c.in_ok-slot.slot None) c.push.ensures.capacity c.pop.ensures.capacity

pub returns : goal.returns
returns c =
    let e : Entry = record { moment = c.self.inside.moment; from = c.args.from; id = c.args.id; kind = c.args.kind; slot = c.in_ok-slot.slot } in
    let left : length c.self.inside.free.items ≡ length c.pop.new.self.items + 1 = ap length c.in_ok-slot.ensures.items ∙ length-append c.pop.new.self.items (c.in_ok-slot.slot ∷ []) in
    let ok : is_ok c.push.result ≡ true = c.push.ensures.succeeds (omega (arith, c.self.invariant.count, c.self.invariant.entries_room, c.self.inside.entries.ok.0)) in
    let pushed : c.push.new.self.items ≡ c.self.inside.entries.items ++ e ∷ []
    = c.push.ensures.items ∙ ap (λ b. if b then c.self.inside.entries.items ++ e ∷ [] else c.self.inside.entries.items) ok in
    let free = was_free c.self.inside c.self.invariant c.pop.new.self.items c.in_ok-slot.slot c.in_ok-slot.ensures.items in
    let below : c.in_ok-slot.slot < c.self.inside.capacity = free.0 in
    let place : c.in_ok-slot.slot < length c.self.inside.replies.items = omega (arith, c.self.invariant.places) in
    let count : length (map (exchange_of c.self.inside.replies.items) c.self.inside.entries.items) ≡ length c.self.inside.entries.items
    = length-map c.self.inside.entries.items (exchange_of c.self.inside.replies.items) in
    let room : length (map (exchange_of c.self.inside.replies.items) c.self.inside.entries.items) < c.self.inside.capacity = omega (arith, c.self.invariant.count) in
    let at : List Exchange → Table = λ es. record { capacity = c.self.inside.capacity; moment = c.self.inside.moment; exchanges = es } in
    let after : List Exchange = map (exchange_of (set c.self.inside.replies.items c.in_ok-slot.slot None)) c.push.new.self.items in
    let new : at after ≡ with_exchange (arrival_of e) c.in_ok-slot.slot (table_of c.self.inside)
    = ap at (ap (map (exchange_of (set c.self.inside.replies.items c.in_ok-slot.slot None))) pushed ∙ admits c.self.inside.replies.items c.self.inside.entries.items e place free.1) in
    let P : Table → Type 0 = λ t.
    (length t.exchanges < t.capacity)
    × (exchange_in c.in_ok-slot.slot t ≡ None)
    × (at after ≡ with_exchange (record { moment = t.moment; from = c.args.from; id = c.args.id; kind = c.args.kind }) c.in_ok-slot.slot t) in
    let all : P (table_of c.self.inside) = (room, free_is_empty c.self.inside c.in_ok-slot.slot free.1, new) in
    subst P c.self.view_is all
