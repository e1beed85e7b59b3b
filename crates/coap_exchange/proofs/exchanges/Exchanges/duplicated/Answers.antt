-- The slot that has the endpoint and the message ID is that of the exchange of which it is a duplicate.
use Rattle.std.proofs.Common.{◌≡◌, ◌<◌, ◌∙◌, ℕ, true, length, get_or, Option, Some, None, find, ap, subst, sym, refl, arith}
use Rattle.std.specs.Option.{option_map}
use Rattle.slot_lists.specs.Lists.{is_among}
use Rattle.coap_exchange.specs.Admission.{Arrival}
use Rattle.coap_exchange.specs.Slots.{is_of, entry_at, exchange_at}
use Rattle.coap_exchange.specs.Kept.{table_of, living_slots}
use Rattle.coap_exchange.specs.Table.{Table, FindsDuplicated}
use Rattle.coap_exchange.proofs.ListLaws.{read_within}
use Rattle.coap_exchange.proofs.TableLaws.{searched, found_lives, living_is_below, lives_in_slot, duplicated_is}
use Rattle.coap_exchange.proofs.exchanges.Exchanges.duplicated.Goals as goal

pub index-requires : goal.index-requires
index-requires c =
    let found : find (λ s. is_of c.args.from c.args.id (entry_at c.self.inside.entries.items s)) (living_slots c.self.inside) ≡ Some c.in_ok-slot.slot
    = sym (searched c.self.inside c.self.invariant c.deref.result.now c.bucket_of-bucket.result c.args.from c.args.id c.slot_of.result
    c.deref.ensures.value c.bucket_of-bucket.ensures.bucket c.bucket_of-bucket.ensures.within c.slot_of.ensures) ∙ c.in_ok-slot.was in
    let below : c.in_ok-slot.slot < c.self.inside.capacity
    = living_is_below c.self.inside c.self.invariant c.in_ok-slot.slot (found_lives _ (living_slots c.self.inside) c.in_ok-slot.slot found) in
    omega (arith, c.self.inside.replies.ok.0, c.self.invariant.replies)

pub returns-in_err-slot : goal.returns-in_err-slot
returns-in_err-slot c kind =
    let found : find (λ s. is_of c.args.from c.args.id (entry_at c.self.inside.entries.items s)) (living_slots c.self.inside) ≡ None
    = sym (searched c.self.inside c.self.invariant c.deref.result.now c.bucket_of-bucket.result c.args.from c.args.id c.slot_of.result
    c.deref.ensures.value c.bucket_of-bucket.ensures.bucket c.bucket_of-bucket.ensures.within c.slot_of.ensures) ∙ c.in_err-slot.was in
    let P : Table → Type 0 = λ t. FindsDuplicated t (record { moment = t.moment; from = c.args.from; id = c.args.id; kind = kind }) None in
    let a : Arrival = record { moment = c.self.inside.moment; from = c.args.from; id = c.args.id; kind = kind } in
    let none : P (table_of c.self.inside)
    = duplicated_is c.self.inside c.self.invariant a refl ∙ ap (option_map (exchange_at c.self.inside.entries.items c.self.inside.replies.items)) found in
    let Q : Option (Option ℕ) → Type 0 = λ r. FindsDuplicated c.args.self.now (record { moment = c.args.self.now.moment; from = c.args.from; id = c.args.id; kind = kind }) r in
    subst Q (sym c.from_residual.ensures) (subst P c.self.view_is none)

pub returns-in-Some : goal.returns-in-Some
returns-in-Some c kind =
    let y : ℕ = c.in_ok-slot.slot in
    let found : find (λ s. is_of c.args.from c.args.id (entry_at c.self.inside.entries.items s)) (living_slots c.self.inside) ≡ Some c.in_ok-slot.slot
    = sym (searched c.self.inside c.self.invariant c.deref.result.now c.bucket_of-bucket.result c.args.from c.args.id c.slot_of.result
    c.deref.ensures.value c.bucket_of-bucket.ensures.bucket c.bucket_of-bucket.ensures.within c.slot_of.ensures) ∙ c.in_ok-slot.was in
    let has : is_among c.in_ok-slot.slot (living_slots c.self.inside) ≡ true = found_lives _ (living_slots c.self.inside) c.in_ok-slot.slot found in
    let below : c.in_ok-slot.slot < c.self.inside.capacity = living_is_below c.self.inside c.self.invariant c.in_ok-slot.slot has in
    let place : c.in_ok-slot.slot < length c.self.inside.replies.items = omega (arith, c.self.invariant.replies) in
    let read : get_or c.self.inside.replies.items c.in_ok-slot.slot None ≡ Some c.in-Some.field-0
    = read_within c.self.inside.replies.items c.in_ok-slot.slot None c.index.result.now place ∙ (sym c.index.ensures ∙ c.in-Some.is) in
    let P : Table → Type 0 = λ t. FindsDuplicated t (record { moment = t.moment; from = c.args.from; id = c.args.id; kind = kind }) (Some (Some c.in_ok-slot.slot)) in
    let a : Arrival = record { moment = c.self.inside.moment; from = c.args.from; id = c.args.id; kind = kind } in
    let one : P (table_of c.self.inside) = (
      exchange_at c.self.inside.entries.items c.self.inside.replies.items c.in_ok-slot.slot,
      duplicated_is c.self.inside c.self.invariant a refl ∙ ap (option_map (exchange_at c.self.inside.entries.items c.self.inside.replies.items)) found,
      lives_in_slot c.self.inside c.in_ok-slot.slot has,
      sym (ap (option_map (λ _. c.in_ok-slot.slot)) read),
    ) in
    subst P c.self.view_is one

pub returns-in-None : goal.returns-in-None
returns-in-None c kind =
    let found : find (λ s. is_of c.args.from c.args.id (entry_at c.self.inside.entries.items s)) (living_slots c.self.inside) ≡ Some c.in_ok-slot.slot
    = sym (searched c.self.inside c.self.invariant c.deref.result.now c.bucket_of-bucket.result c.args.from c.args.id c.slot_of.result
    c.deref.ensures.value c.bucket_of-bucket.ensures.bucket c.bucket_of-bucket.ensures.within c.slot_of.ensures) ∙ c.in_ok-slot.was in
    let has : is_among c.in_ok-slot.slot (living_slots c.self.inside) ≡ true = found_lives _ (living_slots c.self.inside) c.in_ok-slot.slot found in
    let below : c.in_ok-slot.slot < c.self.inside.capacity = living_is_below c.self.inside c.self.invariant c.in_ok-slot.slot has in
    let place : c.in_ok-slot.slot < length c.self.inside.replies.items = omega (arith, c.self.invariant.replies) in
    let read : get_or c.self.inside.replies.items c.in_ok-slot.slot None ≡ None
    = read_within c.self.inside.replies.items c.in_ok-slot.slot None c.index.result.now place ∙ (sym c.index.ensures ∙ c.in-None.is) in
    let P : Table → Type 0 = λ t. FindsDuplicated t (record { moment = t.moment; from = c.args.from; id = c.args.id; kind = kind }) (Some None) in
    let a : Arrival = record { moment = c.self.inside.moment; from = c.args.from; id = c.args.id; kind = kind } in
    let one : P (table_of c.self.inside) = (
      exchange_at c.self.inside.entries.items c.self.inside.replies.items c.in_ok-slot.slot,
      duplicated_is c.self.inside c.self.invariant a refl ∙ ap (option_map (exchange_at c.self.inside.entries.items c.self.inside.replies.items)) found,
      lives_in_slot c.self.inside c.in_ok-slot.slot has,
      sym (ap (option_map (λ _. c.in_ok-slot.slot)) read),
    ) in
    subst P c.self.view_is one
