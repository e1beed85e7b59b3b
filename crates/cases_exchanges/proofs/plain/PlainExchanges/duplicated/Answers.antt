-- The entry that has the endpoint and the message ID is the exchange of which it is a duplicate.
use Rattle.std.proofs.Common.{◌≡◌, ◌<◌, ◌∙◌, ℕ, length, get_or, Option, Some, None, ap, subst, sym, refl, arith}
use Rattle.std.specs.List.{find}
use Rattle.std.specs.Option.{option_map}
use Rattle.coap_exchange.specs.Admission.{Arrival}
use Rattle.cases_exchanges.specs.Plain.{is_of, exchange_of, table_of}
use Rattle.coap_exchange.specs.Table.{Table, FindsDuplicated}
use Rattle.cases_exchanges.specs.declared.entry.Entry.{Entry}
use Rattle.coap_exchange.proofs.ListLaws.{read_within}
use Rattle.cases_exchanges.proofs.PlainLaws.{found_is_place, found_is_in_slot, duplicated_is}
use Rattle.cases_exchanges.proofs.plain.PlainExchanges.duplicated.Goals as goal

pub index-requires : goal.index-requires
index-requires c =
    let found : find (is_of c.args.from c.args.id) c.self.inside.entries.items ≡ Some c.in_ok-entry.entry
    = sym (ap (find (is_of c.args.from c.args.id)) c.as_slice.ensures.value) ∙ (sym c.entry_of.ensures ∙ c.in_ok-entry.was) in
    let place : c.in_ok-entry.entry.slot < length c.self.inside.replies.items
    = found_is_place c.self.inside c.self.invariant (is_of c.args.from c.args.id) c.in_ok-entry.entry found in
    omega (arith, c.self.inside.replies.ok.0)

pub returns-in_err-entry : goal.returns-in_err-entry
returns-in_err-entry c kind =
    let found : find (is_of c.args.from c.args.id) c.self.inside.entries.items ≡ None
    = sym (ap (find (is_of c.args.from c.args.id)) c.as_slice.ensures.value) ∙ (sym c.entry_of.ensures ∙ c.in_err-entry.was) in
    let P : Table → Type 0 = λ t. FindsDuplicated t (record { moment = t.moment; from = c.args.from; id = c.args.id; kind = kind }) None in
    let a : Arrival = record { moment = c.self.inside.moment; from = c.args.from; id = c.args.id; kind = kind } in
    let none : P (table_of c.self.inside) = duplicated_is c.self.inside c.self.invariant a refl ∙ ap (option_map (exchange_of c.self.inside.replies.items)) found in
    let Q : Option (Option ℕ) → Type 0 = λ r. FindsDuplicated c.args.self.now (record { moment = c.args.self.now.moment; from = c.args.from; id = c.args.id; kind = kind }) r in
    subst Q (sym c.from_residual.ensures) (subst P c.self.view_is none)

pub returns-in-Some : goal.returns-in-Some
returns-in-Some c kind =
    let y : Entry = c.in_ok-entry.entry in
    let found : find (is_of c.args.from c.args.id) c.self.inside.entries.items ≡ Some y
    = sym (ap (find (is_of c.args.from c.args.id)) c.as_slice.ensures.value) ∙ (sym c.entry_of.ensures ∙ c.in_ok-entry.was) in
    let place : y.slot < length c.self.inside.replies.items = found_is_place c.self.inside c.self.invariant (is_of c.args.from c.args.id) y found in
    let read : get_or c.self.inside.replies.items y.slot None ≡ Some c.in-Some.field-0
    = read_within c.self.inside.replies.items y.slot None c.index.result.now place ∙ (sym c.index.ensures ∙ c.in-Some.is) in
    let P : Table → Type 0 = λ t. FindsDuplicated t (record { moment = t.moment; from = c.args.from; id = c.args.id; kind = kind }) (Some (Some y.slot)) in
    let a : Arrival = record { moment = c.self.inside.moment; from = c.args.from; id = c.args.id; kind = kind } in
    let one : P (table_of c.self.inside) = (
      exchange_of c.self.inside.replies.items y,
      duplicated_is c.self.inside c.self.invariant a refl ∙ ap (option_map (exchange_of c.self.inside.replies.items)) found,
      found_is_in_slot c.self.inside c.self.invariant (is_of c.args.from c.args.id) y found,
      sym (ap (option_map (λ _. y.slot)) read),
    ) in
    subst P c.self.view_is one

pub returns-in-None : goal.returns-in-None
returns-in-None c kind =
    let y : Entry = c.in_ok-entry.entry in
    let found : find (is_of c.args.from c.args.id) c.self.inside.entries.items ≡ Some y
    = sym (ap (find (is_of c.args.from c.args.id)) c.as_slice.ensures.value) ∙ (sym c.entry_of.ensures ∙ c.in_ok-entry.was) in
    let place : y.slot < length c.self.inside.replies.items = found_is_place c.self.inside c.self.invariant (is_of c.args.from c.args.id) y found in
    let read : get_or c.self.inside.replies.items y.slot None ≡ None
    = read_within c.self.inside.replies.items y.slot None c.index.result.now place ∙ (sym c.index.ensures ∙ c.in-None.is) in
    let P : Table → Type 0 = λ t. FindsDuplicated t (record { moment = t.moment; from = c.args.from; id = c.args.id; kind = kind }) (Some None) in
    let a : Arrival = record { moment = c.self.inside.moment; from = c.args.from; id = c.args.id; kind = kind } in
    let one : P (table_of c.self.inside) = (
      exchange_of c.self.inside.replies.items y,
      duplicated_is c.self.inside c.self.invariant a refl ∙ ap (option_map (exchange_of c.self.inside.replies.items)) found,
      found_is_in_slot c.self.inside c.self.invariant (is_of c.args.from c.args.id) y found,
      sym (ap (option_map (λ _. y.slot)) read),
    ) in
    subst P c.self.view_is one
