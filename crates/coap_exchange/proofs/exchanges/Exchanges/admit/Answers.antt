-- The slot was free: it goes to the lists of its kind, of its bucket and of all, and no other exchange has it.
use Rattle.std.proofs.Common.{◌≡◌, ◌<◌, ◌++◌, ◌∷◌, [], ◌∙◌, ℕ, List, Option, true, false, Some, None, length, map, set, find, sym, ap, subst, refl, arith}
use Rattle.std.specs.Option.{option_map}
use Rattle.std.proofs.lemmas.List.{length-map, length-set}
use Rattle.slot_lists.specs.Lists.{Lists, list_at, with_list, is_among}
use Rattle.coap_exchange.specs.Admission.{Arrival}
use Rattle.coap_exchange.specs.Slots.{arrival_of, is_of, entry_at, exchange_at, bucket_at}
use Rattle.coap_msg.specs.Buckets.{bucket}
use Rattle.coap_exchange.specs.Kept.{table_of, living_slots, free_slots, IsKept}
use Rattle.coap_exchange.specs.Table.{Exchange, Table, exchange_in, with_exchange, duplicated_exchange}
use Rattle.coap_exchange.specs.declared.entry.Entry.{Entry}
use Rattle.coap_exchange.specs.declared.exchanges.Exchanges.TheInside.{Inside}
use Rattle.coap_exchange.proofs.TableLaws.{duplicated_is, free_is_place, free_is_empty, lives_at_first}
use Rattle.coap_exchange.proofs.KeptLaws.{used, pushed_at, kept_with, admits, living_with, some_room, taken_from_kinds, free_in_no_bucket, free_in_no_order, entry_is}
use Rattle.coap_exchange.proofs.exchanges.Exchanges.admit.Goals as goal

pub push_back-requires-clause-apart : goal.push_back-requires-clause-apart
push_back-requires-clause-apart c = λ i.
    subst (λ (t : Lists). is_among c.in_ok-slot.slot (list_at i t) ≡ false) (sym c.remove.ensures)
    (taken_from_kinds c.self.inside c.in_ok-slot.slot c.self.invariant c.in_ok-slot.ensures.member.0 i)

pub push_back-requires-2-clause-apart : goal.push_back-requires-2-clause-apart
push_back-requires-2-clause-apart c = free_in_no_bucket c.self.inside c.in_ok-slot.slot c.self.invariant c.in_ok-slot.ensures.member.0

pub push_back-requires-3-clause-apart : goal.push_back-requires-3-clause-apart
push_back-requires-3-clause-apart c = free_in_no_order c.self.inside c.in_ok-slot.slot c.self.invariant c.in_ok-slot.ensures.member.0

-- the request is none of those that live
unmapped : {A B : Type 0} (f : A → B) (o : Option A) → option_map f o ≡ None → o ≡ None
unmapped f None h = refl
unmapped f (Some a) h = cc

is_new : (x : Inside) (t : Table) (a : Arrival) → IsKept x → table_of x ≡ t → a.moment ≡ x.moment → duplicated_exchange a t ≡ None
    → find (λ s. is_of a.from a.id (entry_at x.entries.items s)) (living_slots x) ≡ None
is_new x t a kept view moment h =
    unmapped (exchange_at x.entries.items x.replies.items) (find (λ s. is_of a.from a.id (entry_at x.entries.items s)) (living_slots x))
    (sym (duplicated_is x kept a moment) ∙ (ap (duplicated_exchange a) view ∙ h))

pub invariant_of-self : goal.invariant_of-self
invariant_of-self c =
    let e : Entry = record { moment = c.self.inside.moment; from = c.args.from; id = c.args.id; kind = c.args.kind } in
    let free : is_among c.in_ok-slot.slot (free_slots c.self.inside) ≡ true = c.in_ok-slot.ensures.member.0 in
    let place = free_is_place c.self.inside c.self.invariant c.in_ok-slot.slot free in
    let below : c.in_ok-slot.slot < length c.self.inside.entries.items = omega (arith, c.self.invariant.entries, place.0) in
    let moment : c.self.inside.moment ≡ c.args.self.now.moment = ap (λ (t : Table). t.moment) c.self.view_is in
    let new : find (λ s. is_of c.args.from c.args.id (entry_at c.self.inside.entries.items s)) (living_slots c.self.inside) ≡ None
    = is_new c.self.inside c.args.self.now (record { moment = c.args.self.now.moment; from = c.args.from; id = c.args.id; kind = c.args.kind }) c.self.invariant c.self.view_is (sym moment) c.requires in
    let number : c.bucket_of.result ≡ bucket_at (set c.self.inside.entries.items c.in_ok-slot.slot e) c.self.inside.capacity c.in_ok-slot.slot
    = c.bucket_of.ensures.bucket ∙ ap (λ (z : Entry). bucket c.self.inside.capacity z.from z.id) (sym (entry_is c.self.inside.entries.items c.in_ok-slot.slot e below)) in
    kept_with c.self.inside _ c.in_ok-slot.slot e c.self.invariant free refl (lives_at_first (arrival_of e)) new
    refl refl refl (length-set c.self.inside.replies.items c.in_ok-slot.slot None)
    (c.push_back.ensures ∙ (ap (λ (t : Lists). with_list c.list_of.result (list_at c.list_of.result t ++ c.in_ok-slot.slot ∷ []) t) c.remove.ensures
    ∙ ap (λ n. used n c.in_ok-slot.slot c.self.inside.kinds) c.list_of.ensures))
    (c.push_back-2.ensures ∙ ap (λ n. pushed_at n c.in_ok-slot.slot c.self.inside.buckets) number)
    c.push_back-3.ensures

pub returns : goal.returns
returns c =
    let e : Entry = record { moment = c.self.inside.moment; from = c.args.from; id = c.args.id; kind = c.args.kind } in
    let free : is_among c.in_ok-slot.slot (free_slots c.self.inside) ≡ true = c.in_ok-slot.ensures.member.0 in
    let place = free_is_place c.self.inside c.self.invariant c.in_ok-slot.slot free in
    let below : c.in_ok-slot.slot < length c.self.inside.entries.items = omega (arith, c.self.invariant.entries, place.0) in
    let for_reply : c.in_ok-slot.slot < length c.self.inside.replies.items = omega (arith, c.self.invariant.replies, place.0) in
    let count : length (map (exchange_at c.self.inside.entries.items c.self.inside.replies.items) (living_slots c.self.inside)) ≡ length (living_slots c.self.inside)
    = length-map (living_slots c.self.inside) (exchange_at c.self.inside.entries.items c.self.inside.replies.items) in
    let few : length (living_slots c.self.inside) < c.self.inside.capacity = some_room c.self.inside c.in_ok-slot.slot c.self.invariant free in
    let room : length (map (exchange_at c.self.inside.entries.items c.self.inside.replies.items) (living_slots c.self.inside)) < c.self.inside.capacity = omega arith in
    let at : List Exchange → Table = λ es. record { capacity = c.self.inside.capacity; moment = c.self.inside.moment; exchanges = es } in
    let after : List ℕ → List Exchange = map (exchange_at (set c.self.inside.entries.items c.in_ok-slot.slot e) (set c.self.inside.replies.items c.in_ok-slot.slot None)) in
    let living : list_at 0 c.push_back-3.new.self ≡ living_slots c.self.inside ++ c.in_ok-slot.slot ∷ []
    = ap (list_at 0) c.push_back-3.ensures ∙ living_with c.self.inside c.in_ok-slot.slot c.self.invariant in
    let new : at (after (list_at 0 c.push_back-3.new.self)) ≡ with_exchange (arrival_of e) c.in_ok-slot.slot (table_of c.self.inside)
    = ap (λ l. at (after l)) living
    ∙ ap at (admits c.self.inside.entries.items c.self.inside.replies.items c.in_ok-slot.slot e (living_slots c.self.inside) below for_reply place.1) in
    let P : Table → Type 0 = λ t.
    (length t.exchanges < t.capacity)
    × (exchange_in c.in_ok-slot.slot t ≡ None)
    × (at (after (list_at 0 c.push_back-3.new.self)) ≡ with_exchange (record { moment = t.moment; from = c.args.from; id = c.args.id; kind = c.args.kind }) c.in_ok-slot.slot t) in
    let all : P (table_of c.self.inside) = (room, free_is_empty c.self.inside c.in_ok-slot.slot place.1, new) in
    subst P c.self.view_is all
