-- The table, from the code's entries.
use Rattle.std.proofs.Common.{◌-◌, not, ◌++◌, vec_capacity, length-append, ◌≡◌, ◌+◌, ◌≤◌, ◌<◌, ◌==◌, ℕ, Bool, true, false, cond, List, [], ◌∷◌, map, length, get_or, set, Option, Some, None, ◌≢◌, ◌∙◌, sym, refl, ap, arith}
use Rattle.std.specs.Option.{option_map}
use Rattle.std.specs.Prelude.{nat_lt}
use Rattle.std.proofs.lemmas.List.Elements.{All-push, filter_passes}
use Rattle.std.proofs.lemmas.List.Filters.{length-filter_both}
use Rattle.coap_msg.specs.declared.message.RequestType.{RequestType}
use Rattle.coap_msg.specs.declared.message.RequestType.TheVariants.{Confirmable, NonConfirmable}
use Rattle.coap_exchange.specs.Admission.{Arrival, lifetime, lives, is_duplicate_of}
use Rattle.cases_exchanges.specs.Plain.{arrival_of, is_of, exchange_of, table_of, IsKept, times_used, times_free}
use Rattle.slot_lists.specs.Counts.{once_below}
use Rattle.coap_exchange.specs.Table.{Exchange, exchange_in, answered, duplicated_exchange}
use Rattle.cases_exchanges.specs.declared.entry.Entry.{Entry}
use Rattle.cases_exchanges.specs.declared.plain.PlainExchanges.TheInside.{Inside}
use Rattle.coap_exchange.proofs.ListLaws.{find-map, option_map_some, found_is_counted, found_once, found_passes, find_agreeing, uncounted_is_not_found}
use Rattle.cases_exchanges.proofs.PlainSlots.{times_used-append, times_free-append, slots_split}
use Rattle.slot_lists.proofs.Counts.{once_is_below, once_at_most}
use Rattle.std.specs.List.{find, filter, AllByRecursion}
use Rattle.std.proofs.lemmas.List.Elements.{recursion_from_All}
use Rattle.std.proofs.lemmas.List.{get_or-set_same, get_or-set_other, length-map, map-append}
use Rattle.std.proofs.lemmas.Bool.Decides.{nat_tests}

-- the exchange in a slot is that of the entry with the slot
in_slot : (x : Inside) (slot : ℕ) → exchange_in slot (table_of x) ≡ option_map (exchange_of x.replies.items) (find (λ e. e.slot == slot) x.entries.items)
in_slot x slot = find-map (λ e. e.slot == slot) (exchange_of x.replies.items) x.entries.items

-- a slot that an entry has is a place for a reply
pub used_is_place : (x : Inside) → IsKept x → (slot : ℕ) → 1 ≤ times_used slot x.entries.items → slot < length x.replies.items
used_is_place x kept slot h =
    let once : 1 ≤ once_below slot x.capacity = omega (arith, kept.slots slot) in
    let below : slot < x.capacity = once_is_below slot x.capacity once in
    omega (arith, kept.places)

-- the entry of the exchange in a slot
pub entry_in : (x : Inside) (slot : ℕ) (e : Exchange) → exchange_in slot (table_of x) ≡ Some e
    → (y : Entry) × (find (λ z. z.slot == slot) x.entries.items ≡ Some y) × (exchange_of x.replies.items y ≡ e)
entry_in x slot e h =
    let mapped : option_map (exchange_of x.replies.items) (find (λ z. z.slot == slot) x.entries.items) ≡ Some e = sym (in_slot x slot) ∙ h in
    option_map_some (exchange_of x.replies.items) (find (λ z. z.slot == slot) x.entries.items) e mapped

-- ---- keeping a reply

-- a reply that is put into a slot is that of the exchange in the slot, and of no other
kept_at : (replies : List (Option (List ℕ))) (slot : ℕ) (bytes : List ℕ) (e : Entry) (b : Bool) → slot < length replies → (e.slot == slot) ≡ b
    → exchange_of (set replies slot (Some bytes)) e ≡ cond b (record (exchange_of replies e) { reply = Some bytes }) (exchange_of replies e)
kept_at replies slot bytes e true h t =
    let same : e.slot ≡ slot = grind (arith, nat_tests) in
    let put : get_or (set replies slot (Some bytes)) e.slot None ≡ Some bytes = rw same (get_or-set_same replies slot (Some bytes) None h) in
    let at : Option (List ℕ) → Exchange = λ r. record { arrival = arrival_of e; slot = e.slot; reply = r } in
    ap at put
kept_at replies slot bytes e false h t =
    let other : e.slot ≢ slot = grind (arith, nat_tests) in
    let stays : get_or (set replies slot (Some bytes)) e.slot None ≡ get_or replies e.slot None = get_or-set_other replies slot e.slot (Some bytes) None other in
    let at : Option (List ℕ) → Exchange = λ r. record { arrival = arrival_of e; slot = e.slot; reply = r } in
    ap at stays

pub keeps_reply : (replies : List (Option (List ℕ))) (slot : ℕ) (bytes : List ℕ) → slot < length replies → (es : List Entry)
    → map (exchange_of (set replies slot (Some bytes))) es ≡ map (answered slot bytes) (map (exchange_of replies) es)
keeps_reply replies slot bytes h [] = refl
keeps_reply replies slot bytes h (e ∷ es) =
    let first : exchange_of (set replies slot (Some bytes)) e ≡ answered slot bytes (exchange_of replies e) = kept_at replies slot bytes e (e.slot == slot) h refl in
    let rest : map (exchange_of (set replies slot (Some bytes))) es ≡ map (answered slot bytes) (map (exchange_of replies) es) = keeps_reply replies slot bytes h es in
    cc

-- ---- a slot that nothing uses

-- no exchange is in a slot that is free
pub free_is_empty : (x : Inside) → (slot : ℕ) → times_used slot x.entries.items ≡ 0 → exchange_in slot (table_of x) ≡ None
free_is_empty x slot h = in_slot x slot ∙ ap (option_map (exchange_of x.replies.items)) (uncounted_is_not_found (λ e. e.slot == slot) x.entries.items h)

-- a reply that is put into a slot that no entry has changes no exchange
unused_at : (n : ℕ) (b : Bool) → cond b 1 0 + n ≡ 0 → (b ≡ false) × (n ≡ 0)
unused_at n true h = absurd (omega arith)
unused_at n false h = (refl, omega arith)

pub unused_changes_nothing : (replies : List (Option (List ℕ))) (slot : ℕ) (r : Option (List ℕ)) (es : List Entry) → times_used slot es ≡ 0
    → map (exchange_of (set replies slot r)) es ≡ map (exchange_of replies) es
unused_changes_nothing replies slot r [] h = refl
unused_changes_nothing replies slot r (e ∷ es) h =
    let split : ((e.slot == slot) ≡ false) × (times_used slot es ≡ 0) = unused_at (times_used slot es) (e.slot == slot) h in
    let differs : (e.slot == slot) ≡ false = split.0 in
    let other : e.slot ≢ slot = grind (arith, nat_tests) in
    let stays : get_or (set replies slot r) e.slot None ≡ get_or replies e.slot None = get_or-set_other replies slot e.slot r None other in
    let at : Option (List ℕ) → Exchange = λ q. record { arrival = arrival_of e; slot = e.slot; reply = q } in
    let first : exchange_of (set replies slot r) e ≡ exchange_of replies e = ap at stays in
    let rest : map (exchange_of (set replies slot r)) es ≡ map (exchange_of replies) es = unused_changes_nothing replies slot r es split.1 in
    cc

-- ---- the exchange that a request duplicates

-- among entries that all live, a request duplicates the one that has its endpoint and message ID
tests_agree : (x : Inside) (a : Arrival) (es : List Entry) → a.moment ≡ x.moment → AllByRecursion (λ e. lives x.moment (arrival_of e) ≡ true) es
    → AllByRecursion (λ e. is_duplicate_of a (arrival_of e) ≡ is_of a.from a.id e) es
tests_agree x a [] m h = tt
tests_agree x a (e ∷ es) m h =
    let alive : lives a.moment (arrival_of e) ≡ true = rw m h.0 in
    (rw alive refl, tests_agree x a es m h.1)

pub duplicated_is : (x : Inside) → IsKept x → (a : Arrival) → a.moment ≡ x.moment
    → duplicated_exchange a (table_of x) ≡ option_map (exchange_of x.replies.items) (find (is_of a.from a.id) x.entries.items)
duplicated_is x kept a m =
    let mapped = find-map (λ e. is_duplicate_of a e.arrival) (exchange_of x.replies.items) x.entries.items in
    let agree = find_agreeing (λ e. is_duplicate_of a (arrival_of e)) (is_of a.from a.id) x.entries.items
    (tests_agree x a x.entries.items m (recursion_from_All (λ e. lives x.moment (arrival_of e) ≡ true) x.entries.items kept.living)) in
    mapped ∙ ap (option_map (exchange_of x.replies.items)) agree

-- an entry that is found is the one of its slot
pub same_slot : (n : ℕ) → (n == n) ≡ true
same_slot n = grind (arith, nat_tests)

pub found_is_in_slot : (x : Inside) → IsKept x → (q : Entry → Bool) (y : Entry) → find q x.entries.items ≡ Some y
    → exchange_in y.slot (table_of x) ≡ Some (exchange_of x.replies.items y)
found_is_in_slot x kept q y h =
    let most : times_used y.slot x.entries.items ≤ 1 = omega (arith, kept.slots y.slot, once_at_most y.slot x.capacity) in
    let once : find (λ e. e.slot == y.slot) x.entries.items ≡ Some y = found_once (λ e. e.slot == y.slot) q x.entries.items y h (same_slot y.slot) most in
    in_slot x y.slot ∙ ap (option_map (exchange_of x.replies.items)) once

pub found_is_place : (x : Inside) → IsKept x → (q : Entry → Bool) (y : Entry) → find q x.entries.items ≡ Some y → y.slot < length x.replies.items
found_is_place x kept q y h =
    used_is_place x kept y.slot (found_is_counted (λ e. e.slot == y.slot) q x.entries.items y h (same_slot y.slot))

-- an exchange in a slot has a place for its reply
pub slot_is_place : (x : Inside) → IsKept x → (slot : ℕ) (e : Exchange) → exchange_in slot (table_of x) ≡ Some e → slot < length x.replies.items
slot_is_place x kept slot e h =
    let found = entry_in x slot e h in
    let has : (found.0.slot == slot) ≡ true = found_passes (λ z. z.slot == slot) x.entries.items found.0 found.1 in
    used_is_place x kept slot (found_is_counted (λ z. z.slot == slot) (λ z. z.slot == slot) x.entries.items found.0 found.1 has)

-- ---- a new exchange

-- a request lives at the moment at which it comes
lives_for : (m n : ℕ) → 0 < n → nat_lt (m - m) n ≡ true
lives_for m n h = grind (arith, nat_tests)

has_lifetime : (kind : RequestType) → 0 < lifetime kind
has_lifetime Confirmable = omega arith
has_lifetime NonConfirmable = omega arith

pub lives_at_first : (a : Arrival) → lives a.moment a ≡ true
lives_at_first a = lives_for a.moment (lifetime a.kind) (has_lifetime a.kind)

-- a slot that was free is a place, and no entry has it
pub was_free : (x : Inside) → IsKept x → (rest : List ℕ) (slot : ℕ) → x.free.items ≡ rest ++ slot ∷ []
    → (slot < x.capacity) × (times_used slot x.entries.items ≡ 0)
was_free x kept rest slot h =
    let counted : times_free slot x.free.items ≡ times_free slot rest + 1 = rw h (times_free-append slot rest (slot ∷ []) ∙ rw (same_slot slot) refl) in
    let below : slot < x.capacity = once_is_below slot x.capacity (omega (arith, kept.slots slot)) in
    let unused : times_used slot x.entries.items ≡ 0 = omega (arith, kept.slots slot, once_at_most slot x.capacity) in
    (below, unused)

pub stays_kept_admitting : (x y : Inside) (e : Entry) → IsKept x
    → x.free.items ≡ y.free.items ++ e.slot ∷ [] → y.entries.items ≡ x.entries.items ++ e ∷ [] → lives x.moment (arrival_of e) ≡ true
    → y.capacity ≡ x.capacity → y.moment ≡ x.moment → length y.replies.items ≡ length x.replies.items
    → vec_capacity x.entries ≤ vec_capacity y.entries → vec_capacity y.free ≡ vec_capacity x.free → IsKept y
stays_kept_admitting x y e kept free entries living capacity moment replies entries_room free_room = record {
  living = rw (moment, entries) (All-push (λ z. lives x.moment (arrival_of z) ≡ true) x.entries.items e kept.living living);
  slots = λ s.
      let before : times_used s x.entries.items + times_free s x.free.items ≡ once_below s x.capacity = kept.slots s in
      let used : times_used s y.entries.items ≡ times_used s x.entries.items + (cond (e.slot == s) 1 0 + 0) = rw entries (times_used-append s x.entries.items (e ∷ [])) in
      let left : times_free s x.free.items ≡ times_free s y.free.items + (cond (e.slot == s) 1 0 + 0) = rw free (times_free-append s y.free.items (e.slot ∷ [])) in
      rw capacity (omega arith);
  count =
      let used : length y.entries.items ≡ length x.entries.items + 1 = rw entries (length-append x.entries.items (e ∷ [])) in
      let left : length x.free.items ≡ length y.free.items + 1 = rw free (length-append y.free.items (e.slot ∷ [])) in
      omega (arith, kept.count);
  places = omega (arith, kept.places);
  entries_room = omega (arith, kept.entries_room);
  free_room = omega (arith, kept.free_room);
}

pub admits : (replies : List (Option (List ℕ))) (es : List Entry) (e : Entry) → e.slot < length replies → times_used e.slot es ≡ 0
    → map (exchange_of (set replies e.slot None)) (es ++ e ∷ []) ≡ map (exchange_of replies) es ++ record { arrival = arrival_of e; slot = e.slot; reply = None } ∷ []
admits replies es e h unused =
    let before : map (exchange_of (set replies e.slot None)) es ≡ map (exchange_of replies) es = unused_changes_nothing replies e.slot None es unused in
    let empty : get_or (set replies e.slot None) e.slot None ≡ None = get_or-set_same replies e.slot None None h in
    let at : Option (List ℕ) → List Exchange = λ r. record { arrival = arrival_of e; slot = e.slot; reply = r } ∷ [] in
    let last : at (get_or (set replies e.slot None) e.slot None) ≡ at None = ap at empty in
    map-append (exchange_of (set replies e.slot None)) es (e ∷ []) ∙ (ap (λ l. l ++ at (get_or (set replies e.slot None) e.slot None)) before ∙ ap (λ l. map (exchange_of replies) es ++ l) last)

-- ---- a later moment

pub stays_kept_later : (x y : Inside) (now : ℕ) → IsKept x
    → y.entries.items ≡ filter (λ e. lives now (arrival_of e)) x.entries.items
    → y.free.items ≡ x.free.items ++ map (λ e. e.slot) (filter (λ e. not (lives now (arrival_of e))) x.entries.items)
    → y.capacity ≡ x.capacity → y.moment ≡ now → y.replies ≡ x.replies
    → vec_capacity y.entries ≡ vec_capacity x.entries → vec_capacity x.free ≤ vec_capacity y.free → IsKept y
stays_kept_later x y now kept entries free capacity moment replies entries_room free_room =
    let p : Entry → Bool = λ e. lives now (arrival_of e) in
    let left : List ℕ = map (λ e. e.slot) (filter (λ e. not (p e)) x.entries.items) in
    record {
      living = rw (moment, entries) (filter_passes p x.entries.items);
      slots = λ s.
          let split : times_used s x.entries.items ≡ times_used s (filter p x.entries.items) + times_free s left = slots_split s p x.entries.items in
          let more : times_free s y.free.items ≡ times_free s x.free.items + times_free s left = rw free (times_free-append s x.free.items left) in
          let before : times_used s x.entries.items + times_free s x.free.items ≡ once_below s x.capacity = kept.slots s in
          let used : times_used s y.entries.items ≡ times_used s (filter p x.entries.items) = ap (times_used s) entries in
          rw capacity (omega arith);
      count =
          let both : length (filter p x.entries.items) + length (filter (λ e. not (p e)) x.entries.items) ≡ length x.entries.items
          = length-filter_both p (λ e. not (p e)) (λ _. refl) x.entries.items in
          let used : length y.entries.items ≡ length (filter p x.entries.items) = ap length entries in
          let gone : length left ≡ length (filter (λ e. not (p e)) x.entries.items) = length-map (filter (λ e. not (p e)) x.entries.items) (λ e. e.slot) in
          let more : length y.free.items ≡ length x.free.items + length left = rw free (length-append x.free.items left) in
          omega (arith, kept.count);
      places = rw (replies, capacity) kept.places;
      entries_room = omega (arith, kept.entries_room);
      free_room = omega (arith, kept.free_room);
    }

-- ---- a reply

-- the reply of the exchange in a slot is in the slot's place
pub reply_in_place : (x : Inside) (slot : ℕ) (e : Exchange) → exchange_in slot (table_of x) ≡ Some e → e.reply ≡ get_or x.replies.items slot None
reply_in_place x slot e h =
    let found = entry_in x slot e h in
    let has : (found.0.slot == slot) ≡ true = found_passes (λ z. z.slot == slot) x.entries.items found.0 found.1 in
    let same : found.0.slot ≡ slot = grind (arith, nat_tests) in
    sym (ap (λ z. z.reply) found.2) ∙ ap (λ s. get_or x.replies.items s None) same
