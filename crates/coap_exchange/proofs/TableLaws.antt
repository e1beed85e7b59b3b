-- The table, from the slots of the code.
use Rattle.std.proofs.Common.{◌-◌, not, ◌≡◌, ◌≢◌, ◌≤◌, ◌<◌, ◌==◌, ◌&&◌, ℕ, Bool, true, false, cond, List, [], ◌∷◌, map, length, get_or, set, Option, Some, None, inl, inr, ◌∙◌, sym, refl, ap, subst, arith}
use Rattle.std.specs.Option.{option_map}
use Rattle.std.specs.Prelude.{nat_lt}
use Rattle.std.specs.List.{find, filter, AllByRecursion}
use Rattle.std.proofs.lemmas.List.{get_or-set_same, get_or-set_other, get_or_read}
use Rattle.std.proofs.lemmas.List.Elements.{recursion_from_All, filter_agree}
use Rattle.std.proofs.lemmas.Bool.Decides.{nat_tests, eqb_tells}
use Rattle.coap_msg.specs.declared.endpoint.Endpoint.{Endpoint}
use Rattle.coap_msg.specs.declared.message.RequestType.{RequestType}
use Rattle.coap_msg.specs.declared.message.RequestType.TheVariants.{Confirmable, NonConfirmable}
use Rattle.slot_lists.specs.Lists.{is_among, without}
use Rattle.slot_lists.proofs.Among.{either, is_same, among_first, among_rest}
use Rattle.coap_exchange.specs.Admission.{Arrival, lifetime, lives, is_duplicate_of}
use Rattle.coap_exchange.specs.Slots.{arrival_of, is_of, entry_at, exchange_at, bucket_at}
use Rattle.slot_lists.specs.Counts.{times_in}
use Rattle.coap_msg.specs.Buckets.{bucket}
use Rattle.coap_exchange.specs.Kept.{table_of, living_slots, free_slots, arrival_at, IsKept}
use Rattle.coap_exchange.specs.Table.{Exchange, exchange_in, answered, duplicated_exchange}
use Rattle.coap_exchange.specs.declared.entry.Entry.{Entry}
use Rattle.coap_exchange.specs.declared.exchanges.Exchanges.TheInside.{Inside}
use Rattle.coap_exchange.proofs.ListLaws.{find-map, filter-map, option_map_some, find_agreeing}
use Rattle.coap_exchange.proofs.SlotLaws.{turned_test, find_in_filter}
use Rattle.slot_lists.proofs.Among.{same_slot}
use Rattle.slot_lists.proofs.Counts.{once_is_below, once_at_most, among_counted, uncounted_is_absent}

-- ---- the exchange in a slot

in_slot : (x : Inside) (slot : ℕ) → exchange_in slot (table_of x) ≡ option_map (exchange_at x.entries.items x.replies.items) (find (λ s. s == slot) (living_slots x))
in_slot x slot = find-map (λ e. e.slot == slot) (exchange_at x.entries.items x.replies.items) (living_slots x)

found_among : (slot : ℕ) (xs : List ℕ) (s : ℕ) → find (λ n. n == slot) xs ≡ Some s → is_among slot xs ≡ true
found_among slot [] s h = absurd cc
found_among slot (x ∷ xs) s h = elim (eqb_tells slot x) [
  | inl w ↦ subst (λ n. is_among n (x ∷ xs) ≡ true) (sym w.1) (among_first x xs)
  | inr w ↦
      let other : (x == slot) ≡ false = turned_test x slot ∙ w.0 in
      let later : find (λ n. n == slot) xs ≡ Some s = subst (λ b. cond b (Some x) (find (λ n. n == slot) xs) ≡ Some s) other h in
      among_rest slot x xs (found_among slot xs s later)
]

among_found : (slot : ℕ) (xs : List ℕ) → is_among slot xs ≡ true → find (λ n. n == slot) xs ≡ Some slot
among_found slot [] m = absurd cc
among_found slot (x ∷ xs) m = elim (eqb_tells slot x) [
  | inl w ↦ let here : (x == slot) ≡ true = turned_test x slot ∙ w.0 in rw here (ap (λ n. Some n) (sym w.1))
  | inr w ↦
      let other : (x == slot) ≡ false = turned_test x slot ∙ w.0 in
      rw other (among_found slot xs (elim (either (slot == x) (is_among slot xs) m) [ inl e ↦ absurd cc | inr later ↦ later ]))
]

-- a slot that an exchange is in is living, and it holds the exchange
pub slot_lives : (x : Inside) (slot : ℕ) (e : Exchange) → exchange_in slot (table_of x) ≡ Some e
    → (is_among slot (living_slots x) ≡ true) × (exchange_at x.entries.items x.replies.items slot ≡ e)
slot_lives x slot e h =
    let found = option_map_some (exchange_at x.entries.items x.replies.items) (find (λ s. s == slot) (living_slots x)) e (sym (in_slot x slot) ∙ h) in
    let has : is_among slot (living_slots x) ≡ true = found_among slot (living_slots x) found.0 found.1 in
    let one : found.0 ≡ slot = let f : find (λ s. s == slot) (living_slots x) ≡ Some found.0 = found.1 in let g : find (λ s. s == slot) (living_slots x) ≡ Some slot = among_found slot (living_slots x) has in cc in
    (has, ap (exchange_at x.entries.items x.replies.items) (sym one) ∙ found.2)

pub lives_in_slot : (x : Inside) (slot : ℕ) → is_among slot (living_slots x) ≡ true → exchange_in slot (table_of x) ≡ Some (exchange_at x.entries.items x.replies.items slot)
lives_in_slot x slot has = in_slot x slot ∙ ap (option_map (exchange_at x.entries.items x.replies.items)) (among_found slot (living_slots x) has)

-- a living slot is below the capacity
pub living_is_below : (x : Inside) → IsKept x → (slot : ℕ) → is_among slot (living_slots x) ≡ true → slot < x.capacity
living_is_below x kept slot has =
    let counted : 1 ≤ times_in slot (living_slots x) = among_counted slot (living_slots x) has in
    once_is_below slot x.capacity (omega (arith, kept.slots slot))

pub living_once : (x : Inside) → IsKept x → (slot : ℕ) → is_among slot (living_slots x) ≡ true → times_in slot (living_slots x) ≡ 1
living_once x kept slot has =
    let counted : 1 ≤ times_in slot (living_slots x) = among_counted slot (living_slots x) has in
    omega (arith, kept.slots slot, once_at_most slot x.capacity)

pub slot_is_place : (x : Inside) → IsKept x → (slot : ℕ) (e : Exchange) → exchange_in slot (table_of x) ≡ Some e → slot < length x.replies.items
slot_is_place x kept slot e h =
    let below : slot < x.capacity = living_is_below x kept slot (slot_lives x slot e h).0 in
    omega (arith, kept.replies)

-- a free slot is below the capacity, and no exchange is in it
pub free_is_place : (x : Inside) → IsKept x → (slot : ℕ) → is_among slot (free_slots x) ≡ true
    → (slot < x.capacity) × (is_among slot (living_slots x) ≡ false) × (times_in slot (free_slots x) ≡ 1)
free_is_place x kept slot has =
    let counted : 1 ≤ times_in slot (free_slots x) = among_counted slot (free_slots x) has in
    let below : slot < x.capacity = once_is_below slot x.capacity (omega (arith, kept.slots slot)) in
    let unused : times_in slot (living_slots x) ≡ 0 = omega (arith, kept.slots slot, once_at_most slot x.capacity) in
    let once : times_in slot (free_slots x) ≡ 1 = omega (arith, kept.slots slot, once_at_most slot x.capacity) in
    (below, uncounted_is_absent slot (living_slots x) unused, once)

absent_not_found : (slot : ℕ) (xs : List ℕ) (o : Option ℕ) → find (λ n. n == slot) xs ≡ o → is_among slot xs ≡ false → o ≡ None
absent_not_found slot xs None e h = refl
absent_not_found slot xs (Some s) e h = let has : is_among slot xs ≡ true = found_among slot xs s e in absurd cc

pub free_is_empty : (x : Inside) (slot : ℕ) → is_among slot (living_slots x) ≡ false → exchange_in slot (table_of x) ≡ None
free_is_empty x slot h =
    in_slot x slot ∙ ap (option_map (exchange_at x.entries.items x.replies.items)) (absent_not_found slot (living_slots x) (find (λ n. n == slot) (living_slots x)) refl h)

-- ---- keeping a reply

kept_at : (entries : List Entry) (replies : List (Option (List ℕ))) (slot : ℕ) (bytes : List ℕ) (s : ℕ) (b : Bool) → slot < length replies → (s == slot) ≡ b
    → exchange_at entries (set replies slot (Some bytes)) s ≡ cond b (record (exchange_at entries replies s) { reply = Some bytes }) (exchange_at entries replies s)
kept_at entries replies slot bytes s true h t =
    let same : s ≡ slot = is_same s slot t in
    let put : get_or (set replies slot (Some bytes)) s None ≡ Some bytes = rw same (get_or-set_same replies slot (Some bytes) None h) in
    let at : Option (List ℕ) → Exchange = λ r. record { arrival = arrival_of (entry_at entries s); slot = s; reply = r } in
    ap at put
kept_at entries replies slot bytes s false h t =
    let other : s ≢ slot = grind (arith, nat_tests) in
    let stays : get_or (set replies slot (Some bytes)) s None ≡ get_or replies s None = get_or-set_other replies slot s (Some bytes) None other in
    let at : Option (List ℕ) → Exchange = λ r. record { arrival = arrival_of (entry_at entries s); slot = s; reply = r } in
    ap at stays

pub keeps_reply : (entries : List Entry) (replies : List (Option (List ℕ))) (slot : ℕ) (bytes : List ℕ) → slot < length replies → (xs : List ℕ)
    → map (exchange_at entries (set replies slot (Some bytes))) xs ≡ map (answered slot bytes) (map (exchange_at entries replies) xs)
keeps_reply entries replies slot bytes h [] = refl
keeps_reply entries replies slot bytes h (x ∷ xs) =
    let first : exchange_at entries (set replies slot (Some bytes)) x ≡ answered slot bytes (exchange_at entries replies x) = kept_at entries replies slot bytes x (x == slot) h refl in
    let rest : map (exchange_at entries (set replies slot (Some bytes))) xs ≡ map (answered slot bytes) (map (exchange_at entries replies) xs) = keeps_reply entries replies slot bytes h xs in
    cc

-- the reply of the exchange in a slot is in the slot's place
pub reply_in_place : (x : Inside) (slot : ℕ) (e : Exchange) → exchange_in slot (table_of x) ≡ Some e → e.reply ≡ get_or x.replies.items slot None
reply_in_place x slot e h = sym (ap (λ (z : Exchange). z.reply) (slot_lives x slot e h).1)

-- ---- the exchange that a request duplicates

-- among exchanges that all live, a request duplicates the one that has its endpoint and message ID
tests_agree : (entries : List Entry) (moment : ℕ) (a : Arrival) (xs : List ℕ) → a.moment ≡ moment → AllByRecursion (λ s. lives moment (arrival_of (entry_at entries s)) ≡ true) xs
    → AllByRecursion (λ s. is_duplicate_of a (arrival_of (entry_at entries s)) ≡ is_of a.from a.id (entry_at entries s)) xs
tests_agree entries moment a [] m h = tt
tests_agree entries moment a (x ∷ xs) m h =
    let alive : lives a.moment (arrival_of (entry_at entries x)) ≡ true = rw m h.0 in
    (rw alive refl, tests_agree entries moment a xs m h.1)

pub duplicated_is : (x : Inside) → IsKept x → (a : Arrival) → a.moment ≡ x.moment
    → duplicated_exchange a (table_of x) ≡ option_map (exchange_at x.entries.items x.replies.items) (find (λ s. is_of a.from a.id (entry_at x.entries.items s)) (living_slots x))
duplicated_is x kept a m =
    let mapped = find-map (λ e. is_duplicate_of a e.arrival) (exchange_at x.entries.items x.replies.items) (living_slots x) in
    let agree = find_agreeing (λ s. is_duplicate_of a (arrival_at x s)) (λ s. is_of a.from a.id (entry_at x.entries.items s)) (living_slots x)
    (tests_agree x.entries.items x.moment a (living_slots x) m (recursion_from_All (λ s. lives x.moment (arrival_at x s) ≡ true) (living_slots x) kept.living)) in
    mapped ∙ ap (option_map (exchange_at x.entries.items x.replies.items)) agree

-- the search in a bucket finds the same as a search among all
same_endpoint : (host host2 port port2 id id2 : ℕ) → (host == host2 && port == port2 && id == id2) ≡ true → (host ≡ host2) × (port ≡ port2) × (id ≡ id2)
same_endpoint host host2 port port2 id id2 h = elim (eqb_tells host host2) [
  | inl a ↦ elim (eqb_tells port port2) [
    | inl b ↦ elim (eqb_tells id id2) [
      | inl c ↦ (a.1, b.1, c.1)
      | inr c ↦ absurd cc
    ]
    | inr b ↦ absurd cc
  ]
  | inr a ↦ absurd cc
]

pub same_bucket : (count : ℕ) (from : Endpoint) (id : ℕ) (e : Entry) → is_of from id e ≡ true → bucket count e.from e.id ≡ bucket count from id
same_bucket count from id e h =
    let parts = same_endpoint from.host e.from.host from.port e.from.port id e.id h in
    let endpoint : from ≡ e.from = λ i. record { host = parts.0 i; port = parts.1 i } in
    sym (ap (λ f. bucket count f id) endpoint ∙ ap (bucket count e.from) parts.2)

pub found_in_bucket : (x : Inside) → IsKept x → (from : Endpoint) (id : ℕ) → bucket x.capacity from id < length x.buckets.lists
    → find (λ s. is_of from id (entry_at x.entries.items s)) (get_or x.buckets.lists (bucket x.capacity from id) [])
    ≡ find (λ s. is_of from id (entry_at x.entries.items s)) (living_slots x)
found_in_bucket x kept from id below =
    let b : ℕ = bucket x.capacity from id in
    ap (find (λ s. is_of from id (entry_at x.entries.items s))) (kept.buckets (bucket x.capacity from id) (omega arith) below)
    ∙ find_in_filter (λ s. is_of from id (entry_at x.entries.items s)) (λ s. bucket_at x.entries.items x.capacity s == bucket x.capacity from id)
    (λ s h. ap (λ n. n == bucket x.capacity from id) (same_bucket x.capacity from id (entry_at x.entries.items s) h) ∙ same_slot (bucket x.capacity from id)) (living_slots x)

found_lives_at : (x s : ℕ) (xs : List ℕ) (o : Option ℕ) (b : Bool) → (o ≡ Some s → is_among s xs ≡ true) → cond b (Some x) o ≡ Some s → is_among s (x ∷ xs) ≡ true
found_lives_at x s xs o true rec e = let same : x ≡ s = cc in subst (λ n. is_among n (x ∷ xs) ≡ true) same (among_first x xs)
found_lives_at x s xs o false rec e = among_rest s x xs (rec e)

pub found_lives : (p : ℕ → Bool) (xs : List ℕ) (s : ℕ) → find p xs ≡ Some s → is_among s xs ≡ true
found_lives p [] s h = absurd cc
found_lives p (x ∷ xs) s h = found_lives_at x s xs (find p xs) (p x) (found_lives p xs s) h

-- ---- living

-- a request lives at the moment at which it comes
lives_for : (m n : ℕ) → 0 < n → nat_lt (m - m) n ≡ true
lives_for m n h = grind (arith, nat_tests)

has_lifetime : (kind : RequestType) → 0 < lifetime kind
has_lifetime Confirmable = omega arith
has_lifetime NonConfirmable = omega arith

pub lives_at_first : (a : Arrival) → lives a.moment a ≡ true
lives_at_first a = lives_for a.moment (lifetime a.kind) (has_lifetime a.kind)

-- ---- an exchange that is given up

pub seen_without : (entries : List Entry) (replies : List (Option (List ℕ))) (slot : ℕ) (xs : List ℕ)
    → map (exchange_at entries replies) (without slot xs) ≡ filter (λ e. not (e.slot == slot)) (map (exchange_at entries replies) xs)
seen_without entries replies slot xs =
    ap (map (exchange_at entries replies)) (filter_agree (λ other. not (slot == other)) (λ other. not (other == slot)) (λ other. ap not (turned_test slot other)) xs)
    ∙ sym (filter-map (λ (e : Exchange). not (e.slot == slot)) (exchange_at entries replies) xs)

-- ---- the values that the code read

pub entry_read : (entries : List Entry) (slot : ℕ) (e : Entry) → slot < length entries → e ≡ get_or entries slot e → e ≡ entry_at entries slot
entry_read entries slot e below h = get_or_read entries slot e below h (record { moment = 0; from = record { host = 0; port = 0 }; id = 0; kind = Confirmable })

-- the search in a bucket gave the same as a search among all
pub searched : (x : Inside) → IsKept x → (es : List Entry) (b : ℕ) (from : Endpoint) (id : ℕ) (r : Option ℕ)
    → es ≡ x.entries.items → b ≡ bucket x.capacity from id → b < x.capacity → r ≡ find (λ s. is_of from id (entry_at es s)) (get_or x.buckets.lists b [])
    → r ≡ find (λ s. is_of from id (entry_at x.entries.items s)) (living_slots x)
searched x kept es b from id r same is below h =
    let within : bucket x.capacity from id < length x.buckets.lists = omega (arith, kept.buckets_count) in
    h ∙ (ap (λ l. find (λ s. is_of from id (entry_at l s)) (get_or x.buckets.lists b [])) same
    ∙ (ap (λ n. find (λ s. is_of from id (entry_at x.entries.items s)) (get_or x.buckets.lists n [])) is ∙ found_in_bucket x kept from id within))
