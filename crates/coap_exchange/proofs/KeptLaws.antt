-- The facts on slots that a call of the code keeps.
use Rattle.std.proofs.Common.{◌++◌, length-append, ◌≡◌, ◌≢◌, ◌+◌, ◌≤◌, ◌<◌, ◌==◌, ℕ, zero, suc, Bool, true, false, cond, List, [], ◌∷◌, map, length, get_or, set, Option, Some, None, inl, inr, ◌∙◌, sym, refl, ap, subst, arith}
use Rattle.std.specs.Prelude.{All, AllPairs}
use Rattle.std.specs.List.{find}
use Rattle.std.proofs.lemmas.List.{get_or-set_same, get_or-set_other, get_or_past, length-set, map-append}
use Rattle.std.proofs.lemmas.List.Elements.{All-filter, All-push}
use Rattle.std.proofs.lemmas.List.Kept.{AllPairs-filter}
use Rattle.std.proofs.lemmas.List.Quantifiers.{all_pairs_push}
use Rattle.std.proofs.lemmas.Bool.Decides.{eqb_tells}
use Rattle.coap_msg.specs.declared.message.RequestType.{RequestType}
use Rattle.coap_msg.specs.declared.message.RequestType.TheVariants.{Confirmable, NonConfirmable}
use Rattle.coap_msg.specs.Buckets.{bucket}
use Rattle.slot_lists.specs.Lists.{Lists, list_at, with_list, is_among, without}
use Rattle.slot_lists.proofs.Among.{neither}
use Rattle.coap_exchange.specs.Admission.{lives, is_same_exchange}
use Rattle.coap_exchange.specs.Slots.{arrival_of, is_of, entry_at, exchange_at, age_list, age_list_at, bucket_at, AreDealt}
use Rattle.slot_lists.specs.Counts.{once_below, times_in}
use Rattle.coap_exchange.specs.Kept.{living_slots, free_slots, arrival_at, IsKept}
use Rattle.coap_exchange.specs.Table.{Exchange}
use Rattle.coap_exchange.specs.declared.entry.Entry.{Entry}
use Rattle.coap_exchange.specs.declared.exchanges.Exchanges.TheInside.{Inside}
use Rattle.coap_exchange.proofs.SlotLaws.{not_at, not_this, dealt_without, dealt_push, dealt_beside, dealt_elsewhere, absent_without, filter_has}
use Rattle.slot_lists.proofs.Among.{same_slot}
use Rattle.slot_lists.proofs.Counts.{times_moved, length-without, uncounted_is_absent, once_at_most, among_counted}
use Rattle.coap_exchange.proofs.TableLaws.{living_once, free_is_place}

-- ---- the lists of kinds

pub age_list_bound : (kind : RequestType) → (1 ≤ age_list kind) × (age_list kind < 3)
age_list_bound Confirmable = (omega arith, omega arith)
age_list_bound NonConfirmable = (omega arith, omega arith)

-- ---- an exchange that is given up

-- the lists once the slot was put among the free ones
abbrev pub freed : ℕ → ℕ → Lists → Lists
freed list slot t =
    with_list 0 (list_at 0 (with_list list (without slot (list_at list t)) t) ++ slot ∷ []) (with_list list (without slot (list_at list t)) t)

abbrev pub without_at : ℕ → ℕ → Lists → Lists
without_at list slot t = with_list list (without slot (list_at list t)) t

freed_is : (list slot : ℕ) (t : Lists) → 1 ≤ list → 0 < length t.lists → list_at 0 (freed list slot t) ≡ list_at 0 t ++ slot ∷ []
freed_is list slot t least some =
    let other : 0 ≢ list = omega arith in
    let many : 0 < length (set t.lists list (without slot (get_or t.lists list []))) = subst (λ n. 0 < n) (sym (length-set t.lists list _)) some in
    get_or-set_same (set t.lists list (without slot (get_or t.lists list []))) 0 _ [] many
    ∙ ap (λ l. l ++ slot ∷ []) (get_or-set_other t.lists list 0 _ [] other)

kept_without : (x : Inside) (slot : ℕ) → IsKept x → is_among slot (living_slots x) ≡ true
    → IsKept (record x {
      kinds = freed (age_list_at x.entries.items slot) slot x.kinds;
      buckets = without_at (bucket_at x.entries.items x.capacity slot) slot x.buckets;
      order = without_at 0 slot x.order;
    })
kept_without x slot kept has =
    let list : ℕ = age_list_at x.entries.items slot in
    let bound = age_list_bound (entry_at x.entries.items slot).kind in
    let one : 0 < length x.order.lists = omega (arith, kept.order_count) in
    let three : 0 < length x.kinds.lists = omega (arith, kept.kinds_count) in
    let living : get_or (set x.order.lists 0 (without slot (get_or x.order.lists 0 []))) 0 [] ≡ without slot (living_slots x) = get_or-set_same x.order.lists 0 _ [] one in
    let free : list_at 0 (freed (age_list_at x.entries.items slot) slot x.kinds) ≡ free_slots x ++ slot ∷ [] = freed_is (age_list_at x.entries.items slot) slot x.kinds bound.0 three in
    let once : times_in slot (living_slots x) ≡ 1 = living_once x kept slot has in
    record {
      slots = λ s.
          let moved = times_moved s slot (living_slots x) (free_slots x) once in
          let a : times_in s (get_or (set x.order.lists 0 (without slot (get_or x.order.lists 0 []))) 0 []) ≡ times_in s (without slot (living_slots x)) = ap (times_in s) living in
          let b : times_in s (list_at 0 (freed (age_list_at x.entries.items slot) slot x.kinds)) ≡ times_in s (free_slots x ++ slot ∷ []) = ap (times_in s) free in
          let before : times_in s (living_slots x) + times_in s (free_slots x) ≡ once_below s x.capacity = kept.slots s in
          omega arith;
      count =
          let a : length (get_or (set x.order.lists 0 (without slot (get_or x.order.lists 0 []))) 0 []) ≡ length (without slot (living_slots x)) = ap length living in
          let b : length (list_at 0 (freed (age_list_at x.entries.items slot) slot x.kinds)) ≡ length (free_slots x) + 1 = ap length free ∙ length-append (free_slots x) (slot ∷ []) in
          let c : length (without slot (living_slots x)) + times_in slot (living_slots x) ≡ length (living_slots x) = length-without slot (living_slots x) in
          omega (arith, kept.count);
      living = subst (All (λ s. lives x.moment (arrival_at x s) ≡ true)) (sym living) (All-filter _ (λ s. lives x.moment (arrival_at x s) ≡ true) (living_slots x) kept.living);
      past = subst (All (λ s. (arrival_at x s).moment ≤ x.moment)) (sym living) (All-filter _ (λ s. (arrival_at x s).moment ≤ x.moment) (living_slots x) kept.past);
      rising = subst (AllPairs (λ s t. (arrival_at x s).moment ≤ (arrival_at x t).moment)) (sym living)
          (AllPairs-filter (λ s t. (arrival_at x s).moment ≤ (arrival_at x t).moment) _ (living_slots x) kept.rising);
      apart = subst (AllPairs (λ s t. is_same_exchange (arrival_at x t) (arrival_at x s) ≡ false)) (sym living)
          (AllPairs-filter (λ s t. is_same_exchange (arrival_at x t) (arrival_at x s) ≡ false) _ (living_slots x) kept.apart);
      kinds = subst (λ l. AreDealt (age_list_at x.entries.items) 1 l (freed (age_list_at x.entries.items slot) slot x.kinds).lists) (sym living)
          (dealt_beside (age_list_at x.entries.items) 1 0 _ (without slot (living_slots x)) _ (omega arith)
          (dealt_without (age_list_at x.entries.items) 1 slot (living_slots x) x.kinds.lists kept.kinds));
      buckets = subst (λ l. AreDealt (bucket_at x.entries.items x.capacity) 0 l (without_at (bucket_at x.entries.items x.capacity slot) slot x.buckets).lists) (sym living)
          (dealt_without (bucket_at x.entries.items x.capacity) 0 slot (living_slots x) x.buckets.lists kept.buckets);
      some = kept.some;
      entries = kept.entries;
      replies = kept.replies;
      kinds_capacity = kept.kinds_capacity;
      buckets_capacity = kept.buckets_capacity;
      order_capacity = kept.order_capacity;
      kinds_count = length-set (set x.kinds.lists (age_list_at x.entries.items slot) _) 0 _ ∙ (length-set x.kinds.lists (age_list_at x.entries.items slot) _ ∙ kept.kinds_count);
      buckets_count = length-set x.buckets.lists (bucket_at x.entries.items x.capacity slot) _ ∙ kept.buckets_count;
      order_count = length-set x.order.lists 0 _ ∙ kept.order_count;
    }

-- the living slots are those without it
pub living_without : (x : Inside) (slot : ℕ) → IsKept x → list_at 0 (without_at 0 slot x.order) ≡ without slot (living_slots x)
living_without x slot kept = let one : 0 < length x.order.lists = omega (arith, kept.order_count) in get_or-set_same x.order.lists 0 _ [] one

pub kept_giving_up : (x : Inside) (slot : ℕ) (kinds buckets order : Lists) → IsKept x → is_among slot (living_slots x) ≡ true
    → kinds ≡ freed (age_list_at x.entries.items slot) slot x.kinds
    → buckets ≡ without_at (bucket_at x.entries.items x.capacity slot) slot x.buckets
    → order ≡ without_at 0 slot x.order
    → IsKept (record x { kinds = kinds; buckets = buckets; order = order })
kept_giving_up x slot kinds buckets order kept has k b o =
    subst (λ z. IsKept (record x { kinds = z; buckets = buckets; order = order })) (sym k)
    (subst (λ z. IsKept (record x { kinds = freed (age_list_at x.entries.items slot) slot x.kinds; buckets = z; order = order })) (sym b)
    (subst (λ z. IsKept (record x { kinds = freed (age_list_at x.entries.items slot) slot x.kinds; buckets = without_at (bucket_at x.entries.items x.capacity slot) slot x.buckets; order = z })) (sym o)
    (kept_without x slot kept has)))

-- ---- an exchange that is admitted

entry_stays : (entries : List Entry) (slot s : ℕ) (e : Entry) → s ≢ slot → entry_at (set entries slot e) s ≡ entry_at entries s
entry_stays entries slot s e other = get_or-set_other entries slot s e _ other

pub entry_is : (entries : List Entry) (slot : ℕ) (e : Entry) → slot < length entries → entry_at (set entries slot e) slot ≡ e
entry_is entries slot e below = get_or-set_same entries slot e _ below

all_stays : (P : Entry → Type 0) (entries : List Entry) (slot : ℕ) (e : Entry) (xs : List ℕ) → is_among slot xs ≡ false
    → All (λ s. P (entry_at entries s)) xs → All (λ s. P (entry_at (set entries slot e) s)) xs
all_stays P entries slot e xs hasnt h k d below = subst P (sym (entry_stays entries slot (get_or xs k d) e (not_at slot xs hasnt k d below))) (h k d below)

pairs_stay : (R : Entry → Entry → Type 0) (entries : List Entry) (slot : ℕ) (e : Entry) (xs : List ℕ) → is_among slot xs ≡ false
    → AllPairs (λ s t. R (entry_at entries s) (entry_at entries t)) xs → AllPairs (λ s t. R (entry_at (set entries slot e) s) (entry_at (set entries slot e) t)) xs
pairs_stay R entries slot e xs hasnt h i j d before below =
    let i_below : i < length xs = omega arith in
    subst (λ z. R z (entry_at (set entries slot e) (get_or xs j d))) (sym (entry_stays entries slot (get_or xs i d) e (not_at slot xs hasnt i d i_below)))
    (subst (R (entry_at entries (get_or xs i d))) (sym (entry_stays entries slot (get_or xs j d) e (not_at slot xs hasnt j d below))) (h i j d before below))

-- a test by which nothing is found passes nowhere
none_found_at : (p : ℕ → Bool) (x : ℕ) (o : Option ℕ) (b : Bool) → p x ≡ b → cond b (Some x) o ≡ None → (p x ≡ false) × (o ≡ None)
none_found_at p x o true t e = absurd cc
none_found_at p x o false t e = (t, e)

none_found : (p : ℕ → Bool) (xs : List ℕ) → find p xs ≡ None → (k d : ℕ) → k < length xs → p (get_or xs k d) ≡ false
none_found p [] h k d below = absurd (omega arith)
none_found p (x ∷ xs) h zero d below = (none_found_at p x (find p xs) (p x) refl h).0
none_found p (x ∷ xs) h (suc k) d below = none_found p xs (none_found_at p x (find p xs) (p x) refl h).1 k d (omega arith)

-- the lists once the slot was taken from the free ones
abbrev pub used : ℕ → ℕ → Lists → Lists
used list slot t = with_list list (list_at list (without_at 0 slot t) ++ slot ∷ []) (without_at 0 slot t)

abbrev pub pushed_at : ℕ → ℕ → Lists → Lists
pushed_at list slot t = with_list list (list_at list t ++ slot ∷ []) t

pub kept_with : (x y : Inside) (slot : ℕ) (e : Entry) → IsKept x → is_among slot (free_slots x) ≡ true
    → e.moment ≡ x.moment → lives x.moment (arrival_of e) ≡ true → find (λ s. is_of e.from e.id (entry_at x.entries.items s)) (living_slots x) ≡ None
    → y.capacity ≡ x.capacity → y.moment ≡ x.moment → y.entries.items ≡ set x.entries.items slot e → length y.replies.items ≡ length x.replies.items
    → y.kinds ≡ used (age_list e.kind) slot x.kinds
    → y.buckets ≡ pushed_at (bucket_at (set x.entries.items slot e) x.capacity slot) slot x.buckets
    → y.order ≡ pushed_at 0 slot x.order
    → IsKept y
kept_with x y slot e kept has moment alive new y_capacity y_moment y_entries y_replies y_kinds y_buckets y_order =
    let place = free_is_place x kept slot has in
    let hasnt : is_among slot (living_slots x) ≡ false = place.1 in
    let below : slot < length x.entries.items = omega (arith, kept.entries, place.0) in
    let here : entry_at (set x.entries.items slot e) slot ≡ e = entry_is x.entries.items slot e below in
    let bound = age_list_bound e.kind in
    let other : 0 ≢ age_list e.kind = omega (arith, bound.0) in
    let one : 0 < length x.order.lists = omega (arith, kept.order_count) in
    let three : 0 < length x.kinds.lists = omega (arith, kept.kinds_count) in
    let living : living_slots y ≡ living_slots x ++ slot ∷ [] = ap (list_at 0) y_order ∙ get_or-set_same x.order.lists 0 _ [] one in
    let free : free_slots y ≡ without slot (free_slots x)
    = ap (list_at 0) y_kinds ∙ (get_or-set_other (set x.kinds.lists 0 (without slot (get_or x.kinds.lists 0 []))) (age_list e.kind) 0 _ [] other ∙ get_or-set_same x.kinds.lists 0 _ [] three) in
    let same : (s : ℕ) → is_among s (living_slots x) ≡ true → entry_at (set x.entries.items slot e) s ≡ entry_at x.entries.items s
    = λ s m. entry_stays x.entries.items slot s e (not_this slot (living_slots x) hasnt s m) in
    let es : List Entry = set x.entries.items slot e in
    record {
      slots = λ s.
          let moved = times_moved s slot (free_slots x) (living_slots x) place.2 in
          let a : times_in s (living_slots y) ≡ times_in s (living_slots x ++ slot ∷ []) = ap (times_in s) living in
          let b : times_in s (free_slots y) ≡ times_in s (without slot (free_slots x)) = ap (times_in s) free in
          let before : times_in s (living_slots x) + times_in s (free_slots x) ≡ once_below s x.capacity = kept.slots s in
          let same_capacity : once_below s y.capacity ≡ once_below s x.capacity = ap (once_below s) y_capacity in
          omega arith;
      count =
          let a : length (living_slots y) ≡ length (living_slots x) + 1 = ap length living ∙ length-append (living_slots x) (slot ∷ []) in
          let b : length (free_slots y) ≡ length (without slot (free_slots x)) = ap length free in
          let c : length (without slot (free_slots x)) + times_in slot (free_slots x) ≡ length (free_slots x) = length-without slot (free_slots x) in
          omega (arith, kept.count, place.2);
      living = subst (λ l. All (λ s. lives y.moment (arrival_of (entry_at y.entries.items s)) ≡ true) l) (sym living)
          (subst (λ m. All (λ s. lives m (arrival_of (entry_at y.entries.items s)) ≡ true) (living_slots x ++ slot ∷ [])) (sym y_moment)
          (subst (λ l. All (λ s. lives x.moment (arrival_of (entry_at l s)) ≡ true) (living_slots x ++ slot ∷ [])) (sym y_entries)
          (All-push (λ s. lives x.moment (arrival_of (entry_at (set x.entries.items slot e) s)) ≡ true) (living_slots x) slot
          (all_stays (λ z. lives x.moment (arrival_of z) ≡ true) x.entries.items slot e (living_slots x) hasnt kept.living)
          (subst (λ z. lives x.moment (arrival_of z) ≡ true) (sym here) alive))));
      past = subst (λ l. All (λ s. (arrival_of (entry_at y.entries.items s)).moment ≤ y.moment) l) (sym living)
          (subst (λ m. All (λ s. (arrival_of (entry_at y.entries.items s)).moment ≤ m) (living_slots x ++ slot ∷ [])) (sym y_moment)
          (subst (λ l. All (λ s. (arrival_of (entry_at l s)).moment ≤ x.moment) (living_slots x ++ slot ∷ [])) (sym y_entries)
          (All-push (λ s. (arrival_of (entry_at (set x.entries.items slot e) s)).moment ≤ x.moment) (living_slots x) slot
          (all_stays (λ z. (arrival_of z).moment ≤ x.moment) x.entries.items slot e (living_slots x) hasnt kept.past)
          (subst (λ z. (arrival_of z).moment ≤ x.moment) (sym here) (omega arith)))));
      rising = subst (λ l. AllPairs (λ s t. (arrival_of (entry_at y.entries.items s)).moment ≤ (arrival_of (entry_at y.entries.items t)).moment) l) (sym living)
          (subst (λ l. AllPairs (λ s t. (arrival_of (entry_at l s)).moment ≤ (arrival_of (entry_at l t)).moment) (living_slots x ++ slot ∷ [])) (sym y_entries)
          (all_pairs_push (λ s t. (arrival_of (entry_at (set x.entries.items slot e) s)).moment ≤ (arrival_of (entry_at (set x.entries.items slot e) t)).moment) (living_slots x) slot
          (pairs_stay (λ z w. (arrival_of z).moment ≤ (arrival_of w).moment) x.entries.items slot e (living_slots x) hasnt kept.rising)
          (λ k d within. subst (λ z. (arrival_of (entry_at (set x.entries.items slot e) (get_or (living_slots x) k d))).moment ≤ (arrival_of z).moment) (sym here)
          (subst (λ n. (arrival_of (entry_at (set x.entries.items slot e) (get_or (living_slots x) k d))).moment ≤ n) (sym moment)
          (all_stays (λ z. (arrival_of z).moment ≤ x.moment) x.entries.items slot e (living_slots x) hasnt kept.past k d within)))));
      apart = subst (λ l. AllPairs (λ s t. is_same_exchange (arrival_of (entry_at y.entries.items t)) (arrival_of (entry_at y.entries.items s)) ≡ false) l) (sym living)
          (subst (λ l. AllPairs (λ s t. is_same_exchange (arrival_of (entry_at l t)) (arrival_of (entry_at l s)) ≡ false) (living_slots x ++ slot ∷ [])) (sym y_entries)
          (all_pairs_push (λ s t. is_same_exchange (arrival_of (entry_at (set x.entries.items slot e) t)) (arrival_of (entry_at (set x.entries.items slot e) s)) ≡ false) (living_slots x) slot
          (pairs_stay (λ z w. is_same_exchange (arrival_of w) (arrival_of z) ≡ false) x.entries.items slot e (living_slots x) hasnt kept.apart)
          (λ k d within. subst (λ z. is_same_exchange (arrival_of z) (arrival_of (entry_at (set x.entries.items slot e) (get_or (living_slots x) k d))) ≡ false) (sym here)
          (subst (λ z. is_same_exchange (arrival_of e) (arrival_of z) ≡ false) (sym (entry_stays x.entries.items slot (get_or (living_slots x) k d) e (not_at slot (living_slots x) hasnt k d within)))
          (none_found (λ s. is_of e.from e.id (entry_at x.entries.items s)) (living_slots x) new k d within)))));
      kinds = subst (λ l. AreDealt (age_list_at y.entries.items) 1 l y.kinds.lists) (sym living)
          (subst (λ l. AreDealt (age_list_at l) 1 (living_slots x ++ slot ∷ []) y.kinds.lists) (sym y_entries)
          (subst (λ t. AreDealt (age_list_at (set x.entries.items slot e)) 1 (living_slots x ++ slot ∷ []) t.lists) (sym y_kinds)
          (subst (λ (z : Entry). AreDealt (age_list_at (set x.entries.items slot e)) 1 (living_slots x ++ slot ∷ []) (used (age_list z.kind) slot x.kinds).lists) here
          (dealt_push (age_list_at x.entries.items) (age_list_at (set x.entries.items slot e)) 1 slot (living_slots x) (set x.kinds.lists 0 (without slot (get_or x.kinds.lists 0 [])))
          (λ s m. ap (λ (z : Entry). age_list z.kind) (same s m))
          (dealt_beside (age_list_at x.entries.items) 1 0 _ (living_slots x) x.kinds.lists (omega arith) kept.kinds)))));
      buckets = subst (λ l. AreDealt (bucket_at y.entries.items y.capacity) 0 l y.buckets.lists) (sym living)
          (subst (λ n. AreDealt (bucket_at y.entries.items n) 0 (living_slots x ++ slot ∷ []) y.buckets.lists) (sym y_capacity)
          (subst (λ l. AreDealt (bucket_at l x.capacity) 0 (living_slots x ++ slot ∷ []) y.buckets.lists) (sym y_entries)
          (subst (λ t. AreDealt (bucket_at (set x.entries.items slot e) x.capacity) 0 (living_slots x ++ slot ∷ []) t.lists) (sym y_buckets)
          (dealt_push (bucket_at x.entries.items x.capacity) (bucket_at (set x.entries.items slot e) x.capacity) 0 slot (living_slots x) x.buckets.lists
          (λ s m. ap (λ (z : Entry). bucket x.capacity z.from z.id) (same s m)) kept.buckets))));
      some = subst (λ n. 0 < n) (sym y_capacity) kept.some;
      entries = ap length y_entries ∙ (length-set x.entries.items slot e ∙ (kept.entries ∙ sym y_capacity));
      replies = y_replies ∙ (kept.replies ∙ sym y_capacity);
      kinds_capacity = ap (λ (t : Lists). t.capacity) y_kinds ∙ (kept.kinds_capacity ∙ sym y_capacity);
      buckets_capacity = ap (λ (t : Lists). t.capacity) y_buckets ∙ (kept.buckets_capacity ∙ sym y_capacity);
      order_capacity = ap (λ (t : Lists). t.capacity) y_order ∙ (kept.order_capacity ∙ sym y_capacity);
      kinds_count = ap (λ (t : Lists). length t.lists) y_kinds
          ∙ (length-set (set x.kinds.lists 0 _) (age_list e.kind) _ ∙ (length-set x.kinds.lists 0 _ ∙ kept.kinds_count));
      buckets_count = ap (λ (t : Lists). length t.lists) y_buckets ∙ (length-set x.buckets.lists _ _ ∙ (kept.buckets_count ∙ sym y_capacity));
      order_count = ap (λ (t : Lists). length t.lists) y_order ∙ (length-set x.order.lists 0 _ ∙ kept.order_count);
    }

-- ---- the lists that don't have a slot

-- a free slot, once it was taken from the free ones
pub taken_from_kinds : (x : Inside) (slot : ℕ) → IsKept x → is_among slot (free_slots x) ≡ true → (i : ℕ) → is_among slot (list_at i (without_at 0 slot x.kinds)) ≡ false
taken_from_kinds x slot kept has i =
    let hasnt : is_among slot (living_slots x) ≡ false = (free_is_place x kept slot has).1 in
    let three : 0 < length x.kinds.lists = omega (arith, kept.kinds_count) in
    elim (eqb_tells i 0) [
      | inl w ↦
          let read : get_or (set x.kinds.lists 0 (without slot (get_or x.kinds.lists 0 []))) 0 [] ≡ without slot (free_slots x) = get_or-set_same x.kinds.lists 0 _ [] three in
          subst (λ n. is_among slot (list_at n (without_at 0 slot x.kinds)) ≡ false) (sym w.1)
          (ap (is_among slot) read ∙ absent_without slot (free_slots x))
      | inr w ↦
          let least : 1 ≤ i = omega (arith, w.1) in
          ap (is_among slot) (get_or-set_other x.kinds.lists 0 i _ [] w.1)
          ∙ dealt_elsewhere (age_list_at x.entries.items) 1 slot i (living_slots x) x.kinds.lists kept.kinds least (λ e m. absurd cc)
    ]

pub free_in_no_bucket : (x : Inside) (slot : ℕ) → IsKept x → is_among slot (free_slots x) ≡ true → (i : ℕ) → is_among slot (list_at i x.buckets) ≡ false
free_in_no_bucket x slot kept has i =
    let hasnt : is_among slot (living_slots x) ≡ false = (free_is_place x kept slot has).1 in
    dealt_elsewhere (bucket_at x.entries.items x.capacity) 0 slot i (living_slots x) x.buckets.lists kept.buckets (omega arith) (λ e m. absurd cc)

pub free_in_no_order : (x : Inside) (slot : ℕ) → IsKept x → is_among slot (free_slots x) ≡ true → (i : ℕ) → is_among slot (list_at i x.order) ≡ false
free_in_no_order x slot kept has i =
    let hasnt : is_among slot (living_slots x) ≡ false = (free_is_place x kept slot has).1 in
    elim (eqb_tells i 0) [
      | inl w ↦ subst (λ n. is_among slot (list_at n x.order) ≡ false) (sym w.1) hasnt
      | inr w ↦ ap (is_among slot) (get_or_past x.order.lists i [] (omega (arith, kept.order_count, w.1)))
    ]

-- a living slot, once it was taken from the list of its kind
pub taken_from_kind : (x : Inside) (slot : ℕ) → IsKept x → is_among slot (living_slots x) ≡ true
    → (i : ℕ) → is_among slot (list_at i (without_at (age_list_at x.entries.items slot) slot x.kinds)) ≡ false
taken_from_kind x slot kept has i =
    let list : ℕ = age_list_at x.entries.items slot in
    let bound = age_list_bound (entry_at x.entries.items slot).kind in
    let within : age_list_at x.entries.items slot < length x.kinds.lists = omega (arith, kept.kinds_count, bound.1) in
    elim (eqb_tells i (age_list_at x.entries.items slot)) [
      | inl w ↦
          subst (λ n. is_among slot (list_at n (without_at (age_list_at x.entries.items slot) slot x.kinds)) ≡ false) (sym w.1)
          (ap (is_among slot) (get_or-set_same x.kinds.lists (age_list_at x.entries.items slot) _ [] within) ∙ absent_without slot _)
      | inr w ↦
          ap (is_among slot) (get_or-set_other x.kinds.lists (age_list_at x.entries.items slot) i _ [] w.1)
          ∙ elim (eqb_tells i 0) [
            | inl v ↦
                let counted : 1 ≤ times_in slot (living_slots x) = among_counted slot (living_slots x) has in
                let none : times_in slot (free_slots x) ≡ 0 = omega (arith, kept.slots slot, once_at_most slot x.capacity) in
                subst (λ n. is_among slot (list_at n x.kinds) ≡ false) (sym v.1) (uncounted_is_absent slot (free_slots x) none)
            | inr v ↦
                let least : 1 ≤ i = omega (arith, v.1) in
                dealt_elsewhere (age_list_at x.entries.items) 1 slot i (living_slots x) x.kinds.lists kept.kinds least (λ e m. w.1 (sym e))
          ]
    ]

-- a living slot is in the lists of its kind and of its bucket
pub in_its_kind : (x : Inside) (slot : ℕ) → IsKept x → is_among slot (living_slots x) ≡ true → is_among slot (list_at (age_list_at x.entries.items slot) x.kinds) ≡ true
in_its_kind x slot kept has =
    let bound = age_list_bound (entry_at x.entries.items slot).kind in
    let is = kept.kinds (age_list_at x.entries.items slot) bound.0 (omega (arith, kept.kinds_count, bound.1)) in
    subst (λ l. is_among slot l ≡ true) (sym is)
    (filter_has (λ s. age_list_at x.entries.items s == age_list_at x.entries.items slot) slot (living_slots x) has (same_slot (age_list_at x.entries.items slot)))

pub in_its_bucket : (x : Inside) (slot : ℕ) → IsKept x → is_among slot (living_slots x) ≡ true → bucket_at x.entries.items x.capacity slot < x.capacity
    → is_among slot (list_at (bucket_at x.entries.items x.capacity slot) x.buckets) ≡ true
in_its_bucket x slot kept has below =
    let is = kept.buckets (bucket_at x.entries.items x.capacity slot) (omega arith) (omega (arith, kept.buckets_count)) in
    subst (λ l. is_among slot l ≡ true) (sym is)
    (filter_has (λ s. bucket_at x.entries.items x.capacity s == bucket_at x.entries.items x.capacity slot) slot (living_slots x) has (same_slot (bucket_at x.entries.items x.capacity slot)))

-- ---- the table once a request was admitted

seen_stays : (entries : List Entry) (replies : List (Option (List ℕ))) (slot : ℕ) (e : Entry) (r : Option (List ℕ)) (xs : List ℕ) → is_among slot xs ≡ false
    → map (exchange_at (set entries slot e) (set replies slot r)) xs ≡ map (exchange_at entries replies) xs
seen_stays entries replies slot e r [] h = refl
seen_stays entries replies slot e r (x ∷ xs) h =
    let split = neither (slot == x) (is_among slot xs) h in
    let other : x ≢ slot = λ same. let wrong : (slot == x) ≡ true = ap (λ n. slot == n) same ∙ same_slot slot in let right : (slot == x) ≡ false = split.0 in cc in
    let entry : entry_at (set entries slot e) x ≡ entry_at entries x = entry_stays entries slot x e other in
    let reply : get_or (set replies slot r) x None ≡ get_or replies x None = get_or-set_other replies slot x r None other in
    let first : exchange_at (set entries slot e) (set replies slot r) x ≡ exchange_at entries replies x = λ i. record { arrival = arrival_of (entry i); slot = x; reply = reply i } in
    let rest : map (exchange_at (set entries slot e) (set replies slot r)) xs ≡ map (exchange_at entries replies) xs = seen_stays entries replies slot e r xs split.1 in
    cc

pub admits : (entries : List Entry) (replies : List (Option (List ℕ))) (slot : ℕ) (e : Entry) (xs : List ℕ)
    → slot < length entries → slot < length replies → is_among slot xs ≡ false
    → map (exchange_at (set entries slot e) (set replies slot None)) (xs ++ slot ∷ []) ≡ map (exchange_at entries replies) xs ++ record { arrival = arrival_of e; slot = slot; reply = None } ∷ []
admits entries replies slot e xs below place hasnt =
    let f : ℕ → Exchange = exchange_at (set entries slot e) (set replies slot None) in
    let entry : entry_at (set entries slot e) slot ≡ e = entry_is entries slot e below in
    let empty : get_or (set replies slot None) slot None ≡ None = get_or-set_same replies slot None None place in
    let last : exchange_at (set entries slot e) (set replies slot None) slot ≡ record { arrival = arrival_of e; slot = slot; reply = None }
    = λ i. record { arrival = arrival_of (entry i); slot = slot; reply = empty i } in
    map-append (exchange_at (set entries slot e) (set replies slot None)) xs (slot ∷ [])
    ∙ (ap (λ l. l ++ exchange_at (set entries slot e) (set replies slot None) slot ∷ []) (seen_stays entries replies slot e None xs hasnt)
    ∙ ap (λ z. map (exchange_at entries replies) xs ++ z ∷ []) last)

pub living_with : (x : Inside) (slot : ℕ) → IsKept x → list_at 0 (pushed_at 0 slot x.order) ≡ living_slots x ++ slot ∷ []
living_with x slot kept = let one : 0 < length x.order.lists = omega (arith, kept.order_count) in get_or-set_same x.order.lists 0 _ [] one

-- where a slot is free there is room
pub some_room : (x : Inside) (slot : ℕ) → IsKept x → is_among slot (free_slots x) ≡ true → length (living_slots x) < x.capacity
some_room x slot kept has =
    let once : times_in slot (free_slots x) ≡ 1 = (free_is_place x kept slot has).2 in
    let some : length (without slot (free_slots x)) + times_in slot (free_slots x) ≡ length (free_slots x) = length-without slot (free_slots x) in
    omega (arith, kept.count)
