-- Exchanges that don't live any more: the oldest of a kind, and the table without them.
use Rattle.std.proofs.Common.{◌-◌, not, ◌≡◌, ◌⊎◌, ◌≤◌, ◌<◌, ◌==◌, ℕ, suc, Bool, true, false, cond, List, [], ◌∷◌, map, length, get_or, Option, Some, None, inl, inr, ◌∙◌, sym, refl, ap, subst, arith}
use Rattle.std.specs.Prelude.{nat_lt, All, AllPairs}
use Rattle.std.specs.List.{find, filter, AllByRecursion}
use Rattle.std.proofs.lemmas.List.{length-map, get_or-map}
use Rattle.std.proofs.lemmas.List.Elements.{All-map, recursion_from_All}
use Rattle.std.proofs.lemmas.List.Kept.{AllPairs-filter}
use Rattle.std.proofs.lemmas.Bool.Decides.{nat_tests}
use Rattle.coap_msg.specs.declared.message.RequestType.{RequestType}
use Rattle.coap_msg.specs.declared.message.RequestType.TheVariants.{Confirmable, NonConfirmable}
use Rattle.slot_lists.specs.Lists.{list_at, is_among, first_of}
use Rattle.slot_lists.proofs.Among.{either, is_same, among_first}
use Rattle.coap_exchange.specs.Admission.{Arrival, lifetime, lives}
use Rattle.coap_exchange.specs.Slots.{exchange_at, age_list, age_list_at}
use Rattle.coap_exchange.specs.Kept.{table_of, living_slots, arrival_at, IsKept, AllLive, IsOver}
use Rattle.coap_exchange.specs.Table.{Exchange, Table, at_moment}
use Rattle.coap_exchange.specs.declared.exchanges.Exchanges.TheInside.{Inside}
use Rattle.coap_exchange.proofs.SlotLaws.{among_at, at_member, among_filter, filter_has}
use Rattle.slot_lists.proofs.Among.{same_slot}
use Rattle.coap_exchange.proofs.TableLaws.{lives_in_slot}
use Rattle.coap_exchange.proofs.KeptLaws.{age_list_bound}

-- ---- lists

-- a list without an element that is found in it is shorter
shorter_at : {A : Type 0} (x e : A) (o : Option A) (n m : ℕ) (kept xs : List A) (b : Bool) → (o ≡ Some e → length kept < length xs) → length kept ≤ length xs
    → cond b (Some x) o ≡ Some e → length (cond (not b) (x ∷ kept) kept) < length (x ∷ xs)
shorter_at x e o n m kept xs true rec most h = omega arith
shorter_at x e o n m kept xs false rec most h = let less : length kept < length xs = rec h in omega arith

filter_at_most : {A : Type 0} (p : A → Bool) (xs : List A) → length (filter p xs) ≤ length xs
filter_at_most p [] = omega arith
filter_at_most p (x ∷ xs) = most_at x (filter p xs) xs (p x) (filter_at_most p xs)
  where
    most_at : {B : Type 0} (y : B) (kept ys : List B) (b : Bool) → length kept ≤ length ys → length (cond b (y ∷ kept) kept) ≤ length (y ∷ ys)
    most_at y kept ys true h = omega arith
    most_at y kept ys false h = omega arith

pub shorter_without : {A : Type 0} (p : A → Bool) (xs : List A) (e : A) → find p xs ≡ Some e → length (filter (λ x. not (p x)) xs) < length xs
shorter_without p [] e h = cc
shorter_without p (x ∷ xs) e h = shorter_at x e (find p xs) 0 0 (filter (λ y. not (p y)) xs) xs (p x) (shorter_without p xs e) (filter_at_most (λ y. not (p y)) xs) h

-- all are kept that pass
pub all_kept : {A : Type 0} (p : A → Bool) (xs : List A) → AllByRecursion (λ x. p x ≡ true) xs → filter p xs ≡ xs
all_kept p [] h = refl
all_kept p (x ∷ xs) h = rw h.0 (ap (λ l. x ∷ l) (all_kept p xs h.1))

-- an element that fails a test may as well be left out before
drops_at : (p : Exchange → Bool) (e : Exchange) (kept xs : List Exchange) (b c : Bool) → p e ≡ b → (c ≡ true → b ≡ false) → filter p kept ≡ filter p xs
    → filter p (cond (not c) (e ∷ kept) kept) ≡ cond b (e ∷ filter p xs) (filter p xs)
drops_at p e kept xs true true t w h = let wrong : true ≡ false = w refl in absurd cc
drops_at p e kept xs true false t w h = rw t (ap (λ l. e ∷ l) h)
drops_at p e kept xs false true t w h = h
drops_at p e kept xs false false t w h = rw t h

drops_over : (p : Exchange → Bool) (f : ℕ → Exchange) (slot : ℕ) (xs : List ℕ) → ((s : ℕ) → (f s).slot ≡ s) → p (f slot) ≡ false
    → filter p (filter (λ e. not (e.slot == slot)) (map f xs)) ≡ filter p (map f xs)
drops_over p f slot [] place h = refl
drops_over p f slot (x ∷ xs) place h =
    drops_at p (f x) (filter (λ e. not (e.slot == slot)) (map f xs)) (map f xs) (p (f x)) ((f x).slot == slot) refl
    (λ t. let same : x ≡ slot = sym (place x) ∙ is_same (f x).slot slot t in ap (λ n. p (f n)) same ∙ h) (drops_over p f slot xs place h)

-- ---- kinds

same_kind_at : (a b : RequestType) → (age_list a == age_list b) ≡ true → a ≡ b
same_kind_at Confirmable Confirmable h = refl
same_kind_at Confirmable NonConfirmable h = absurd cc
same_kind_at NonConfirmable Confirmable h = absurd cc
same_kind_at NonConfirmable NonConfirmable h = refl

-- the list of a kind has the living slots of the kind
kind_list_is : (x : Inside) → IsKept x → (kind : RequestType)
    → list_at (age_list kind) x.kinds ≡ filter (λ s. age_list_at x.entries.items s == age_list kind) (living_slots x)
kind_list_is x kept kind =
    let bound = age_list_bound kind in
    kept.kinds (age_list kind) bound.0 (omega (arith, kept.kinds_count, bound.1))

pub in_kind_list : (x : Inside) → IsKept x → (kind : RequestType) (s : ℕ) → is_among s (living_slots x) ≡ true → (arrival_at x s).kind ≡ kind
    → is_among s (list_at (age_list kind) x.kinds) ≡ true
in_kind_list x kept kind s has k =
    let passes : (age_list_at x.entries.items s == age_list kind) ≡ true = ap (λ q. age_list q == age_list kind) k ∙ same_slot (age_list kind) in
    subst (λ l. is_among s l ≡ true) (sym (kind_list_is x kept kind)) (filter_has (λ n. age_list_at x.entries.items n == age_list kind) s (living_slots x) has passes)

of_kind_list : (x : Inside) → IsKept x → (kind : RequestType) (s : ℕ) → is_among s (list_at (age_list kind) x.kinds) ≡ true
    → ((arrival_at x s).kind ≡ kind) × (is_among s (living_slots x) ≡ true)
of_kind_list x kept kind s has =
    let both = among_filter (λ n. age_list_at x.entries.items n == age_list kind) s (living_slots x) (subst (λ l. is_among s l ≡ true) (kind_list_is x kept kind) has) in
    (same_kind_at (arrival_at x s).kind kind both.0, both.1)

-- ---- the exchanges that live

all_live_by : (x : Inside) (now : ℕ) (kind : RequestType)
    → ((s : ℕ) → is_among s (living_slots x) ≡ true → (arrival_at x s).kind ≡ kind → lives now (arrival_at x s) ≡ true) → AllLive now kind (table_of x)
all_live_by x now kind h =
    All-map (λ (e : Exchange). e.arrival.kind ≡ kind → lives now e.arrival ≡ true) (exchange_at x.entries.items x.replies.items) (living_slots x)
    (λ k d below. h (get_or (living_slots x) k d) (among_at (living_slots x) k d below))

nothing_in : (xs : List ℕ) (s : ℕ) → first_of xs ≡ None → is_among s xs ≡ true → ⊥
nothing_in [] s e m = cc
nothing_in (x ∷ xs) s e m = cc

pub none_over : (x : Inside) → IsKept x → (now : ℕ) (kind : RequestType) → first_of (list_at (age_list kind) x.kinds) ≡ None → AllLive now kind (table_of x)
none_over x kept now kind h = all_live_by x now kind (λ s has k. absurd (nothing_in (list_at (age_list kind) x.kinds) s h (in_kind_list x kept kind s has k)))

-- of two of a kind the later one lives where the earlier one does
lives_too : (now m n limit : ℕ) → m ≤ n → nat_lt (now - m) limit ≡ true → nat_lt (now - n) limit ≡ true
lives_too now m n limit h e = grind (arith, nat_tests)

later_lives : (now : ℕ) (a b : Arrival) → a.kind ≡ b.kind → a.moment ≤ b.moment → lives now a ≡ true → lives now b ≡ true
later_lives now a b k h e = subst (λ q. nat_lt (now - b.moment) (lifetime q) ≡ true) k (lives_too now a.moment b.moment (lifetime a.kind) h e)

from_first_on : (R : ℕ → ℕ → Type 0) (xs : List ℕ) (slot s : ℕ) → AllPairs R xs → first_of xs ≡ Some slot → is_among s xs ≡ true → (s ≡ slot) ⊎ R slot s
from_first_on R [] slot s pairs f m = cc
from_first_on R (x ∷ xs) slot s pairs f m =
    let same : x ≡ slot = cc in
    elim (either (s == x) (is_among s xs) m) [
      | inl e ↦ inl (is_same s x e ∙ same)
      | inr later ↦ inr (subst (λ n. R n s) same (at_member (λ n. R x n) xs (λ k d below. pairs 0 (suc k) d (omega arith) (omega arith)) s later))
    ]

first_is_among : (xs : List ℕ) (slot : ℕ) → first_of xs ≡ Some slot → is_among slot xs ≡ true
first_is_among [] slot e = cc
first_is_among (x ∷ xs) slot e = let same : x ≡ slot = cc in subst (λ n. is_among n (x ∷ xs) ≡ true) same (among_first x xs)

pub first_lives : (x : Inside) → IsKept x → (now : ℕ) (kind : RequestType) (slot : ℕ)
    → first_of (list_at (age_list kind) x.kinds) ≡ Some slot → lives now (arrival_at x slot) ≡ true → AllLive now kind (table_of x)
first_lives x kept now kind slot f alive = all_live_by x now kind (λ s has k.
    let rising : AllPairs (λ a b. (arrival_at x a).moment ≤ (arrival_at x b).moment) (list_at (age_list kind) x.kinds)
    = subst (AllPairs (λ a b. (arrival_at x a).moment ≤ (arrival_at x b).moment)) (sym (kind_list_is x kept kind))
    (AllPairs-filter (λ a b. (arrival_at x a).moment ≤ (arrival_at x b).moment) (λ n. age_list_at x.entries.items n == age_list kind) (living_slots x) kept.rising) in
    let first_kind : (arrival_at x slot).kind ≡ kind = (of_kind_list x kept kind slot (first_is_among (list_at (age_list kind) x.kinds) slot f)).0 in
    elim (from_first_on (λ a b. (arrival_at x a).moment ≤ (arrival_at x b).moment) (list_at (age_list kind) x.kinds) slot s rising f (in_kind_list x kept kind s has k)) [
      | inl same ↦ subst (λ n. lives now (arrival_at x n) ≡ true) (sym same) alive
      | inr later ↦ later_lives now (arrival_at x slot) (arrival_at x s) (first_kind ∙ sym k) later alive
    ])

pub first_over : (x : Inside) → IsKept x → (now : ℕ) (kind : RequestType) (slot : ℕ)
    → first_of (list_at (age_list kind) x.kinds) ≡ Some slot → lives now (arrival_at x slot) ≡ false → IsOver now slot (table_of x)
first_over x kept now kind slot f dead =
    let has : is_among slot (living_slots x) ≡ true = (of_kind_list x kept kind slot (first_is_among (list_at (age_list kind) x.kinds) slot f)).1 in
    let at : List Exchange → Table = λ es. record { capacity = x.capacity; moment = now; exchanges = es } in
    record {
      exchange = exchange_at x.entries.items x.replies.items slot;
      there = lives_in_slot x slot has;
      over = ap at (drops_over (λ e. lives now e.arrival) (exchange_at x.entries.items x.replies.items) slot (living_slots x) (λ s. refl) dead);
    }

-- ---- a later moment

slot_lives_at : (x : Inside) (now : ℕ) → ((kind : RequestType) → AllLive now kind (table_of x)) → All (λ s. lives now (arrival_at x s) ≡ true) (living_slots x)
slot_lives_at x now live k d below =
    let f : ℕ → Exchange = exchange_at x.entries.items x.replies.items in
    let slots : List ℕ = living_slots x in
    let many : k < length (map (exchange_at x.entries.items x.replies.items) (living_slots x))
    = subst (λ n. k < n) (sym (length-map (living_slots x) (exchange_at x.entries.items x.replies.items))) below in
    let read : get_or (map (exchange_at x.entries.items x.replies.items) (living_slots x)) k (exchange_at x.entries.items x.replies.items d)
    ≡ exchange_at x.entries.items x.replies.items (get_or (living_slots x) k d)
    = get_or-map (exchange_at x.entries.items x.replies.items) (living_slots x) k d (exchange_at x.entries.items x.replies.items d) below in
    let kind : RequestType = (arrival_at x (get_or (living_slots x) k d)).kind in
    let at : (e : Exchange) → (e ≡ exchange_at x.entries.items x.replies.items (get_or (living_slots x) k d))
    → (e.arrival.kind ≡ (arrival_at x (get_or (living_slots x) k d)).kind → lives now e.arrival ≡ true) → lives now (arrival_at x (get_or (living_slots x) k d)) ≡ true
    = λ e same h. subst (λ (z : Exchange). lives now z.arrival ≡ true) same (h (ap (λ (z : Exchange). z.arrival.kind) same)) in
    at (get_or (map (exchange_at x.entries.items x.replies.items) (living_slots x)) k (exchange_at x.entries.items x.replies.items d)) read
    (live (arrival_at x (get_or (living_slots x) k d)).kind k (exchange_at x.entries.items x.replies.items d) many)

pub kept_later : (x : Inside) (now : ℕ) → IsKept x → x.moment ≤ now → ((kind : RequestType) → AllLive now kind (table_of x)) → IsKept (record x { moment = now })
kept_later x now kept after live = record {
  slots = kept.slots;
  count = kept.count;
  living = slot_lives_at x now live;
  past = λ k d below. let before : (arrival_at x (get_or (living_slots x) k d)).moment ≤ x.moment = kept.past k d below in omega arith;
  rising = kept.rising;
  apart = kept.apart;
  kinds = kept.kinds;
  buckets = kept.buckets;
  some = kept.some;
  entries = kept.entries;
  replies = kept.replies;
  kinds_capacity = kept.kinds_capacity;
  buckets_capacity = kept.buckets_capacity;
  order_capacity = kept.order_capacity;
  kinds_count = kept.kinds_count;
  buckets_count = kept.buckets_count;
  order_count = kept.order_count;
}

pub seen_later : (x : Inside) (now : ℕ) → ((kind : RequestType) → AllLive now kind (table_of x)) → table_of (record x { moment = now }) ≡ at_moment now (table_of x)
seen_later x now live =
    let at : List Exchange → Table = λ es. record { capacity = x.capacity; moment = now; exchanges = es } in
    let living : All (λ (e : Exchange). lives now e.arrival ≡ true) (map (exchange_at x.entries.items x.replies.items) (living_slots x))
    = All-map (λ (e : Exchange). lives now e.arrival ≡ true) (exchange_at x.entries.items x.replies.items) (living_slots x) (slot_lives_at x now live) in
    ap at (sym (all_kept (λ e. lives now e.arrival) (map (exchange_at x.entries.items x.replies.items) (living_slots x))
    (recursion_from_All (λ (e : Exchange). lives now e.arrival ≡ true) (map (exchange_at x.entries.items x.replies.items) (living_slots x)) living)))
