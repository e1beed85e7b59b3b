-- The facts on slots that a call of the code keeps.
use Rattle.std.proofs.Common.{◌≡◌, ◌≢◌, ◌+◌, ◌≤◌, ◌<◌, ◌==◌, ℕ, true, false, cond, List, [], ◌∷◌, ◌++◌, length, length-append, get_or, set, replicate, zero, suc, inl, inr, ◌∙◌, sym, refl, ap, subst, arith}
use Rattle.std.proofs.lemmas.Bool.Decides.{eqb_tells}
use Rattle.std.proofs.lemmas.List.{get_or-set_same, get_or-set_other, length-set, length-replicate}
use Rattle.slot_lists.specs.Lists.{Lists, list_at, is_among, without, empty_lists}
use Rattle.coap_observe.specs.declared.observer.Observer.{Observer}
use Rattle.coap_observe.specs.Buckets.{target_bucket, endpoint_bucket}
use Rattle.coap_observe.specs.Kept.{observer_at, target_bucket_at, endpoint_bucket_at, AreDealt, used_slots, free_slots, AreKept, pushed_at, without_at}
use Rattle.slot_lists.specs.Counts.{times_in, once_below}
use Rattle.coap_observe.proofs.SlotLaws.{popped_in_none, undealt, dealt_once, dealt_there, dealt_push, dealt_pop, dealt_same, zero_either}
use Rattle.slot_lists.proofs.Among.{same_slot, differ}
use Rattle.slot_lists.proofs.Counts.{times_moved, once_is_below, once_at_most, times_push, among_counted, times_without_other, times_without_same, length-without}

-- ---- where a slot is

pub used_place : (n : ℕ) (ws : List Observer) (o t e : Lists) (slot : ℕ) → AreKept n ws o t e → is_among slot (used_slots o) ≡ true
    → (slot < n) × (times_in slot (used_slots o) ≡ 1) × (times_in slot (free_slots o) ≡ 0)
used_place n ws o t e slot kept has =
    let counted : 1 ≤ times_in slot (used_slots o) = among_counted slot (used_slots o) has in
    let below : slot < n = once_is_below slot n (omega (arith, kept.slots slot)) in
    let once : times_in slot (used_slots o) ≡ 1 = omega (arith, kept.slots slot, once_at_most slot n) in
    let not_free : times_in slot (free_slots o) ≡ 0 = omega (arith, kept.slots slot, once_at_most slot n) in
    (below, once, not_free)

pub free_place : (n : ℕ) (ws : List Observer) (o t e : Lists) (slot : ℕ) → AreKept n ws o t e → is_among slot (free_slots o) ≡ true
    → (slot < n) × (times_in slot (used_slots o) ≡ 0) × (times_in slot (free_slots o) ≡ 1)
free_place n ws o t e slot kept has =
    let counted : 1 ≤ times_in slot (free_slots o) = among_counted slot (free_slots o) has in
    let below : slot < n = once_is_below slot n (omega (arith, kept.slots slot)) in
    let unused : times_in slot (used_slots o) ≡ 0 = omega (arith, kept.slots slot, once_at_most slot n) in
    let once : times_in slot (free_slots o) ≡ 1 = omega (arith, kept.slots slot, once_at_most slot n) in
    (below, unused, once)

-- ---- a slot that goes from one list to another of the same value

pub moved_there : (i j slot : ℕ) (o : Lists) → i ≢ j → i < length o.lists
    → list_at i (pushed_at i slot (without_at j slot o)) ≡ list_at i o ++ slot ∷ []
moved_there i j slot o other below =
    let within : i < length (set o.lists j (without slot (get_or o.lists j []))) = subst (λ n. i < n) (sym (length-set o.lists j (without slot (get_or o.lists j [])))) below in
    get_or-set_same (set o.lists j (without slot (get_or o.lists j []))) i _ [] within
    ∙ ap (λ l. l ++ slot ∷ []) (get_or-set_other o.lists j i (without slot (get_or o.lists j [])) [] other)

pub moved_away : (i j slot : ℕ) (o : Lists) → j ≢ i → j < length o.lists
    → list_at j (pushed_at i slot (without_at j slot o)) ≡ without slot (list_at j o)
moved_away i j slot o other below =
    get_or-set_other (set o.lists j (without slot (get_or o.lists j []))) i j _ [] other ∙ get_or-set_same o.lists j (without slot (get_or o.lists j [])) [] below

pushed_once : (slot : ℕ) (xs : List ℕ) → times_in slot xs ≡ 0 → times_in slot (xs ++ slot ∷ []) ≡ 1
pushed_once slot xs none =
    let more : times_in slot (xs ++ slot ∷ []) ≡ times_in slot xs + 1 = times_push slot slot xs ∙ ap (λ b. times_in slot xs + cond b 1 0) (same_slot slot) in
    omega arith

pushed_others : (slot : ℕ) (xs : List ℕ) (s : ℕ) → s ≢ slot → times_in s (xs ++ slot ∷ []) ≡ times_in s xs
pushed_others slot xs s other =
    let more : times_in s (xs ++ slot ∷ []) ≡ times_in s xs + 0 = times_push s slot xs ∙ ap (λ b. times_in s xs + cond b 1 0) (differ s slot other) in
    omega arith

-- ---- the content of a slot

pub observer_stays : (ws : List Observer) (slot s : ℕ) (v : Observer) → s ≢ slot → observer_at (set ws slot v) s ≡ observer_at ws s
observer_stays ws slot s v other = get_or-set_other ws slot s v _ other

pub observer_is : (ws : List Observer) (slot : ℕ) (v : Observer) → slot < length ws → observer_at (set ws slot v) slot ≡ v
observer_is ws slot v below = get_or-set_same ws slot v _ below

-- the parts that a change leaves as they were
pub stays_of : {X : Type 0} (part : Observer → X) (ws : List Observer) (slot : ℕ) (v : Observer) → slot < length ws → part v ≡ part (observer_at ws slot)
    → (s : ℕ) → part (observer_at (set ws slot v) s) ≡ part (observer_at ws s)
stays_of {X} part ws slot v below same s = elim (eqb_tells s slot) [
  | inl w ↦ subst (λ (z : ℕ). part (observer_at (set ws slot v) z) ≡ part (observer_at ws z)) (sym w.1) (ap part (observer_is ws slot v below) ∙ same)
  | inr w ↦ ap part (observer_stays ws slot s v w.1)
]

-- ---- an observer that is added

pub kept_added : (n : ℕ) (ws : List Observer) (o t e : Lists) (slot : ℕ) (v : Observer) → AreKept n ws o t e → is_among slot (free_slots o) ≡ true
    → AreKept n (set ws slot v) (pushed_at 0 slot (without_at 1 slot o)) (pushed_at (target_bucket n v.target) slot t) (pushed_at (endpoint_bucket n v.from) slot e)
kept_added n ws o t e slot v kept has =
    let place = free_place n ws o t e slot kept has in
    let below : slot < length ws = omega (arith, kept.observers_count, place.0) in
    let two : 1 < length o.lists = omega (arith, kept.order_count) in
    let used : used_slots (pushed_at 0 slot (without_at 1 slot o)) ≡ used_slots o ++ slot ∷ [] = moved_there 0 1 slot o (omega arith) (omega arith) in
    let free : free_slots (pushed_at 0 slot (without_at 1 slot o)) ≡ without slot (free_slots o) = moved_away 0 1 slot o (omega arith) two in
    let here : observer_at (set ws slot v) slot ≡ v = observer_is ws slot v below in
    let once : times_in slot (used_slots o ++ slot ∷ []) ≡ 1 = pushed_once slot (used_slots o) place.1 in
    record {
      slots = λ s.
          let a : times_in s (used_slots (pushed_at 0 slot (without_at 1 slot o))) ≡ times_in s (used_slots o ++ slot ∷ []) = ap (times_in s) used in
          let b : times_in s (free_slots (pushed_at 0 slot (without_at 1 slot o))) ≡ times_in s (without slot (free_slots o)) = ap (times_in s) free in
          let moved : times_in s (without slot (free_slots o)) + times_in s (used_slots o ++ slot ∷ []) ≡ times_in s (free_slots o) + times_in s (used_slots o)
          = times_moved s slot (free_slots o) (used_slots o) place.2 in
          let before : times_in s (used_slots o) + times_in s (free_slots o) ≡ once_below s n = kept.slots s in
          omega arith;
      count =
          let a : length (used_slots (pushed_at 0 slot (without_at 1 slot o))) ≡ length (used_slots o) + 1 = ap length used ∙ length-append (used_slots o) (slot ∷ []) in
          let b : length (free_slots (pushed_at 0 slot (without_at 1 slot o))) ≡ length (without slot (free_slots o)) = ap length free in
          let c : length (without slot (free_slots o)) + times_in slot (free_slots o) ≡ length (free_slots o) = length-without slot (free_slots o) in
          omega (arith, kept.count, place.2);
      by_target = subst (λ l. AreDealt (target_bucket_at n (set ws slot v)) l (pushed_at (target_bucket n v.target) slot t).lists) (sym used)
          (subst (λ (w : Observer). AreDealt (target_bucket_at n (set ws slot v)) (used_slots o ++ slot ∷ []) (pushed_at (target_bucket n w.target) slot t).lists) here
          (dealt_push (target_bucket_at n ws) (target_bucket_at n (set ws slot v)) (used_slots o) (used_slots o ++ slot ∷ []) t.lists slot kept.by_target
          (λ s other. ap (λ (w : Observer). target_bucket n w.target) (observer_stays ws slot s v other)) place.1 once (pushed_others slot (used_slots o))));
      by_endpoint = subst (λ l. AreDealt (endpoint_bucket_at n (set ws slot v)) l (pushed_at (endpoint_bucket n v.from) slot e).lists) (sym used)
          (subst (λ (w : Observer). AreDealt (endpoint_bucket_at n (set ws slot v)) (used_slots o ++ slot ∷ []) (pushed_at (endpoint_bucket n w.from) slot e).lists) here
          (dealt_push (endpoint_bucket_at n ws) (endpoint_bucket_at n (set ws slot v)) (used_slots o) (used_slots o ++ slot ∷ []) e.lists slot kept.by_endpoint
          (λ s other. ap (λ (w : Observer). endpoint_bucket n w.from) (observer_stays ws slot s v other)) place.1 once (pushed_others slot (used_slots o))));
      some = kept.some;
      observers_count = length-set ws slot v ∙ kept.observers_count;
      order_capacity = kept.order_capacity;
      targets_capacity = kept.targets_capacity;
      endpoints_capacity = kept.endpoints_capacity;
      order_count = length-set (set o.lists 1 _) 0 _ ∙ (length-set o.lists 1 _ ∙ kept.order_count);
      targets_count = length-set t.lists (target_bucket n v.target) _ ∙ kept.targets_count;
      endpoints_count = length-set e.lists (endpoint_bucket n v.from) _ ∙ kept.endpoints_count;
    }

-- ---- an observer that is taken away

pub kept_removed : (n : ℕ) (ws : List Observer) (o t e : Lists) (slot : ℕ) → AreKept n ws o t e → is_among slot (used_slots o) ≡ true
    → AreKept n ws (pushed_at 1 slot (without_at 0 slot o)) (without_at (target_bucket_at n ws slot) slot t) (without_at (endpoint_bucket_at n ws slot) slot e)
kept_removed n ws o t e slot kept has =
    let place = used_place n ws o t e slot kept has in
    let two : 1 < length o.lists = omega (arith, kept.order_count) in
    let used : used_slots (pushed_at 1 slot (without_at 0 slot o)) ≡ without slot (used_slots o) = moved_away 1 0 slot o (omega arith) (omega arith) in
    let free : free_slots (pushed_at 1 slot (without_at 0 slot o)) ≡ free_slots o ++ slot ∷ [] = moved_there 1 0 slot o (omega arith) two in
    record {
      slots = λ s.
          let a : times_in s (used_slots (pushed_at 1 slot (without_at 0 slot o))) ≡ times_in s (without slot (used_slots o)) = ap (times_in s) used in
          let b : times_in s (free_slots (pushed_at 1 slot (without_at 0 slot o))) ≡ times_in s (free_slots o ++ slot ∷ []) = ap (times_in s) free in
          let moved : times_in s (without slot (used_slots o)) + times_in s (free_slots o ++ slot ∷ []) ≡ times_in s (used_slots o) + times_in s (free_slots o)
          = times_moved s slot (used_slots o) (free_slots o) place.1 in
          let before : times_in s (used_slots o) + times_in s (free_slots o) ≡ once_below s n = kept.slots s in
          omega arith;
      count =
          let a : length (used_slots (pushed_at 1 slot (without_at 0 slot o))) ≡ length (without slot (used_slots o)) = ap length used in
          let b : length (free_slots (pushed_at 1 slot (without_at 0 slot o))) ≡ length (free_slots o) + 1 = ap length free ∙ length-append (free_slots o) (slot ∷ []) in
          let c : length (without slot (used_slots o)) + times_in slot (used_slots o) ≡ length (used_slots o) = length-without slot (used_slots o) in
          omega (arith, kept.count, place.1);
      by_target = subst (λ l. AreDealt (target_bucket_at n ws) l (without_at (target_bucket_at n ws slot) slot t).lists) (sym used)
          (dealt_pop (target_bucket_at n ws) (used_slots o) (without slot (used_slots o)) t.lists slot kept.by_target
          (times_without_same slot (used_slots o)) (λ s other. times_without_other s slot (used_slots o) other));
      by_endpoint = subst (λ l. AreDealt (endpoint_bucket_at n ws) l (without_at (endpoint_bucket_at n ws slot) slot e).lists) (sym used)
          (dealt_pop (endpoint_bucket_at n ws) (used_slots o) (without slot (used_slots o)) e.lists slot kept.by_endpoint
          (times_without_same slot (used_slots o)) (λ s other. times_without_other s slot (used_slots o) other));
      some = kept.some;
      observers_count = kept.observers_count;
      order_capacity = kept.order_capacity;
      targets_capacity = kept.targets_capacity;
      endpoints_capacity = kept.endpoints_capacity;
      order_count = length-set (set o.lists 0 _) 1 _ ∙ (length-set o.lists 0 _ ∙ kept.order_count);
      targets_count = length-set t.lists (target_bucket_at n ws slot) _ ∙ kept.targets_count;
      endpoints_count = length-set e.lists (endpoint_bucket_at n ws slot) _ ∙ kept.endpoints_count;
    }

-- ---- an observer that takes a new target

pub kept_replaced : (n : ℕ) (ws : List Observer) (o t e : Lists) (slot : ℕ) (v : Observer) → AreKept n ws o t e → is_among slot (used_slots o) ≡ true
    → v.from ≡ (observer_at ws slot).from
    → AreKept n (set ws slot v) o (pushed_at (target_bucket n v.target) slot (without_at (target_bucket_at n ws slot) slot t)) e
kept_replaced n ws o t e slot v kept has from =
    let place = used_place n ws o t e slot kept has in
    let below : slot < length ws = omega (arith, kept.observers_count, place.0) in
    let here : observer_at (set ws slot v) slot ≡ v = observer_is ws slot v below in
    let left : List (List ℕ) = (without_at (target_bucket_at n ws slot) slot t).lists in
    let popped : AreDealt (target_bucket_at n ws) (without slot (used_slots o)) (without_at (target_bucket_at n ws slot) slot t).lists
    = dealt_pop (target_bucket_at n ws) (used_slots o) (without slot (used_slots o)) t.lists slot kept.by_target
    (times_without_same slot (used_slots o)) (λ s other. times_without_other s slot (used_slots o) other) in
    record {
      slots = kept.slots;
      count = kept.count;
      by_target = subst (λ (w : Observer). AreDealt (target_bucket_at n (set ws slot v)) (used_slots o) (pushed_at (target_bucket n w.target) slot (without_at (target_bucket_at n ws slot) slot t)).lists) here
          (dealt_push (target_bucket_at n ws) (target_bucket_at n (set ws slot v)) (without slot (used_slots o)) (used_slots o) (without_at (target_bucket_at n ws slot) slot t).lists slot popped
          (λ s other. ap (λ (w : Observer). target_bucket n w.target) (observer_stays ws slot s v other)) (times_without_same slot (used_slots o)) place.1
          (λ s other. sym (times_without_other s slot (used_slots o) other)));
      by_endpoint = dealt_same (endpoint_bucket_at n ws) (endpoint_bucket_at n (set ws slot v)) (used_slots o) e.lists
          (λ s. ap (endpoint_bucket n) (stays_of (λ (w : Observer). w.from) ws slot v below from s)) kept.by_endpoint;
      some = kept.some;
      observers_count = length-set ws slot v ∙ kept.observers_count;
      order_capacity = kept.order_capacity;
      targets_capacity = kept.targets_capacity;
      endpoints_capacity = kept.endpoints_capacity;
      order_count = kept.order_count;
      targets_count = length-set (without_at (target_bucket_at n ws slot) slot t).lists (target_bucket n v.target) _ ∙ (length-set t.lists (target_bucket_at n ws slot) _ ∙ kept.targets_count);
      endpoints_count = kept.endpoints_count;
    }

-- ---- observers that keep their targets and endpoints

pub kept_changed : (n : ℕ) (ws ws2 : List Observer) (o t e : Lists) → AreKept n ws o t e → length ws2 ≡ length ws
    → ((s : ℕ) → (observer_at ws2 s).target ≡ (observer_at ws s).target) → ((s : ℕ) → (observer_at ws2 s).from ≡ (observer_at ws s).from)
    → AreKept n ws2 o t e
kept_changed n ws ws2 o t e kept count targets froms = record {
  slots = kept.slots;
  count = kept.count;
  by_target = dealt_same (target_bucket_at n ws) (target_bucket_at n ws2) (used_slots o) t.lists (λ s. ap (target_bucket n) (targets s)) kept.by_target;
  by_endpoint = dealt_same (endpoint_bucket_at n ws) (endpoint_bucket_at n ws2) (used_slots o) e.lists (λ s. ap (endpoint_bucket n) (froms s)) kept.by_endpoint;
  some = kept.some;
  observers_count = count ∙ kept.observers_count;
  order_capacity = kept.order_capacity;
  targets_capacity = kept.targets_capacity;
  endpoints_capacity = kept.endpoints_capacity;
  order_count = kept.order_count;
  targets_count = kept.targets_count;
  endpoints_count = kept.endpoints_count;
}

pub kept_at : (n : ℕ) (ws : List Observer) (o t e : Lists) (slot : ℕ) (v : Observer) → AreKept n ws o t e → slot < length ws
    → v.target ≡ (observer_at ws slot).target → v.from ≡ (observer_at ws slot).from → AreKept n (set ws slot v) o t e
kept_at n ws o t e slot v kept below target from =
    kept_changed n ws (set ws slot v) o t e kept (length-set ws slot v)
    (stays_of (λ (w : Observer). w.target) ws slot v below target) (stays_of (λ (w : Observer). w.from) ws slot v below from)

-- ---- the lists that don't have a slot

-- a free slot
pub taken_from_free : (n : ℕ) (ws : List Observer) (o t e : Lists) (slot : ℕ) → AreKept n ws o t e → is_among slot (free_slots o) ≡ true
    → (i : ℕ) → is_among slot (list_at i (without_at 1 slot o)) ≡ false
taken_from_free n ws o t e slot kept has =
    let place = free_place n ws o t e slot kept has in
    popped_in_none o.lists 1 slot (λ i below other.
    let zero : i ≡ 0 = omega (arith, kept.order_count) in
    subst (λ z. times_in slot (get_or o.lists z []) ≡ 0) (sym zero) place.1)

pub free_has_no_target : (n : ℕ) (ws : List Observer) (o t e : Lists) (slot : ℕ) → AreKept n ws o t e → is_among slot (free_slots o) ≡ true
    → (i : ℕ) → is_among slot (list_at i t) ≡ false
free_has_no_target n ws o t e slot kept has =
    undealt (target_bucket_at n ws) (used_slots o) t.lists slot kept.by_target (free_place n ws o t e slot kept has).1

pub free_has_no_endpoint : (n : ℕ) (ws : List Observer) (o t e : Lists) (slot : ℕ) → AreKept n ws o t e → is_among slot (free_slots o) ≡ true
    → (i : ℕ) → is_among slot (list_at i e) ≡ false
free_has_no_endpoint n ws o t e slot kept has =
    undealt (endpoint_bucket_at n ws) (used_slots o) e.lists slot kept.by_endpoint (free_place n ws o t e slot kept has).1

-- a slot with an observer
pub taken_from_used : (n : ℕ) (ws : List Observer) (o t e : Lists) (slot : ℕ) → AreKept n ws o t e → is_among slot (used_slots o) ≡ true
    → (i : ℕ) → is_among slot (list_at i (without_at 0 slot o)) ≡ false
taken_from_used n ws o t e slot kept has =
    let place = used_place n ws o t e slot kept has in
    popped_in_none o.lists 0 slot (λ i below other.
    let one : i ≡ 1 = omega (arith, kept.order_count) in
    subst (λ z. times_in slot (get_or o.lists z []) ≡ 0) (sym one) place.2)

pub taken_from_target : (n : ℕ) (ws : List Observer) (o t e : Lists) (slot : ℕ) → AreKept n ws o t e
    → (i : ℕ) → is_among slot (list_at i (without_at (target_bucket_at n ws slot) slot t)) ≡ false
taken_from_target n ws o t e slot kept =
    popped_in_none t.lists (target_bucket_at n ws slot) slot (dealt_once (target_bucket_at n ws) (used_slots o) t.lists slot kept.by_target)

-- it is in the lists of its target and of its endpoint
pub in_its_target : (n : ℕ) (ws : List Observer) (o t e : Lists) (slot : ℕ) → AreKept n ws o t e → is_among slot (used_slots o) ≡ true
    → target_bucket_at n ws slot < n → is_among slot (list_at (target_bucket_at n ws slot) t) ≡ true
in_its_target n ws o t e slot kept has below =
    dealt_there (target_bucket_at n ws) (used_slots o) t.lists slot kept.by_target (among_counted slot (used_slots o) has) (omega (arith, kept.targets_count))

pub in_its_endpoint : (n : ℕ) (ws : List Observer) (o t e : Lists) (slot : ℕ) → AreKept n ws o t e → is_among slot (used_slots o) ≡ true
    → endpoint_bucket_at n ws slot < n → is_among slot (list_at (endpoint_bucket_at n ws slot) e) ≡ true
in_its_endpoint n ws o t e slot kept has below =
    dealt_there (endpoint_bucket_at n ws) (used_slots o) e.lists slot kept.by_endpoint (among_counted slot (used_slots o) has) (omega (arith, kept.endpoints_count))

-- ---- as it begins

nothing_at : (n i : ℕ) → get_or {A = List ℕ} (replicate {A = List ℕ} n []) i [] ≡ []
nothing_at zero i = refl
nothing_at (suc n) zero = refl
nothing_at (suc n) (suc i) = nothing_at n i

none_dealt : (number : ℕ → ℕ) (n : ℕ) (used : List ℕ) → used ≡ [] → AreDealt number used (replicate n [])
none_dealt number n used none i s below =
    let left : times_in s (get_or (replicate n []) i []) ≡ 0 = ap (times_in s) (nothing_at n i) in
    let right : cond (number s == i) (times_in s used) 0 ≡ 0 = zero_either (number s == i) (times_in s used) (ap (times_in s) none) in
    left ∙ sym right

pub kept_first : (n : ℕ) (ws : List Observer) (o : Lists) → 0 < n → length ws ≡ n → o.capacity ≡ n → length o.lists ≡ 2
    → ((s : ℕ) → times_in s (free_slots o) ≡ once_below s n) → length (free_slots o) ≡ n → used_slots o ≡ [] → AreKept n ws o (empty_lists n n) (empty_lists n n)
kept_first n ws o some count capacity two free free_count none = record {
  slots = λ s. let unused : times_in s (used_slots o) ≡ 0 = ap (times_in s) none in omega (arith, free s);
  count = let unused : length (used_slots o) ≡ 0 = ap length none in omega arith;
  by_target = none_dealt (target_bucket_at n ws) n (used_slots o) none;
  by_endpoint = none_dealt (endpoint_bucket_at n ws) n (used_slots o) none;
  some = some;
  observers_count = count;
  order_capacity = capacity;
  targets_capacity = refl;
  endpoints_capacity = refl;
  order_count = two;
  targets_count = length-replicate n [];
  endpoints_count = length-replicate n [];
}

-- of two lists the first is empty, and the second doesn't have the slot
pub either_list : (o : Lists) (slot : ℕ) → length o.lists ≡ 2 → used_slots o ≡ [] → times_in slot (free_slots o) ≡ 0
    → (i : ℕ) → i < length o.lists → times_in slot (get_or o.lists i []) ≡ 0
either_list o slot two none unfree i below = elim (eqb_tells i 0) [
  | inl w ↦ subst (λ z. times_in slot (get_or o.lists z []) ≡ 0) (sym w.1) (ap (times_in slot) none)
  | inr w ↦
      let one : i ≡ 1 = omega (arith, w.1) in
      subst (λ z. times_in slot (get_or o.lists z []) ≡ 0) (sym one) unfree
]
