-- The state after calls on one slot, and on all observers of a target.
use Rattle.std.proofs.Common.{◌≡◌, ◌<◌, ◌≤◌, ◌+◌, ℕ, Bool, true, false, cond, List, [], ◌∷◌, ◌++◌, map, length, get_or, set, None, inl, inr, ◌∙◌, sym, refl, ap, subst, arith}
use Rattle.std.proofs.lemmas.Bool.Decides.{eqb_tells}
use Rattle.slot_lists.specs.Lists.{Lists, list_at, is_among, without, first_of}
use Rattle.coap_observe.specs.declared.observer.Observer.{Observer}
use Rattle.coap_observe.specs.Buckets.{target_bucket, endpoint_bucket}
use Rattle.std.proofs.lemmas.List.{length-map}
use Rattle.coap_observe.specs.Kept.{observer_at, changed_among, place_at, target_bucket_at, endpoint_bucket_at, used_slots, free_slots, AreKept, places_in, pushed_at, without_at}
use Rattle.slot_lists.specs.Counts.{times_in}
use Rattle.coap_observe.specs.Places.{Place, Places, IsAt, IsUsed, with_change, with_changes, without_slot, IsAdded, sent_once_more}
use Rattle.coap_observe.specs.Watching.{where_so, is_of_target, marked, renewed, resent, replaced}
use Rattle.coap_observe.proofs.KeptLaws.{free_place, moved_there, moved_away, kept_added, kept_removed, kept_replaced, kept_at, kept_changed, in_its_target, in_its_endpoint, taken_from_free, taken_from_used, taken_from_target}
use Rattle.slot_lists.proofs.Counts.{length-without, uncounted_is_absent}
use Rattle.coap_observe.proofs.PlaceLaws.{used_in, slot_below, place_in, seen_changed, seen_all_changed, seen_without, seen_added, target_bucket_below, endpoint_bucket_below}
use Rattle.coap_observe.proofs.WalkLaws.{read_observer}

-- ---- one observer that keeps its target and its endpoint

-- the value that is there, as the code reads it
pub holds : (n : ℕ) (ws : List Observer) (o t e : Lists) (seen : Places) (slot : ℕ) (d : Observer) → AreKept n ws o t e → places_in n ws o ≡ seen → IsUsed slot seen
    → d ≡ get_or ws slot d → d ≡ observer_at ws slot
holds n ws o t e seen slot d kept view used read = read ∙ read_observer ws slot d (slot_below n ws o t e seen slot kept view used)

pub holds_place : (n : ℕ) (ws : List Observer) (o t e : Lists) (seen : Places) (slot : ℕ) (d : Observer) (p : Place) → AreKept n ws o t e → places_in n ws o ≡ seen
    → IsAt slot p seen → d ≡ get_or ws slot d → d ≡ p.observer
holds_place n ws o t e seen slot d p kept view at read = holds n ws o t e seen slot d kept view (p, at) read ∙ sym (place_in n ws o seen slot p view at)

pub kept_by : (f : Observer → Observer) → ((w : Observer) → (f w).target ≡ w.target) → ((w : Observer) → (f w).from ≡ w.from)
    → (n : ℕ) (ws : List Observer) (o t e : Lists) (seen : Places) (slot : ℕ) (d v : Observer) → AreKept n ws o t e → places_in n ws o ≡ seen → IsUsed slot seen
    → d ≡ get_or ws slot d → v ≡ f d → AreKept n (set ws slot v) o t e
kept_by f targets froms n ws o t e seen slot d v kept view used read is =
    let now : v ≡ f (observer_at ws slot) = is ∙ ap f (holds n ws o t e seen slot d kept view used read) in
    kept_at n ws o t e slot v kept (slot_below n ws o t e seen slot kept view used)
    (ap (λ (w : Observer). w.target) now ∙ targets (observer_at ws slot)) (ap (λ (w : Observer). w.from) now ∙ froms (observer_at ws slot))

pub seen_by : (f : Observer → Observer) (n : ℕ) (ws : List Observer) (o t e : Lists) (seen : Places) (slot : ℕ) (d v : Observer) → AreKept n ws o t e → places_in n ws o ≡ seen
    → IsUsed slot seen → d ≡ get_or ws slot d → v ≡ f d → places_in n (set ws slot v) o ≡ with_change slot f seen
seen_by f n ws o t e seen slot d v kept view used read is =
    seen_changed n ws o slot v f (slot_below n ws o t e seen slot kept view used) (is ∙ ap f (holds n ws o t e seen slot d kept view used read))
    ∙ ap (with_change slot f) view

pub again_target : (now id : ℕ) (w : Observer) → (sent_once_more now id w).target ≡ w.target
again_target now id w = at w.is_marked
  where
    at : (b : Bool) → (cond b (renewed now id w) (resent now w)).target ≡ w.target
    at true = refl
    at false = refl

pub again_from : (now id : ℕ) (w : Observer) → (sent_once_more now id w).from ≡ w.from
again_from now id w = at w.is_marked
  where
    at : (b : Bool) → (cond b (renewed now id w) (resent now w)).from ≡ w.from
    at true = refl
    at false = refl

-- ---- all observers of a target

-- the observer of a slot after the walk along a bucket
abbrev marked_in : Lists → ℕ → ℕ → Observer → ℕ → Observer
marked_in t bucket target w s = changed_among (list_at bucket t) (where_so (is_of_target target) marked) s w

marks_target : (t : Lists) (bucket target : ℕ) (w : Observer) (s : ℕ) → (marked_in t bucket target w s).target ≡ w.target
marks_target t bucket target w s = at (is_among s (list_at bucket t)) (is_of_target target w)
  where
    at : (b c : Bool) → (cond b (cond c (marked w) w) w).target ≡ w.target
    at true true = refl
    at true false = refl
    at false c = refl

marks_from : (t : Lists) (bucket target : ℕ) (w : Observer) (s : ℕ) → (marked_in t bucket target w s).from ≡ w.from
marks_from t bucket target w s = at (is_among s (list_at bucket t)) (is_of_target target w)
  where
    at : (b c : Bool) → (cond b (cond c (marked w) w) w).from ≡ w.from
    at true true = refl
    at true false = refl
    at false c = refl

nothing_to_do : (b c : Bool) (w : Observer) → c ≡ false → cond b (cond c (marked w) w) w ≡ cond c (marked w) w
nothing_to_do b true w e = absurd cc
nothing_to_do true false w e = refl
nothing_to_do false false w e = refl

-- the bucket has all observers of the target
marks_all : (n : ℕ) (ws : List Observer) (o t e : Lists) (target s : ℕ) → AreKept n ws o t e → is_among s (used_slots o) ≡ true
    → marked_in t (target_bucket n target) target (observer_at ws s) s ≡ where_so (is_of_target target) marked (observer_at ws s)
marks_all n ws o t e target s kept has = elim (eqb_tells (observer_at ws s).target target) [
  | inl w ↦
      let bucket : target_bucket_at n ws s ≡ target_bucket n target = ap (target_bucket n) w.1 in
      let below : target_bucket_at n ws s < n = target_bucket_below n (observer_at ws s).target kept.some in
      let there : is_among s (list_at (target_bucket n target) t) ≡ true
      = subst (λ z. is_among s (list_at z t) ≡ true) bucket (in_its_target n ws o t e s kept has below) in
      ap (λ b. cond b (where_so (is_of_target target) marked (observer_at ws s)) (observer_at ws s)) there
  | inr w ↦ nothing_to_do (is_among s (list_at (target_bucket n target) t)) (is_of_target target (observer_at ws s)) (observer_at ws s) w.0
]

pub kept_marked : (n : ℕ) (ws ws2 : List Observer) (o t e : Lists) (bucket target : ℕ) → AreKept n ws o t e → length ws2 ≡ length ws
    → ((s : ℕ) → observer_at ws2 s ≡ marked_in t bucket target (observer_at ws s) s)
    → AreKept n ws2 o t e
kept_marked n ws ws2 o t e bucket target kept count each =
    kept_changed n ws ws2 o t e kept count
    (λ s. ap (λ (w : Observer). w.target) (each s) ∙ marks_target t bucket target (observer_at ws s) s)
    (λ s. ap (λ (w : Observer). w.from) (each s) ∙ marks_from t bucket target (observer_at ws s) s)

pub seen_marked : (n : ℕ) (ws ws2 : List Observer) (o t e : Lists) (seen : Places) (bucket target : ℕ) → AreKept n ws o t e → places_in n ws o ≡ seen
    → bucket ≡ target_bucket n target
    → ((s : ℕ) → observer_at ws2 s ≡ marked_in t bucket target (observer_at ws s) s)
    → places_in n ws2 o ≡ with_changes (where_so (is_of_target target) marked) seen
seen_marked n ws ws2 o t e seen bucket target kept view is each =
    seen_all_changed n ws ws2 o (where_so (is_of_target target) marked)
    (λ s has. each s ∙ (ap (λ b. marked_in t b target (observer_at ws s) s) is ∙ marks_all n ws o t e target s kept has))
    ∙ ap (with_changes (where_so (is_of_target target) marked)) view

-- ---- an observer that is added, as the code does it

pub kept_adding : (n : ℕ) (ws : List Observer) (o t e o2 t2 e2 : Lists) (slot tb eb : ℕ) (v : Observer) → AreKept n ws o t e → is_among slot (free_slots o) ≡ true
    → tb ≡ target_bucket n v.target → eb ≡ endpoint_bucket n v.from
    → o2 ≡ pushed_at 0 slot (without_at 1 slot o) → t2 ≡ pushed_at tb slot t → e2 ≡ pushed_at eb slot e → AreKept n (set ws slot v) o2 t2 e2
kept_adding n ws o t e o2 t2 e2 slot tb eb v kept has target endpoint order targets endpoints =
    subst (λ (z : Lists). AreKept n (set ws slot v) z t2 e2) (sym order)
    (subst (λ (z : Lists). AreKept n (set ws slot v) (pushed_at 0 slot (without_at 1 slot o)) z e2) (sym (targets ∙ ap (λ b. pushed_at b slot t) target))
    (subst (λ (z : Lists). AreKept n (set ws slot v) (pushed_at 0 slot (without_at 1 slot o)) (pushed_at (target_bucket n v.target) slot t) z) (sym (endpoints ∙ ap (λ b. pushed_at b slot e) endpoint))
    (kept_added n ws o t e slot v kept has)))

added_at : (n : ℕ) (ws : List Observer) (o t e o2 : Lists) (slot : ℕ) (v w : Observer) → AreKept n ws o t e → is_among slot (free_slots o) ≡ true → v ≡ w
    → o2 ≡ pushed_at 0 slot (without_at 1 slot o) → IsAdded w (places_in n ws o) true (places_in n (set ws slot v) o2)
added_at n ws o t e o2 slot v w kept has is order =
    let place = free_place n ws o t e slot kept has in
    let below : slot < length ws = omega (arith, kept.observers_count, place.0) in
    let used : used_slots o2 ≡ used_slots o ++ slot ∷ []
    = ap (list_at 0) order ∙ moved_there 0 1 slot o (omega arith) (omega (arith, kept.order_count)) in
    let count : length (map (place_at ws) (used_slots o)) ≡ length (used_slots o) = length-map (used_slots o) (place_at ws) in
    let some : length (without slot (free_slots o)) + times_in slot (free_slots o) ≡ length (free_slots o) = length-without slot (free_slots o) in
    let room : length (map (place_at ws) (used_slots o)) < n = omega (arith, kept.count, place.2) in
    let new = seen_added n ws o o2 slot v below (uncounted_is_absent slot (used_slots o) place.1) used in
    let of_w : record (places_in n ws o) { list = (places_in n ws o).list ++ record { slot = slot; observer = v } ∷ [] }
    ≡ record (places_in n ws o) { list = (places_in n ws o).list ++ record { slot = slot; observer = w } ∷ [] }
    = λ i. record { capacity = n; list = map (place_at ws) (used_slots o) ++ record { slot = slot; observer = is i } ∷ [] } in
    (room, (slot, new ∙ of_w))

pub added : (n : ℕ) (ws : List Observer) (o t e o2 : Lists) (seen : Places) (slot : ℕ) (v w : Observer) → AreKept n ws o t e → places_in n ws o ≡ seen
    → is_among slot (free_slots o) ≡ true → v ≡ w → o2 ≡ pushed_at 0 slot (without_at 1 slot o) → IsAdded w seen true (places_in n (set ws slot v) o2)
added n ws o t e o2 seen slot v w kept view has is order =
    subst (λ (s : Places). IsAdded w s true (places_in n (set ws slot v) o2)) view (added_at n ws o t e o2 slot v w kept has is order)

-- without a free slot there is no room
none_first : (xs : List ℕ) → None ≡ first_of xs → length xs ≡ 0
none_first [] e = refl
none_first (x ∷ xs) e = absurd cc

full_at : (n : ℕ) (ws : List Observer) (o t e : Lists) → AreKept n ws o t e → None ≡ first_of (free_slots o) → n ≤ length (map (place_at ws) (used_slots o))
full_at n ws o t e kept none =
    let count : length (map (place_at ws) (used_slots o)) ≡ length (used_slots o) = length-map (used_slots o) (place_at ws) in
    omega (arith, kept.count, none_first (free_slots o) none)

pub full : (n : ℕ) (ws : List Observer) (o t e : Lists) (seen : Places) (w : Observer) → AreKept n ws o t e → places_in n ws o ≡ seen
    → None ≡ first_of (free_slots o) → IsAdded w seen false seen
full n ws o t e seen w kept view none =
    (subst (λ (s : Places). s.capacity ≤ length s.list) view (full_at n ws o t e kept none), refl)

-- ---- an observer that is taken away, or takes a new target

pub kept_removing : (n : ℕ) (ws : List Observer) (o t e o2 t2 e2 : Lists) (seen : Places) (slot tb eb : ℕ) → AreKept n ws o t e → places_in n ws o ≡ seen → IsUsed slot seen
    → tb ≡ target_bucket_at n ws slot → eb ≡ endpoint_bucket_at n ws slot
    → o2 ≡ pushed_at 1 slot (without_at 0 slot o) → t2 ≡ without_at tb slot t → e2 ≡ without_at eb slot e → AreKept n ws o2 t2 e2
kept_removing n ws o t e o2 t2 e2 seen slot tb eb kept view used target endpoint order targets endpoints =
    subst (λ (z : Lists). AreKept n ws z t2 e2) (sym order)
    (subst (λ (z : Lists). AreKept n ws (pushed_at 1 slot (without_at 0 slot o)) z e2) (sym (targets ∙ ap (λ b. without_at b slot t) target))
    (subst (λ (z : Lists). AreKept n ws (pushed_at 1 slot (without_at 0 slot o)) (without_at (target_bucket_at n ws slot) slot t) z) (sym (endpoints ∙ ap (λ b. without_at b slot e) endpoint))
    (kept_removed n ws o t e slot kept (used_in n ws o seen slot view used))))

pub removed : (n : ℕ) (ws : List Observer) (o t e o2 : Lists) (seen : Places) (slot : ℕ) → AreKept n ws o t e → places_in n ws o ≡ seen
    → o2 ≡ pushed_at 1 slot (without_at 0 slot o) → places_in n ws o2 ≡ without_slot slot seen
removed n ws o t e o2 seen slot kept view order =
    seen_without n ws o o2 slot (ap (list_at 0) order ∙ moved_away 1 0 slot o (omega arith) (omega (arith, kept.order_count))) ∙ ap (without_slot slot) view

pub kept_replacing : (n : ℕ) (ws : List Observer) (o t e t2 : Lists) (seen : Places) (slot tb tb2 target : ℕ) (d v : Observer) → AreKept n ws o t e → places_in n ws o ≡ seen
    → IsUsed slot seen → d ≡ get_or ws slot d → v ≡ replaced target d → tb ≡ target_bucket_at n ws slot → tb2 ≡ target_bucket n target
    → t2 ≡ pushed_at tb2 slot (without_at tb slot t) → AreKept n (set ws slot v) o t2 e
kept_replacing n ws o t e t2 seen slot tb tb2 target d v kept view used read is left new targets =
    let here : d ≡ observer_at ws slot = holds n ws o t e seen slot d kept view used read in
    let from : v.from ≡ (observer_at ws slot).from = ap (λ (w : Observer). w.from) is ∙ ap (λ (w : Observer). w.from) here in
    let moved : t2 ≡ pushed_at (target_bucket n v.target) slot (without_at (target_bucket_at n ws slot) slot t)
    = targets ∙ (ap (λ b. pushed_at tb2 slot (without_at b slot t)) left ∙ ap (λ b. pushed_at b slot (without_at (target_bucket_at n ws slot) slot t))
    (new ∙ ap (λ (w : Observer). target_bucket n w.target) (sym is))) in
    subst (λ (z : Lists). AreKept n (set ws slot v) o z e) (sym moved)
    (kept_replaced n ws o t e slot v kept (used_in n ws o seen slot view used) from)

-- ---- the conditions of the lists

pub there_by_target : (n : ℕ) (ws : List Observer) (o t e : Lists) (seen : Places) (slot tb : ℕ) → AreKept n ws o t e → places_in n ws o ≡ seen → IsUsed slot seen
    → tb ≡ target_bucket_at n ws slot → is_among slot (list_at tb t) ≡ true
there_by_target n ws o t e seen slot tb kept view used is =
    subst (λ b. is_among slot (list_at b t) ≡ true) (sym is)
    (in_its_target n ws o t e slot kept (used_in n ws o seen slot view used) (target_bucket_below n (observer_at ws slot).target kept.some))

pub there_by_endpoint : (n : ℕ) (ws : List Observer) (o t e : Lists) (seen : Places) (slot eb : ℕ) → AreKept n ws o t e → places_in n ws o ≡ seen → IsUsed slot seen
    → eb ≡ endpoint_bucket_at n ws slot → is_among slot (list_at eb e) ≡ true
there_by_endpoint n ws o t e seen slot eb kept view used is =
    subst (λ b. is_among slot (list_at b e) ≡ true) (sym is)
    (in_its_endpoint n ws o t e slot kept (used_in n ws o seen slot view used) (endpoint_bucket_below n (observer_at ws slot).from kept.some))

pub gone_from_target : (n : ℕ) (ws : List Observer) (o t e : Lists) (slot tb : ℕ) → AreKept n ws o t e → tb ≡ target_bucket_at n ws slot
    → (i : ℕ) → is_among slot (list_at i (without_at tb slot t)) ≡ false
gone_from_target n ws o t e slot tb kept is i =
    ap (λ b. is_among slot (list_at i (without_at b slot t))) is ∙ taken_from_target n ws o t e slot kept i

pub gone_from_used : (n : ℕ) (ws : List Observer) (o t e o2 : Lists) (seen : Places) (slot : ℕ) → AreKept n ws o t e → places_in n ws o ≡ seen → IsUsed slot seen
    → o2 ≡ without_at 0 slot o → (i : ℕ) → is_among slot (list_at i o2) ≡ false
gone_from_used n ws o t e o2 seen slot kept view used order i =
    ap (λ (z : Lists). is_among slot (list_at i z)) order ∙ taken_from_used n ws o t e slot kept (used_in n ws o seen slot view used) i

pub gone_from_free : (n : ℕ) (ws : List Observer) (o t e o2 : Lists) (slot : ℕ) → AreKept n ws o t e → is_among slot (free_slots o) ≡ true
    → o2 ≡ without_at 1 slot o → (i : ℕ) → is_among slot (list_at i o2) ≡ false
gone_from_free n ws o t e o2 slot kept has order i =
    ap (λ (z : Lists). is_among slot (list_at i z)) order ∙ taken_from_free n ws o t e slot kept has i

-- the elements that the walk changed, of the vector's own list
pub walked : (lent ws ws2 : List Observer) (t : Lists) (bucket target : ℕ) → lent ≡ ws
    → ((s : ℕ) → observer_at ws2 s ≡ marked_in t bucket target (observer_at lent s) s)
    → (s : ℕ) → observer_at ws2 s ≡ marked_in t bucket target (observer_at ws s) s
walked lent ws ws2 t bucket target same each s =
    each s ∙ ap (λ (l : List Observer). marked_in t bucket target (observer_at l s) s) same
