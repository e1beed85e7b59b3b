-- Tables of exchanges in which slots differ, no two are one exchange, and only replies to Confirmable requests are kept.
use Rattle.std.proofs.Common.{◌≡◌, ◌⊎◌, ◌∙◌, inl, inr, cond, ℕ, Bool, true, false, Option, Some, None, List, [], ◌∷◌, ◌++◌, map, refl, sym, ap, subst, arith}
use Rattle.std.specs.Prelude.{◌==◌, ◌&&◌, find, filter, if◌then◌else◌}
use Rattle.std.specs.List.{AllByRecursion}
use Rattle.std.proofs.lemmas.Bool.Decides.{nat_tests}
use Rattle.coap_msg.specs.declared.message.RequestType.TheVariants.{Confirmable}
use Rattle.coap_msg.proofs.SameEndpoints.{both}
use Rattle.coap_exchange.specs.Admission.{Arrival, lives, is_same_exchange, is_duplicate_of}
use Rattle.coap_exchange.specs.Table.{Exchange, answered as with_answer}
use Rattle.coap_observe.proofs.Counts.{found_passes}
use Rattle.coap_observe.proofs.Found.{found_filter}
use Rattle.coap_bind.specs.Duplicates.{may_keep}

-- ---- definitions

-- two exchanges, the earlier one first, have different slots and aren't one exchange
abbrev pub Differ : Exchange → Exchange → Type 0
Differ x y = ((x.slot == y.slot) ≡ false) × (is_same_exchange y.arrival x.arrival ≡ false)

-- one differs from all after it
abbrev pub Apart : Exchange → List Exchange → Type 0
Apart x [] = Unit {0}
Apart x (y ∷ ys) = Differ x y × Apart x ys

abbrev pub Distinct : List Exchange → Type 0
Distinct [] = Unit {0}
Distinct (x ∷ xs) = Apart x xs × Distinct xs

-- all differ from one that comes after them
abbrev pub Before : List Exchange → Exchange → Type 0
Before [] e = Unit {0}
Before (x ∷ xs) e = Differ x e × Before xs e

-- each reply that is kept may be kept
abbrev pub KeptWell : List Exchange → Type 0
KeptWell es = AllByRecursion (λ e. may_keep e.arrival.kind e.reply ≡ true) es

-- ---- exchanges that live still

apart_filter_at : (p : Exchange → Bool) (x y : Exchange) (ys : List Exchange) (b : Bool) → Differ x y → Apart x (filter p ys) → Apart x (cond b (y ∷ filter p ys) (filter p ys))
apart_filter_at p x y ys true d rest = (d, rest)
apart_filter_at p x y ys false d rest = rest

apart_filter : (p : Exchange → Bool) (x : Exchange) (ys : List Exchange) → Apart x ys → Apart x (filter p ys)
apart_filter p x [] h = tt
apart_filter p x (y ∷ ys) h = apart_filter_at p x y ys (p y) h.0 (apart_filter p x ys h.1)

distinct_filter_at : (p : Exchange → Bool) (x : Exchange) (xs : List Exchange) (b : Bool) → Apart x xs → Distinct (filter p xs) → Distinct (cond b (x ∷ filter p xs) (filter p xs))
distinct_filter_at p x xs true apart rest = (apart_filter p x xs apart, rest)
distinct_filter_at p x xs false apart rest = rest

pub distinct_filter : (p : Exchange → Bool) (xs : List Exchange) → Distinct xs → Distinct (filter p xs)
distinct_filter p [] h = tt
distinct_filter p (x ∷ xs) h = distinct_filter_at p x xs (p x) h.0 (distinct_filter p xs h.1)

kept_filter_at : (p : Exchange → Bool) (x : Exchange) (xs : List Exchange) (b : Bool) → may_keep x.arrival.kind x.reply ≡ true → KeptWell (filter p xs) → KeptWell (cond b (x ∷ filter p xs) (filter p xs))
kept_filter_at p x xs true h rest = (h, rest)
kept_filter_at p x xs false h rest = rest

pub kept_filter : (p : Exchange → Bool) (xs : List Exchange) → KeptWell xs → KeptWell (filter p xs)
kept_filter p [] h = tt
kept_filter p (x ∷ xs) h = kept_filter_at p x xs (p x) h.0 (kept_filter p xs h.1)

-- ---- a new exchange

apart_push : (x : Exchange) (ys : List Exchange) (e : Exchange) → Apart x ys → Differ x e → Apart x (ys ++ e ∷ [])
apart_push x [] e h d = (d, tt)
apart_push x (y ∷ ys) e h d = (h.0, apart_push x ys e h.1 d)

pub distinct_push : (xs : List Exchange) (e : Exchange) → Distinct xs → Before xs e → Distinct (xs ++ e ∷ [])
distinct_push [] e h before = (tt, tt)
distinct_push (x ∷ xs) e h before = (apart_push x xs e h.0 before.0, distinct_push xs e h.1 before.1)

pub kept_push : (xs : List Exchange) (e : Exchange) → KeptWell xs → may_keep e.arrival.kind e.reply ≡ true → KeptWell (xs ++ e ∷ [])
kept_push [] e h new = (new, tt)
kept_push (x ∷ xs) e h new = (h.0, kept_push xs e h.1 new)

-- a test by which nothing is found fails everywhere
fails_at : (x : Exchange) (found : Option Exchange) (b : Bool) → cond b (Some x) found ≡ None → (b ≡ false) × (found ≡ None)
fails_at x found true e = absurd (some e)
  where
    some : Some x ≡ None → ⊥
    some e' = cc
fails_at x found false e = (refl, e)

same_dead : (b c : Bool) → b ≡ true → (b && c) ≡ false → c ≡ false
same_dead true c e h = h
same_dead false c e h = cc

before_at : (now : ℕ) (x e : Exchange) (xs : List Exchange) (b : Bool) → lives now x.arrival ≡ b → now ≡ e.arrival.moment
    → find (λ y. is_duplicate_of e.arrival y.arrival) (cond b (x ∷ filter (λ y. lives now y.arrival) xs) (filter (λ y. lives now y.arrival) xs)) ≡ None
    → find (λ y. y.slot == e.slot) (cond b (x ∷ filter (λ y. lives now y.arrival) xs) (filter (λ y. lives now y.arrival) xs)) ≡ None
    → (find (λ y. is_duplicate_of e.arrival y.arrival) (filter (λ y. lives now y.arrival) xs) ≡ None → find (λ y. y.slot == e.slot) (filter (λ y. lives now y.arrival) xs) ≡ None
    → Before (filter (λ y. lives now y.arrival) xs) e)
    → Before (cond b (x ∷ filter (λ y. lives now y.arrival) xs) (filter (λ y. lives now y.arrival) xs)) e
before_at now x e xs true alive at none free rest =
    let d = fails_at x (find (λ y. is_duplicate_of e.arrival y.arrival) (filter (λ y. lives now y.arrival) xs)) (is_duplicate_of e.arrival x.arrival) none in
    let s = fails_at x (find (λ y. y.slot == e.slot) (filter (λ y. lives now y.arrival) xs)) (x.slot == e.slot) free in
    let there : lives e.arrival.moment x.arrival ≡ true = ap (λ n. lives n x.arrival) (sym at) ∙ alive in
    ((s.0, same_dead (lives e.arrival.moment x.arrival) (is_same_exchange e.arrival x.arrival) there d.0), rest d.1 s.1)
before_at now x e xs false alive at none free rest = rest none free

-- those that live differ from a request that is no duplicate and got a free slot
pub before_new : (now : ℕ) (xs : List Exchange) (e : Exchange) → now ≡ e.arrival.moment
    → find (λ y. is_duplicate_of e.arrival y.arrival) (filter (λ y. lives now y.arrival) xs) ≡ None
    → find (λ y. y.slot == e.slot) (filter (λ y. lives now y.arrival) xs) ≡ None
    → Before (filter (λ y. lives now y.arrival) xs) e
before_new now [] e at none free = tt
before_new now (x ∷ xs) e at none free = before_at now x e xs (lives now x.arrival) refl at none free (λ none' free'. before_new now xs e at none' free')

-- ---- a reply

slot_stays : (slot : ℕ) (bytes : List ℕ) (e : Exchange) (b : Bool) → (if b then record e { reply = Some bytes } else e).slot ≡ e.slot
slot_stays slot bytes e true = refl
slot_stays slot bytes e false = refl

pub same_slot : (slot : ℕ) (bytes : List ℕ) (e : Exchange) → (with_answer slot bytes e).slot ≡ e.slot
same_slot slot bytes e = slot_stays slot bytes e (e.slot == slot)

arrival_stays : (slot : ℕ) (bytes : List ℕ) (e : Exchange) (b : Bool) → (if b then record e { reply = Some bytes } else e).arrival ≡ e.arrival
arrival_stays slot bytes e true = refl
arrival_stays slot bytes e false = refl

pub same_arrival : (slot : ℕ) (bytes : List ℕ) (e : Exchange) → (with_answer slot bytes e).arrival ≡ e.arrival
same_arrival slot bytes e = arrival_stays slot bytes e (e.slot == slot)

differ_answered : (slot : ℕ) (bytes : List ℕ) (x y : Exchange) → Differ x y → Differ (with_answer slot bytes x) (with_answer slot bytes y)
differ_answered slot bytes x y d = (
  ap (λ n. n == (with_answer slot bytes y).slot) (same_slot slot bytes x) ∙ ap (λ n. x.slot == n) (same_slot slot bytes y) ∙ d.0,
  ap (λ a. is_same_exchange a (with_answer slot bytes x).arrival) (same_arrival slot bytes y) ∙ ap (λ a. is_same_exchange y.arrival a) (same_arrival slot bytes x) ∙ d.1,
)

apart_answered : (slot : ℕ) (bytes : List ℕ) (x : Exchange) (ys : List Exchange) → Apart x ys → Apart (with_answer slot bytes x) (map (with_answer slot bytes) ys)
apart_answered slot bytes x [] h = tt
apart_answered slot bytes x (y ∷ ys) h = (differ_answered slot bytes x y h.0, apart_answered slot bytes x ys h.1)

pub distinct_answered : (slot : ℕ) (bytes : List ℕ) (xs : List Exchange) → Distinct xs → Distinct (map (with_answer slot bytes) xs)
distinct_answered slot bytes [] h = tt
distinct_answered slot bytes (x ∷ xs) h = (apart_answered slot bytes x xs h.0, distinct_answered slot bytes xs h.1)

-- ---- the one in a slot

differ_of : (x y : Exchange) (ys : List Exchange) (slot : ℕ) (e : Exchange) (b : Bool) → (y.slot == slot) ≡ b → Differ x y
    → cond b (Some y) (find (λ z. z.slot == slot) ys) ≡ Some e → (find (λ z. z.slot == slot) ys ≡ Some e → Differ x e) → Differ x e
differ_of x y ys slot e true t d found rest = subst (λ (z : Exchange). Differ x z) (same found) d
  where
    same : Some y ≡ Some e → y ≡ e
    same found' = cc
differ_of x y ys slot e false t d found rest = rest found

-- one that differs from all differs from the one in a slot
pub apart_from : (x : Exchange) (ys : List Exchange) (slot : ℕ) (e : Exchange) → Apart x ys → find (λ z. z.slot == slot) ys ≡ Some e → Differ x e
apart_from x [] slot e h found = absurd (none found)
  where
    none : None ≡ Some e → ⊥
    none found' = cc
apart_from x (y ∷ ys) slot e h found = differ_of x y ys slot e (y.slot == slot) refl h.0 found (λ later. apart_from x ys slot e h.1 later)

-- the exchange in a slot has that slot
in_slot : (xs : List Exchange) (slot : ℕ) (e : Exchange) → find (λ z. z.slot == slot) xs ≡ Some e → (e.slot == slot) ≡ true
in_slot xs slot e found = found_passes (λ z. z.slot == slot) xs e found

-- ---- a request of the exchange in a slot

same_trans : (a b c : Arrival) → is_same_exchange a b ≡ true → is_same_exchange b c ≡ false → is_same_exchange a c ≡ false
same_trans a b c one two = grind (arith, nat_tests)

no_duplicate_of : (b c : Bool) → c ≡ false → (b && c) ≡ false
no_duplicate_of true c e = e
no_duplicate_of false c e = refl

found_first : (x e : Exchange) (b : Bool) (found : Option Exchange) → b ≡ true → x ≡ e → cond b (Some x) found ≡ Some e
found_first x e true found t is = ap Some is
found_first x e false found t is = cc

found_rest : (x e : Exchange) (b : Bool) (found : Option Exchange) → b ≡ false → found ≡ Some e → cond b (Some x) found ≡ Some e
found_rest x e true found t is = cc
found_rest x e false found t is = is

duplicated_at : (a : Arrival) (x : Exchange) (xs : List Exchange) (slot : ℕ) (e : Exchange) (b : Bool) → (x.slot == slot) ≡ b → Apart x xs
    → cond b (Some x) (find (λ z. z.slot == slot) xs) ≡ Some e → is_duplicate_of a e.arrival ≡ true
    → (find (λ z. z.slot == slot) xs ≡ Some e → find (λ z. is_duplicate_of a z.arrival) xs ≡ Some e)
    → cond (is_duplicate_of a x.arrival) (Some x) (find (λ z. is_duplicate_of a z.arrival) xs) ≡ Some e
duplicated_at a x xs slot e true t apart found again rest =
    let is : x ≡ e = same found in
    found_first x e (is_duplicate_of a x.arrival) (find (λ z. is_duplicate_of a z.arrival) xs) (ap (λ (z : Exchange). is_duplicate_of a z.arrival) is ∙ again) is
  where
    same : Some x ≡ Some e → x ≡ e
    same found' = cc
duplicated_at a x xs slot e false t apart found again rest =
    let other = (apart_from x xs slot e apart found).1 in
    let one : is_same_exchange a e.arrival ≡ true = (both (lives a.moment e.arrival) (is_same_exchange a e.arrival) again).1 in
    found_rest x e (is_duplicate_of a x.arrival) (find (λ z. is_duplicate_of a z.arrival) xs)
    (no_duplicate_of (lives a.moment x.arrival) (is_same_exchange a x.arrival) (same_trans a e.arrival x.arrival one other)) (rest found)

-- a duplicate of the exchange in a slot is one of no other
pub duplicated_in : (a : Arrival) (xs : List Exchange) (slot : ℕ) (e : Exchange) → Distinct xs → find (λ z. z.slot == slot) xs ≡ Some e
    → is_duplicate_of a e.arrival ≡ true → find (λ z. is_duplicate_of a z.arrival) xs ≡ Some e
duplicated_in a [] slot e h found again = absurd (none found)
  where
    none : None ≡ Some e → ⊥
    none found' = cc
duplicated_in a (x ∷ xs) slot e h found again =
    duplicated_at a x xs slot e (x.slot == slot) refl h.0 found again (λ later. duplicated_in a xs slot e h.1 later again)

-- ---- the exchange that is in a slot later

-- the one in a slot stays there while it passes
pub in_slot_filter : (p : Exchange → Bool) (xs : List Exchange) (slot : ℕ) (e : Exchange) → find (λ z. z.slot == slot) xs ≡ Some e → p e ≡ true
    → find (λ z. z.slot == slot) (filter p xs) ≡ Some e
in_slot_filter p xs slot e found passes = found_filter (λ z. z.slot == slot) p xs e found passes

-- a reply to another slot leaves it
other_slot_at : (slot other : ℕ) (bytes : List ℕ) (x : Exchange) (xs : List Exchange) (e : Exchange) (b : Bool) → (x.slot == slot) ≡ b → (slot == other) ≡ false
    → cond b (Some x) (find (λ z. z.slot == slot) xs) ≡ Some e
    → (find (λ z. z.slot == slot) xs ≡ Some e → find (λ z. z.slot == slot) (map (with_answer other bytes) xs) ≡ Some e)
    → find (λ z. z.slot == slot) (with_answer other bytes x ∷ map (with_answer other bytes) xs) ≡ Some e
other_slot_at slot other bytes x xs e true t differ found rest =
    let here : ((with_answer other bytes x).slot == slot) ≡ true = ap (λ n. n == slot) (same_slot other bytes x) ∙ t in
    let free : (x.slot == other) ≡ false = not_other x.slot t differ in
    found_first (with_answer other bytes x) e ((with_answer other bytes x).slot == slot) (find (λ z. z.slot == slot) (map (with_answer other bytes) xs)) here
    (unanswered (x.slot == other) free ∙ same found)
  where
    same : Some x ≡ Some e → x ≡ e
    same found' = cc

    not_other : (n : ℕ) → (n == slot) ≡ true → (slot == other) ≡ false → (n == other) ≡ false
    not_other n one two = grind (arith, nat_tests)

    unanswered : (c : Bool) → c ≡ false → (if c then record x { reply = Some bytes } else x) ≡ x
    unanswered true e' = cc
    unanswered false e' = refl
other_slot_at slot other bytes x xs e false t differ found rest =
    let here : ((with_answer other bytes x).slot == slot) ≡ false = ap (λ n. n == slot) (same_slot other bytes x) ∙ t in
    found_rest (with_answer other bytes x) e ((with_answer other bytes x).slot == slot) (find (λ z. z.slot == slot) (map (with_answer other bytes) xs)) here (rest found)

pub other_slot : (slot other : ℕ) (bytes : List ℕ) (xs : List Exchange) (e : Exchange) → (slot == other) ≡ false → find (λ z. z.slot == slot) xs ≡ Some e
    → find (λ z. z.slot == slot) (map (with_answer other bytes) xs) ≡ Some e
other_slot slot other bytes [] e differ found = found
other_slot slot other bytes (x ∷ xs) e differ found =
    other_slot_at slot other bytes x xs e (x.slot == slot) refl differ found (λ later. other_slot slot other bytes xs e differ later)

-- a reply to this slot is there
this_slot_at : (slot : ℕ) (bytes : List ℕ) (x : Exchange) (xs : List Exchange) (e : Exchange) (b : Bool) → (x.slot == slot) ≡ b
    → cond b (Some x) (find (λ z. z.slot == slot) xs) ≡ Some e
    → (find (λ z. z.slot == slot) xs ≡ Some e → find (λ z. z.slot == slot) (map (with_answer slot bytes) xs) ≡ Some (record e { reply = Some bytes }))
    → find (λ z. z.slot == slot) (with_answer slot bytes x ∷ map (with_answer slot bytes) xs) ≡ Some (record e { reply = Some bytes })
this_slot_at slot bytes x xs e true t found rest =
    let here : ((with_answer slot bytes x).slot == slot) ≡ true = ap (λ n. n == slot) (same_slot slot bytes x) ∙ t in
    found_first (with_answer slot bytes x) (record e { reply = Some bytes }) ((with_answer slot bytes x).slot == slot) (find (λ z. z.slot == slot) (map (with_answer slot bytes) xs)) here
    (answered_here (x.slot == slot) t ∙ ap (λ (z : Exchange). record z { reply = Some bytes }) (same found))
  where
    same : Some x ≡ Some e → x ≡ e
    same found' = cc

    answered_here : (c : Bool) → c ≡ true → (if c then record x { reply = Some bytes } else x) ≡ record x { reply = Some bytes }
    answered_here true e' = refl
    answered_here false e' = cc
this_slot_at slot bytes x xs e false t found rest =
    let here : ((with_answer slot bytes x).slot == slot) ≡ false = ap (λ n. n == slot) (same_slot slot bytes x) ∙ t in
    found_rest (with_answer slot bytes x) (record e { reply = Some bytes }) ((with_answer slot bytes x).slot == slot) (find (λ z. z.slot == slot) (map (with_answer slot bytes) xs)) here (rest found)

pub this_slot : (slot : ℕ) (bytes : List ℕ) (xs : List Exchange) (e : Exchange) → find (λ z. z.slot == slot) xs ≡ Some e
    → find (λ z. z.slot == slot) (map (with_answer slot bytes) xs) ≡ Some (record e { reply = Some bytes })
this_slot slot bytes [] e found = absurd (none found)
  where
    none : None ≡ Some e → ⊥
    none found' = cc
this_slot slot bytes (x ∷ xs) e found = this_slot_at slot bytes x xs e (x.slot == slot) refl found (λ later. this_slot slot bytes xs e later)

-- the replies that are kept may still be, where the one in the slot is Confirmable
kept_answered_at : (slot : ℕ) (bytes : List ℕ) (x : Exchange) (b : Bool) → may_keep x.arrival.kind x.reply ≡ true → (b ≡ true → x.arrival.kind ≡ Confirmable)
    → may_keep (if b then record x { reply = Some bytes } else x).arrival.kind (if b then record x { reply = Some bytes } else x).reply ≡ true
kept_answered_at slot bytes x true well con = ap (λ k. may_keep k (Some bytes)) (con refl)
kept_answered_at slot bytes x false well con = well

nothing_to_answer_at : (slot : ℕ) (bytes : List ℕ) (x : Exchange) (b : Bool) → may_keep x.arrival.kind x.reply ≡ true → b ≡ false
    → may_keep (if b then record x { reply = Some bytes } else x).arrival.kind (if b then record x { reply = Some bytes } else x).reply ≡ true
nothing_to_answer_at slot bytes x true well none = cc
nothing_to_answer_at slot bytes x false well none = well

-- where nothing has the slot, nothing changes
pub kept_none : (slot : ℕ) (bytes : List ℕ) (x : Exchange) (xs : List Exchange) → (x.slot == slot) ≡ true → Apart x xs → KeptWell xs → KeptWell (map (with_answer slot bytes) xs)
kept_none slot bytes x [] here apart well = tt
kept_none slot bytes x (y ∷ ys) here apart well =
    (nothing_to_answer_at slot bytes y (y.slot == slot) well.0 (free x.slot y.slot here apart.0.0), kept_none slot bytes x ys here apart.1 well.1)
  where
    free : (m n : ℕ) → (m == slot) ≡ true → (m == n) ≡ false → (n == slot) ≡ false
    free m n one two = grind (arith, nat_tests)

kept_split : (slot : ℕ) (bytes : List ℕ) (x : Exchange) (xs : List Exchange) (e : Exchange) (b : Bool) → (x.slot == slot) ≡ b → Apart x xs → may_keep x.arrival.kind x.reply ≡ true → KeptWell xs
    → cond b (Some x) (find (λ z. z.slot == slot) xs) ≡ Some e → e.arrival.kind ≡ Confirmable
    → (find (λ z. z.slot == slot) xs ≡ Some e → KeptWell (map (with_answer slot bytes) xs))
    → KeptWell (with_answer slot bytes x ∷ map (with_answer slot bytes) xs)
kept_split slot bytes x xs e true t apart well rest_well found con rest =
    (kept_answered_at slot bytes x (x.slot == slot) well (λ h. ap (λ (z : Exchange). z.arrival.kind) (same found) ∙ con), kept_none slot bytes x xs t apart rest_well)
  where
    same : Some x ≡ Some e → x ≡ e
    same found' = cc
kept_split slot bytes x xs e false t apart well rest_well found con rest = (nothing_to_answer_at slot bytes x (x.slot == slot) well t, rest found)

pub kept_answered : (slot : ℕ) (bytes : List ℕ) (xs : List Exchange) (e : Exchange) → Distinct xs → KeptWell xs → find (λ z. z.slot == slot) xs ≡ Some e
    → e.arrival.kind ≡ Confirmable → KeptWell (map (with_answer slot bytes) xs)
kept_answered slot bytes [] e distinct well found con = tt
kept_answered slot bytes (x ∷ xs) e distinct well found con =
    kept_split slot bytes x xs e (x.slot == slot) refl distinct.0 well.0 well.1 found con (λ later. kept_answered slot bytes xs e distinct.1 well.1 later con)

-- ---- the exchange that was in a slot before

in_slot_unfilter_at : (p : Exchange → Bool) (x : Exchange) (xs : List Exchange) (slot : ℕ) (e : Exchange) (b c : Bool) → p x ≡ c → (x.slot == slot) ≡ b → Apart x (filter p xs)
    → find (λ z. z.slot == slot) (cond c (x ∷ filter p xs) (filter p xs)) ≡ Some e
    → (find (λ z. z.slot == slot) (filter p xs) ≡ Some e → find (λ z. z.slot == slot) xs ≡ Some e)
    → cond b (Some x) (find (λ z. z.slot == slot) xs) ≡ Some e
in_slot_unfilter_at p x xs slot e true true t here apart found rest =
    sym (found_first x x (x.slot == slot) (find (λ z. z.slot == slot) (filter p xs)) here refl) ∙ found
in_slot_unfilter_at p x xs slot e false true t here apart found rest =
    rest (sym (skipped (x.slot == slot) here) ∙ found)
  where
    skipped : (d : Bool) → d ≡ false → cond d (Some x) (find (λ z. z.slot == slot) (filter p xs)) ≡ find (λ z. z.slot == slot) (filter p xs)
    skipped true e' = cc
    skipped false e' = refl
in_slot_unfilter_at p x xs slot e true false t here apart found rest =
    absurd (slots x.slot e.slot here (in_slot (filter p xs) slot e found) (apart_from x (filter p xs) slot e apart found).0)
  where
    slots : (m n : ℕ) → (m == slot) ≡ true → (n == slot) ≡ true → (m == n) ≡ false → ⊥
    slots m n one two three = grind (arith, nat_tests)
in_slot_unfilter_at p x xs slot e false false t here apart found rest = rest found

-- an exchange that is in a slot among those that pass was in it among all
pub in_slot_unfilter : (p : Exchange → Bool) (xs : List Exchange) (slot : ℕ) (e : Exchange) → Distinct xs → find (λ z. z.slot == slot) (filter p xs) ≡ Some e
    → find (λ z. z.slot == slot) xs ≡ Some e
in_slot_unfilter p [] slot e distinct found = found
in_slot_unfilter p (x ∷ xs) slot e distinct found =
    in_slot_unfilter_at p x xs slot e (x.slot == slot) (p x) refl refl (apart_filter p x xs distinct.0) found (λ later. in_slot_unfilter p xs slot e distinct.1 later)

-- an exchange that is in a slot after a reply was in it before, or it is the exchange of the reply
abbrev pub WasIn : ℕ → ℕ → List ℕ → List Exchange → Exchange → Type 0
WasIn slot other bytes xs e =
    (find (λ z. z.slot == slot) xs ≡ Some e) ⊎ ((f : Exchange) × (find (λ z. z.slot == slot) xs ≡ Some f) × ((slot == other) ≡ true) × (e ≡ record f { reply = Some bytes }))

was_here : (slot other : ℕ) (bytes : List ℕ) (x : Exchange) (xs : List Exchange) (e : Exchange) (d : Bool) → (x.slot == slot) ≡ true → (x.slot == other) ≡ d
    → Some (if d then record x { reply = Some bytes } else x) ≡ Some e → WasIn slot other bytes (x ∷ xs) e
was_here slot other bytes x xs e true here t is =
    inr (x, found_first x x (x.slot == slot) (find (λ z. z.slot == slot) xs) here refl, both x.slot here t, sym (same is))
  where
    same : Some (record x { reply = Some bytes }) ≡ Some e → record x { reply = Some bytes } ≡ e
    same is' = cc

    both : (n : ℕ) → (n == slot) ≡ true → (n == other) ≡ true → (slot == other) ≡ true
    both n one two = grind (arith, nat_tests)
was_here slot other bytes x xs e false here t is = inl (found_first x x (x.slot == slot) (find (λ z. z.slot == slot) xs) here refl ∙ is)

was_later : (slot other : ℕ) (bytes : List ℕ) (x : Exchange) (xs : List Exchange) (e : Exchange) → (x.slot == slot) ≡ false → WasIn slot other bytes xs e → WasIn slot other bytes (x ∷ xs) e
was_later slot other bytes x xs e here (inl found) = inl (found_rest x e (x.slot == slot) (find (λ z. z.slot == slot) xs) here found)
was_later slot other bytes x xs e here (inr h) = inr (h.0, found_rest x h.0 (x.slot == slot) (find (λ z. z.slot == slot) xs) here h.1, h.2, h.3)

was_in_at : (slot other : ℕ) (bytes : List ℕ) (x : Exchange) (xs : List Exchange) (e : Exchange) (b : Bool) → (x.slot == slot) ≡ b
    → cond b (Some (with_answer other bytes x)) (find (λ z. z.slot == slot) (map (with_answer other bytes) xs)) ≡ Some e
    → (find (λ z. z.slot == slot) (map (with_answer other bytes) xs) ≡ Some e → WasIn slot other bytes xs e) → WasIn slot other bytes (x ∷ xs) e
was_in_at slot other bytes x xs e true here found rest = was_here slot other bytes x xs e (x.slot == other) here refl found
was_in_at slot other bytes x xs e false here found rest = was_later slot other bytes x xs e here (rest found)

pub was_in : (slot other : ℕ) (bytes : List ℕ) (xs : List Exchange) (e : Exchange) → find (λ z. z.slot == slot) (map (with_answer other bytes) xs) ≡ Some e → WasIn slot other bytes xs e
was_in slot other bytes [] e found = absurd (none found)
  where
    none : None ≡ Some e → ⊥
    none found' = cc
was_in slot other bytes (x ∷ xs) e found =
    let there : cond (x.slot == slot) (Some (with_answer other bytes x)) (find (λ z. z.slot == slot) (map (with_answer other bytes) xs)) ≡ Some e
    = ap (λ n. cond (n == slot) (Some (with_answer other bytes x)) (find (λ z. z.slot == slot) (map (with_answer other bytes) xs))) (sym (same_slot other bytes x)) ∙ found in
    was_in_at slot other bytes x xs e (x.slot == slot) refl there (λ later. was_in slot other bytes xs e later)

-- a reply that is kept is one to a Confirmable request
confirmable_at : (x : Exchange) (xs : List Exchange) (slot : ℕ) (e : Exchange) (b : Bool) → cond b (Some x) (find (λ z. z.slot == slot) xs) ≡ Some e
    → may_keep x.arrival.kind x.reply ≡ true → (find (λ z. z.slot == slot) xs ≡ Some e → may_keep e.arrival.kind e.reply ≡ true) → may_keep e.arrival.kind e.reply ≡ true
confirmable_at x xs slot e true found well rest = subst (λ (z : Exchange). may_keep z.arrival.kind z.reply ≡ true) (same found) well
  where
    same : Some x ≡ Some e → x ≡ e
    same found' = cc
confirmable_at x xs slot e false found well rest = rest found

pub well_in_slot : (xs : List Exchange) (slot : ℕ) (e : Exchange) → KeptWell xs → find (λ z. z.slot == slot) xs ≡ Some e → may_keep e.arrival.kind e.reply ≡ true
well_in_slot [] slot e well found = absurd (none found)
  where
    none : None ≡ Some e → ⊥
    none found' = cc
well_in_slot (x ∷ xs) slot e well found = confirmable_at x xs slot e (x.slot == slot) found well.0 (λ later. well_in_slot xs slot e well.1 later)
