-- Slots that are linked to their neighbours: what a slot more at the end, and one fewer, change.
use Rattle.std.proofs.Common.{◌≡◌, ◌==◌, ◌||◌, ◌<◌, ◌≤◌, ℕ, zero, suc, true, false, List, [], ◌∷◌, ◌++◌, length, Option, Some, None, inl, inr, sym, refl, ap, subst, ◌∙◌, arith}
use Rattle.std.proofs.lemmas.Bool.Decides.{eqb_tells}
use Rattle.slot_lists.specs.declared.link.SlotLink.{SlotLink}
use Rattle.slot_lists.specs.Lists.{is_among, without, first_of, from_slot}
use Rattle.slot_lists.specs.Links.{AreDistinct, AreNeighbours, last_after, beside, next_in, slots_from}
use Rattle.slot_lists.proofs.Among.{neither, either, same_slot, is_same, among_first, among_rest, not_the_same, without_absent}

-- ---- what links say of members

pub below_capacity : (capacity : ℕ) (before after : ℕ → Option ℕ) (p : Option ℕ) (xs : List ℕ) (slot : ℕ)
    → AreNeighbours capacity before after p xs → is_among slot xs ≡ true → slot < capacity
below_capacity capacity before after p [] slot h m = absurd cc
below_capacity capacity before after p (x ∷ xs) slot h m = elim (either (slot == x) (is_among slot xs) m) [
  | inl e ↦ subst (λ n. n < capacity) (sym (is_same slot x e)) h.0
  | inr e ↦ below_capacity capacity before after (Some x) xs slot h.3 e
]

-- the slot before a member that isn't the first
pub before_is_there : (capacity : ℕ) (before after : ℕ → Option ℕ) (y : ℕ) (xs : List ℕ) (slot : ℕ)
    → AreNeighbours capacity before after (Some y) xs → is_among slot xs ≡ true → (z : ℕ) × (before slot ≡ Some z) × (is_among z (y ∷ xs) ≡ true)
before_is_there capacity before after y [] slot h m = absurd cc
before_is_there capacity before after y (x ∷ xs) slot h m = elim (either (slot == x) (is_among slot xs) m) [
  | inl e ↦ (y, ap before (is_same slot x e) ∙ h.1, among_first y (x ∷ xs))
  | inr e ↦
      let more = before_is_there capacity before after x xs slot h.3 e in
      (more.0, more.1, among_rest more.0 y (x ∷ xs) more.2)
]

-- the slot after a member is a member
pub first_among : (xs : List ℕ) (z : ℕ) → first_of xs ≡ Some z → is_among z xs ≡ true
first_among [] z e = absurd cc
first_among (x ∷ xs) z e = let same : x ≡ z = cc in subst (λ w. is_among w (x ∷ xs) ≡ true) same (among_first x xs)

pub after_within : (capacity : ℕ) (before after : ℕ → Option ℕ) (p : Option ℕ) (xs : List ℕ) (slot z : ℕ)
    → AreNeighbours capacity before after p xs → is_among slot xs ≡ true → after slot ≡ Some z → is_among z xs ≡ true
after_within capacity before after p [] slot z h m a = absurd cc
after_within capacity before after p (x ∷ xs) slot z h m a = elim (either (slot == x) (is_among slot xs) m) [
  | inl e ↦
      let first : first_of xs ≡ Some z = sym h.2 ∙ (ap after (sym (is_same slot x e)) ∙ a) in
      among_rest z x xs (first_among xs z first)
  | inr e ↦ among_rest z x xs (after_within capacity before after (Some x) xs slot z h.3 e a)
]

pub last_within : (y : ℕ) (xs : List ℕ) (z : ℕ) → last_after (Some y) xs ≡ Some z → is_among z (y ∷ xs) ≡ true
last_within y [] z e = let same : y ≡ z = cc in subst (λ w. is_among w (y ∷ []) ≡ true) same (among_first y [])
last_within y (x ∷ xs) z e = among_rest z y (x ∷ xs) (last_within x xs z e)

pub last_is_among : (xs : List ℕ) (z : ℕ) → last_after None xs ≡ Some z → is_among z xs ≡ true
last_is_among [] z e = absurd cc
last_is_among (x ∷ xs) z e = last_within x xs z e

pub last_push : (p : Option ℕ) (xs : List ℕ) (slot : ℕ) → last_after p (xs ++ slot ∷ []) ≡ Some slot
last_push p [] slot = refl
last_push p (x ∷ xs) slot = last_push (Some x) xs slot

-- links that lead the same way from each member
pub same_neighbours : (capacity : ℕ) (before after before2 after2 : ℕ → Option ℕ) (p : Option ℕ) (xs : List ℕ)
    → ((z : ℕ) → is_among z xs ≡ true → before2 z ≡ before z) → ((z : ℕ) → is_among z xs ≡ true → after2 z ≡ after z)
    → AreNeighbours capacity before after p xs → AreNeighbours capacity before2 after2 p xs
same_neighbours capacity before after before2 after2 p [] b a h = tt
same_neighbours capacity before after before2 after2 p (x ∷ xs) b a h = (
  h.0,
  b x (among_first x xs) ∙ h.1,
  a x (among_first x xs) ∙ h.2,
  same_neighbours capacity before after before2 after2 (Some x) xs (λ z m. b z (among_rest z x xs m)) (λ z m. a z (among_rest z x xs m)) h.3,
)

-- ---- one slot more

-- the links that change once a slot was put after the last one
pub record Appended (before after before2 after2 : ℕ → Option ℕ) (slot : ℕ) (last : Option ℕ) : Type 0 where
  pub back : before2 slot ≡ last
  pub on : after2 slot ≡ None
  pub others_back : (z : ℕ) → (slot == z) ≡ false → before2 z ≡ before z
  pub last_on : (z : ℕ) → last ≡ Some z → (slot == z) ≡ false → after2 z ≡ Some slot
  pub others_on : (z : ℕ) → (last ≡ Some z → ⊥) → (slot == z) ≡ false → after2 z ≡ after z

pub neighbours_push : (capacity slot : ℕ) (before after before2 after2 : ℕ → Option ℕ) (p : Option ℕ) (xs : List ℕ)
    → slot < capacity → AreDistinct xs → is_among slot xs ≡ false → Appended before after before2 after2 slot (last_after p xs)
    → AreNeighbours capacity before after p xs → AreNeighbours capacity before2 after2 p (xs ++ slot ∷ [])
neighbours_push capacity slot before after before2 after2 p [] below d apart a h = (below, a.back, a.on, tt)
neighbours_push capacity slot before after before2 after2 p (x ∷ []) below d apart a h =
    let other : (slot == x) ≡ false = (neither (slot == x) false apart).0 in
    (h.0, a.others_back x other ∙ h.1, a.last_on x refl other, (below, a.back, a.on, tt))
neighbours_push capacity slot before after before2 after2 p (x ∷ y ∷ ys) below d apart a h =
    let split : ((slot == x) ≡ false) × (is_among slot (y ∷ ys) ≡ false) = neither (slot == x) (is_among slot (y ∷ ys)) apart in
    let inner : last_after (Some y) ys ≡ Some x → ⊥ = λ e. let m : is_among x (y ∷ ys) ≡ true = last_within y ys x e in let n : is_among x (y ∷ ys) ≡ false = d.0 in cc in (
      h.0,
      a.others_back x split.0 ∙ h.1,
      a.others_on x inner split.0 ∙ h.2,
      neighbours_push capacity slot before after before2 after2 (Some x) (y ∷ ys) below d.1 split.1 a h.3,
    )

-- ---- one slot fewer

-- the links that change once a slot was taken out: its neighbours, to one another
pub record Bridged (before after before2 after2 : ℕ → Option ℕ) (slot : ℕ) : Type 0 where
  pub next_back : (z : ℕ) → after slot ≡ Some z → before2 z ≡ before slot
  pub others_back : (z : ℕ) → (after slot ≡ Some z → ⊥) → before2 z ≡ before z
  pub previous_on : (z : ℕ) → before slot ≡ Some z → after2 z ≡ after slot
  pub others_on : (z : ℕ) → (before slot ≡ Some z → ⊥) → after2 z ≡ after z

-- some slot isn't among these
different_from : (o : Option ℕ) (x : ℕ) (xs : List ℕ) → is_among x xs ≡ false → (z : ℕ) → o ≡ Some z → is_among z xs ≡ true → o ≡ Some x → ⊥
different_from o x xs hasnt z e m f =
    let same : z ≡ x = cc in
    let has : is_among x xs ≡ true = subst (λ w. is_among w xs ≡ true) same m in
    cc

-- the rest after a slot that is taken out
rest_bridged : (capacity slot : ℕ) (before after before2 after2 : ℕ → Option ℕ) (p : Option ℕ) (xs : List ℕ)
    → AreDistinct xs → ((y : ℕ) → p ≡ Some y → is_among y xs ≡ false) → Bridged before after before2 after2 slot
    → before slot ≡ p → after slot ≡ first_of xs
    → AreNeighbours capacity before after (Some slot) xs → AreNeighbours capacity before2 after2 p xs
rest_bridged capacity slot before after before2 after2 p [] d apart b back on h = tt
rest_bridged capacity slot before after before2 after2 p (y ∷ ys) d apart b back on h =
    let not_p : (z : ℕ) → is_among z (y ∷ ys) ≡ true → before slot ≡ Some z → ⊥
    = λ z m e. let f : is_among z (y ∷ ys) ≡ false = apart z (sym back ∙ e) in cc in
    let not_y : (z : ℕ) → is_among z ys ≡ true → after slot ≡ Some z → ⊥
    = λ z m e.
    let same : y ≡ z = cc in
    let f : is_among z ys ≡ false = subst (λ w. is_among w ys ≡ false) same d.0 in
    cc in (
      h.0,
      b.next_back y on ∙ back,
      b.others_on y (not_p y (among_first y ys)) ∙ h.2,
      same_neighbours capacity before after before2 after2 (Some y) ys (λ z m. b.others_back z (not_y z m)) (λ z m. b.others_on z (not_p z (among_rest z y ys m))) h.3,
    )

-- the slot before one that is kept, where a later one is taken out
on_to_the_next : (capacity slot x : ℕ) (before after before2 after2 : ℕ → Option ℕ) (xs : List ℕ)
    → AreDistinct xs → is_among x xs ≡ false → Bridged before after before2 after2 slot → is_among slot xs ≡ true
    → after x ≡ first_of xs → AreNeighbours capacity before after (Some x) xs → after2 x ≡ first_of (without slot xs)
on_to_the_next capacity slot x before after before2 after2 [] d hasnt b m on h = absurd cc
on_to_the_next capacity slot x before after before2 after2 (y ∷ ys) d hasnt b m on h = elim (eqb_tells slot y) [
  | inl w ↦
      let back : before slot ≡ Some x = ap before w.1 ∙ h.1 in
      let next : after slot ≡ first_of ys = ap after w.1 ∙ h.2 in
      let absent : is_among slot ys ≡ false = subst (λ n. is_among n ys ≡ false) (sym w.1) d.0 in
      let left : first_of (without slot ys) ≡ first_of ys = ap first_of (without_absent slot ys absent) in
      rw w.0 (b.previous_on x back ∙ (next ∙ sym left))
  | inr w ↦
      let later : is_among slot ys ≡ true = subst (λ t. (t || is_among slot ys) ≡ true) w.0 m in
      let there = before_is_there capacity before after y ys slot h.3 later in
      rw w.0 (b.others_on x (different_from (before slot) x (y ∷ ys) hasnt there.0 there.1 there.2) ∙ on)
]

pub neighbours_without : (capacity slot : ℕ) (before after before2 after2 : ℕ → Option ℕ) (p : Option ℕ) (xs : List ℕ)
    → AreDistinct xs → ((y : ℕ) → p ≡ Some y → is_among y xs ≡ false) → Bridged before after before2 after2 slot → is_among slot xs ≡ true
    → AreNeighbours capacity before after p xs → AreNeighbours capacity before2 after2 p (without slot xs)
neighbours_without capacity slot before after before2 after2 p [] d apart b m h = tt
neighbours_without capacity slot before after before2 after2 p (x ∷ xs) d apart b m h = elim (eqb_tells slot x) [
  | inl w ↦
      let absent : is_among slot xs ≡ false = subst (λ n. is_among n xs ≡ false) (sym w.1) d.0 in
      let apart_rest : (y : ℕ) → p ≡ Some y → is_among y xs ≡ false = λ y e. (neither (y == x) (is_among y xs) (apart y e)).1 in
      let linked : AreNeighbours capacity before after (Some slot) xs = subst (λ n. AreNeighbours capacity before after (Some n) xs) (sym w.1) h.3 in
      rw (w.0, without_absent slot xs absent)
      (rest_bridged capacity slot before after before2 after2 p xs d.1 apart_rest b (ap before w.1 ∙ h.1) (ap after w.1 ∙ h.2) linked)
  | inr w ↦
      let later : is_among slot xs ≡ true = subst (λ t. (t || is_among slot xs) ≡ true) w.0 m in
      let inner : after slot ≡ Some x → ⊥ = λ e.
      let has : is_among x xs ≡ true = after_within capacity before after (Some x) xs slot x h.3 later e in
      let hasnt : is_among x xs ≡ false = d.0 in
      cc in
      let apart_rest : (y : ℕ) → Some x ≡ Some y → is_among y xs ≡ false = λ y e. let same : x ≡ y = cc in subst (λ n. is_among n xs ≡ false) same d.0 in
      rw w.0 (
        h.0,
        b.others_back x inner ∙ h.1,
        on_to_the_next capacity slot x before after before2 after2 xs d.1 d.0 b later h.2 h.3,
        neighbours_without capacity slot before after before2 after2 (Some x) xs d.1 apart_rest b later h.3,
      )
]

beside_some : (o there other : Option ℕ) (z : ℕ) → o ≡ Some z → beside o there other ≡ there
beside_some None there other z e = absurd cc
beside_some (Some y) there other z e = refl

beside_none : (o there other : Option ℕ) → o ≡ None → beside o there other ≡ other
beside_none None there other e = refl
beside_none (Some y) there other e = absurd cc

pub first_without : (capacity slot : ℕ) (before after : ℕ → Option ℕ) (xs : List ℕ)
    → AreDistinct xs → is_among slot xs ≡ true → AreNeighbours capacity before after None xs
    → first_of (without slot xs) ≡ beside (before slot) (first_of xs) (after slot)
first_without capacity slot before after [] d m h = absurd cc
first_without capacity slot before after (x ∷ xs) d m h = elim (eqb_tells slot x) [
  | inl w ↦
      let absent : is_among slot xs ≡ false = subst (λ n. is_among n xs ≡ false) (sym w.1) d.0 in
      let back : before slot ≡ None = ap before w.1 ∙ h.1 in
      rw w.0 (ap first_of (without_absent slot xs absent) ∙ (sym (ap after w.1 ∙ h.2) ∙ sym (beside_none (before slot) (Some x) (after slot) back)))
  | inr w ↦
      let later : is_among slot xs ≡ true = subst (λ t. (t || is_among slot xs) ≡ true) w.0 m in
      let there = before_is_there capacity before after x xs slot h.3 later in
      rw w.0 (sym (beside_some (before slot) (Some x) (after slot) there.0 there.1))
]

last_beside : (slot : ℕ) (back on p : Option ℕ) (xs : List ℕ) → back ≡ p → on ≡ first_of xs → last_after p xs ≡ beside on (last_after (Some slot) xs) back
last_beside slot back on p [] b e = sym b ∙ sym (beside_none on (Some slot) back e)
last_beside slot back on p (y ∷ ys) b e = sym (beside_some on (last_after (Some y) ys) back y e)

pub last_without : (capacity slot : ℕ) (before after : ℕ → Option ℕ) (p : Option ℕ) (xs : List ℕ)
    → AreDistinct xs → is_among slot xs ≡ true → AreNeighbours capacity before after p xs
    → last_after p (without slot xs) ≡ beside (after slot) (last_after p xs) (before slot)
last_without capacity slot before after p [] d m h = absurd cc
last_without capacity slot before after p (x ∷ xs) d m h = elim (eqb_tells slot x) [
  | inl w ↦
      let absent : is_among slot xs ≡ false = subst (λ n. is_among n xs ≡ false) (sym w.1) d.0 in
      rw (w.0, without_absent slot xs absent) (last_beside x (before slot) (after slot) p xs (ap before w.1 ∙ h.1) (ap after w.1 ∙ h.2))
  | inr w ↦
      let later : is_among slot xs ≡ true = subst (λ t. (t || is_among slot xs) ≡ true) w.0 m in
      rw w.0 (last_without capacity slot before after (Some x) xs d.1 later h.3)
]

-- ---- going on from a slot

from_past : (x : ℕ) (xs : List ℕ) (o : Option ℕ) → ((z : ℕ) → o ≡ Some z → (z == x) ≡ false) → from_slot o (x ∷ xs) ≡ from_slot o xs
from_past x xs None h = refl
from_past x xs (Some z) h = rw (h z refl) refl

pub from_first : (xs : List ℕ) → from_slot (first_of xs) xs ≡ xs
from_first [] = refl
from_first (x ∷ xs) = rw (same_slot x) refl

pub after_leads : (capacity slot : ℕ) (before after : ℕ → Option ℕ) (p : Option ℕ) (xs : List ℕ)
    → AreDistinct xs → is_among slot xs ≡ true → AreNeighbours capacity before after p xs
    → from_slot (Some slot) xs ≡ slot ∷ from_slot (after slot) xs
after_leads capacity slot before after p [] d m h = absurd cc
after_leads capacity slot before after p (x ∷ xs) d m h = elim (eqb_tells slot x) [
  | inl w ↦
      let next : after slot ≡ first_of xs = ap after w.1 ∙ h.2 in
      let others : (z : ℕ) → first_of xs ≡ Some z → (z == x) ≡ false = λ z e. not_the_same z x xs (first_among xs z e) d.0 in
      let rest : from_slot (after slot) (x ∷ xs) ≡ xs = ap (λ o. from_slot o (x ∷ xs)) next ∙ (from_past x xs (first_of xs) others ∙ from_first xs) in
      rw w.0 (sym (ap (λ l. slot ∷ l) rest ∙ ap (λ n. n ∷ xs) w.1))
  | inr w ↦
      let later : is_among slot xs ≡ true = subst (λ t. (t || is_among slot xs) ≡ true) w.0 m in
      let others : (z : ℕ) → after slot ≡ Some z → (z == x) ≡ false
      = λ z e. not_the_same z x xs (after_within capacity before after (Some x) xs slot z h.3 later e) d.0 in
      rw w.0 (after_leads capacity slot before after (Some x) xs d.1 later h.3 ∙ ap (λ l. slot ∷ l) (sym (from_past x xs (after slot) others)))
]

-- the links lead through all the slots
pub slots_walked : (links : List SlotLink) (before : ℕ → Option ℕ) (p : Option ℕ) (xs : List ℕ) (most capacity : ℕ)
    → AreNeighbours capacity before (next_in links) p xs → length xs ≤ most → slots_from links most (first_of xs) ≡ xs
slots_walked links before p [] most capacity h n = refl
slots_walked links before p (x ∷ xs) zero capacity h n = absurd (omega arith)
slots_walked links before p (x ∷ xs) (suc most) capacity h n =
    let fewer : length xs ≤ most = omega arith in
    ap (λ l. x ∷ l) (ap (slots_from links most) h.2 ∙ slots_walked links before (Some x) xs most capacity h.3 fewer)

-- the slot before a member, where there is one, is a member
pub before_within : (capacity : ℕ) (before after : ℕ → Option ℕ) (xs : List ℕ) (slot z : ℕ)
    → AreNeighbours capacity before after None xs → is_among slot xs ≡ true → before slot ≡ Some z → is_among z xs ≡ true
before_within capacity before after [] slot z h m e = absurd cc
before_within capacity before after (x ∷ xs) slot z h m e = elim (either (slot == x) (is_among slot xs) m) [
  | inl same ↦ let none : before slot ≡ None = ap before (is_same slot x same) ∙ h.1 in absurd cc
  | inr later ↦
      let there = before_is_there capacity before after x xs slot h.3 later in
      let one : there.0 ≡ z = let e1 : before slot ≡ Some there.0 = there.1 in cc in
      subst (λ w. is_among w (x ∷ xs) ≡ true) one there.2
]
