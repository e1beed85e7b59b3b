-- How often a slot is in a list, and the search from slot to slot.
use Rattle.std.proofs.Common.{◌≡◌, ◌≢◌, ◌+◌, ◌≤◌, ◌<◌, ◌==◌, ◌||◌, ℕ, Bool, true, false, cond, List, [], ◌∷◌, ◌++◌, length, Option, Some, inl, inr, ◌∙◌, sym, refl, ap, subst, arith}
use Rattle.std.specs.Prelude.{nat_lt}
use Rattle.std.specs.List.{find}
use Rattle.std.proofs.lemmas.Bool.Decides.{nat_tests, eqb_tells}
use Rattle.slot_lists.specs.Counts.{times_in, once_below}
use Rattle.slot_lists.specs.Lists.{is_among, without, from_slot}
use Rattle.slot_lists.proofs.Among.{either, same_slot, differ}

-- ---- the number of times that a slot is there

below_at : (s n : ℕ) (b : Bool) → nat_lt s n ≡ b → 1 ≤ cond b 1 0 → s < n
below_at s n true e h = grind (arith, nat_tests)
below_at s n false e h = absurd (omega arith)

pub once_is_below : (s n : ℕ) → 1 ≤ once_below s n → s < n
once_is_below s n h = below_at s n (nat_lt s n) refl h

at_most_at : (b : Bool) → cond b 1 0 ≤ 1
at_most_at true = omega arith
at_most_at false = omega arith

pub once_at_most : (s n : ℕ) → once_below s n ≤ 1
once_at_most s n = at_most_at (nat_lt s n)

pub not_below : (s n : ℕ) → n ≤ s → once_below s n ≡ 0
not_below s n h = grind (arith, nat_tests)

-- one slot more below the limit
pub once_more : (s n : ℕ) → once_below s (n + 1) ≡ once_below s n + cond (s == n) 1 0
once_more s n = grind (arith, nat_tests)

pub times_in-append : (s : ℕ) (xs ys : List ℕ) → times_in s (xs ++ ys) ≡ times_in s xs + times_in s ys
times_in-append s [] ys = omega arith
times_in-append s (x ∷ xs) ys = omega (arith, times_in-append s xs ys)

pub times_push : (s slot : ℕ) (xs : List ℕ) → times_in s (xs ++ slot ∷ []) ≡ times_in s xs + cond (s == slot) 1 0
times_push s slot xs = omega (arith, times_in-append s xs (slot ∷ []))

pub among_counted : (s : ℕ) (xs : List ℕ) → is_among s xs ≡ true → 1 ≤ times_in s xs
among_counted s [] h = absurd cc
among_counted s (x ∷ xs) h = elim (either (s == x) (is_among s xs) h) [
  | inl e ↦ rw e (omega arith)
  | inr m ↦ omega (arith, among_counted s xs m)
]

counted_at : (b rest : Bool) (n : ℕ) → (1 ≤ n → rest ≡ true) → 1 ≤ cond b 1 0 + n → (b || rest) ≡ true
counted_at true rest n rec h = refl
counted_at false rest n rec h = rec (omega arith)

pub counted_is_among : (s : ℕ) (xs : List ℕ) → 1 ≤ times_in s xs → is_among s xs ≡ true
counted_is_among s [] h = absurd (omega arith)
counted_is_among s (x ∷ xs) h = counted_at (s == x) (is_among s xs) (times_in s xs) (counted_is_among s xs) h

uncounted_at : (b rest : Bool) (n : ℕ) → (n ≡ 0 → rest ≡ false) → cond b 1 0 + n ≡ 0 → (b || rest) ≡ false
uncounted_at true rest n rec h = absurd (omega arith)
uncounted_at false rest n rec h = rec (omega arith)

pub uncounted_is_absent : (s : ℕ) (xs : List ℕ) → times_in s xs ≡ 0 → is_among s xs ≡ false
uncounted_is_absent s [] h = refl
uncounted_is_absent s (x ∷ xs) h = uncounted_at (s == x) (is_among s xs) (times_in s xs) (uncounted_is_absent s xs) h

pub slots_more : (s n : ℕ) (free : List ℕ) → times_in s free ≡ once_below s n → times_in s (free ++ n ∷ []) ≡ once_below s (n + 1)
slots_more s n free e = omega (arith, once_more s n, times_push s n free)

-- a slot that is taken out, and the others
pub times_without_other : (s slot : ℕ) (xs : List ℕ) → s ≢ slot → times_in s (without slot xs) ≡ times_in s xs
times_without_other s slot [] h = refl
times_without_other s slot (x ∷ xs) h = elim (eqb_tells slot x) [
  | inl w ↦
      let other : (s == x) ≡ false = differ s x (λ e. h (e ∙ sym w.1)) in
      let rest : times_in s (without slot xs) ≡ times_in s xs = times_without_other s slot xs h in
      rw (w.0, other) (omega arith)
  | inr w ↦ rw w.0 (ap (λ k. cond (s == x) 1 0 + k) (times_without_other s slot xs h))
]

none_more : (b : Bool) (n : ℕ) → b ≡ false → n ≡ 0 → cond b 1 0 + n ≡ 0
none_more true n e h = absurd cc
none_more false n e h = omega arith

pub times_without_same : (slot : ℕ) (xs : List ℕ) → times_in slot (without slot xs) ≡ 0
times_without_same slot [] = refl
times_without_same slot (x ∷ xs) = elim (eqb_tells slot x) [
  | inl w ↦ rw w.0 (times_without_same slot xs)
  | inr w ↦
      let rest : times_in slot (without slot xs) ≡ 0 = times_without_same slot xs in
      rw w.0 (none_more (slot == x) (times_in slot (without slot xs)) w.0 rest)
]

pub length-without : (slot : ℕ) (xs : List ℕ) → length (without slot xs) + times_in slot xs ≡ length xs
length-without slot [] = refl
length-without slot (x ∷ xs) = elim (eqb_tells slot x) [
  | inl w ↦ rw w.0 (omega (arith, length-without slot xs))
  | inr w ↦ rw w.0 (omega (arith, length-without slot xs))
]

-- a slot that goes from one list to the end of another
pub times_moved : (s slot : ℕ) (xs ys : List ℕ) → times_in slot xs ≡ 1 → times_in s (without slot xs) + times_in s (ys ++ slot ∷ []) ≡ times_in s xs + times_in s ys
times_moved s slot xs ys once = elim (eqb_tells s slot) [
  | inl w ↦
      let left : times_in slot (without slot xs) ≡ 0 = times_without_same slot xs in
      let more : times_in slot (ys ++ slot ∷ []) ≡ times_in slot ys + 1 = times_push slot slot ys ∙ ap (λ b. times_in slot ys + cond b 1 0) (same_slot slot) in
      subst (λ z. times_in z (without slot xs) + times_in z (ys ++ slot ∷ []) ≡ times_in z xs + times_in z ys) (sym w.1) (omega arith)
  | inr w ↦
      let left : times_in s (without slot xs) ≡ times_in s xs = times_without_other s slot xs w.1 in
      let more : times_in s (ys ++ slot ∷ []) ≡ times_in s ys + 0 = times_push s slot ys ∙ ap (λ b. times_in s ys + cond b 1 0) w.0 in
      omega arith
]

-- ---- a search from slot to slot

pub found_at_slot : (p : ℕ → Bool) (slot : ℕ) (xs : List ℕ) → is_among slot xs ≡ true → p slot ≡ true → find p (from_slot (Some slot) xs) ≡ Some slot
found_at_slot p slot [] m t = absurd cc
found_at_slot p slot (x ∷ xs) m t = elim (eqb_tells slot x) [
  | inl w ↦ let passes : p x ≡ true = subst (λ n. p n ≡ true) w.1 t in rw (w.0, passes) (ap (λ n. Some n) (sym w.1))
  | inr w ↦
      let later : is_among slot xs ≡ true = subst (λ b. (b || is_among slot xs) ≡ true) w.0 m in
      let rest : find p (from_slot (Some slot) xs) ≡ Some slot = found_at_slot p slot xs later t in
      rw w.0 rest
]

pub found_further : (p : ℕ → Bool) (slot : ℕ) (next : Option ℕ) (xs : List ℕ) → from_slot (Some slot) xs ≡ slot ∷ from_slot next xs → p slot ≡ false
    → find p (from_slot (Some slot) xs) ≡ find p (from_slot next xs)
found_further p slot next xs e f = ap (find p) e ∙ rw f refl
