-- Lists to which slots are dealt by a number.
use Rattle.std.proofs.Common.{◌≡◌, ◌≢◌, ◌+◌, ◌≤◌, ◌<◌, ◌==◌, ℕ, Bool, true, false, cond, List, [], ◌∷◌, ◌++◌, length, get_or, set, inl, inr, ◌∙◌, sym, refl, ap, subst, arith}
use Rattle.std.proofs.lemmas.Bool.Decides.{eqb_tells}
use Rattle.std.proofs.lemmas.Bool.{cases_lt}
use Rattle.std.proofs.lemmas.List.{get_or-set_same, get_or-set_other, get_or_past, length-set}
use Rattle.slot_lists.specs.Lists.{is_among, without}
use Rattle.slot_lists.specs.Counts.{times_in}
use Rattle.slot_lists.proofs.Among.{same_slot, differ}
use Rattle.slot_lists.proofs.Counts.{among_counted, counted_is_among, times_push, times_without_other, times_without_same, uncounted_is_absent}
use Rattle.coap_observe.specs.Kept.{AreDealt}

-- ---- one of some lists with a slot more, or fewer

set_at : (lists : List (List ℕ)) (i j : ℕ) (new : List ℕ) → i ≡ j → i < length lists → get_or (set lists j new) i [] ≡ new
set_at lists i j new e below = subst (λ n. get_or (set lists n new) i [] ≡ new) e (get_or-set_same lists i new [] below)

pub pushed_times : (lists : List (List ℕ)) (j i slot s : ℕ) → i < length lists
    → times_in s (get_or (set lists j (get_or lists j [] ++ slot ∷ [])) i []) ≡ times_in s (get_or lists i []) + cond (j == i) (cond (s == slot) 1 0) 0
pushed_times lists j i slot s below = elim (eqb_tells j i) [
  | inl w ↦
      let read : get_or (set lists j (get_or lists j [] ++ slot ∷ [])) i [] ≡ get_or lists j [] ++ slot ∷ [] = set_at lists i j _ (sym w.1) below in
      let old : times_in s (get_or lists j []) ≡ times_in s (get_or lists i []) = ap (λ n. times_in s (get_or lists n [])) w.1 in
      let new : times_in s (get_or lists j [] ++ slot ∷ []) ≡ times_in s (get_or lists j []) + cond (s == slot) 1 0 = times_push s slot (get_or lists j []) in
      rw w.0 (ap (times_in s) read ∙ (new ∙ ap (λ n. n + cond (s == slot) 1 0) old))
  | inr w ↦
      let other : i ≢ j = λ e. w.1 (sym e) in
      let read : get_or (set lists j (get_or lists j [] ++ slot ∷ [])) i [] ≡ get_or lists i [] = get_or-set_other lists j i _ [] other in
      let same : times_in s (get_or (set lists j (get_or lists j [] ++ slot ∷ [])) i []) ≡ times_in s (get_or lists i []) = ap (times_in s) read in
      rw w.0 (omega arith)
]

-- for another slot nothing changes, and the slot itself is gone
pub popped_other : (lists : List (List ℕ)) (j i slot s : ℕ) → s ≢ slot → i < length lists
    → times_in s (get_or (set lists j (without slot (get_or lists j []))) i []) ≡ times_in s (get_or lists i [])
popped_other lists j i slot s h below = elim (eqb_tells j i) [
  | inl w ↦
      let read : get_or (set lists j (without slot (get_or lists j []))) i [] ≡ without slot (get_or lists j []) = set_at lists i j _ (sym w.1) below in
      ap (times_in s) read ∙ (times_without_other s slot (get_or lists j []) h ∙ ap (λ n. times_in s (get_or lists n [])) w.1)
  | inr w ↦ ap (times_in s) (get_or-set_other lists j i _ [] (λ e. w.1 (sym e)))
]

pub popped_same : (lists : List (List ℕ)) (j i slot : ℕ) → (j ≢ i → times_in slot (get_or lists i []) ≡ 0) → i < length lists
    → times_in slot (get_or (set lists j (without slot (get_or lists j []))) i []) ≡ 0
popped_same lists j i slot h below = elim (eqb_tells j i) [
  | inl w ↦
      let read : get_or (set lists j (without slot (get_or lists j []))) i [] ≡ without slot (get_or lists j []) = set_at lists i j _ (sym w.1) below in
      ap (times_in slot) read ∙ times_without_same slot (get_or lists j [])
  | inr w ↦ ap (times_in slot) (get_or-set_other lists j i _ [] (λ e. w.1 (sym e))) ∙ h w.1
]

-- a slot that is in none of the lists that are there
pub in_none : (lists : List (List ℕ)) (slot : ℕ) → ((i : ℕ) → i < length lists → times_in slot (get_or lists i []) ≡ 0) → (i : ℕ) → is_among slot (get_or lists i []) ≡ false
in_none lists slot h i = elim (cases_lt i (length lists)) [
  | inl within ↦ uncounted_is_absent slot (get_or lists i []) (h i within)
  | inr past ↦ ap (is_among slot) (get_or_past lists i [] past)
]

pub popped_in_none : (lists : List (List ℕ)) (j slot : ℕ) → ((i : ℕ) → i < length lists → j ≢ i → times_in slot (get_or lists i []) ≡ 0)
    → (i : ℕ) → is_among slot (get_or (set lists j (without slot (get_or lists j []))) i []) ≡ false
popped_in_none lists j slot h =
    in_none (set lists j (without slot (get_or lists j []))) slot
    (λ i below. let within : i < length lists = subst (λ n. i < n) (length-set lists j _) below in popped_same lists j i slot (h i within) within)

-- ---- lists to which slots are dealt

unlike : (b : Bool) (n : ℕ) → b ≡ false → cond b n 0 ≡ 0
unlike true n e = absurd cc
unlike false n e = refl

pub zero_either : (b : Bool) (n : ℕ) → n ≡ 0 → cond b n 0 ≡ 0
zero_either true n e = e
zero_either false n e = refl

-- a slot that isn't dealt is in none
pub undealt : (number : ℕ → ℕ) (slots : List ℕ) (lists : List (List ℕ)) (slot : ℕ) → AreDealt number slots lists → times_in slot slots ≡ 0
    → (i : ℕ) → is_among slot (get_or lists i []) ≡ false
undealt number slots lists slot h none =
    in_none lists slot (λ i below. h i slot below ∙ zero_either (number slot == i) (times_in slot slots) none)

-- and one that is dealt is in its list alone
pub dealt_once : (number : ℕ → ℕ) (slots : List ℕ) (lists : List (List ℕ)) (slot : ℕ) → AreDealt number slots lists
    → (i : ℕ) → i < length lists → number slot ≢ i → times_in slot (get_or lists i []) ≡ 0
dealt_once number slots lists slot h i below other = h i slot below ∙ unlike (number slot == i) (times_in slot slots) (differ (number slot) i other)

pub dealt_there : (number : ℕ → ℕ) (slots : List ℕ) (lists : List (List ℕ)) (slot : ℕ) → AreDealt number slots lists → 1 ≤ times_in slot slots
    → number slot < length lists → is_among slot (get_or lists (number slot) []) ≡ true
dealt_there number slots lists slot h some below =
    let is : times_in slot (get_or lists (number slot) []) ≡ cond (number slot == number slot) (times_in slot slots) 0 = h (number slot) slot below in
    let here : cond (number slot == number slot) (times_in slot slots) 0 ≡ times_in slot slots = rw (same_slot (number slot)) refl in
    counted_is_among slot (get_or lists (number slot) []) (omega arith)

within_all : (b : Bool) (n : ℕ) → 1 ≤ cond b n 0 → 1 ≤ n
within_all true n h = h
within_all false n h = absurd (omega arith)

pub dealt_from : (number : ℕ → ℕ) (slots : List ℕ) (lists : List (List ℕ)) (slot i : ℕ) → AreDealt number slots lists → i < length lists
    → is_among slot (get_or lists i []) ≡ true → 1 ≤ times_in slot slots
dealt_from number slots lists slot i h below has =
    let some : 1 ≤ times_in slot (get_or lists i []) = among_counted slot (get_or lists i []) has in
    let is : times_in slot (get_or lists i []) ≡ cond (number slot == i) (times_in slot slots) 0 = h i slot below in
    within_all (number slot == i) (times_in slot slots) (omega arith)

-- a slot more
more_here : (b c : Bool) (n m : ℕ) → n ≡ 0 → m ≡ 1 → cond b n 0 + cond c 1 0 ≡ cond c m 0
more_here true true n m e f = omega arith
more_here true false n m e f = omega arith
more_here false true n m e f = omega arith
more_here false false n m e f = omega arith

no_more : (c : Bool) (n : ℕ) → n + cond c 0 0 ≡ n
no_more true n = omega arith
no_more false n = omega arith

pub dealt_push : (number number2 : ℕ → ℕ) (slots slots2 : List ℕ) (lists : List (List ℕ)) (slot : ℕ) → AreDealt number slots lists
    → ((s : ℕ) → s ≢ slot → number2 s ≡ number s) → times_in slot slots ≡ 0 → times_in slot slots2 ≡ 1 → ((s : ℕ) → s ≢ slot → times_in s slots2 ≡ times_in s slots)
    → AreDealt number2 slots2 (set lists (number2 slot) (get_or lists (number2 slot) [] ++ slot ∷ []))
dealt_push number number2 slots slots2 lists slot h same none once others i s below =
    let new : List (List ℕ) = set lists (number2 slot) (get_or lists (number2 slot) [] ++ slot ∷ []) in
    let within : i < length lists = subst (λ n. i < n) (length-set lists (number2 slot) _) below in
    elim (eqb_tells s slot) [
      | inl w ↦
          subst (λ z. times_in z (get_or (set lists (number2 slot) (get_or lists (number2 slot) [] ++ slot ∷ [])) i []) ≡ cond (number2 z == i) (times_in z slots2) 0) (sym w.1)
          (pushed_times lists (number2 slot) i slot slot within
          ∙ (ap (λ b. times_in slot (get_or lists i []) + cond (number2 slot == i) (cond b 1 0) 0) (same_slot slot)
          ∙ (ap (λ n. n + cond (number2 slot == i) 1 0) (h i slot within)
          ∙ more_here (number slot == i) (number2 slot == i) (times_in slot slots) (times_in slot slots2) none once)))
      | inr w ↦
          pushed_times lists (number2 slot) i slot s within
          ∙ (ap (λ b. times_in s (get_or lists i []) + cond (number2 slot == i) (cond b 1 0) 0) w.0
          ∙ (no_more (number2 slot == i) (times_in s (get_or lists i []))
          ∙ (h i s within
          ∙ (ap (λ n. cond (n == i) (times_in s slots) 0) (sym (same s w.1))
          ∙ ap (λ n. cond (number2 s == i) n 0) (sym (others s w.1))))))
    ]

-- a slot fewer
pub dealt_pop : (number : ℕ → ℕ) (slots slots2 : List ℕ) (lists : List (List ℕ)) (slot : ℕ) → AreDealt number slots lists
    → times_in slot slots2 ≡ 0 → ((s : ℕ) → s ≢ slot → times_in s slots2 ≡ times_in s slots)
    → AreDealt number slots2 (set lists (number slot) (without slot (get_or lists (number slot) [])))
dealt_pop number slots slots2 lists slot h none others i s below =
    let within : i < length lists = subst (λ n. i < n) (length-set lists (number slot) _) below in
    elim (eqb_tells s slot) [
      | inl w ↦
          subst (λ z. times_in z (get_or (set lists (number slot) (without slot (get_or lists (number slot) []))) i []) ≡ cond (number z == i) (times_in z slots2) 0) (sym w.1)
          (popped_same lists (number slot) i slot (dealt_once number slots lists slot h i within) within
          ∙ sym (zero_either (number slot == i) (times_in slot slots2) none))
      | inr w ↦
          popped_other lists (number slot) i slot s w.1 within
          ∙ (h i s within ∙ ap (λ n. cond (number s == i) n 0) (sym (others s w.1)))
    ]

-- the numbers are the same
pub dealt_same : (number number2 : ℕ → ℕ) (slots : List ℕ) (lists : List (List ℕ)) → ((s : ℕ) → number2 s ≡ number s) → AreDealt number slots lists
    → AreDealt number2 slots lists
dealt_same number number2 slots lists same h i s below = h i s below ∙ ap (λ n. cond (n == i) (times_in s slots) 0) (sym (same s))
