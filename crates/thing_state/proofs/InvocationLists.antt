-- Invocations, gone through one by one.
use Rattle.std.proofs.Common.{◌≡◌, ℕ, zero, suc, ◌+◌, ◌<◌, ◌≤◌, List, [], ◌∷◌, length, get_or, slice_set, remove, Bool, true, false, cond, not, refl, sym, ap, ◌∙◌, arith}
use Rattle.std.specs.Prelude.{Option, Some, None, ◌==◌, nat_lt}
use Rattle.std.specs.List.{position, position_or_len, count_by}
use Rattle.std.proofs.lemmas.List.Quantifiers.{position-Some}
use Rattle.std.proofs.lemmas.List.Recursion.{is_sum_by}
use Rattle.std.proofs.lemmas.Bool.{ltb-false}
use Rattle.thing_state.specs.State.{Invocation, completed, running, is_running, running_count, with_completed, without_invocation, without_oldest_completed}

-- the one at this place is the first of its id
removed_by_id : (id : ℕ) (d : Invocation) (xs : List Invocation) (i : ℕ) → i < length xs → ((get_or xs i d).id == id) ≡ true → ((k : ℕ) → k < i → ((get_or xs k d).id == id) ≡ false)
    → remove xs i ≡ without_invocation id xs
removed_by_id id d [] i within here before = absurd (omega arith)
removed_by_id id d (x ∷ xs) zero within here before = rw here refl
removed_by_id id d (x ∷ xs) (suc i) within here before =
    let other : (x.id == id) ≡ false = before 0 (omega arith) in
    rw other (ap (λ (l : List Invocation). x ∷ l) (removed_by_id id d xs i (omega arith) here (λ k h. before (suc k) (omega arith))))

-- any invocation, for what std's lemmas read past the end of a list
any : Invocation
any = record { id = 0; slot = 0; status = running }

pub removed_at : (id : ℕ) (xs : List Invocation) (i : ℕ) → position (λ x. x.id == id) xs ≡ Some i → (i < length xs) × (remove xs i ≡ without_invocation id xs)
removed_at id xs i found =
    let at = position-Some (λ (x : Invocation). x.id == id) xs i any found in
    (at.0, removed_by_id id any xs i at.0 at.1 at.2)

-- the one at this place is completed, and is the first of its id
completed_by_id : (id : ℕ) (output : Option (List ℕ)) (d : Invocation) (xs : List Invocation) (i : ℕ) → i < length xs → ((get_or xs i d).id == id) ≡ true → ((k : ℕ) → k < i → ((get_or xs k d).id == id) ≡ false)
    → slice_set xs i (record (get_or xs i d) { status = completed output }) ≡ with_completed id output xs
completed_by_id id output d [] i within here before = absurd (omega arith)
completed_by_id id output d (x ∷ xs) zero within here before = rw here refl
completed_by_id id output d (x ∷ xs) (suc i) within here before =
    let other : (x.id == id) ≡ false = before 0 (omega arith) in
    rw other (ap (λ (l : List Invocation). x ∷ l) (completed_by_id id output d xs i (omega arith) here (λ k h. before (suc k) (omega arith))))

pub completed_at : (id : ℕ) (output : Option (List ℕ)) (xs : List Invocation) (i : ℕ) (x : Invocation) → Some i ≡ position (λ y. y.id == id) xs → x ≡ get_or xs i x
    → slice_set xs i (record x { status = completed output }) ≡ with_completed id output xs
completed_at id output xs i x found at =
    let there = position-Some (λ (y : Invocation). y.id == id) xs i x (sym found) in
    ap (λ (y : Invocation). slice_set xs i (record y { status = completed output })) at ∙ completed_by_id id output x xs i there.0 there.1 there.2

-- the one at this place is the first that is completed
removed_oldest : (d : Invocation) (xs : List Invocation) (i : ℕ) → i < length xs → not (is_running (get_or xs i d)) ≡ true → ((k : ℕ) → k < i → not (is_running (get_or xs k d)) ≡ false)
    → remove xs i ≡ without_oldest_completed xs
removed_oldest d [] i within here before = absurd (omega arith)
removed_oldest d (x ∷ xs) zero within here before = by_test (is_running x) refl here
  where
    by_test : (b : Bool) → is_running x ≡ b → not b ≡ true → xs ≡ without_oldest_completed (x ∷ xs)
    by_test true e n = absurd cc
    by_test false e n = rw e refl
removed_oldest d (x ∷ xs) (suc i) within here before =
    by_test (removed_oldest d xs i (omega arith) here (λ k h. before (suc k) (omega arith))) (is_running x) refl (before 0 (omega arith))
  where
    by_test : remove xs i ≡ without_oldest_completed xs → (b : Bool) → is_running x ≡ b → not b ≡ false → remove (x ∷ xs) (suc i) ≡ without_oldest_completed (x ∷ xs)
    by_test rest true e n = rw e (ap (λ (l : List Invocation). x ∷ l) rest)
    by_test rest false e n = absurd cc

pub oldest_at : (xs : List Invocation) (i : ℕ) → position (λ x. not (is_running x)) xs ≡ Some i → (i < length xs) × (remove xs i ≡ without_oldest_completed xs)
oldest_at xs i found =
    let at = position-Some (λ (x : Invocation). not (is_running x)) xs i any found in
    (at.0, removed_oldest any xs i at.0 at.1 at.2)

-- the number of those that run, as std counts them
one_more : (x : Invocation) (xs : List Invocation) → running_count (x ∷ xs) ≡ cond (is_running x) 1 0 + running_count xs
one_more x xs = by_test (is_running x)
  where
    by_test : (b : Bool) → cond b (running_count xs + 1) (running_count xs) ≡ cond b 1 0 + running_count xs
    by_test true = omega arith
    by_test false = omega arith

pub running_are_counted : (xs : List Invocation) → running_count xs ≡ count_by is_running xs
running_are_counted xs = is_sum_by running_count (λ x. cond (is_running x) 1 0) refl one_more xs

-- where no place is found, none passes
pub none_found : (p : Invocation → Bool) (xs : List Invocation) → position p xs ≡ None → length xs ≤ position_or_len p xs
none_found p xs e = by_test (nat_lt (position_or_len p xs) (length xs)) refl e
  where
    by_test : (b : Bool) → nat_lt (position_or_len p xs) (length xs) ≡ b → cond b (Some (position_or_len p xs)) None ≡ None → length xs ≤ position_or_len p xs
    by_test true t n = absurd cc
    by_test false t n = ltb-false (position_or_len p xs) (length xs) t

same_without : (id : ℕ) (xs : List Invocation) → length xs ≤ position_or_len (λ x. x.id == id) xs → without_invocation id xs ≡ xs
same_without id [] past = refl
same_without id (x ∷ xs) past = by_test (same_without id xs) (x.id == id) refl past
  where
    by_test : (length xs ≤ position_or_len (λ y. y.id == id) xs → without_invocation id xs ≡ xs)
        → (b : Bool) → (x.id == id) ≡ b → suc (length xs) ≤ cond (not b) (1 + position_or_len (λ y. y.id == id) xs) 0 → without_invocation id (x ∷ xs) ≡ x ∷ xs
    by_test rest true e p = absurd (omega (arith, p))
    by_test rest false e p = rw e (ap (λ (l : List Invocation). x ∷ l) (rest (omega (arith, p))))

pub completed_length : (id : ℕ) (output : Option (List ℕ)) (xs : List Invocation) → length (with_completed id output xs) ≡ length xs
completed_length id output [] = refl
completed_length id output (x ∷ xs) = by_test (completed_length id output xs) (x.id == id)
  where
    by_test : length (with_completed id output xs) ≡ length xs → (b : Bool) → length (cond b (record x { status = completed output } ∷ xs) (x ∷ with_completed id output xs)) ≡ suc (length xs)
    by_test rest true = refl
    by_test rest false = ap suc rest

same_completed : (id : ℕ) (output : Option (List ℕ)) (xs : List Invocation) → length xs ≤ position_or_len (λ x. x.id == id) xs → with_completed id output xs ≡ xs
same_completed id output [] past = refl
same_completed id output (x ∷ xs) past = by_test (same_completed id output xs) (x.id == id) refl past
  where
    by_test : (length xs ≤ position_or_len (λ y. y.id == id) xs → with_completed id output xs ≡ xs)
        → (b : Bool) → (x.id == id) ≡ b → suc (length xs) ≤ cond (not b) (1 + position_or_len (λ y. y.id == id) xs) 0 → with_completed id output (x ∷ xs) ≡ x ∷ xs
    by_test rest true e p = absurd (omega (arith, p))
    by_test rest false e p = rw e (ap (λ (l : List Invocation). x ∷ l) (rest (omega (arith, p))))

pub none_completes : (id : ℕ) (output : Option (List ℕ)) (xs : List Invocation) → None ≡ position (λ x. x.id == id) xs → xs ≡ with_completed id output xs
none_completes id output xs e = sym (same_completed id output xs (none_found (λ (x : Invocation). x.id == id) xs (sym e)))

pub none_removed : (id : ℕ) (xs : List Invocation) → position (λ x. x.id == id) xs ≡ None → without_invocation id xs ≡ xs
none_removed id xs e = same_without id xs (none_found (λ (x : Invocation). x.id == id) xs e)

all_run : (xs : List Invocation) → length xs ≤ position_or_len (λ x. not (is_running x)) xs → running_count xs ≡ length xs
all_run [] past = refl
all_run (x ∷ xs) past = by_test (all_run xs) (is_running x) past
  where
    by_test : (length xs ≤ position_or_len (λ y. not (is_running y)) xs → running_count xs ≡ length xs) → (b : Bool) → suc (length xs) ≤ cond (not (not b)) (1 + position_or_len (λ y. not (is_running y)) xs) 0 → cond b (running_count xs + 1) (running_count xs) ≡ suc (length xs)
    by_test rest true p = let same : running_count xs ≡ length xs = rest (omega (arith, p)) in omega (arith, same)
    by_test rest false p = absurd (omega (arith, p))

pub none_completed : (xs : List Invocation) → position (λ x. not (is_running x)) xs ≡ None → running_count xs ≡ length xs
none_completed xs e = all_run xs (none_found (λ (x : Invocation). not (is_running x)) xs e)
