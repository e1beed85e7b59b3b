-- A reader after bytes one after another.
use Rattle.std.proofs.Common.{◌≡◌, refl, sym, ap, ◌∙◌, ℕ, ◌+◌, ◌<◌, List, [], ◌∷◌, ◌++◌, length, take, Bool, true, false, ◌&&◌}
use Rattle.std.specs.Prelude.{Option, Some, None, slice_index, option_and_then, if◌then◌else◌}
use Rattle.std.proofs.lemmas.List.{take_more}
use Rattle.core_links.specs.Steps.{run, step}
use Rattle.core_links.specs.declared.reader.Reader.{Reader}

pub run_append : (r : Option Reader) (xs ys : List ℕ) → run r (xs ++ ys) ≡ run (run r xs) ys
run_append r [] ys = refl
run_append r (x ∷ xs) ys = run_append (option_and_then (λ s. step s x) r) xs ys

pub run_none : (xs : List ℕ) → run None xs ≡ None
run_none [] = refl
run_none (x ∷ xs) = run_none xs

-- from one reader to another and from that on
pub run_then : (r : Option Reader) (xs ys : List ℕ) (s t : Option Reader) → run r xs ≡ s → run s ys ≡ t → run r (xs ++ ys) ≡ t
run_then r xs ys s t a b = run_append r xs ys ∙ ap (λ (o : Option Reader). run o ys) a ∙ b

-- one byte more
pub run_more : (r : Option Reader) (bytes : List ℕ) (i b : ℕ) (s : Reader) → i < length bytes → b ≡ slice_index bytes i → run r (take i bytes) ≡ Some s → run r (take (i + 1) bytes) ≡ step s b
run_more r bytes i b s within is a =
    ap (λ (xs : List ℕ). run r xs) (take_more bytes i 0 within)
    ∙ run_then r (take i bytes) (slice_index bytes i ∷ []) (Some s) (step s (slice_index bytes i)) a refl
    ∙ ap (λ (c : ℕ). step s c) (sym is)

-- ---- tests

pub if_true : {A : Type 0} (b : Bool) (x y : A) → b ≡ true → (if b then x else y) ≡ x
if_true true x y e = refl
if_true false x y e = absurd cc

pub both_true : (b c : Bool) → (b && c) ≡ true → (b ≡ true) × (c ≡ true)
both_true true true e = (refl, refl)
both_true true false e = absurd cc
both_true false c e = absurd cc

-- a property of both values of a choice is one of the choice
pub by_test : {A : Type 0} (b : Bool) (x y : A) (P : A → Type 0) → (b ≡ true → P x) → (b ≡ false → P y) → P (if b then x else y)
by_test true x y P f g = f refl
by_test false x y P f g = g refl

pub step_taken : (b : Bool) (o : Option Reader) (s : Reader) → o ≡ (if b then Some s else None) → b ≡ true → o ≡ Some s
step_taken true o s is e = is
step_taken false o s is e = absurd cc

pub step_refused : (b : Bool) (o : Option Reader) (s : Reader) → o ≡ (if b then Some s else None) → b ≡ false → o ≡ None
step_refused false o s is e = is
step_refused true o s is e = absurd cc
