-- Lists without the first element that passes, and the last elements of lists.
use Rattle.std.proofs.Common.{◌≡◌, ◌+◌, ◌-◌, ◌≤◌, ◌<◌, ℕ, zero, suc, Bool, true, false, cond, not, List, [], ◌∷◌, ◌++◌, drop, take, get_or, remove, length, Option, Some, None, refl, ap, sym, ◌∙◌, arith, append_assoc, length-append, length-drop}
use Rattle.std.specs.Prelude.{nat_lt, ◌||◌}
use Rattle.std.specs.List.{position, position_or_len, list_any, filter}
use Rattle.std.proofs.lemmas.List.{drop-drop, take-append-drop, drop-append-le}
use Rattle.std.proofs.lemmas.Bool.Decides.{nat_tests}
use Rattle.std.proofs.lemmas.List.Quantifiers.{position-Some}
use Rattle.std.proofs.lemmas.Bool.{ltb-false}
use Rattle.std.proofs.Math.Seq.{drop-append_seam}
use Rattle.coap_blocks.specs.Bodies.{last, without_place}

-- ---- without the first that passes

abbrev pub rest_of : {A : Type 0} → (A → Bool) → List A → List A
rest_of p [] = []
rest_of p (x ∷ xs) = cond (p x) xs (x ∷ rest_of p xs)

-- the element at this place is the first that passes
removed : {A : Type 0} (p : A → Bool) (d : A) (xs : List A) (i : ℕ) → i < length xs → p (get_or xs i d) ≡ true → ((k : ℕ) → k < i → p (get_or xs k d) ≡ false)
    → remove xs i ≡ rest_of p xs
removed p d [] i within here before = absurd (omega arith)
removed p d (x ∷ xs) zero within here before = let first : p x ≡ true = here in sym (ap (λ (b : Bool). cond b xs (x ∷ rest_of p xs)) first)
removed {A} p d (x ∷ xs) (suc i) within here before =
    let other : p x ≡ false = before 0 (omega arith) in
    ap (λ (l : List A). x ∷ l) (removed p d xs i (omega arith) here (λ k h. before (suc k) (omega arith)))
    ∙ sym (ap (λ (b : Bool). cond b xs (x ∷ rest_of p xs)) other)

-- where no place is found, none passes
none_found : {A : Type 0} (p : A → Bool) (xs : List A) → position p xs ≡ None → length xs ≤ position_or_len p xs
none_found {A} p xs e = by_test (nat_lt (position_or_len p xs) (length xs)) refl e
  where
    by_test : (b : Bool) → nat_lt (position_or_len p xs) (length xs) ≡ b → cond b (Some (position_or_len p xs)) None ≡ None → length xs ≤ position_or_len p xs
    by_test true t n = absurd cc
    by_test false t n = ltb-false (position_or_len p xs) (length xs) t

all_left : {A : Type 0} (p : A → Bool) (xs : List A) → length xs ≤ position_or_len p xs → rest_of p xs ≡ xs
all_left p [] past = refl
all_left {A} p (x ∷ xs) past = by_test (all_left p xs) (p x) past
  where
    by_test : (length xs ≤ position_or_len p xs → rest_of p xs ≡ xs)
        → (b : Bool) → suc (length xs) ≤ cond (not b) (1 + position_or_len p xs) 0 → cond b xs (x ∷ rest_of p xs) ≡ x ∷ xs
    by_test rest true h = let none : suc (length xs) ≤ 0 = h in absurd (omega (arith, none))
    by_test rest false h = let more : suc (length xs) ≤ 1 + position_or_len p xs = h in ap (λ (l : List A). x ∷ l) (rest (omega (arith, more)))

-- a list without the place that is found
pub place_removed : {A : Type 0} (p : A → Bool) (xs : List A) (o : Option ℕ) → position p xs ≡ o → without_place o xs ≡ rest_of p xs
place_removed p [] None e = refl
place_removed p [] (Some i) e = absurd cc
place_removed p (x ∷ xs) None e = sym (all_left p (x ∷ xs) (none_found p (x ∷ xs) e))
place_removed p (x ∷ xs) (Some i) e = let at = position-Some p (x ∷ xs) i x e in removed p x (x ∷ xs) i at.0 at.1 at.2

-- nothing goes where none passes
pub none_goes : {A : Type 0} (p : A → Bool) (xs : List A) → list_any p xs ≡ false → rest_of p xs ≡ xs
none_goes p [] e = refl
none_goes {A} p (x ∷ xs) e = by_test (none_goes p xs) (p x) (list_any p xs) refl e
  where
    by_test : (list_any p xs ≡ false → rest_of p xs ≡ xs) → (b c : Bool) → list_any p xs ≡ c → (b || c) ≡ false → cond b xs (x ∷ rest_of p xs) ≡ x ∷ xs
    by_test rest true c t h = absurd cc
    by_test rest false true t h = absurd cc
    by_test rest false false t h = ap (λ (l : List A). x ∷ l) (rest t)

-- in two lists, of which the second has none where the first has one
pub rest-append : {A : Type 0} (p : A → Bool) (xs ys : List A) → (list_any p xs ≡ true → list_any p ys ≡ false) → rest_of p (xs ++ ys) ≡ rest_of p xs ++ rest_of p ys
rest-append p [] ys one = refl
rest-append {A} p (x ∷ xs) ys one = by_test (rest-append p xs ys) (p x) refl
  where
    by_test : ((list_any p xs ≡ true → list_any p ys ≡ false) → rest_of p (xs ++ ys) ≡ rest_of p xs ++ rest_of p ys)
        → (b : Bool) → p x ≡ b → cond b (xs ++ ys) (x ∷ rest_of p (xs ++ ys)) ≡ cond b xs (x ∷ rest_of p xs) ++ rest_of p ys
    by_test rest true t = let here : list_any p (x ∷ xs) ≡ true = ap (λ (b : Bool). b || list_any p xs) t in ap (λ (l : List A). xs ++ l) (sym (none_goes p ys (one here)))
    by_test rest false t = let there : list_any p (x ∷ xs) ≡ list_any p xs = ap (λ (b : Bool). b || list_any p xs) t in ap (λ (l : List A). x ∷ l) (rest (λ e. one (there ∙ e)))

-- one goes at most
pub one_goes : {A : Type 0} (p : A → Bool) (xs : List A) → length xs ≤ length (rest_of p xs) + 1
one_goes p [] = omega arith
one_goes {A} p (x ∷ xs) = by_test (one_goes p xs) (p x)
  where
    by_test : length xs ≤ length (rest_of p xs) + 1 → (b : Bool) → length (x ∷ xs) ≤ length (cond b xs (x ∷ rest_of p xs)) + 1
    by_test rest true = omega arith
    by_test rest false = omega (arith, rest)

pub no_more : {A : Type 0} (p : A → Bool) (xs : List A) → length (rest_of p xs) ≤ length xs
no_more p [] = omega arith
no_more {A} p (x ∷ xs) = by_test (no_more p xs) (p x)
  where
    by_test : length (rest_of p xs) ≤ length xs → (b : Bool) → length (cond b xs (x ∷ rest_of p xs)) ≤ length (x ∷ xs)
    by_test rest true = omega arith
    by_test rest false = omega (arith, rest)

-- an element that fails a test may as well be left out before it
pub filter_rest : {A : Type 0} (p : A → Bool) (xs : List A) → filter p (rest_of (λ x. not (p x)) xs) ≡ filter p xs
filter_rest p [] = refl
filter_rest {A} p (x ∷ xs) = by_test (filter_rest p xs) (p x) refl
  where
    by_test : filter p (rest_of (λ y. not (p y)) xs) ≡ filter p xs
        → (b : Bool) → p x ≡ b → filter p (cond (not b) xs (x ∷ rest_of (λ y. not (p y)) xs)) ≡ cond b (x ∷ filter p xs) (filter p xs)
    by_test rest true t =
        ap (λ (b : Bool). cond b (x ∷ filter p (rest_of (λ y. not (p y)) xs)) (filter p (rest_of (λ y. not (p y)) xs))) t ∙ ap (λ (l : List A). x ∷ l) rest
    by_test rest false t = refl

-- where no place is found that fails, all pass
all_pass : {A : Type 0} (p : A → Bool) (xs : List A) → length xs ≤ position_or_len (λ x. not (p x)) xs → filter p xs ≡ xs
all_pass p [] past = refl
all_pass {A} p (x ∷ xs) past = by_test (all_pass p xs) (p x) past
  where
    by_test : (length xs ≤ position_or_len (λ y. not (p y)) xs → filter p xs ≡ xs)
        → (b : Bool) → suc (length xs) ≤ cond (not (not b)) (1 + position_or_len (λ y. not (p y)) xs) 0 → cond b (x ∷ filter p xs) (filter p xs) ≡ x ∷ xs
    by_test rest true h = let more : suc (length xs) ≤ 1 + position_or_len (λ y. not (p y)) xs = h in ap (λ (l : List A). x ∷ l) (rest (omega (arith, more)))
    by_test rest false h = let none : suc (length xs) ≤ 0 = h in absurd (omega (arith, none))

pub none_fails : {A : Type 0} (p : A → Bool) (xs : List A) → position (λ x. not (p x)) xs ≡ None → filter p xs ≡ xs
none_fails p xs e = all_pass p xs (none_found (λ x. not (p x)) xs e)

-- ---- the last ones

-- the last n of two lists, where the second has as many
pub last-append : {A : Type 0} (n : ℕ) (xs ys : List A) → n ≤ length ys → last n (xs ++ ys) ≡ last n ys
last-append n xs ys enough =
    let count : length (xs ++ ys) - n ≡ length xs + (length ys - n) = omega (arith, length-append xs ys) in
    ap (λ (k : ℕ). drop k (xs ++ ys)) count
    ∙ sym (drop-drop (length ys - n) (length xs) (xs ++ ys))
    ∙ ap (drop (length ys - n)) (drop-append_seam xs ys)

-- a list that is no longer is its own last elements
pub last_is_all : {A : Type 0} (n : ℕ) (xs : List A) → length xs ≤ n → last n xs ≡ xs
last_is_all n xs few = let none : length xs - n ≡ 0 = omega arith in ap (λ (k : ℕ). drop k xs) none

-- the last n + 1 of a list with one more
pub last_push : {A : Type 0} (n : ℕ) (xs : List A) (y : A) → last (n + 1) (xs ++ y ∷ []) ≡ last n xs ++ y ∷ []
last_push n xs y =
    let count : length (xs ++ y ∷ []) - (n + 1) ≡ length xs - n = omega (arith, length-append xs (y ∷ [])) in
    ap (λ (k : ℕ). drop k (xs ++ y ∷ [])) count ∙ drop-append-le (length xs - n) xs (y ∷ []) (omega arith)

-- One that goes and one that comes leave the last n of a list to its last n, if one at most passes.
replaced_beyond : {A : Type 0} (n : ℕ) (p : A → Bool) (y : A) (xs ys : List A) → (list_any p xs ≡ true → list_any p ys ≡ false) → n ≤ length ys
    → last n (rest_of p (xs ++ ys) ++ y ∷ []) ≡ last n (rest_of p ys ++ y ∷ [])
replaced_beyond {A} n p y xs ys one enough =
    ap (λ (l : List A). last n (l ++ y ∷ [])) (rest-append p xs ys one)
    ∙ ap (last n) (append_assoc (rest_of p xs) (rest_of p ys) (y ∷ []))
    ∙ last-append n (rest_of p xs) (rest_of p ys ++ y ∷ []) (omega (arith, one_goes p ys, length-append (rest_of p ys) (y ∷ []), enough))

pub replaced_last : {A : Type 0} (n : ℕ) (p : A → Bool) (y : A) (xs : List A)
    → ((k : ℕ) → list_any p (take k xs) ≡ true → list_any p (drop k xs) ≡ false)
    → last n (rest_of p xs ++ y ∷ []) ≡ last n (rest_of p (last n xs) ++ y ∷ [])
replaced_last {A} n p y xs one = by_test (nat_lt (length xs) n) refl
  where
    by_test : (b : Bool) → nat_lt (length xs) n ≡ b → last n (rest_of p xs ++ y ∷ []) ≡ last n (rest_of p (last n xs) ++ y ∷ [])
    by_test true t =
        let few : length xs ≤ n = grind (arith, nat_tests) in
        ap (λ (l : List A). last n (rest_of p l ++ y ∷ [])) (sym (last_is_all n xs few))
    by_test false t =
        let many : n ≤ length xs = grind (arith, nat_tests) in
        let enough : n ≤ length (drop (length xs - n) xs) = omega (arith, length-drop (length xs - n) xs) in
        ap (λ (l : List A). last n (rest_of p l ++ y ∷ [])) (sym (take-append-drop (length xs - n) xs))
        ∙ replaced_beyond n p y (take (length xs - n) xs) (drop (length xs - n) xs) (one (length xs - n)) enough
