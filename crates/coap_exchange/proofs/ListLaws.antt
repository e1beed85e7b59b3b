-- Lists: searches in a mapped list, the number of times that something is in one, and filters.
use Rattle.std.proofs.Common.{◌≡◌, ◌+◌, ◌≤◌, ◌<◌, ℕ, Bool, true, false, cond, List, [], ◌∷◌, ◌++◌, map, drop, get_or, length, Option, Some, None, refl, ap, arith, drop-cons, add-one}
use Rattle.std.specs.Option.{option_map}
use Rattle.std.specs.Prelude.{slice_get}
use Rattle.std.proofs.lemmas.Option.{slice_get-get_or}
use Rattle.std.specs.List.{find, filter, AllByRecursion}
use Rattle.coap_exchange.specs.Slots.{times}

-- the first that passes, in a mapped list
found_in_map : {A B : Type 0} (f : A → B) (x : A) (o : Option A) (p : Option B) (b : Bool) → p ≡ option_map f o → cond b (Some (f x)) p ≡ option_map f (cond b (Some x) o)
found_in_map f x o p true e = refl
found_in_map f x o p false e = e

pub find-map : {A B : Type 0} (p : B → Bool) (f : A → B) (xs : List A) → find p (map f xs) ≡ option_map f (find (λ x. p (f x)) xs)
find-map p f [] = refl
find-map p f (x ∷ xs) = found_in_map f x (find (λ y. p (f y)) xs) (find p (map f xs)) (p (f x)) (find-map p f xs)

-- a filter of a mapped list
kept_in_map : {A B : Type 0} (f : A → B) (x : A) (xs : List A) (ys : List B) (b : Bool) → ys ≡ map f xs → cond b (f x ∷ ys) ys ≡ map f (cond b (x ∷ xs) xs)
kept_in_map f x xs ys true e = ap (λ l. f x ∷ l) e
kept_in_map f x xs ys false e = e

pub filter-map : {A B : Type 0} (p : B → Bool) (f : A → B) (xs : List A) → filter p (map f xs) ≡ map f (filter (λ x. p (f x)) xs)
filter-map p f [] = refl
filter-map p f (x ∷ xs) = kept_in_map f x (filter (λ y. p (f y)) xs) (filter p (map f xs)) (p (f x)) (filter-map p f xs)

-- two tests that agree on all elements find the same one
agreeing : {A : Type 0} (x : A) (o p : Option A) (b c : Bool) → b ≡ c → o ≡ p → cond b (Some x) o ≡ cond c (Some x) p
agreeing x o p b c e h = cc

pub find_agreeing : {A : Type 0} (p q : A → Bool) (xs : List A) → AllByRecursion (λ x. p x ≡ q x) xs → find p xs ≡ find q xs
find_agreeing p q [] h = refl
find_agreeing p q (x ∷ xs) h = agreeing x (find p xs) (find q xs) (p x) (q x) h.0 (find_agreeing p q xs h.1)

-- an element that is found passes each test that is counted
counted_at : {A : Type 0} (p : A → Bool) (y x : A) (o : Option A) (n : ℕ) (b : Bool) → (o ≡ Some x → 1 ≤ n) → cond b (Some y) o ≡ Some x → p x ≡ true → 1 ≤ cond (p y) 1 0 + n
counted_at p y x o n true rec e h = let same : y ≡ x = cc in let passes : p y ≡ true = cc in rw passes (omega arith)
counted_at p y x o n false rec e h = let more : 1 ≤ n = rec e in omega arith

pub found_is_counted : {A : Type 0} (p q : A → Bool) (xs : List A) (x : A) → find q xs ≡ Some x → p x ≡ true → 1 ≤ times p xs
found_is_counted p q [] x e h = cc
found_is_counted p q (y ∷ ys) x e h = counted_at p y x (find q ys) (times p ys) (q y) (λ r. found_is_counted p q ys x r h) e h

-- an element that is counted nowhere isn't found
uncounted_at : {A : Type 0} (y : A) (o : Option A) (n : ℕ) (b : Bool) → (n ≡ 0 → o ≡ None) → cond b 1 0 + n ≡ 0 → cond b (Some y) o ≡ None
uncounted_at y o n true rec e = absurd (omega arith)
uncounted_at y o n false rec e = rec (omega arith)

pub uncounted_is_not_found : {A : Type 0} (p : A → Bool) (xs : List A) → times p xs ≡ 0 → find p xs ≡ None
uncounted_is_not_found p [] e = refl
uncounted_is_not_found p (y ∷ ys) e = uncounted_at y (find p ys) (times p ys) (p y) (uncounted_is_not_found p ys) e

-- an element that is found by one test and is the only one to pass another is found by that too
found_once_after : {A : Type 0} (y x : A) (o : Option A) (n : ℕ) (b : Bool) → 1 ≤ n → cond b 1 0 + n ≤ 1 → (n ≤ 1 → o ≡ Some x) → cond b (Some y) o ≡ Some x
found_once_after y x o n true least most rec = absurd (omega arith)
found_once_after y x o n false least most rec = rec (omega arith)

found_once_at : {A : Type 0} (p q : A → Bool) (y x : A) (ys : List A) (b : Bool) → (find q ys ≡ Some x → times p ys ≤ 1 → find p ys ≡ Some x)
    → cond b (Some y) (find q ys) ≡ Some x → p x ≡ true → cond (p y) 1 0 + times p ys ≤ 1 → cond (p y) (Some y) (find p ys) ≡ Some x
found_once_at p q y x ys true rec e h most = let same : y ≡ x = cc in let passes : p y ≡ true = cc in rw passes (ap (λ z. Some z) same)
found_once_at p q y x ys false rec e h most =
    found_once_after y x (find p ys) (times p ys) (p y) (found_is_counted p q ys x e h) most (rec e)

pub found_once : {A : Type 0} (p q : A → Bool) (xs : List A) (x : A) → find q xs ≡ Some x → p x ≡ true → times p xs ≤ 1 → find p xs ≡ Some x
found_once p q [] x e h most = cc
found_once p q (y ∷ ys) x e h most = found_once_at p q y x ys (q y) (λ r m. found_once p q ys x r h m) e h most

-- one more step of a search
pub find_past : {A : Type 0} (p : A → Bool) (xs : List A) (i : ℕ) (d : A) → i < length xs → p (get_or xs i d) ≡ false → find p (drop i xs) ≡ find p (drop (i + 1) xs)
find_past p xs i d h e = rw (add-one, drop-cons xs i d) (rw e refl)

pub find_here : {A : Type 0} (p : A → Bool) (xs : List A) (i : ℕ) (d : A) → i < length xs → p (get_or xs i d) ≡ true → find p (drop i xs) ≡ Some (get_or xs i d)
find_here p xs i d h e = rw (drop-cons xs i d) (rw e refl)

-- the value that is found of a mapped option
pub option_map_some : {A B : Type 0} (f : A → B) (o : Option A) (y : B) → option_map f o ≡ Some y → (x : A) × (o ≡ Some x) × (f x ≡ y)
option_map_some f None y e = cc
option_map_some f (Some x) y e = (x, refl, cc)

-- the number of times that something is in two lists, one after another
pub times-append : {A : Type 0} (p : A → Bool) (xs ys : List A) → times p (xs ++ ys) ≡ times p xs + times p ys
times-append p [] ys = omega arith
times-append p (x ∷ xs) ys = omega (arith, times-append p xs ys)

-- an element that is found passes the test
passes_at : {A : Type 0} (p : A → Bool) (y x : A) (o : Option A) (b : Bool) → p y ≡ b → (o ≡ Some x → p x ≡ true) → cond b (Some y) o ≡ Some x → p x ≡ true
passes_at p y x o true t rec e = let same : y ≡ x = cc in cc
passes_at p y x o false t rec e = rec e

pub found_passes : {A : Type 0} (p : A → Bool) (xs : List A) (x : A) → find p xs ≡ Some x → p x ≡ true
found_passes p [] x e = cc
found_passes p (y ∷ ys) x e = passes_at p y x (find p ys) (p y) refl (found_passes p ys x) e

-- a value that is read within a list doesn't depend on the default past it
pub read_within : {A : Type 0} (xs : List A) (i : ℕ) (d e : A) → i < length xs → get_or xs i d ≡ get_or xs i e
read_within xs i d e h =
    let one : slice_get xs i ≡ Some (get_or xs i d) = slice_get-get_or xs i d h in
    let other : slice_get xs i ≡ Some (get_or xs i e) = slice_get-get_or xs i e h in
    cc
