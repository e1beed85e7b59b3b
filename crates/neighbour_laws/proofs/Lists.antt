-- Elements that are found in lists, and parts of lists that stay.
use Rattle.std.proofs.Common.{◌≡◌, ◌∙◌, ℕ, zero, suc, Bool, true, false, not, cond, List, [], ◌∷◌, map, filter, find, remove, Option, Some, None, refl, sym, ap, subst}
use Rattle.std.specs.Prelude.{All, ◌||◌, slice_set}
use Rattle.std.specs.List.{list_any}
use Rattle.std.proofs.lemmas.Option.{same_Some}
use Rattle.std.proofs.lemmas.List.Elements.{All-head, All-tail}
use Rattle.coap_observe.specs.Watching.{where_so, with_first}
use Rattle.coap_blocks.proofs.Lists.{rest_of}

-- what holds of all holds of the one that is found
pub found_all : {X : Type 0} (P : X → Type 0) (test : X → Bool) (xs : List X) (x : X) → find test xs ≡ Some x → All P xs → P x
found_all P test [] x found all = absurd (let e : None ≡ Some x = found in cc)
found_all {X} P test (y ∷ xs) x found all = by (test y) found (λ is. found_all P test xs x is (All-tail P y xs all))
  where
    by : (b : Bool) → cond b (Some y) (find test xs) ≡ Some x → (find test xs ≡ Some x → P x) → P x
    by true is rest = subst P (same_Some y x is) (All-head P y xs all)
    by false is rest = rest is

-- the one that is found passes
pub found_is : {X : Type 0} (test : X → Bool) (xs : List X) (x : X) → find test xs ≡ Some x → test x ≡ true
found_is test [] x found = absurd (let e : None ≡ Some x = found in cc)
found_is {X} test (y ∷ xs) x found = by (test y) refl found (λ is. found_is test xs x is)
  where
    by : (b : Bool) → test y ≡ b → cond b (Some y) (find test xs) ≡ Some x → (find test xs ≡ Some x → test x ≡ true) → test x ≡ true
    by true at is rest = subst (λ (z : X). test z ≡ true) (same_Some y x is) at
    by false at is rest = rest is

-- ---- a test

pub never : (b : Bool) → b ≡ true → b ≡ false → ⊥
never true is isnt = absurd cc
never false is isnt = absurd cc

pub not_true : (b : Bool) → (b ≡ true → ⊥) → b ≡ false
not_true true no_way = absurd (no_way refl)
not_true false no_way = refl

pub not_false : (b : Bool) → not b ≡ true → b ≡ false
not_false true is = absurd cc
not_false false is = refl

-- ---- parts of a list

-- those that pass a weaker test first
pub filter_apart : {X : Type 0} (q p : X → Bool) → ((x : X) → q x ≡ true → p x ≡ true) → (xs : List X) → filter q (filter p xs) ≡ filter q xs
filter_apart q p weaker [] = refl
filter_apart {X} q p weaker (x ∷ xs) = by (p x) (q x) refl refl (filter_apart q p weaker xs)
  where
    by : (b c : Bool) → p x ≡ b → q x ≡ c → filter q (filter p xs) ≡ filter q xs → filter q (cond b (x ∷ filter p xs) (filter p xs)) ≡ cond c (x ∷ filter q xs) (filter q xs)
    by true true t u rest = ap (λ (d : Bool). cond d (x ∷ filter q (filter p xs)) (filter q (filter p xs))) u ∙ ap (λ (l : List X). x ∷ l) rest
    by true false t u rest = ap (λ (d : Bool). cond d (x ∷ filter q (filter p xs)) (filter q (filter p xs))) u ∙ rest
    by false true t u rest = absurd (never (p x) (weaker x u) t)
    by false false t u rest = rest

pub filter_commutes : {X : Type 0} (q p : X → Bool) (xs : List X) → filter q (filter p xs) ≡ filter p (filter q xs)
filter_commutes q p [] = refl
filter_commutes {X} q p (x ∷ xs) = by (p x) (q x) refl refl (filter_commutes q p xs)
  where
    by : (b c : Bool) → p x ≡ b → q x ≡ c → filter q (filter p xs) ≡ filter p (filter q xs) → filter q (cond b (x ∷ filter p xs) (filter p xs)) ≡ filter p (cond c (x ∷ filter q xs) (filter q xs))
    by true true t u rest =
        ap (λ (d : Bool). cond d (x ∷ filter q (filter p xs)) (filter q (filter p xs))) u ∙ ap (λ (l : List X). x ∷ l) rest
        ∙ sym (ap (λ (d : Bool). cond d (x ∷ filter p (filter q xs)) (filter p (filter q xs))) t)
    by true false t u rest = ap (λ (d : Bool). cond d (x ∷ filter q (filter p xs)) (filter q (filter p xs))) u ∙ rest
    by false true t u rest = rest ∙ sym (ap (λ (d : Bool). cond d (x ∷ filter p (filter q xs)) (filter p (filter q xs))) t)
    by false false t u rest = rest

-- a change of those that aren't in the part
pub filter_changed : {X : Type 0} (q p : X → Bool) (f : X → X) → ((x : X) → p x ≡ true → q x ≡ false) → ((x : X) → q (f x) ≡ q x) → (xs : List X) → filter q (map (where_so p f) xs) ≡ filter q xs
filter_changed q p f others keeps [] = refl
filter_changed {X} q p f others keeps (x ∷ xs) = by (p x) refl (filter_changed q p f others keeps xs)
  where
    by : (b : Bool) → p x ≡ b → filter q (map (where_so p f) xs) ≡ filter q xs
        → cond (q (cond b (f x) x)) (cond b (f x) x ∷ filter q (map (where_so p f) xs)) (filter q (map (where_so p f) xs)) ≡ cond (q x) (x ∷ filter q xs) (filter q xs)
    by true t rest =
        ap (λ (d : Bool). cond d (f x ∷ filter q (map (where_so p f) xs)) (filter q (map (where_so p f) xs))) (keeps x ∙ others x t) ∙ rest
        ∙ sym (ap (λ (d : Bool). cond d (x ∷ filter q xs) (filter q xs)) (others x t))
    by false t rest = ap (λ (l : List X). cond (q x) (x ∷ l) l) rest

-- a change of all
pub filter_map : {X : Type 0} (q : X → Bool) (f : X → X) → ((x : X) → q (f x) ≡ q x) → (xs : List X) → filter q (map f xs) ≡ map f (filter q xs)
filter_map q f keeps [] = refl
filter_map {X} q f keeps (x ∷ xs) = ap (λ (d : Bool). cond d (f x ∷ filter q (map f xs)) (filter q (map f xs))) (keeps x) ∙ by (q x) (filter_map q f keeps xs)
  where
    by : (b : Bool) → filter q (map f xs) ≡ map f (filter q xs) → cond b (f x ∷ filter q (map f xs)) (filter q (map f xs)) ≡ map f (cond b (x ∷ filter q xs) (filter q xs))
    by true rest = ap (λ (l : List X). f x ∷ l) rest
    by false rest = rest

-- the first of others is changed
pub first_of_others : {X : Type 0} (q p : X → Bool) (f : X → X) (xs : List X) (w : X) → find p xs ≡ Some w → q w ≡ false → ((x : X) → q (f x) ≡ q x) → filter q (with_first p f xs) ≡ filter q xs
first_of_others q p f [] w found other keeps = refl
first_of_others {X} q p f (x ∷ xs) w found other keeps = by (p x) found (λ is. first_of_others q p f xs w is other keeps)
  where
    by : (b : Bool) → cond b (Some x) (find p xs) ≡ Some w → (find p xs ≡ Some w → filter q (with_first p f xs) ≡ filter q xs)
        → filter q (cond b (f x ∷ xs) (x ∷ with_first p f xs)) ≡ cond (q x) (x ∷ filter q xs) (filter q xs)
    by true is rest =
        let here : q x ≡ false = ap q (same_Some x w is) ∙ other in
        ap (λ (d : Bool). cond d (f x ∷ filter q xs) (filter q xs)) (keeps x ∙ here) ∙ sym (ap (λ (d : Bool). cond d (x ∷ filter q xs) (filter q xs)) here)
    by false is rest = ap (λ (l : List X). cond (q x) (x ∷ l) l) (rest is)

-- or the first of the part
pub first_of_own : {X : Type 0} (q p : X → Bool) (f : X → X) (xs : List X) (w : X) → find p xs ≡ Some w → q w ≡ true → ((x : X) → q (f x) ≡ q x) → filter q (with_first p f xs) ≡ with_first p f (filter q xs)
first_of_own q p f [] w found own keeps = refl
first_of_own {X} q p f (x ∷ xs) w found own keeps = by (p x) (q x) refl refl found (λ is. first_of_own q p f xs w is own keeps)
  where
    by : (b c : Bool) → p x ≡ b → q x ≡ c → cond b (Some x) (find p xs) ≡ Some w → (find p xs ≡ Some w → filter q (with_first p f xs) ≡ with_first p f (filter q xs)) → filter q (cond b (f x ∷ xs) (x ∷ with_first p f xs)) ≡ with_first p f (cond c (x ∷ filter q xs) (filter q xs))
    by true true t u is rest =
        ap (λ (d : Bool). cond d (f x ∷ filter q xs) (filter q xs)) (keeps x ∙ u) ∙ sym (ap (λ (d : Bool). cond d (f x ∷ filter q xs) (x ∷ with_first p f (filter q xs))) t)
    by true false t u is rest = absurd (never (q w) own (sym (ap q (same_Some x w is)) ∙ u))
    by false true t u is rest =
        ap (λ (d : Bool). cond d (x ∷ filter q (with_first p f xs)) (filter q (with_first p f xs))) u
        ∙ ap (λ (l : List X). x ∷ l) (rest is) ∙ sym (ap (λ (d : Bool). cond d (f x ∷ filter q xs) (x ∷ with_first p f (filter q xs))) t)
    by false false t u is rest = ap (λ (d : Bool). cond d (x ∷ filter q (with_first p f xs)) (filter q (with_first p f xs))) u ∙ rest is

-- where none is found, none is found in a part
pub none_of_part : {X : Type 0} (p q : X → Bool) (xs : List X) → find p xs ≡ None → find p (filter q xs) ≡ None
none_of_part p q [] none = refl
none_of_part {X} p q (x ∷ xs) none = by (p x) (q x) refl none (λ is. none_of_part p q xs is)
  where
    by : (b c : Bool) → p x ≡ b → cond b (Some x) (find p xs) ≡ None → (find p xs ≡ None → find p (filter q xs) ≡ None) → find p (cond c (x ∷ filter q xs) (filter q xs)) ≡ None
    by true c t is rest = absurd (let e : Some x ≡ None = is in cc)
    by false true t is rest = ap (λ (d : Bool). cond d (Some x) (find p (filter q xs))) t ∙ rest is
    by false false t is rest = rest is

-- whether one of the part passes a test that only those of the part pass
pub any_of_part : {X : Type 0} (p q : X → Bool) → ((x : X) → p x ≡ true → q x ≡ true) → (xs : List X) → list_any p (filter q xs) ≡ list_any p xs
any_of_part p q inside [] = refl
any_of_part {X} p q inside (x ∷ xs) = by (p x) (q x) refl refl (any_of_part p q inside xs)
  where
    by : (b c : Bool) → p x ≡ b → q x ≡ c → list_any p (filter q xs) ≡ list_any p xs → list_any p (cond c (x ∷ filter q xs) (filter q xs)) ≡ (b || list_any p xs)
    by true true t u rest = ap (λ (d : Bool). d || list_any p (filter q xs)) t
    by true false t u rest = absurd (never (q x) (inside x t) u)
    by false true t u rest = ap (λ (d : Bool). d || list_any p (filter q xs)) t ∙ rest
    by false false t u rest = rest

-- two tests that agree on a list
pub find_agrees : {X : Type 0} (p q : X → Bool) (xs : List X) → All (λ x. p x ≡ q x) xs → find p xs ≡ find q xs
find_agrees p q [] all = refl
find_agrees {X} p q (x ∷ xs) all =
    ap (λ (d : Bool). cond d (Some x) (find p xs)) (All-head (λ (y : X). p y ≡ q y) x xs all)
    ∙ ap (λ (o : Option X). cond (q x) (Some x) o) (find_agrees p q xs (All-tail (λ (y : X). p y ≡ q y) x xs all))

pub first_agrees : {X : Type 0} (p q : X → Bool) (f : X → X) (xs : List X) → All (λ x. p x ≡ q x) xs → with_first p f xs ≡ with_first q f xs
first_agrees p q f [] all = refl
first_agrees {X} p q f (x ∷ xs) all =
    ap (λ (d : Bool). cond d (f x ∷ xs) (x ∷ with_first p f xs)) (All-head (λ (y : X). p y ≡ q y) x xs all)
    ∙ ap (λ (l : List X). cond (q x) (f x ∷ xs) (x ∷ l)) (first_agrees p q f xs (All-tail (λ (y : X). p y ≡ q y) x xs all))

-- ---- one place of a list

-- the element at a place isn't in the part
abbrev pub FailsAt : {X : Type 0} → (X → Bool) → List X → ℕ → Type 0
FailsAt q [] i = Unit {0}
FailsAt q (x ∷ xs) zero = q x ≡ false
FailsAt q (x ∷ xs) (suc i) = FailsAt q xs i

pub filter_removed : {X : Type 0} (q : X → Bool) (xs : List X) (i : ℕ) → FailsAt q xs i → filter q (remove xs i) ≡ filter q xs
filter_removed q [] i fails = by i
  where
    by : (i : ℕ) → filter q (remove [] i) ≡ []
    by zero = refl
    by (suc i) = refl
filter_removed {X} q (x ∷ xs) zero fails = sym (ap (λ (d : Bool). cond d (x ∷ filter q xs) (filter q xs)) fails)
filter_removed {X} q (x ∷ xs) (suc i) fails = ap (λ (l : List X). cond (q x) (x ∷ l) l) (filter_removed q xs i fails)

pub filter_set : {X : Type 0} (q : X → Bool) (xs : List X) (i : ℕ) (y : X) → FailsAt q xs i → q y ≡ false → filter q (slice_set xs i y) ≡ filter q xs
filter_set q [] i y fails other = refl
filter_set {X} q (x ∷ xs) zero y fails other =
    ap (λ (d : Bool). cond d (y ∷ filter q xs) (filter q xs)) other ∙ sym (ap (λ (d : Bool). cond d (x ∷ filter q xs) (filter q xs)) fails)
filter_set {X} q (x ∷ xs) (suc i) y fails other = ap (λ (l : List X). cond (q x) (x ∷ l) l) (filter_set q xs i y fails other)

pub set_fails : {X : Type 0} (q : X → Bool) (xs : List X) (i : ℕ) (y : X) → q y ≡ false → FailsAt q (slice_set xs i y) i
set_fails q [] i y other = tt
set_fails q (x ∷ xs) zero y other = other
set_fails q (x ∷ xs) (suc i) y other = set_fails q xs i y other

-- without the first that passes a test that none of the part passes
pub filter_rest : {X : Type 0} (q p : X → Bool) → ((x : X) → p x ≡ true → q x ≡ false) → (xs : List X) → filter q (rest_of p xs) ≡ filter q xs
filter_rest q p others [] = refl
filter_rest {X} q p others (x ∷ xs) = by (p x) refl (filter_rest q p others xs)
  where
    by : (b : Bool) → p x ≡ b → filter q (rest_of p xs) ≡ filter q xs → filter q (cond b xs (x ∷ rest_of p xs)) ≡ cond (q x) (x ∷ filter q xs) (filter q xs)
    by true t rest = sym (ap (λ (d : Bool). cond d (x ∷ filter q xs) (filter q xs)) (others x t))
    by false t rest = ap (λ (l : List X). cond (q x) (x ∷ l) l) rest
