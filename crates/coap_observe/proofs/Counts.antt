-- The number of elements of a list that pass a test, and whether one does, once the list is changed.
use Rattle.std.proofs.Common.{◌≡◌, suc, ◌+◌, ◌≤◌, Bool, true, false, not, cond, ◌||◌, List, [], ◌∷◌, ◌++◌, length, map, find, Some, None, refl, sym, ap, subst, ◌∙◌, arith, inl, inr}
use Rattle.std.specs.List.{filter, list_any}
use Rattle.std.proofs.lemmas.Bool.{cases_Bool}
use Rattle.coap_observe.specs.Watching.{with_first}

-- one element more in front: with tests that imply one another, a longer list stays at least as long
weigh : {X : Type 0} (s t : Bool) (x y : X) (xs ys : List X) → (s ≡ true → t ≡ true) → length xs ≤ length ys
    → length (cond s (x ∷ xs) xs) ≤ length (cond t (y ∷ ys) ys)
weigh true true x y xs ys h le = omega arith
weigh true false x y xs ys h le = absurd (let e : false ≡ true = h refl in cc)
weigh false true x y xs ys h le = omega arith
weigh false false x y xs ys h le = le

-- a change that lets no further element pass
pub count_map : {X : Type 0} (q : X → Bool) (f : X → X) → ((x : X) → q (f x) ≡ true → q x ≡ true) → (xs : List X)
    → length (filter q (map f xs)) ≤ length (filter q xs)
count_map q f h [] = omega arith
count_map q f h (x ∷ xs) = weigh (q (f x)) (q x) (f x) x (filter q (map f xs)) (filter q xs) (h x) (count_map q f h xs)

-- a test that another one follows from
pub count_weaker : {X : Type 0} (p q : X → Bool) → ((x : X) → p x ≡ true → q x ≡ true) → (xs : List X) → length (filter p xs) ≤ length (filter q xs)
count_weaker p q h [] = omega arith
count_weaker p q h (x ∷ xs) = weigh (p x) (q x) x x (filter p xs) (filter q xs) (h x) (count_weaker p q h xs)

at_least : {X : Type 0} (s : Bool) (x : X) (xs ys : List X) → length xs ≤ length ys → length xs ≤ length (cond s (x ∷ ys) ys)
at_least true x xs ys le = omega arith
at_least false x xs ys le = le

-- elements that are taken away
count_kept : {X : Type 0} (q : X → Bool) (t : Bool) (x : X) (kept all : List X) → length (filter q kept) ≤ length (filter q all)
    → length (filter q (cond t (x ∷ kept) kept)) ≤ length (filter q (x ∷ all))
count_kept q true x kept all le = weigh (q x) (q x) x x (filter q kept) (filter q all) (λ e. e) le
count_kept q false x kept all le = at_least (q x) x (filter q kept) (filter q all) le

pub count_filter : {X : Type 0} (q r : X → Bool) (xs : List X) → length (filter q (filter r xs)) ≤ length (filter q xs)
count_filter q r [] = omega arith
count_filter q r (x ∷ xs) = count_kept q (r x) x (filter r xs) xs (count_filter q r xs)

-- one element more at the end
one_more : {X : Type 0} (t : Bool) (x : X) (xs ys : List X) → length xs ≤ length ys + 1 → length (cond t (x ∷ xs) xs) ≤ length (cond t (x ∷ ys) ys) + 1
one_more true x xs ys le = omega arith
one_more false x xs ys le = le

one_alone : {X : Type 0} (t : Bool) (y : X) → length (cond t (y ∷ []) []) ≤ 0 + 1
one_alone true y = omega arith
one_alone false y = omega arith

pub count_push : {X : Type 0} (q : X → Bool) (xs : List X) (y : X) → length (filter q (xs ++ y ∷ [])) ≤ length (filter q xs) + 1
count_push q [] y = one_alone (q y) y
count_push q (x ∷ xs) y = one_more (q x) x (filter q (xs ++ y ∷ [])) (filter q xs) (count_push q xs y)

pub count_push_other : {X : Type 0} (q : X → Bool) (xs : List X) (y : X) → q y ≡ false → length (filter q (xs ++ y ∷ [])) ≤ length (filter q xs)
count_push_other {X} q [] y e = subst (λ (t : Bool). length (cond t (y ∷ []) []) ≤ 0) (sym e) (omega arith)
count_push_other q (x ∷ xs) y e = weigh (q x) (q x) x x (filter q (xs ++ y ∷ [])) (filter q xs) (λ d. d) (count_push_other q xs y e)

-- nothing passes
none_head : (s t : Bool) → (s || t) ≡ false → (s ≡ false) × (t ≡ false)
none_head true t e = absurd (cc)
none_head false t e = (refl, e)

pub none_counted : {X : Type 0} (q : X → Bool) (xs : List X) → list_any q xs ≡ false → length (filter q xs) ≡ 0
none_counted q [] e = refl
none_counted {X} q (x ∷ xs) e =
    let h = none_head (q x) (list_any q xs) e in
    subst (λ (t : Bool). length (cond t (x ∷ filter q xs) (filter q xs)) ≡ 0) (sym h.0) (none_counted q xs h.1)

-- the first that passes another test is changed
two_heads : {X : Type 0} (s t : Bool) (y x : X) (xs : List X) → length (cond s (y ∷ xs) xs) ≤ length (cond t (x ∷ xs) xs) + 1
two_heads true true y x xs = omega arith
two_heads true false y x xs = omega arith
two_heads false true y x xs = omega arith
two_heads false false y x xs = omega arith

count_changed : {X : Type 0} (q : X → Bool) (t : Bool) (y x : X) (changed xs : List X) → length (filter q changed) ≤ length (filter q xs) + 1
    → length (filter q (cond t (y ∷ xs) (x ∷ changed))) ≤ length (filter q (x ∷ xs)) + 1
count_changed q true y x changed xs le = two_heads (q y) (q x) y x (filter q xs)
count_changed q false y x changed xs le = one_more (q x) x (filter q changed) (filter q xs) le

pub count_first : {X : Type 0} (q p : X → Bool) (f : X → X) (xs : List X) → length (filter q (with_first p f xs)) ≤ length (filter q xs) + 1
count_first q p f [] = omega arith
count_first q p f (x ∷ xs) = count_changed q (p x) (f x) x (with_first p f xs) xs (count_first q p f xs)

-- and doesn't pass where it didn't before
pub count_first_other : {X : Type 0} (q p : X → Bool) (f : X → X) (xs : List X) (w : X) → find p xs ≡ Some w → (q (f w) ≡ true → q w ≡ true)
    → length (filter q (with_first p f xs)) ≤ length (filter q xs)
count_first_other q p f [] w found h = absurd (cc)
count_first_other {X} q p f (x ∷ xs) w found h = elim (cases_Bool (p x)) [
  | inl passes ↦
      let same : Some x ≡ Some w = sym (ap (λ (t : Bool). cond t (Some x) (find p xs)) passes) ∙ found in
      let is : w ≡ x = (cc) in
      subst (λ (t : Bool). length (filter q (cond t (f x ∷ xs) (x ∷ with_first p f xs))) ≤ length (filter q (x ∷ xs))) (sym passes)
      (weigh (q (f x)) (q x) (f x) x (filter q xs) (filter q xs) (subst (λ (v : X). q (f v) ≡ true → q v ≡ true) is h) (omega arith))
  | inr passes ↦
      let later : find p xs ≡ Some w = sym (ap (λ (t : Bool). cond t (Some x) (find p xs)) passes) ∙ found in
      subst (λ (t : Bool). length (filter q (cond t (f x ∷ xs) (x ∷ with_first p f xs))) ≤ length (filter q (x ∷ xs))) (sym passes)
      (weigh (q x) (q x) x x (filter q (with_first p f xs)) (filter q xs) (λ e. e) (count_first_other q p f xs w later h))
]

-- ---- whether one passes

any_kept : {X : Type 0} (q : X → Bool) (t : Bool) (x : X) (kept : List X) → q x ≡ false → list_any q kept ≡ false
    → list_any q (cond t (x ∷ kept) kept) ≡ false
any_kept q true x kept here rest = ap (λ (s : Bool). s || list_any q kept) here ∙ rest
any_kept q false x kept here rest = rest

-- elements that are taken away
pub any_filter : {X : Type 0} (q r : X → Bool) (xs : List X) → list_any q xs ≡ false → list_any q (filter r xs) ≡ false
any_filter q r [] e = refl
any_filter q r (x ∷ xs) e =
    let h = none_head (q x) (list_any q xs) e in any_kept q (r x) x (filter r xs) h.0 (any_filter q r xs h.1)

-- those that pass are taken away
any_gone : {X : Type 0} (q : X → Bool) (t : Bool) (x : X) (kept : List X) → q x ≡ t → list_any q kept ≡ false
    → list_any q (cond (not t) (x ∷ kept) kept) ≡ false
any_gone q true x kept here rest = rest
any_gone q false x kept here rest = ap (λ (s : Bool). s || list_any q kept) here ∙ rest

pub any_without : {X : Type 0} (q : X → Bool) (xs : List X) → list_any q (filter (λ x. not (q x)) xs) ≡ false
any_without q [] = refl
any_without q (x ∷ xs) = any_gone q (q x) x (filter (λ y. not (q y)) xs) refl (any_without q xs)

-- a change that keeps the parts that the test looks at
pub any_map : {X : Type 0} (q : X → Bool) (f : X → X) → ((x : X) → q (f x) ≡ q x) → (xs : List X) → list_any q (map f xs) ≡ list_any q xs
any_map q f h [] = refl
any_map q f h (x ∷ xs) = λ i. h x i || any_map q f h xs i

any_changed : {X : Type 0} (q : X → Bool) (t : Bool) (y x : X) (changed xs : List X) → q y ≡ q x → list_any q changed ≡ list_any q xs
    → list_any q (cond t (y ∷ xs) (x ∷ changed)) ≡ list_any q (x ∷ xs)
any_changed q true y x changed xs here rest = ap (λ (s : Bool). s || list_any q xs) here
any_changed q false y x changed xs here rest = ap (λ (s : Bool). q x || s) rest

pub any_first : {X : Type 0} (q p : X → Bool) (f : X → X) → ((x : X) → q (f x) ≡ q x) → (xs : List X)
    → list_any q (with_first p f xs) ≡ list_any q xs
any_first q p f h [] = refl
any_first q p f h (x ∷ xs) = any_changed q (p x) (f x) x (with_first p f xs) xs (h x) (any_first q p f h xs)

pub any_push : {X : Type 0} (q : X → Bool) (xs : List X) (y : X) → list_any q xs ≡ false → q y ≡ false → list_any q (xs ++ y ∷ []) ≡ false
any_push q [] y e here = ap (λ (s : Bool). s || false) here
any_push q (x ∷ xs) y e here =
    let h = none_head (q x) (list_any q xs) e in ap (λ (s : Bool). s || list_any q (xs ++ y ∷ [])) h.0 ∙ any_push q xs y h.1 here

-- an element that is found doesn't pass a test that nothing passes
pub found_fails : {X : Type 0} (q p : X → Bool) (xs : List X) (w : X) → find p xs ≡ Some w → list_any q xs ≡ false → q w ≡ false
found_fails q p [] w found e = absurd (cc)
found_fails {X} q p (x ∷ xs) w found e =
    let h = none_head (q x) (list_any q xs) e in
    elim (cases_Bool (p x)) [
      | inl passes ↦
          let same : Some x ≡ Some w = sym (ap (λ (t : Bool). cond t (Some x) (find p xs)) passes) ∙ found in
          let is : x ≡ w = (cc) in
          subst (λ (v : X). q v ≡ false) is h.0
      | inr passes ↦
          let later : find p xs ≡ Some w = sym (ap (λ (t : Bool). cond t (Some x) (find p xs)) passes) ∙ found in
          found_fails q p xs w later h.1
    ]

-- nothing is found that passes
pub none_passes : {X : Type 0} (q : X → Bool) (xs : List X) → find q xs ≡ None → list_any q xs ≡ false
none_passes q [] e = refl
none_passes {X} q (x ∷ xs) e = elim (cases_Bool (q x)) [
  | inl passes ↦
      let some : Some x ≡ None = sym (ap (λ (t : Bool). cond t (Some x) (find q xs)) passes) ∙ e in
      absurd (cc)
  | inr fails ↦
      let rest : find q xs ≡ None = sym (ap (λ (t : Bool). cond t (Some x) (find q xs)) fails) ∙ e in
      ap (λ (s : Bool). s || list_any q xs) fails ∙ none_passes q xs rest
]

-- an element that is found passes
pub found_passes : {X : Type 0} (p : X → Bool) (xs : List X) (w : X) → find p xs ≡ Some w → p w ≡ true
found_passes p [] w found = absurd (cc)
found_passes {X} p (x ∷ xs) w found = elim (cases_Bool (p x)) [
  | inl passes ↦
      let same : Some x ≡ Some w = sym (ap (λ (t : Bool). cond t (Some x) (find p xs)) passes) ∙ found in
      let is : x ≡ w = (cc) in
      subst (λ (v : X). p v ≡ true) is passes
  | inr fails ↦
      let later : find p xs ≡ Some w = sym (ap (λ (t : Bool). cond t (Some x) (find p xs)) fails) ∙ found in
      found_passes p xs w later
]

-- of elements of which at most one passes a test, none passes it once that one is taken away
pub few : {X : Type 0} (t : Bool) (x : X) (xs : List X) → t ≡ true → length (cond t (x ∷ xs) xs) ≤ 1 → length xs ≡ 0
few true x xs e most = omega arith
few false x xs e most = absurd (cc)

pub no_element : {X : Type 0} (q : X → Bool) (xs : List X) → length (filter q xs) ≡ 0 → list_any q xs ≡ false
no_element q [] e = refl
no_element {X} q (x ∷ xs) e = elim (cases_Bool (q x)) [
  | inl passes ↦
      let one : suc (length (filter q xs)) ≡ 0 = subst (λ (t : Bool). length (cond t (x ∷ filter q xs) (filter q xs)) ≡ 0) passes e in
      absurd (omega (arith, one))
  | inr fails ↦
      let rest : length (filter q xs) ≡ 0 = subst (λ (t : Bool). length (cond t (x ∷ filter q xs) (filter q xs)) ≡ 0) fails e in
      ap (λ (s : Bool). s || list_any q xs) fails ∙ no_element q xs rest
]

pub gone_once : {X : Type 0} (q r : X → Bool) (xs : List X) (w : X) → find r xs ≡ Some w → q w ≡ true → length (filter q xs) ≤ 1
    → list_any q (filter (λ x. not (r x)) xs) ≡ false
gone_once q r [] w found passes most = refl
gone_once {X} q r (x ∷ xs) w found passes most = elim (cases_Bool (r x)) [
  | inl here ↦
      let same : Some x ≡ Some w = sym (ap (λ (t : Bool). cond t (Some x) (find r xs)) here) ∙ found in
      let is : w ≡ x = (cc) in
      let it : q x ≡ true = subst (λ (v : X). q v ≡ true) is passes in
      subst (λ (t : Bool). list_any q (cond (not t) (x ∷ filter (λ y. not (r y)) xs) (filter (λ y. not (r y)) xs)) ≡ false) (sym here)
      (any_filter q (λ y. not (r y)) xs (no_element q xs (few (q x) x (filter q xs) it most)))
  | inr there ↦
      let later : find r xs ≡ Some w = sym (ap (λ (t : Bool). cond t (Some x) (find r xs)) there) ∙ found in
      elim (cases_Bool (q x)) [
        | inl first ↦
            let none = no_element q xs (few (q x) x (filter q xs) first most) in
            let not_it : q w ≡ false = found_fails q r xs w later none in
            absurd (cc)
        | inr other ↦
            let most_later : length (filter q xs) ≤ 1 = subst (λ (t : Bool). length (cond t (x ∷ filter q xs) (filter q xs)) ≤ 1) other most in
            any_kept q (not (r x)) x (filter (λ y. not (r y)) xs) other (gone_once q r xs w later passes most_later)
      ]
]
