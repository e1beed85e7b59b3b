-- Searches by a test that at most one element passes, once the list is changed.
use Rattle.std.proofs.Common.{◌≡◌, ◌≤◌, Bool, true, false, cond, List, [], ◌∷◌, length, map, find, Option, Some, option_map, refl, sym, ap, subst, ◌∙◌, inl, inr}
use Rattle.std.specs.List.{filter, list_any}
use Rattle.std.proofs.lemmas.Bool.{cases_Bool}
use Rattle.coap_observe.specs.Watching.{with_first}
use Rattle.coap_observe.proofs.Counts.{any_filter, found_fails, found_passes as passes, few, no_element}

-- one step of a search
pub here : {X : Type 0} (q : X → Bool) (x : X) (xs : List X) → q x ≡ true → find q (x ∷ xs) ≡ Some x
here {X} q x xs e = ap (λ (t : Bool). cond t (Some x) (find q xs)) e

pub past : {X : Type 0} (q : X → Bool) (x : X) (xs : List X) → q x ≡ false → find q (x ∷ xs) ≡ find q xs
past {X} q x xs e = ap (λ (t : Bool). cond t (Some x) (find q xs)) e

fewer_behind : {X : Type 0} (q : X → Bool) (x : X) (xs : List X) → q x ≡ false → length (filter q (x ∷ xs)) ≤ 1 → length (filter q xs) ≤ 1
fewer_behind {X} q x xs e most = subst (λ (t : Bool). length (cond t (x ∷ filter q xs) (filter q xs)) ≤ 1) e most

none_behind : {X : Type 0} (q : X → Bool) (x : X) (xs : List X) → q x ≡ true → length (filter q (x ∷ xs)) ≤ 1 → list_any q xs ≡ false
none_behind q x xs e most = no_element q xs (few (q x) x (filter q xs) e most)

-- nothing is found where nothing passes
pub not_found : {X : Type 0} (q : X → Bool) (xs : List X) (v : X) → list_any q xs ≡ false → find q xs ≡ Some v → ⊥
not_found q xs v none found =
    let failing = found_fails q q xs v found none in
    let passing = passes q xs v found in
    absurd (cc)

-- a change that keeps the parts that the test looks at
pub found_map : {X : Type 0} (q : X → Bool) (f : X → X) → ((x : X) → q (f x) ≡ q x) → (xs : List X) → find q (map f xs) ≡ option_map f (find q xs)
found_map q f h [] = refl
found_map {X} q f h (x ∷ xs) = elim (cases_Bool (q x)) [
  | inl passing ↦ here q (f x) (map f xs) (h x ∙ passing) ∙ sym (ap (λ (o : Option X). option_map f o) (here q x xs passing))
  | inr failing ↦ past q (f x) (map f xs) (h x ∙ failing) ∙ found_map q f h xs ∙ sym (ap (λ (o : Option X). option_map f o) (past q x xs failing))
]

kept_here : {X : Type 0} (t : Bool) (q : X → Bool) (x : X) (kept : List X) (v : X) → q x ≡ true → list_any q kept ≡ false
    → find q (cond t (x ∷ kept) kept) ≡ Some v → v ≡ x
kept_here true q x kept v passing none found = let first : Some x ≡ Some v = sym (here q x kept passing) ∙ found in (cc)
kept_here false q x kept v passing none found = absurd (not_found q kept v none found)

kept_past : {X : Type 0} (t : Bool) (q : X → Bool) (x : X) (kept : List X) → q x ≡ false → find q kept ≡ find q (cond t (x ∷ kept) kept)
kept_past true q x kept failing = sym (past q x kept failing)
kept_past false q x kept failing = refl

-- elements that are taken away
pub found_kept : {X : Type 0} (q r : X → Bool) (xs : List X) (w v : X) → length (filter q xs) ≤ 1 → find q xs ≡ Some w
    → find q (filter r xs) ≡ Some v → v ≡ w
found_kept q r [] w v most found kept = absurd (cc)
found_kept {X} q r (x ∷ xs) w v most found kept = elim (cases_Bool (q x)) [
  | inl passing ↦
      let none = any_filter q r xs (none_behind q x xs passing most) in
      let first : Some x ≡ Some w = sym (here q x xs passing) ∙ found in
      let is : x ≡ w = (cc) in
      kept_here (r x) q x (filter r xs) v passing none kept ∙ is
  | inr failing ↦
      found_kept q r xs w v (fewer_behind q x xs failing most) (sym (past q x xs failing) ∙ found) (kept_past (r x) q x (filter r xs) failing ∙ kept)
]

-- one that isn't taken away is found still
filtered_at : {X : Type 0} (q r : X → Bool) (x : X) (xs : List X) (w : X) (b c : Bool) → q x ≡ b → r x ≡ c → cond b (Some x) (find q xs) ≡ Some w → r w ≡ true
    → (find q xs ≡ Some w → find q (filter r xs) ≡ Some w) → find q (cond c (x ∷ filter r xs) (filter r xs)) ≡ Some w
filtered_at q r x xs w true true passing t found stays rest = here q x (filter r xs) passing ∙ found
filtered_at q r x xs w true false passing t found stays rest =
    let first : Some x ≡ Some w = found in
    let is : x ≡ w = (cc) in
    let wrong : false ≡ true = sym t ∙ ap r is ∙ stays in
    absurd (cc)
filtered_at q r x xs w false true failing t found stays rest = past q x (filter r xs) failing ∙ rest found
filtered_at q r x xs w false false failing t found stays rest = rest found

pub found_filter : {X : Type 0} (q r : X → Bool) (xs : List X) (w : X) → find q xs ≡ Some w → r w ≡ true → find q (filter r xs) ≡ Some w
found_filter q r [] w found stays = found
found_filter q r (x ∷ xs) w found stays = filtered_at q r x xs w (q x) (r x) refl refl found stays (λ later. found_filter q r xs w later stays)

-- the first that passes another test is changed, and isn't the one
pub found_beside : {X : Type 0} (q p : X → Bool) (f : X → X) (xs : List X) (c : X) → find p xs ≡ Some c → q c ≡ false → q (f c) ≡ false
    → find q (with_first p f xs) ≡ find q xs
found_beside q p f [] c found failing after = refl
found_beside {X} q p f (x ∷ xs) c found failing after = elim (cases_Bool (p x)) [
  | inl passing ↦
      let first : Some x ≡ Some c = sym (here p x xs passing) ∙ found in
      let is : c ≡ x = (cc) in
      subst (λ (t : Bool). find q (cond t (f x ∷ xs) (x ∷ with_first p f xs)) ≡ find q (x ∷ xs)) (sym passing)
      (past q (f x) xs (subst (λ (v : X). q (f v) ≡ false) is after) ∙ sym (past q x xs (subst (λ (v : X). q v ≡ false) is failing)))
  | inr not_it ↦
      subst (λ (t : Bool). find q (cond t (f x ∷ xs) (x ∷ with_first p f xs)) ≡ find q (x ∷ xs)) (sym not_it)
      (ap (λ (o : Option X). cond (q x) (Some x) o) (found_beside q p f xs c (sym (past p x xs not_it) ∙ found) failing after))
]

-- or it is the one
pub found_changed : {X : Type 0} (q p : X → Bool) (f : X → X) (xs : List X) (c : X) → find p xs ≡ Some c → q c ≡ true → q (f c) ≡ true
    → length (filter q xs) ≤ 1 → (find q xs ≡ Some c) × (find q (with_first p f xs) ≡ Some (f c))
found_changed q p f [] c found passing after most = absurd (cc)
found_changed {X} q p f (x ∷ xs) c found passing after most = elim (cases_Bool (p x)) [
  | inl it ↦
      let first : Some x ≡ Some c = sym (here p x xs it) ∙ found in
      let is : c ≡ x = (cc) in
      let at : q x ≡ true = subst (λ (v : X). q v ≡ true) is passing in
      let at_it : q (f x) ≡ true = subst (λ (v : X). q (f v) ≡ true) is after in (
        here q x xs at ∙ ap (λ (v : X). Some v) (sym is),
        subst (λ (t : Bool). find q (cond t (f x ∷ xs) (x ∷ with_first p f xs)) ≡ Some (f c)) (sym it)
            (here q (f x) xs at_it ∙ ap (λ (v : X). Some (f v)) (sym is)),
      )
  | inr not_it ↦
      let later = sym (past p x xs not_it) ∙ found in
      elim (cases_Bool (q x)) [
        | inl two ↦
            let failing = found_fails q p xs c later (none_behind q x xs two most) in
            absurd (cc)
        | inr one ↦
            let rest = found_changed q p f xs c later passing after (fewer_behind q x xs one most) in (
              past q x xs one ∙ rest.0,
              subst (λ (t : Bool). find q (cond t (f x ∷ xs) (x ∷ with_first p f xs)) ≡ Some (f c)) (sym not_it)
                  (past q x (with_first p f xs) one ∙ rest.1),
            )
      ]
]
