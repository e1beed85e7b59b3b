-- Walks from slot to slot that change each, or look at all.
use Rattle.std.proofs.Common.{◌≡◌, ◌<◌, ◌||◌, ℕ, zero, suc, Bool, true, false, cond, List, [], ◌∷◌, length, get_or, set, Option, Some, inl, inr, ◌∙◌, sym, refl, ap, subst, arith}
use Rattle.std.specs.List.{list_any}
use Rattle.std.proofs.lemmas.Bool.Decides.{eqb_tells}
use Rattle.slot_lists.specs.Lists.{is_among, from_slot}
use Rattle.coap_observe.specs.declared.observer.Observer.{Observer}
use Rattle.coap_observe.specs.Kept.{observer_at}
use Rattle.coap_observe.specs.Watching.{where_so, is_of_target, marked}
use Rattle.coap_observe.proofs.KeptLaws.{observer_is, observer_stays}

-- the value that is read of a slot within the list
pub read_observer : (ws : List Observer) (slot : ℕ) (d : Observer) → slot < length ws → get_or ws slot d ≡ observer_at ws slot
read_observer ws slot d below = within ws slot below
  where
    within : (xs : List Observer) (i : ℕ) → i < length xs → get_or xs i d ≡ observer_at xs i
    within [] i h = absurd (omega arith)
    within (x ∷ xs) zero h = refl
    within (x ∷ xs) (suc i) h = within xs i (omega arith)

-- ---- a change

again_at : (f : Observer → Observer) (w : Observer) (b : Bool) → f (f w) ≡ f w → cond b (f (f w)) (f w) ≡ f w
again_at f w true e = e
again_at f w false e = refl

-- One slot was changed, and the rest is to come: it is the walk with the slot, if a change that is made twice is made
-- once.
pub walks_on : (f : Observer → Observer) → ((w : Observer) → f (f w) ≡ f w) → (ws : List Observer) (slot : ℕ) (v : Observer) (rest : List ℕ) (s : ℕ) → slot < length ws
    → v ≡ f (observer_at ws slot)
    → cond (is_among s rest) (f (observer_at (set ws slot v) s)) (observer_at (set ws slot v) s) ≡ cond (is_among s (slot ∷ rest)) (f (observer_at ws s)) (observer_at ws s)
walks_on f twice ws slot v rest s below is = elim (eqb_tells s slot) [
  | inl w ↦
      let now : observer_at (set ws slot v) s ≡ f (observer_at ws s)
      = subst (λ (z : ℕ). observer_at (set ws slot v) z ≡ f (observer_at ws z)) (sym w.1) (observer_is ws slot v below ∙ is) in
      let left : cond (is_among s rest) (f (observer_at (set ws slot v) s)) (observer_at (set ws slot v) s) ≡ f (observer_at ws s)
      = ap (λ (z : Observer). cond (is_among s rest) (f z) z) now ∙ again_at f (observer_at ws s) (is_among s rest) (twice (observer_at ws s)) in
      left ∙ ap (λ b. cond (b || is_among s rest) (f (observer_at ws s)) (observer_at ws s)) (sym w.0)
  | inr w ↦
      let now : observer_at (set ws slot v) s ≡ observer_at ws s = observer_stays ws slot s v w.1 in
      ap (λ (z : Observer). cond (is_among s rest) (f z) z) now ∙ ap (λ b. cond (b || is_among s rest) (f (observer_at ws s)) (observer_at ws s)) (sym w.0)
]

-- to mark an observer twice is to mark it once
pub marked_twice : (target : ℕ) (w : Observer) → where_so (is_of_target target) marked (where_so (is_of_target target) marked w) ≡ where_so (is_of_target target) marked w
marked_twice target w = at (is_of_target target w) refl
  where
    at : (b : Bool) → is_of_target target w ≡ b → where_so (is_of_target target) marked (cond b (marked w) w) ≡ cond b (marked w) w
    at true e = ap (λ t. cond t (marked (marked w)) (marked w)) e
    at false e = ap (λ t. cond t (marked w) w) e

-- ---- a look at all

-- none of those before passes, and those after are still to come
pub none_further : (p : ℕ → Bool) (slot : ℕ) (next : Option ℕ) (xs : List ℕ) → from_slot (Some slot) xs ≡ slot ∷ from_slot next xs → p slot ≡ false
    → list_any p (from_slot next xs) ≡ false → list_any p (from_slot (Some slot) xs) ≡ false
none_further p slot next xs e f rest = ap (list_any p) e ∙ rw f rest
