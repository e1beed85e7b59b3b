-- Bodies over whole histories.
use Rattle.std.proofs.Common.{◌≡◌, ◌-◌, ◌⊎◌, inl, inr, ℕ, zero, suc, Bool, true, false, cond, List, [], ◌∷◌, ◌++◌, drop, take, length, Some, refl, ap, sym, subst, ◌∙◌}
use Rattle.std.specs.Prelude.{◌&&◌, ◌||◌, if◌then◌else◌}
use Rattle.std.specs.List.{find, position, list_any}
use Rattle.std.proofs.lemmas.List.{take-append-drop}
use Rattle.coap_msg.specs.declared.endpoint.Endpoint.{Endpoint}
use Rattle.coap_msg.proofs.SameEndpoints.{both}
use Rattle.coap_blocks.specs.Paths.{lives}
use Rattle.coap_blocks.specs.Bodies.{Body, most_bodies, is_body_of, last, other_bodies, unreplaced, kept_bodies}
use Rattle.coap_blocks.specs.Laws.{BodiesFollowThePuts, IsLastFor, TheLastBodyIsGot, BodiesAreOnesOwn}
use Rattle.coap_blocks.proofs.Lists.{rest_of, place_removed, none_goes, replaced_last}
use Rattle.coap_blocks.proofs.Paths.{same_key, key_itself}

-- ---- the endpoint and the path of a body

pub own_is : (from : Endpoint) (path : List (List ℕ)) (b : Body) → is_body_of from path b ≡ true → (b.from ≡ from) × (b.path ≡ path)
own_is from path b e = same_key b.from from b.path path e

-- the test for a body's own endpoint and path is the test that it passes
pub same_test : (from : Endpoint) (path : List (List ℕ)) (b : Body) → is_body_of from path b ≡ true → is_body_of b.from b.path ≡ is_body_of from path
same_test from path b e =
    let is = own_is from path b e in
    ap (λ (f : Endpoint). is_body_of f b.path) is.0 ∙ ap (λ (p : List (List ℕ)). is_body_of from p) is.1

other_way : (a b : Body) → is_body_of a.from a.path b ≡ true → is_body_of b.from b.path a ≡ true
other_way a b e =
    let is = own_is a.from a.path b e in
    subst (λ (f : Endpoint). is_body_of f b.path a ≡ true) (sym is.0)
    (subst (λ (p : List (List ℕ)). is_body_of a.from p a ≡ true) (sym is.1) (key_itself a.from a.path))

other_way_not : (a b : Body) (t : Bool) → is_body_of b.from b.path a ≡ t → is_body_of a.from a.path b ≡ false → t ≡ false
other_way_not a b true e n = let wrong = other_way b a e in cc
other_way_not a b false e n = refl

-- ---- the bodies that no later one replaces

-- a test that passes nowhere passes nowhere among them
any_unreplaced : (p : Body → Bool) (bodies : List Body) → list_any p bodies ≡ false → list_any p (unreplaced bodies) ≡ false
any_unreplaced p [] e = refl
any_unreplaced p (x ∷ later) e = by_test (any_unreplaced p later) (list_any (is_body_of x.from x.path) later) (p x) (list_any p later) refl refl e
  where
    by_test : (list_any p later ≡ false → list_any p (unreplaced later) ≡ false) → (replaced here after : Bool) → p x ≡ here → list_any p later ≡ after → (here || after) ≡ false
        → list_any p (if replaced then unreplaced later else x ∷ unreplaced later) ≡ false
    by_test rest replaced true after t u h = absurd cc
    by_test rest replaced false true t u h = absurd cc
    by_test rest true false false t u h = rest u
    by_test rest false false false t u h = ap (λ (b : Bool). b || list_any p (unreplaced later)) t ∙ rest u

-- no two of them are of one endpoint and path
abbrev AreApart : List Body → Type 0
AreApart [] = Unit {0}
AreApart (b ∷ bodies) = (list_any (is_body_of b.from b.path) bodies ≡ false) × AreApart bodies

apart : (bodies : List Body) → AreApart (unreplaced bodies)
apart [] = tt
apart (x ∷ later) = by_test (list_any (is_body_of x.from x.path) later) refl (apart later)
  where
    by_test : (replaced : Bool) → list_any (is_body_of x.from x.path) later ≡ replaced → AreApart (unreplaced later) → AreApart (if replaced then unreplaced later else x ∷ unreplaced later)
    by_test true t rest = rest
    by_test false t rest = (any_unreplaced (is_body_of x.from x.path) later t, rest)

any_after : (p : Body → Bool) (xs ys : List Body) → list_any p (xs ++ ys) ≡ false → list_any p ys ≡ false
any_after p [] ys e = e
any_after p (x ∷ xs) ys e = by_test (any_after p xs ys) (p x) e
  where
    by_test : (list_any p (xs ++ ys) ≡ false → list_any p ys ≡ false) → (b : Bool) → (b || list_any p (xs ++ ys)) ≡ false → list_any p ys ≡ false
    by_test rest true h = absurd cc
    by_test rest false h = rest h

-- where one is among the first of them, none is among the others
once : (from : Endpoint) (path : List (List ℕ)) (xs ys : List Body) → AreApart (xs ++ ys) → list_any (is_body_of from path) xs ≡ true → list_any (is_body_of from path) ys ≡ false
once from path [] ys are e = absurd cc
once from path (x ∷ xs) ys are e = by_test (once from path xs ys are.1) (is_body_of from path x) refl e
  where
    by_test : (list_any (is_body_of from path) xs ≡ true → list_any (is_body_of from path) ys ≡ false) → (b : Bool) → is_body_of from path x ≡ b → (b || list_any (is_body_of from path) xs) ≡ true → list_any (is_body_of from path) ys ≡ false
    by_test rest true t h = subst (λ (p : Body → Bool). list_any p ys ≡ false) (same_test from path x t) (any_after (is_body_of x.from x.path) xs ys are.0)
    by_test rest false t h = rest h

-- one more body replaces its own, and is the last
any_push : (p : Body → Bool) (xs : List Body) (y : Body) (b : Bool) → p y ≡ b → list_any p (xs ++ y ∷ []) ≡ (list_any p xs || b)
any_push p [] y true e = ap (λ (c : Bool). c || false) e
any_push p [] y false e = ap (λ (c : Bool). c || false) e
any_push p (x ∷ xs) y b e = by_test (any_push p xs y b e) (p x)
  where
    by_test : list_any p (xs ++ y ∷ []) ≡ (list_any p xs || b) → (c : Bool) → (c || list_any p (xs ++ y ∷ [])) ≡ ((c || list_any p xs) || b)
    by_test rest true = refl
    by_test rest false = rest

pub unreplaced_push : (puts : List Body) (b : Body) → unreplaced (puts ++ b ∷ []) ≡ rest_of (is_body_of b.from b.path) (unreplaced puts) ++ b ∷ []
unreplaced_push [] b = refl
unreplaced_push (x ∷ later) b =
    by_test (list_any (is_body_of x.from x.path) later) (is_body_of x.from x.path b) (is_body_of b.from b.path x) refl refl refl (unreplaced_push later b)
  where
    chosen : (c : Bool) → list_any (is_body_of x.from x.path) (later ++ b ∷ []) ≡ c
        → unreplaced (x ∷ (later ++ b ∷ [])) ≡ (if c then unreplaced (later ++ b ∷ []) else x ∷ unreplaced (later ++ b ∷ []))
    chosen c e = ap (λ (t : Bool). if t then unreplaced (later ++ b ∷ []) else x ∷ unreplaced (later ++ b ∷ [])) e

    by_test : (replaced new back : Bool) → list_any (is_body_of x.from x.path) later ≡ replaced → is_body_of x.from x.path b ≡ new → is_body_of b.from b.path x ≡ back
        → unreplaced (later ++ b ∷ []) ≡ rest_of (is_body_of b.from b.path) (unreplaced later) ++ b ∷ []
        → unreplaced (x ∷ (later ++ b ∷ [])) ≡ rest_of (is_body_of b.from b.path) (if replaced then unreplaced later else x ∷ unreplaced later) ++ b ∷ []
    by_test true new back t n k rest = chosen true (any_push (is_body_of x.from x.path) later b new n ∙ ap (λ (c : Bool). c || new) t) ∙ rest
    by_test false true true t n k rest =
        let none : list_any (is_body_of b.from b.path) (unreplaced later) ≡ false
        = any_unreplaced (is_body_of b.from b.path) later (subst (λ (p : Body → Bool). list_any p later ≡ false) (sym (same_test x.from x.path b n)) t) in
        let gone : rest_of (is_body_of b.from b.path) (x ∷ unreplaced later) ≡ unreplaced later =
        ap (λ (c : Bool). cond c (unreplaced later) (x ∷ rest_of (is_body_of b.from b.path) (unreplaced later))) k in
        chosen true (any_push (is_body_of x.from x.path) later b true n ∙ ap (λ (c : Bool). c || true) t)
        ∙ rest
        ∙ ap (λ (l : List Body). l ++ b ∷ []) (none_goes (is_body_of b.from b.path) (unreplaced later) none ∙ sym gone)
    by_test false true false t n k rest = let wrong = other_way x b n in absurd cc
    by_test false false true t n k rest = let wrong : true ≡ false = other_way_not x b true k n in absurd cc
    by_test false false false t n k rest =
        let stays : rest_of (is_body_of b.from b.path) (x ∷ unreplaced later) ≡ x ∷ rest_of (is_body_of b.from b.path) (unreplaced later) =
        ap (λ (c : Bool). cond c (unreplaced later) (x ∷ rest_of (is_body_of b.from b.path) (unreplaced later))) k in
        chosen false (any_push (is_body_of x.from x.path) later b false n ∙ ap (λ (c : Bool). c || false) t)
        ∙ ap (λ (l : List Body). x ∷ l) rest
        ∙ ap (λ (l : List Body). l ++ b ∷ []) (sym stays)

-- ---- the laws

pub others_are : (from : Endpoint) (path : List (List ℕ)) (bodies : List Body) → other_bodies from path bodies ≡ rest_of (is_body_of from path) bodies
others_are from path bodies = place_removed (is_body_of from path) bodies (position (is_body_of from path) bodies) refl

pub bodies_follow_the_puts : BodiesFollowThePuts
bodies_follow_the_puts puts b =
    ap (last most_bodies) (unreplaced_push puts b)
    ∙ replaced_last most_bodies (is_body_of b.from b.path) b (unreplaced puts)
    (λ k. once b.from b.path (take k (unreplaced puts)) (drop k (unreplaced puts)) (subst AreApart (sym (take-append-drop k (unreplaced puts))) (apart puts)))
    ∙ ap (λ (l : List Body). last most_bodies (l ++ b ∷ [])) (sym (others_are b.from b.path (kept_bodies puts)))

-- a body that is found passes, and is in the list
abbrev IsIn : Body → List Body → Type 0
IsIn b [] = ⊥
IsIn b (x ∷ xs) = (x ≡ b) ⊎ IsIn b xs

found : (p : Body → Bool) (xs : List Body) (b : Body) → find p xs ≡ Some b → (p b ≡ true) × IsIn b xs
found p [] b e = absurd cc
found p (x ∷ xs) b e = by_test (found p xs b) (p x) refl e
  where
    by_test : (find p xs ≡ Some b → (p b ≡ true) × IsIn b xs) → (t : Bool) → p x ≡ t → cond t (Some x) (find p xs) ≡ Some b → (p b ≡ true) × IsIn b (x ∷ xs)
    by_test rest true t h = let same : x ≡ b = cc in (subst (λ (y : Body). p y ≡ true) same t, inl same)
    by_test rest false t h = let it = rest h in (it.0, inr it.1)

in_drop : (b : Body) (k : ℕ) (xs : List Body) → IsIn b (drop k xs) → IsIn b xs
in_drop b zero xs is = is
in_drop b (suc k) [] is = is
in_drop b (suc k) (x ∷ xs) is = inr (in_drop b k xs is)

-- a body that no later one replaces is the last of its endpoint and path
last_for : (from : Endpoint) (path : List (List ℕ)) (b : Body) (puts : List Body) → is_body_of from path b ≡ true → IsIn b (unreplaced puts) → IsLastFor from path b puts
last_for from path b [] own is = absurd is
last_for from path b (x ∷ later) own is = by_test (list_any (is_body_of x.from x.path) later) refl is (last_for from path b later own)
  where
    later_one : IsLastFor from path b later → IsLastFor from path b (x ∷ later)
    later_one it = record { before = x ∷ it.before; after = it.after; there = ap (λ (l : List Body). x ∷ l) it.there; own = it.own; last = it.last }

    by_test : (replaced : Bool) → list_any (is_body_of x.from x.path) later ≡ replaced → IsIn b (if replaced then unreplaced later else x ∷ unreplaced later)
        → (IsIn b (unreplaced later) → IsLastFor from path b later) → IsLastFor from path b (x ∷ later)
    by_test true t here rest = later_one (rest here)
    by_test false t (inl same) rest = record {
      before = [];
      after = later;
      there = ap (λ (y : Body). y ∷ later) same;
      own = own;
      last = subst (λ (p : Body → Bool). list_any p later ≡ false) (same_test from path x (subst (λ (y : Body). is_body_of from path y ≡ true) (sym same) own)) t;
    }
    by_test false t (inr here) rest = later_one (rest here)

pub the_last_body_is_got : TheLastBodyIsGot
the_last_body_is_got puts from path now b e =
    let it = found (λ (x : Body). is_body_of from path x && lives now x.moment) (kept_bodies puts) b e in
    let own = both (is_body_of from path b) (lives now b.moment) it.0 in
    last_for from path b puts own.0 (in_drop b (length (unreplaced puts) - most_bodies) (unreplaced puts) it.1)

pub bodies_are_ones_own : BodiesAreOnesOwn
bodies_are_ones_own bodies from path now b e =
    let it = found (λ (x : Body). is_body_of from path x && lives now x.moment) bodies b e in
    let own = both (is_body_of from path b) (lives now b.moment) it.0 in
    own_is from path b own.0
