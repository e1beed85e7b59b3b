-- The forms that the segments of a path have, by its route.
use Rattle.std.proofs.Common.{◌≡◌, ℕ, Bool, true, false, cond, List, [], ◌∷◌, refl}
use Rattle.std.specs.Prelude.{codes, ◌&&◌}
use Rattle.std.specs.Str.{bytes_eq}
use Rattle.std.proofs.lemmas.Slice.Eq.{bytes_eq-Decides}
use Rattle.thing_ops.specs.declared.routing.RouteKind.{RouteKind}
use Rattle.thing_ops.specs.declared.routing.RouteKind.TheVariants as route
use Rattle.thing_ops.specs.Routes.{entry_id, invocation_id, invocation_in, route_of}

same_word : (m word : List ℕ) → bytes_eq m word ≡ true → m ≡ word
same_word m word is = (bytes_eq-Decides m word).0 is

-- ---- two segments

pub data TwoForms (m : List ℕ) (r : RouteKind) : Type 0 where
  root : r ≡ route.Root → TwoForms m r
  all : m ≡ codes "properties" → r ≡ route.All → TwoForms m r
  nowhere : r ≡ route.Nowhere → TwoForms m r

pub two_forms : (s m : List ℕ) → bytes_eq s (codes "things") ≡ false → TwoForms m (route_of (s ∷ m ∷ []))
two_forms s m isnt = by (bytes_eq m (codes "wot") && bytes_eq s (codes ".well-known")) (entry_id m) (bytes_eq s (codes "things")) (bytes_eq m (codes "properties")) refl isnt
  where
    by : (w e t p : Bool) → bytes_eq m (codes "properties") ≡ p → t ≡ false
        → TwoForms m (cond w route.Root (cond (e && t) route.Entry (cond (p && true) route.All route.Nowhere)))
    by true e t p is none = root refl
    by false e true p is none = absurd cc
    by false true false true is none = all (same_word m (codes "properties") is) refl
    by false true false false is none = nowhere refl
    by false false false true is none = all (same_word m (codes "properties") is) refl
    by false false false false is none = nowhere refl

-- ---- three segments

pub data ThreeForms (m : List ℕ) (r : RouteKind) : Type 0 where
  property : m ≡ codes "properties" → r ≡ route.Property → ThreeForms m r
  action : m ≡ codes "actions" → r ≡ route.Action → ThreeForms m r
  event : m ≡ codes "events" → r ≡ route.Event → ThreeForms m r
  no_place : r ≡ route.Nowhere → ThreeForms m r

pub three_forms : (s m n : List ℕ) → ThreeForms m (route_of (s ∷ m ∷ n ∷ []))
three_forms s m n = by (bytes_eq m (codes "properties")) (bytes_eq m (codes "actions")) (bytes_eq m (codes "events")) refl refl refl
  where
    by : (p a e : Bool) → bytes_eq m (codes "properties") ≡ p → bytes_eq m (codes "actions") ≡ a → bytes_eq m (codes "events") ≡ e
        → ThreeForms m (cond (p && true) route.Property (cond (a && true) route.Action (cond (e && true) route.Event route.Nowhere)))
    by true a e p_is a_is e_is = property (same_word m (codes "properties") p_is) refl
    by false true e p_is a_is e_is = action (same_word m (codes "actions") a_is) refl
    by false false true p_is a_is e_is = event (same_word m (codes "events") e_is) refl
    by false false false p_is a_is e_is = no_place refl

-- ---- four segments

pub data FourForms (m x : List ℕ) (r : RouteKind) : Type 0 where
  observe : m ≡ codes "properties" → x ≡ codes "observe" → r ≡ route.Observe → FourForms m x r
  subscribe : m ≡ codes "events" → x ≡ codes "subscribe" → r ≡ route.Subscribe → FourForms m x r
  invocation : (id : ℕ) → r ≡ route.Invocation id → FourForms m x r
  no_thing : r ≡ route.Nowhere → FourForms m x r

pub four_forms : (s m n x : List ℕ) → FourForms m x (route_of (s ∷ m ∷ n ∷ x ∷ []))
four_forms s m n x =
    by (bytes_eq x (codes "observe")) (bytes_eq m (codes "properties")) (bytes_eq x (codes "subscribe")) (bytes_eq m (codes "events")) (invocation_id x) (bytes_eq m (codes "actions")) refl refl refl refl
  where
    last : (i a : Bool) → FourForms m x (cond (i && true && a && true) (route.Invocation (invocation_in (s ∷ m ∷ n ∷ x ∷ []))) route.Nowhere)
    last true true = invocation (invocation_in (s ∷ m ∷ n ∷ x ∷ [])) refl
    last true false = no_thing refl
    last false true = no_thing refl
    last false false = no_thing refl

    second : (u e i a : Bool) → bytes_eq x (codes "subscribe") ≡ u → bytes_eq m (codes "events") ≡ e
        → FourForms m x (cond (u && true && e && true) route.Subscribe (cond (i && true && a && true) (route.Invocation (invocation_in (s ∷ m ∷ n ∷ x ∷ []))) route.Nowhere))
    second true true i a u_is e_is = subscribe (same_word m (codes "events") e_is) (same_word x (codes "subscribe") u_is) refl
    second true false i a u_is e_is = last i a
    second false true i a u_is e_is = last i a
    second false false i a u_is e_is = last i a

    by : (o p u e i a : Bool) → bytes_eq x (codes "observe") ≡ o → bytes_eq m (codes "properties") ≡ p → bytes_eq x (codes "subscribe") ≡ u → bytes_eq m (codes "events") ≡ e
        → FourForms m x (cond (o && true && p && true) route.Observe
        (cond (u && true && e && true) route.Subscribe (cond (i && true && a && true) (route.Invocation (invocation_in (s ∷ m ∷ n ∷ x ∷ []))) route.Nowhere)))
    by true true u e i a o_is p_is u_is e_is = observe (same_word m (codes "properties") p_is) (same_word x (codes "observe") o_is) refl
    by true false u e i a o_is p_is u_is e_is = second u e i a u_is e_is
    by false true u e i a o_is p_is u_is e_is = second u e i a u_is e_is
    by false false u e i a o_is p_is u_is e_is = second u e i a u_is e_is

pub five_forms : (s m n x y : List ℕ) (more : List (List ℕ)) → route_of (s ∷ m ∷ n ∷ x ∷ y ∷ more) ≡ route.Nowhere
five_forms s m n x y more = refl
