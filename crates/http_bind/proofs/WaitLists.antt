-- The requests that wait, as lists.
use Rattle.std.proofs.Common.{◌≡◌, ℕ, ◌<◌, ◌≤◌, ◌==◌, ◌||◌, ◌⊎◌, inl, inr, Bool, true, false, List, [], ◌∷◌, ◌++◌, length, refl, sym, ap, subst, ◌∙◌, arith, cond, eq-eqb}
use Rattle.std.specs.Prelude.{Some, not, map, find, option_map, eqb}
use Rattle.std.specs.List.{list_any, IsDistinct, AllByRecursion}
use Rattle.std.proofs.lemmas.Bool.{eqb-true}
use Rattle.std.proofs.lemmas.Map.Steps.{length-le_from_distinct_below}
use Rattle.http_bind.specs.declared.waits.Wait.{Wait}
use Rattle.http_bind.specs.Streams.{is_wait_of, is_waiting, other_waits, oldest}

-- ---- the waits of all other connections

none_by : (c : ℕ) (w : Wait) (rest : List Wait) (t : Bool) → is_wait_of c w ≡ t → is_waiting c rest ≡ false → is_waiting c (cond (not t) (w ∷ rest) rest) ≡ false
none_by c w rest true is none = none
none_by c w rest false is none = rw is none

-- the connection isn't among them
pub none_is_left : (c : ℕ) (ws : List Wait) → is_waiting c (other_waits c ws) ≡ false
none_is_left c [] = refl
none_is_left c (w ∷ ws) = none_by c w (other_waits c ws) (is_wait_of c w) refl (none_is_left c ws)

either_true : (t u : Bool) → (t || u) ≡ true → (t ≡ true → u ≡ true) → u ≡ true
either_true true u is then_too = then_too refl
either_true false u is then_too = is

or_true : (t u v : Bool) → (t || u) ≡ true → (u ≡ true → v ≡ true) → (t || v) ≡ true
or_true true u v is more = refl
or_true false u v is more = more is

behind_true : (t u : Bool) → u ≡ true → (t || u) ≡ true
behind_true true u is = refl
behind_true false u is = is

more_by : (d : ℕ) (w : Wait) (rest ws : List Wait) (t : Bool) → (is_waiting d rest ≡ true → is_waiting d ws ≡ true) → is_waiting d (cond t (w ∷ rest) rest) ≡ true →
    is_waiting d (w ∷ ws) ≡ true
more_by d w rest ws true more is = or_true (is_wait_of d w) (is_waiting d rest) (is_waiting d ws) is more
more_by d w rest ws false more is = behind_true (is_wait_of d w) (is_waiting d ws) (more is)

-- a wait among the others was among all
pub others_wait : (c d : ℕ) (ws : List Wait) → is_waiting d (other_waits c ws) ≡ true → is_waiting d ws ≡ true
others_wait c d [] is = is
others_wait c d (w ∷ ws) is = more_by d w (other_waits c ws) ws (not (is_wait_of c w)) (others_wait c d ws) is

kept_by : (w : Wait) (rest ws : List Wait) (t u : Bool) → (t || u) ≡ false → (u ≡ false → rest ≡ ws) → cond (not t) (w ∷ rest) rest ≡ w ∷ ws
kept_by w rest ws true u is same = absurd cc
kept_by w rest ws false u is same = ap (λ (vs : List Wait). w ∷ vs) (same is)

-- where the connection doesn't wait, they are all
pub others_are_all : (c : ℕ) (ws : List Wait) → is_waiting c ws ≡ false → other_waits c ws ≡ ws
others_are_all c [] none = refl
others_are_all c (w ∷ ws) none = kept_by w (other_waits c ws) ws (is_wait_of c w) (is_waiting c ws) none (others_are_all c ws)

pub others_twice : (c : ℕ) (ws : List Wait) → other_waits c (other_waits c ws) ≡ other_waits c ws
others_twice c ws = others_are_all c (other_waits c ws) (none_is_left c ws)

pub same_number : (c : ℕ) → (c == c) ≡ true
same_number c = eq-eqb c c refl

last_by : (w : Wait) (t u : Bool) (rest lasts : List Wait) → lasts ≡ rest → cond t (w ∷ lasts) lasts ≡ cond t (w ∷ rest) rest
last_by w true u rest lasts same = ap (λ (vs : List Wait). w ∷ vs) same
last_by w false u rest lasts same = same

-- one more of the connection doesn't change them
pub others_with_one : (c : ℕ) (w : Wait) (ws : List Wait) → is_wait_of c w ≡ true → other_waits c (ws ++ w ∷ []) ≡ other_waits c ws
others_with_one c w [] is = rw is refl
others_with_one c w (v ∷ ws) is = last_by v (not (is_wait_of c v)) true (other_waits c ws) (other_waits c (ws ++ w ∷ [])) (others_with_one c w ws is)

few_by : (w : Wait) (rest ws : List Wait) (t : Bool) → length rest ≤ length ws → length (cond t (w ∷ rest) rest) ≤ length (w ∷ ws)
few_by w rest ws true few = omega (arith, few)
few_by w rest ws false few = omega (arith, few)

pub few_others : (c : ℕ) (ws : List Wait) → length (other_waits c ws) ≤ length ws
few_others c [] = omega arith
few_others c (w ∷ ws) = few_by w (other_waits c ws) ws (not (is_wait_of c w)) (few_others c ws)

fewer_by : (w : Wait) (rest ws : List Wait) (t u : Bool) → (t || u) ≡ true → length rest ≤ length ws → (u ≡ true → length rest < length ws) →
    length (cond (not t) (w ∷ rest) rest) < length (w ∷ ws)
fewer_by w rest ws true u is few fewer = omega (arith, few)
fewer_by w rest ws false u is few fewer = omega (arith, fewer is)

-- without the connection fewer wait, if it waits
pub fewer_others : (c : ℕ) (ws : List Wait) → is_waiting c ws ≡ true → length (other_waits c ws) < length ws
fewer_others c [] is = absurd cc
fewer_others c (w ∷ ws) is = fewer_by w (other_waits c ws) ws (is_wait_of c w) (is_waiting c ws) is (few_others c ws) (fewer_others c ws)

-- the connections that wait, where one more does
pub one_more_waits : (d : ℕ) (w : Wait) (ws : List Wait) → is_waiting d (ws ++ w ∷ []) ≡ true → (is_waiting d ws ≡ true) ⊎ (d ≡ w.connection)
one_more_waits d w [] is = inr (eqb-true d w.connection (alone (is_wait_of d w) is))
  where
    alone : (t : Bool) → (t || false) ≡ true → t ≡ true
    alone true e = refl
    alone false e = e
one_more_waits d w (v ∷ ws) is = among (is_wait_of d v) (is_waiting d (ws ++ w ∷ [])) is (one_more_waits d w ws)
  where
    behind : (t : Bool) → (is_waiting d ws ≡ true) ⊎ (d ≡ w.connection) → ((t || is_waiting d ws) ≡ true) ⊎ (d ≡ w.connection)
    behind t (inl there) = inl (behind_true t (is_waiting d ws) there)
    behind t (inr same) = inr same

    among : (t u : Bool) → (t || u) ≡ true → (u ≡ true → (is_waiting d ws ≡ true) ⊎ (d ≡ w.connection)) → ((t || is_waiting d ws) ≡ true) ⊎ (d ≡ w.connection)
    among true u e more = inl refl
    among false u e more = behind false (more e)

-- ---- no connection has two waits

abbrev pub connections_of : List Wait → List ℕ
connections_of ws = map (λ w. w.connection) ws

-- a connection differs from all that wait
abbrev pub DiffersFromAll : ℕ → List Wait → Type 0
DiffersFromAll c ws = AllByRecursion (λ d. eqb c d ≡ false) (connections_of ws)

differs_by : (c : ℕ) (w : Wait) (rest ws : List Wait) (t : Bool) → DiffersFromAll c (w ∷ ws) → DiffersFromAll c rest → DiffersFromAll c (cond t (w ∷ rest) rest)
differs_by c w rest ws true all others = (all.0, others)
differs_by c w rest ws false all others = others

differs_from_others : (c d : ℕ) (ws : List Wait) → DiffersFromAll d ws → DiffersFromAll d (other_waits c ws)
differs_from_others c d [] all = all
differs_from_others c d (w ∷ ws) all = differs_by d w (other_waits c ws) ws (not (is_wait_of c w)) all (differs_from_others c d ws all.1)

once_by : (w : Wait) (rest : List Wait) (t : Bool) → DiffersFromAll w.connection rest → IsDistinct eqb (connections_of rest) → IsDistinct eqb (connections_of (cond t (w ∷ rest) rest))
unfolding IsDistinct
once_by w rest true differs once = (differs, once)
once_by w rest false differs once = once

pub once_without : (c : ℕ) (ws : List Wait) → IsDistinct eqb (connections_of ws) → IsDistinct eqb (connections_of (other_waits c ws))
unfolding IsDistinct
once_without c [] once = once
once_without c (w ∷ ws) once =
    once_by w (other_waits c ws) (not (is_wait_of c w)) (differs_from_others c w.connection ws once.0) (once_without c ws once.1)

differs_from_one : (d : ℕ) (w : Wait) (ws : List Wait) → DiffersFromAll d ws → eqb d w.connection ≡ false → DiffersFromAll d (ws ++ w ∷ [])
differs_from_one d w [] all one = (one, tt)
differs_from_one d w (v ∷ ws) all one = (all.0, differs_from_one d w ws all.1 one)

isnt_both : (t : Bool) → t ≡ false → t ≡ true → ⊥
isnt_both t no_one one = cc

turned : (a b : ℕ) → (b == a) ≡ false → (a == b) ≡ false
turned a b isnt = by (a == b) refl
  where
    by : (t : Bool) → (a == b) ≡ t → t ≡ false
    by true is = absurd (isnt_both (b == a) isnt (eq-eqb b a (sym (eqb-true a b is))))
    by false is = refl

-- one that doesn't wait yet
pub once_with : (w : Wait) (ws : List Wait) → IsDistinct eqb (connections_of ws) → is_waiting w.connection ws ≡ false → IsDistinct eqb (connections_of (ws ++ w ∷ []))
unfolding IsDistinct
once_with w [] once none = (tt, tt)
once_with w (v ∷ ws) once none =
    let parts = both_false (is_wait_of w.connection v) (is_waiting w.connection ws) none in
    (differs_from_one v.connection w ws once.0 (turned v.connection w.connection parts.0), once_with w ws once.1 parts.1)
  where
    both_false : (t u : Bool) → (t || u) ≡ false → (t ≡ false) × (u ≡ false)
    both_false true u is = absurd cc
    both_false false u is = (refl, is)

-- a connection is among those that wait
among_waits : (c : ℕ) (ws : List Wait) → list_any (eqb c) (connections_of ws) ≡ is_waiting c ws
among_waits c [] = refl
among_waits c (w ∷ ws) = ap (λ (t : Bool). eqb c w.connection || t) (among_waits c ws)

-- no more wait than there are connections
pub few_wait : (ws : List Wait) (n : ℕ) → IsDistinct eqb (connections_of ws) → ((c : ℕ) → is_waiting c ws ≡ true → c < n) → length ws ≤ n
few_wait ws n once below =
    let few = length-le_from_distinct_below (connections_of ws) n once (λ c is. below c (sym (among_waits c ws) ∙ is)) in
    omega (arith, few, counted ws)
  where
    counted : (vs : List Wait) → length (connections_of vs) ≡ length vs
    counted [] = refl
    counted (v ∷ vs) = let more = counted vs in omega (arith, more)

-- ---- the oldest

oldest_by : (test : Wait → Bool) (c : ℕ) (w : Wait) (ws : List Wait) (t : Bool) → (oldest test ws ≡ Some c → is_waiting c ws ≡ true) →
    option_map (λ v. v.connection) (cond t (Some w) (find test ws)) ≡ Some c → is_waiting c (w ∷ ws) ≡ true
oldest_by test c w ws true behind is = let same : w.connection ≡ c = cc in
    subst (λ (d : ℕ). is_waiting d (w ∷ ws) ≡ true) same (ahead (is_wait_of w.connection w) (same_number w.connection))
  where
    ahead : (u : Bool) → u ≡ true → (u || is_waiting w.connection ws) ≡ true
    ahead true e = refl
    ahead false e = absurd cc
oldest_by test c w ws false behind is = behind_true (is_wait_of c w) (is_waiting c ws) (behind is)

-- the oldest of some is among those that wait
pub oldest_waits : (test : Wait → Bool) (c : ℕ) (ws : List Wait) → oldest test ws ≡ Some c → is_waiting c ws ≡ true
oldest_waits test c [] is = absurd cc
oldest_waits test c (w ∷ ws) is = oldest_by test c w ws (test w) (oldest_waits test c ws) is
