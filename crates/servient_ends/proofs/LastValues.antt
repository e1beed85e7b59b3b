-- The last values of the Things are the last values that were emitted.
use Rattle.std.proofs.Common.{◌≡◌, ◌∙◌, ℕ, Bool, true, false, cond, List, [], ◌∷◌, ◌++◌, map, refl, sym, ap, subst, arith, append_assoc}
use Rattle.std.specs.Prelude.{Option, Some, None, unwrap_or, ◌==◌, if◌then◌else◌}
use Rattle.std.proofs.lemmas.Bool.Decides.{nat_tests}
use Rattle.std.proofs.lemmas.List.{append-nil}
use Rattle.thing_site.specs.Site.{Placed}
use Rattle.thing_state.specs.State.{Emission as ThingEmission, LastValue, silent, last_of, renewed, last_after}
use Rattle.servient_world.specs.World.{Emission, value_after, last_value}
use Rattle.servient_ends.specs.Ends.{as_emission}

-- a target is one of these
abbrev pub has_target : ℕ → List LastValue → Bool
has_target target [] = false
has_target target (l ∷ last) = if l.target == target then true else has_target target last

-- ---- one more emission

renewed_target : (e : ThingEmission) (l : LastValue) → (renewed e l).target ≡ l.target
renewed_target e l = by_test (l.target == e.target)
  where
    by_test : (b : Bool) → (cond b (record l { text = Some e.text }) l).target ≡ l.target
    by_test true = refl
    by_test false = refl

renewed_text : (e : ThingEmission) (l : LastValue) → (renewed e l).text ≡ cond (l.target == e.target) (Some e.text) l.text
renewed_text e l = by_test (l.target == e.target)
  where
    by_test : (b : Bool) → (cond b (record l { text = Some e.text }) l).text ≡ cond b (Some e.text) l.text
    by_test true = refl
    by_test false = refl

renewed_has : (target : ℕ) (e : ThingEmission) (last : List LastValue) → has_target target (map (renewed e) last) ≡ has_target target last
renewed_has target e [] = refl
renewed_has target e (l ∷ last) =
    ap (λ (n : ℕ). cond (n == target) true (has_target target (map (renewed e) last))) (renewed_target e l)
    ∙ ap (λ (b : Bool). cond (l.target == target) true b) (renewed_has target e last)

pub last_has : (target : ℕ) (es : List ThingEmission) (last : List LastValue) → has_target target (last_after es last) ≡ has_target target last
last_has target [] last = refl
last_has target (e ∷ es) last = last_has target es (map (renewed e) last) ∙ renewed_has target e last

same_tests : (x y z : ℕ) → (x == z) ≡ true → (x == y) ≡ (y == z)
same_tests x y z is = grind (arith, nat_tests)

renewed_last : (target : ℕ) (e : ThingEmission) (last : List LastValue) → has_target target last ≡ true
    → last_of target (map (renewed e) last) ≡ cond (e.target == target) (Some e.text) (last_of target last)
renewed_last target e [] has = absurd cc
renewed_last target e (l ∷ last) has =
    ap (λ (n : ℕ). cond (n == target) (renewed e l).text (last_of target (map (renewed e) last))) (renewed_target e l)
    ∙ (ap (λ (x : Option (List ℕ)). cond (l.target == target) x (last_of target (map (renewed e) last))) (renewed_text e l)
    ∙ by_test (l.target == target) refl has (renewed_last target e last))
  where
    by_test : (b : Bool) → (l.target == target) ≡ b → cond b true (has_target target last) ≡ true
        → (has_target target last ≡ true → last_of target (map (renewed e) last) ≡ cond (e.target == target) (Some e.text) (last_of target last))
        → cond b (cond (l.target == e.target) (Some e.text) l.text) (last_of target (map (renewed e) last)) ≡ cond (e.target == target) (Some e.text) (cond b l.text (last_of target last))
    by_test true is there further = ap (λ (x : Bool). cond x (Some e.text) l.text) (same_tests l.target e.target target is)
    by_test false is there further = further there

value_push : (target : ℕ) (text : List ℕ) (es : List Emission) (e : Emission) → value_after target text (es ++ e ∷ []) ≡ cond (e.target == target) e.text (value_after target text es)
value_push target text [] e = refl
value_push target text (x ∷ es) e = value_push target (cond (x.target == target) x.text text) es e

-- ---- the last values say what was emitted

abbrev pub SayTheLast : List LastValue → List Emission → Type 0
SayTheLast last emitted = (target : ℕ) → has_target target last ≡ true → unwrap_or (last_of target last) [] ≡ last_value target emitted

some_or : (b : Bool) (text : List ℕ) (o : Option (List ℕ)) → unwrap_or (cond b (Some text) o) [] ≡ cond b text (unwrap_or o [])
some_or true text o = refl
some_or false text o = refl

say_one_more : (e : ThingEmission) (last : List LastValue) (emitted : List Emission) → SayTheLast last emitted → SayTheLast (map (renewed e) last) (emitted ++ as_emission e ∷ [])
say_one_more e last emitted says = λ target has.
    let there : has_target target last ≡ true = sym (renewed_has target e last) ∙ has in
    ap (λ (o : Option (List ℕ)). unwrap_or o []) (renewed_last target e last there)
    ∙ (some_or (e.target == target) e.text (last_of target last)
    ∙ (ap (λ (v : List ℕ). cond (e.target == target) e.text v) (says target there) ∙ sym (value_push target [] emitted (as_emission e))))

pub say_more : (es : List ThingEmission) (last : List LastValue) (emitted : List Emission) → SayTheLast last emitted → SayTheLast (last_after es last) (emitted ++ map as_emission es)
say_more [] last emitted says = subst (SayTheLast last) (sym (append-nil emitted)) says
say_more (e ∷ es) last emitted says =
    subst (SayTheLast (last_after es (map (renewed e) last))) (append_assoc emitted (as_emission e ∷ []) (map as_emission es))
    (say_more es (map (renewed e) last) (emitted ++ as_emission e ∷ []) (say_one_more e last emitted says))

silent_last : (target : ℕ) (ps : List Placed) → last_of target (map silent ps) ≡ None
silent_last target [] = refl
silent_last target (p ∷ ps) = by_test (p.slot == target) (silent_last target ps)
  where
    by_test : (b : Bool) → last_of target (map silent ps) ≡ None → cond b None (last_of target (map silent ps)) ≡ None
    by_test true none = refl
    by_test false none = none

-- before the first emission
pub say_nothing : (ps : List Placed) → SayTheLast (map silent ps) []
say_nothing ps = λ target has. ap (λ (o : Option (List ℕ)). unwrap_or o []) (silent_last target ps)
