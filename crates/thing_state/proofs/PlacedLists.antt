-- Affordances with their slots, gone through one by one while the state of a run is made.
use Rattle.std.proofs.Common.{◌≡◌, ℕ, zero, suc, ◌+◌, List, [], ◌∷◌, ◌++◌, map, drop, Bool, true, false, refl, sym, ap, ◌∙◌, arith, append_assoc, inl, inr}
use Rattle.std.specs.Prelude.{slice_get, Some, None}
use Rattle.std.specs.List.{filter}
use Rattle.std.proofs.lemmas.List.{at_drop_all, append-nil}
use Rattle.std.proofs.lemmas.Option.{same_Some, slice_get_cases}
use Rattle.wot_terms.specs.declared.kind.Kind.TheVariants as kind
use Rattle.thing_site.specs.Site.{Placed, is_emitter, of_kind}
use Rattle.thing_state.specs.State.{LastValue, Version, silent, unseen}

-- the next one
next_placed : (ps : List Placed) (i : ℕ) (p : Placed) → slice_get ps i ≡ Some p → drop i ps ≡ p ∷ drop (i + 1) ps
next_placed [] i p given = absurd cc
next_placed (q ∷ ps) zero p given = ap (λ (x : Placed). x ∷ ps) (same_Some q p given)
next_placed (q ∷ ps) (suc i) p given = next_placed ps i p given ∙ (let e : suc (i + 1) ≡ suc i + 1 = omega arith in ap (λ (n : ℕ). p ∷ drop n (q ∷ ps)) e)

pub placed_more : {Y : Type 0} (F : List Placed → Y) (ps : List Placed) (i : ℕ) (p : Placed) → slice_get ps i ≡ Some p → F (drop i ps) ≡ F (p ∷ drop (i + 1) ps)
placed_more F ps i p given = ap F (next_placed ps i p given)

-- there is none
pub placed_end : {Y : Type 0} (F : List Placed → Y) (ps : List Placed) (i : ℕ) → slice_get ps i ≡ None → F (drop i ps) ≡ F []
placed_end F ps i given = elim (slice_get_cases ps i).1 [
  | inl stands ↦ absurd (let stood : slice_get ps i ≡ Some stands.0 = stands.2 in cc)
  | inr past ↦ at_drop_all F ps i past.0
]

-- one after others among those that may emit
pub silent_more : (last new : List LastValue) (p : Placed) (ps : List Placed) → new ≡ last ++ map silent (filter is_emitter (p ∷ [])) → last ++ map silent (filter is_emitter (p ∷ ps)) ≡ new ++ map silent (filter is_emitter ps)
silent_more last new p ps grown = by_test (is_emitter p) refl
  where
    by_test : (b : Bool) → is_emitter p ≡ b → last ++ map silent (filter is_emitter (p ∷ ps)) ≡ new ++ map silent (filter is_emitter ps)
    by_test true e =
        let one : new ≡ last ++ silent p ∷ [] = grown ∙ rw e refl in
        rw (e, one) (sym (append_assoc last (silent p ∷ []) (map silent (filter is_emitter ps))))
    by_test false e =
        let same : new ≡ last = grown ∙ rw e (append-nil last) in
        rw (e, same) refl

-- one after another among the properties
abbrev pub properties_among : List Placed → List Placed
properties_among ps = filter (of_kind kind.Property) ps

pub unseen_more : (left_out : ℕ) (versions new : List Version) (p : Placed) (ps : List Placed) → new ≡ versions ++ map (unseen left_out) (properties_among (p ∷ []))
    → versions ++ map (unseen left_out) (properties_among (p ∷ ps)) ≡ new ++ map (unseen left_out) (properties_among ps)
unseen_more left_out versions new p ps grown = by_test (of_kind kind.Property p) refl
  where
    by_test : (b : Bool) → of_kind kind.Property p ≡ b → versions ++ map (unseen left_out) (properties_among (p ∷ ps)) ≡ new ++ map (unseen left_out) (properties_among ps)
    by_test true e =
        let one : new ≡ versions ++ unseen left_out p ∷ [] = grown ∙ rw e refl in
        rw (e, one) (sym (append_assoc versions (unseen left_out p ∷ []) (map (unseen left_out) (properties_among ps))))
    by_test false e =
        let same : new ≡ versions = grown ∙ rw e (append-nil versions) in
        rw (e, same) refl
