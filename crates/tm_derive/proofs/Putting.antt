-- Things, put one after another.
use Rattle.std.proofs.Common.{◌≡◌, ℕ, ◌+◌, ◌-◌, ◌<◌, List, [], ◌∷◌, ◌++◌, length, map, drop, get_or, sym, ap, subst, ◌∙◌, append_assoc, arith}
use Rattle.std.specs.Prelude.{Option, Some, None, Result, Ok, Err, zero, suc}
use Rattle.std.specs.List.{flat_map}
use Rattle.std.proofs.lemmas.List.{map-append}
use Rattle.std.proofs.lemmas.Grind.{flat_map-append}
use Rattle.wot_json.specs.Tree.{Json}
use Rattle.tm_resolve.proofs.Loops.{left_at}
use Rattle.tm_derive.specs.Given.{Given}
use Rattle.tm_derive.specs.Derivation.{Outcome, Things, children, outcome, outcomes_within, thing_of, unless_faulty}
use Rattle.tm_derive.specs.Making.{PutsThings}
use Rattle.tm_derive.specs.Refusals.{IsRefusal}
use Rattle.tm_derive.specs.declared.place.ThingPlace.{ThingPlace}
use Rattle.tm_derive.specs.declared.fault.DeriveFault.{DeriveFault}
use Rattle.tm_derive.proofs.Outcomes.{refused_before, refused_after, none_then_none}

-- the faults, the Things and the segments of outcomes
abbrev pub faults_in : List Outcome → List DeriveFault
faults_in os = flat_map (λ o. o.faults) os

abbrev pub things_in : List Outcome → Things
things_in os = flat_map thing_of os

abbrev pub segments_in : List Outcome → List (List ℕ)
segments_in os = map (λ o. o.segment) os

-- the outcomes have no faults, and each has a Thing
pub record AreWhole (os : List Outcome) : Type 0 where
  pub none : faults_in os ≡ []
  pub segments : map (λ (thing : List ℕ × Json). thing.0) (things_in os) ≡ segments_in os

-- those of two lists
whole_both : (os ps : List Outcome) → AreWhole os → AreWhole ps → AreWhole (os ++ ps)
whole_both os ps first next = record {
  none = flat_map-append (λ (o : Outcome). o.faults) os ps ∙ none_then_none (faults_in os) (faults_in ps) first.none next.none;
  segments = ap (λ (ts : Things). map (λ (thing : List ℕ × Json). thing.0) ts) (flat_map-append thing_of os ps)
      ∙ map-append (λ (thing : List ℕ × Json). thing.0) (things_in os) (things_in ps)
      ∙ ap (λ (ss : List (List ℕ)). ss ++ map (λ (thing : List ℕ × Json). thing.0) (things_in ps)) first.segments
      ∙ ap (λ (ss : List (List ℕ)). segments_in os ++ ss) next.segments
      ∙ sym (map-append (λ (o : Outcome). o.segment) os ps);
}

-- ---- the Things of several places

-- the outcomes of places
abbrev pub of_places : ℕ → Given → List (List ℕ) → List ThingPlace → List Outcome
of_places room given above places = flat_map (outcomes_within room given above) places

-- the Things of the places before an index were put, and these have no faults: what is left has all faults
pub record PutsOn (room : ℕ) (given : Given) (above : List (List ℕ)) (places : List ThingPlace) (before now : Things) (index : ℕ) : Type 0 where
  pub things : now ++ things_in (of_places room given above (drop index places)) ≡ before ++ things_in (of_places room given above places)
  pub faults : faults_in (of_places room given above (drop index places)) ≡ faults_in (of_places room given above places)
  pub segments : AreWhole (of_places room given above (drop index places)) → AreWhole (of_places room given above places)

-- the outcomes left at an index, first those of the place there
places_left : (room : ℕ) (given : Given) (above : List (List ℕ)) (places : List ThingPlace) (index : ℕ) (place : ThingPlace) → index < length places → place ≡ get_or places index place
    → of_places room given above (drop index places) ≡ outcomes_within room given above place ++ of_places room given above (drop (index + 1) places)
places_left room given above places index place within is = ap (λ (ps : List ThingPlace). of_places room given above ps) (left_at places index place within is)

-- a place whose Things were put goes on
pub place_more : (room : ℕ) (given : Given) (above : List (List ℕ)) (places : List ThingPlace) (before now grown : Things) (index : ℕ) (place : ThingPlace)
    → index < length places → place ≡ get_or places index place → PutsOn room given above places before now index
    → grown ≡ now ++ things_in (outcomes_within room given above place) → faults_in (outcomes_within room given above place) ≡ []
    → map (λ (thing : List ℕ × Json). thing.0) (things_in (outcomes_within room given above place)) ≡ segments_in (outcomes_within room given above place)
    → PutsOn room given above places before grown (index + 1)
place_more room given above places before now grown index place within is so_far grown_is none segments =
    let os : List Outcome = outcomes_within room given above place in
    let rest : List Outcome = of_places room given above (drop (index + 1) places) in
    let left = places_left room given above places index place within is in
    record {
      things = ap (λ (ts : Things). ts ++ things_in rest) grown_is
          ∙ append_assoc now (things_in os) (things_in rest)
          ∙ ap (λ (ts : Things). now ++ ts) (sym (flat_map-append thing_of os rest))
          ∙ ap (λ (ps : List Outcome). now ++ things_in ps) (sym left)
          ∙ so_far.things;
      faults = ap (λ (fs : List DeriveFault). fs ++ faults_in rest) (sym none)
          ∙ sym (flat_map-append (λ (o : Outcome). o.faults) os rest)
          ∙ ap faults_in (sym left)
          ∙ so_far.faults;
      segments = λ whole. so_far.segments (subst AreWhole (sym left) (whole_both os rest (record { none = none; segments = segments }) whole));
    }

-- ---- a Thing and those below it

-- with room for a Thing, its outcome comes before those below it
with_room : (room : ℕ) (given : Given) (above : List (List ℕ)) (place : ThingPlace) → 0 < room
    → outcomes_within room given above place
    ≡ outcome given above place ∷ unless_faulty (outcome given above place).faults (flat_map (outcomes_within (room - 1) given (above ++ place.model ∷ [])) (children given place))
with_room zero given above place some = absurd (omega (arith, some))
with_room (suc room) given above place some =
    let less : suc room - 1 ≡ room = omega arith in
    ap (λ (n : ℕ). outcome given above place ∷ unless_faulty (outcome given above place).faults (flat_map (outcomes_within n given (above ++ place.model ∷ [])) (children given place))) (sym less)

-- a Thing that is refused
pub thing_refused : (room : ℕ) (given : Given) (above : List (List ℕ)) (place : ThingPlace) (e : DeriveFault) → 0 < room
    → IsRefusal e (outcome given above place).faults → IsRefusal e (faults_in (outcomes_within room given above place))
thing_refused room given above place e some refused =
    subst (λ (os : List Outcome). IsRefusal e (faults_in os)) (sym (with_room room given above place some)) (refused_before e (outcome given above place).faults _ refused)

-- a Thing that is put, and then those below it
after_one : (before middle after : Things) (o : Outcome) (os : List Outcome) (tree : Json) (r : Result (Unit {0}) DeriveFault) → o.tree ≡ Some tree → o.faults ≡ []
    → middle ≡ before ++ (o.segment, tree) ∷ [] → PutsThings middle after os r → PutsThings before after (o ∷ os) r
after_one before middle after o os tree (Ok u) has none put puts =
    let sole : thing_of o ≡ (o.segment, tree) ∷ [] = ap (λ (t : Option Json). elim t as (λ _. Things) [ None ↦ [] | Some v ↦ (o.segment, v) ∷ [] ]) has in (
      puts.0 ∙ ap (λ (ts : Things). ts ++ things_in os) put ∙ append_assoc before ((o.segment, tree) ∷ []) (things_in os) ∙ ap (λ (ts : Things). before ++ (ts ++ things_in os)) (sym sole),
      none_then_none o.faults (faults_in os) none puts.1,
      ap (λ (ts : Things). map (λ (thing : List ℕ × Json). thing.0) (ts ++ things_in os)) sole ∙ ap (λ (ss : List (List ℕ)). o.segment ∷ ss) puts.2,
    )
after_one before middle after o os tree (Err e) has none put refused = refused_after e o.faults (faults_in os) none refused

pub thing_put : (room : ℕ) (given : Given) (above inner : List (List ℕ)) (place : ThingPlace) (places : List ThingPlace) (tree : Json) (before middle after : Things) (r : Result (Unit {0}) DeriveFault) → 0 < room
    → (outcome given above place).tree ≡ Some tree → (outcome given above place).faults ≡ [] → middle ≡ before ++ (place.segment, tree) ∷ []
    → inner ≡ above ++ place.model ∷ [] → places ≡ children given place
    → PutsThings middle after (flat_map (outcomes_within (room - 1) given inner) places) r → PutsThings before after (outcomes_within room given above place) r
thing_put room given above inner place places tree before middle after r some has none put inner_is places_are puts =
    let below : List Outcome = flat_map (outcomes_within (room - 1) given (above ++ place.model ∷ [])) (children given place) in
    let puts_below : PutsThings middle after below r =
    subst (λ (ps : List ThingPlace). PutsThings middle after (flat_map (outcomes_within (room - 1) given (above ++ place.model ∷ [])) ps) r) places_are
    (subst (λ (ms : List (List ℕ)). PutsThings middle after (flat_map (outcomes_within (room - 1) given ms) places) r) inner_is puts) in
    subst (λ (os : List Outcome). PutsThings before after os r)
    (ap (λ (fs : List DeriveFault). outcome given above place ∷ unless_faulty fs below) (sym none) ∙ sym (with_room room given above place some))
    (after_one before middle after (outcome given above place) below tree r has none put puts_below)
