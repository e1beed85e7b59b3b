-- Judging affordances one after another.
use Rattle.std.proofs.Common.{◌≡◌, ℕ, ◌+◌, ◌<◌, ◌≤◌, List, [], ◌∷◌, ◌++◌, map, drop, length, get_or, refl, sym, ap, subst, ◌∙◌, append_assoc}
use Rattle.std.specs.Prelude.{slice_get, Some, Ok, Err}
use Rattle.std.specs.List.{AllByRecursion}
use Rattle.std.proofs.lemmas.List.{append-nil, at_drop_all, at_drop_more}
use Rattle.wot_json.specs.Tree.{Json}
use Rattle.wot_json.specs.Meaning.{json_of}
use Rattle.wot_terms.specs.Affordances.{affordances_of}
use Rattle.wot_terms.specs.Faults.{IsValid}
use Rattle.wot_terms.specs.declared.thing.Thing.{Thing}
use Rattle.wot_terms.specs.ThingLists.{kept_thing, kept_things}
use Rattle.wot_terms.specs.declared.kind.Kind.{Kind}
use Rattle.wot_terms.specs.declared.affordance.Affordance.{Affordance}
use Rattle.thing_site.specs.declared.fault.ExposeFault.{ExposeFault}
use Rattle.thing_site.specs.declared.fault.ExposeFault.TheVariants.{NoSlot, KindDiffers, SlotTwice, NoMemory}
use Rattle.thing_site.specs.declared.wanted.Wanted.{Wanted}
use Rattle.thing_site.specs.Site.{Slots, ExposedThing, exposed, placed, exposed_all, wanted_by, wanted_of_thing, wanted_of, expose_faults, faults_from, slots_in}
use Rattle.thing_site.specs.Exposing.{placed_all, ArePlaced, IsFirst, IsJudged, IsPlaced, HaveNoFault, HaveFault, slot_or_0}

-- the head of a list of faults is their first
pub is_first : (faults : List ExposeFault) (f : ExposeFault) → slice_get faults 0 ≡ Some f → IsFirst faults f
is_first faults (NoSlot segment pointer) e = e
is_first faults (KindDiffers segment pointer) e = e
is_first faults (SlotTwice segment pointer) e = e
is_first faults NoMemory e = tt

-- one affordance has no fault, and the judging goes on after its slot
pub judged_well : (kinds : List Kind) (earlier : List ℕ) (w : Wanted) (slot : ℕ) (rest : List Wanted) → IsJudged kinds earlier w (Ok slot) → faults_from kinds earlier (w ∷ rest) ≡ faults_from kinds (earlier ++ slot ∷ []) rest
judged_well kinds earlier w slot rest j =
    ap (λ fs. fs ++ faults_from kinds (earlier ++ slots_in w.slot) rest) j.0
    ∙ ap (λ o. faults_from kinds (earlier ++ slots_in o) rest) j.1

-- one has, which is the first
pub judged_faulty : (kinds : List Kind) (earlier : List ℕ) (w : Wanted) (f : ExposeFault) (rest : List Wanted) → IsJudged kinds earlier w (Err f) → IsFirst (faults_from kinds earlier (w ∷ rest)) f
judged_faulty kinds earlier w f rest j =
    is_first _ f (ap (λ fs. slice_get (fs ++ faults_from kinds (earlier ++ slots_in w.slot) rest) 0) j)

-- affordances with the slots that they are given are placed as the site has them
pub placed_as_given : (slots : Slots) (segment : List ℕ) (affordances : List Affordance) → placed_all affordances (map slot_or_0 (map (wanted_by slots segment) affordances)) ≡ map (placed slots segment) affordances
placed_as_given slots segment [] = refl
placed_as_given slots segment (a ∷ more) = ap (λ ps. placed slots segment a ∷ ps) (placed_as_given slots segment more)

-- a Thing whose affordances have no fault is exposed with the slots that they are given
pub placed_well : (kinds : List Kind) (slots : Slots) (thing : List ℕ × Json) (earlier after : List ℕ) (held : ExposedThing) (own : List Affordance) (given : List ℕ) (ws : List Wanted)
    → held.segment ≡ thing.0 → held.description ≡ thing.1 → held.affordances ≡ placed_all own given → own ≡ affordances_of thing.1
    → ws ≡ wanted_of_thing slots thing → given ≡ map slot_or_0 ws → HaveNoFault kinds earlier after ws
    → IsPlaced kinds slots thing earlier after (Ok held)
placed_well kinds slots thing earlier after held own given ws segment description placed_are affordances wanted given_are clear = (
  let places : held.affordances ≡ map (placed slots thing.0) (affordances_of thing.1) =
      placed_are
      ∙ ap (λ (list : List Affordance). placed_all list given) affordances
      ∙ ap (λ (ss : List ℕ). placed_all (affordances_of thing.1) ss) (given_are ∙ ap (λ (vs : List Wanted). map slot_or_0 vs) wanted)
      ∙ placed_as_given slots thing.0 (affordances_of thing.1) in
      λ i. record { segment = segment i; description = description i; affordances = places i },
  subst (λ (vs : List Wanted). HaveNoFault kinds earlier after vs) wanted clear,
)

-- one whose affordances have a fault isn't
pub placed_faulty : (kinds : List Kind) (slots : Slots) (thing : List ℕ × Json) (earlier after : List ℕ) (f : ExposeFault) (ws : List Wanted)
    → ws ≡ wanted_of_thing slots thing → HaveFault kinds earlier ws f → IsPlaced kinds slots thing earlier after (Err f)
placed_faulty kinds slots thing earlier after f ws wanted faulty = subst (λ (vs : List Wanted). HaveFault kinds earlier vs f) wanted faulty

-- a Thing after others has the first fault of all
pub all_faulty : (kinds : List Kind) (slots : Slots) (things : List Thing) (earlier : List ℕ) (i : ℕ) (item : Thing) (f : ExposeFault)
    → faults_from kinds [] (wanted_of slots (kept_things things)) ≡ faults_from kinds earlier (wanted_of slots (kept_things (drop i things)))
    → i < length things → item ≡ get_or things i item → HaveFault kinds earlier (wanted_of_thing slots (kept_thing item)) f
    → IsFirst (expose_faults kinds slots (kept_things things)) f
all_faulty kinds slots things earlier i item f clear within at faulty =
    let step : faults_from kinds earlier (wanted_of slots (kept_things (drop i things)))
    ≡ faults_from kinds earlier (wanted_of_thing slots (kept_thing (get_or things i item)) ++ wanted_of slots (kept_things (drop (i + 1) things))) =
    at_drop_more (λ (ts : List Thing). faults_from kinds earlier (wanted_of slots (kept_things ts))) things i item within in
    let here : faults_from kinds earlier (wanted_of_thing slots (kept_thing (get_or things i item)) ++ wanted_of slots (kept_things (drop (i + 1) things)))
    ≡ faults_from kinds earlier (wanted_of_thing slots (kept_thing item) ++ wanted_of slots (kept_things (drop (i + 1) things))) =
    ap (λ (t : Thing). faults_from kinds earlier (wanted_of_thing slots (kept_thing t) ++ wanted_of slots (kept_things (drop (i + 1) things)))) (sym at) in
    subst (λ (fs : List ExposeFault). IsFirst fs f) (sym (clear ∙ step ∙ here)) (faulty (wanted_of slots (kept_things (drop (i + 1) things))))

-- ---- one Thing more

abbrev pub AreValid : List Thing → Type 0
AreValid things = AllByRecursion (λ t. IsValid (json_of t.tree)) things

-- the first of those that are left, and those after it
valid_ones : (things : List Thing) (i : ℕ) (item : Thing) → i < length things → AreValid (drop i things) → AreValid (get_or things i item ∷ drop (i + 1) things)
valid_ones things i item within valid = subst AreValid (at_drop_more (λ (ts : List Thing). ts) things i item within) valid

pub valid_first : (things : List Thing) (i : ℕ) (item : Thing) → i < length things → item ≡ get_or things i item → AreValid (drop i things) → IsValid (json_of item.tree)
valid_first things i item within at valid = subst (λ (t : Thing). IsValid (json_of t.tree)) (sym at) (valid_ones things i item within valid).0

pub valid_rest : (things : List Thing) (i : ℕ) (item : Thing) → i < length things → AreValid (drop i things) → AreValid (drop (i + 1) things)
valid_rest things i item within valid = (valid_ones things i item within valid).1

-- the site grows by it
pub site_grows : (slots : Slots) (things : List Thing) (i : ℕ) (item : Thing) (held more : List ExposedThing) (one : ExposedThing)
    → held ++ exposed_all slots (kept_things (drop i things)) ≡ exposed_all slots (kept_things things)
    → i < length things → item ≡ get_or things i item → one ≡ exposed slots (kept_thing item) → more ≡ held ++ one ∷ []
    → more ++ exposed_all slots (kept_things (drop (i + 1) things)) ≡ exposed_all slots (kept_things things)
site_grows slots things i item held more one so_far within at same grown =
    let rest = exposed_all slots (kept_things (drop (i + 1) things)) in
    ap (λ (hs : List ExposedThing). hs ++ rest) grown
    ∙ append_assoc held (one ∷ []) rest
    ∙ ap (λ (t : ExposedThing). held ++ t ∷ rest) (same ∙ ap (λ (t : Thing). exposed slots (kept_thing t)) at)
    ∙ ap (λ (ts : List ExposedThing). held ++ ts) (sym (at_drop_more (λ (ts : List Thing). exposed_all slots (kept_things ts)) things i item within))
    ∙ so_far

-- it has no fault, and those after it have what is left
pub faults_left : (kinds : List Kind) (slots : Slots) (things : List Thing) (earlier after : List ℕ) (i : ℕ) (item : Thing)
    → faults_from kinds [] (wanted_of slots (kept_things things)) ≡ faults_from kinds earlier (wanted_of slots (kept_things (drop i things)))
    → i < length things → item ≡ get_or things i item → HaveNoFault kinds earlier after (wanted_of_thing slots (kept_thing item))
    → faults_from kinds [] (wanted_of slots (kept_things things)) ≡ faults_from kinds after (wanted_of slots (kept_things (drop (i + 1) things)))
faults_left kinds slots things earlier after i item clear within at none =
    let rest = wanted_of slots (kept_things (drop (i + 1) things)) in
    clear
    ∙ at_drop_more (λ (ts : List Thing). faults_from kinds earlier (wanted_of slots (kept_things ts))) things i item within
    ∙ ap (λ (t : Thing). faults_from kinds earlier (wanted_of_thing slots (kept_thing t) ++ rest)) (sym at)
    ∙ none rest

-- none is left
pub all_placed : (kinds : List Kind) (slots : Slots) (things : List Thing) (held : List ExposedThing) (earlier : List ℕ) (i : ℕ)
    → held ++ exposed_all slots (kept_things (drop i things)) ≡ exposed_all slots (kept_things things)
    → faults_from kinds [] (wanted_of slots (kept_things things)) ≡ faults_from kinds earlier (wanted_of slots (kept_things (drop i things)))
    → length things ≤ i → ArePlaced kinds slots (kept_things things) held
all_placed kinds slots things held earlier i so_far clear done = (
  sym (append-nil held)
      ∙ ap (λ (ts : List ExposedThing). held ++ ts) (sym (at_drop_all (λ (ts : List Thing). exposed_all slots (kept_things ts)) things i done))
      ∙ so_far,
  clear ∙ at_drop_all (λ (ts : List Thing). faults_from kinds earlier (wanted_of slots (kept_things ts))) things i done,
)
