-- The promises of giving the affordances of Things their handlers.
use Rattle.std.specs.Prelude.{◌≡◌, ℕ, List, [], ◌∷◌, ◌++◌, map, slice_get, Some, unwrap_or, Result, Ok, Err}
use Rattle.wot_json.specs.Tree.{Json}
use Rattle.wot_terms.specs.declared.kind.Kind.{Kind}
use Rattle.wot_terms.specs.declared.affordance.Affordance.{Affordance}
use Rattle.thing_handler.specs.Handler.{Seen}
use Rattle.thing_site.specs.declared.fault.ExposeFault.{ExposeFault}
use Rattle.thing_site.specs.declared.fault.ExposeFault.TheVariants.{NoSlot, KindDiffers, SlotTwice, NoMemory}
use Rattle.thing_site.specs.declared.wanted.Wanted.{Wanted}
use Rattle.thing_site.specs.Site.{Placed, ExposedThing, Slots, exposed, exposed_all, wanted_of_thing, fault_of, faults_from, expose_faults}

-- the kinds of the handlers of a rack
abbrev pub kinds_of : List Seen → List Kind
kinds_of slots = map (λ h. h.kind) slots

-- affordances with their slots
abbrev pub placed_all : List Affordance → List ℕ → List Placed
placed_all [] slots = []
placed_all (a ∷ more) [] = []
placed_all (a ∷ more) (slot ∷ slots) = record { affordance = a; slot = slot } ∷ placed_all more slots

-- ---- judging

-- the first of these faults, or out of memory
abbrev pub IsFirst : List ExposeFault → ExposeFault → Type 0
IsFirst faults (NoSlot segment pointer) = slice_get faults 0 ≡ Some (NoSlot segment pointer)
IsFirst faults (KindDiffers segment pointer) = slice_get faults 0 ≡ Some (KindDiffers segment pointer)
IsFirst faults (SlotTwice segment pointer) = slice_get faults 0 ≡ Some (SlotTwice segment pointer)
IsFirst faults NoMemory = Unit {0}

-- the slot of an affordance that has none of the faults, where earlier ones have these slots; or its fault
abbrev pub IsJudged : List Kind → List ℕ → Wanted → Result ℕ ExposeFault → Type 0
IsJudged kinds earlier w (Ok slot) = (fault_of kinds earlier w ≡ []) × (w.slot ≡ Some slot)
IsJudged kinds earlier w (Err fault) = fault_of kinds earlier w ≡ fault ∷ []

-- the same of several, for all further ones that follow; the slots of those that were judged are then these
abbrev pub HaveNoFault : List Kind → List ℕ → List ℕ → List Wanted → Type 0
HaveNoFault kinds earlier after ws = (rest : List Wanted) → faults_from kinds earlier (ws ++ rest) ≡ faults_from kinds after rest

abbrev pub HaveFault : List Kind → List ℕ → List Wanted → ExposeFault → Type 0
HaveFault kinds earlier ws fault = (rest : List Wanted) → IsFirst (faults_from kinds earlier (ws ++ rest)) fault

-- the slot that an affordance is given
abbrev pub slot_or_0 : Wanted → ℕ
slot_or_0 w = unwrap_or w.slot 0

-- ---- a Thing and all Things

abbrev pub IsPlaced : List Kind → Slots → List ℕ × Json → List ℕ → List ℕ → Result ExposedThing ExposeFault → Type 0
IsPlaced kinds slots thing earlier after (Ok held) =
    (held ≡ exposed slots thing) × HaveNoFault kinds earlier after (wanted_of_thing slots thing)
IsPlaced kinds slots thing earlier after (Err fault) = HaveFault kinds earlier (wanted_of_thing slots thing) fault

-- the Things as they are exposed, where nothing is wrong, or the first fault
abbrev pub ArePlaced : List Kind → Slots → List (List ℕ × Json) → List ExposedThing → Type 0
ArePlaced kinds slots things held = (held ≡ exposed_all slots things) × (expose_faults kinds slots things ≡ [])
