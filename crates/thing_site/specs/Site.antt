-- Things as they are exposed: each with its description, its affordances and the slots of their handlers; and the
-- versions that a run leaves out. This is what is constant in a run.
use Rattle.std.specs.Prelude.{ℕ, List, [], ◌∷◌, ◌++◌, map, slice_get, Bool, true, false, ◌==◌, ◌&&◌, is_none, Option, Some, None, option_and_then, unwrap_or, if◌then◌else◌}
use Rattle.std.specs.List.{flat_map, filter}
use Rattle.std.specs.Str.{bytes_eq}
use Rattle.wot_json.specs.Tree.{Json}
use Rattle.wot_json.specs.Places.{place_text}
use Rattle.wot_terms.specs.declared.kind.Kind.{Kind}
use Rattle.wot_terms.specs.declared.kind.Kind.TheVariants as kind
use Rattle.wot_terms.specs.declared.affordance.Affordance.{Affordance}
use Rattle.wot_terms.specs.Faults.{holder}
use Rattle.wot_terms.specs.Affordances.{affordances_of}
use Rattle.thing_site.specs.declared.wanted.Wanted.{Wanted}
use Rattle.thing_site.specs.declared.fault.ExposeFault.{ExposeFault}
use Rattle.thing_site.specs.declared.fault.ExposeFault.TheVariants.{NoSlot, KindDiffers, SlotTwice}

-- an affordance of a Thing, and the slot of its handler
pub record Placed : Type 0 where
  pub affordance : Affordance
  pub slot : ℕ

-- a Thing: the segment with which its paths begin, its description, and its affordances: properties, actions, events,
-- each in the byte order of their names
pub record ExposedThing : Type 0 where
  pub segment : List ℕ
  pub description : Json
  pub affordances : List Placed

-- The Things, of which the first is the root; and the versions of properties that this run leaves out, since an earlier
-- one may have sent them as tags: those up to this number.
pub record Site : Type 0 where
  pub things : List ExposedThing
  pub left_out : ℕ

-- the handlers of affordances: the segment of a Thing, the pointer to an affordance in its description, a slot
abbrev pub Slots : Type 0
Slots = List (List ℕ × List ℕ × ℕ)

-- the slot of the first entry for this affordance
abbrev pub slot_named : List ℕ → List ℕ → Slots → Option ℕ
slot_named segment pointer [] = None
slot_named segment pointer (entry ∷ entries) =
    if bytes_eq segment entry.0 && bytes_eq pointer entry.1 then Some entry.2 else slot_named segment pointer entries

-- the pointer to an affordance in its description, as /properties/status
abbrev pub pointer_of : Affordance → List ℕ
pointer_of a = place_text (holder a.kind ∷ a.name ∷ [])

-- ---- the site that Things and slots make

abbrev pub placed : Slots → List ℕ → Affordance → Placed
placed slots segment a = record { affordance = a; slot = unwrap_or (slot_named segment (pointer_of a) slots) 0 }

abbrev pub exposed : Slots → List ℕ × Json → ExposedThing
exposed slots thing = record {
  segment = thing.0;
  description = thing.1;
  affordances = map (placed slots thing.0) (affordances_of thing.1);
}

abbrev pub exposed_all : Slots → List (List ℕ × Json) → List ExposedThing
exposed_all slots = map (exposed slots)

-- where versions up to this number are left out
abbrev pub site_of : ℕ → Slots → List (List ℕ × Json) → Site
site_of left_out slots things = record { things = exposed_all slots things; left_out = left_out }

-- ---- why Things and slots don't fit a rack

-- An affordance that needs a handler is a `Wanted`: the segment of its Thing, its pointer, its kind, and the
-- slot that it is given.

abbrev pub wanted_by : Slots → List ℕ → Affordance → Wanted
wanted_by slots segment a =
    record { segment = segment; pointer = pointer_of a; kind = a.kind; slot = slot_named segment (pointer_of a) slots }

-- those of a Thing, and of all Things in order
abbrev pub wanted_of_thing : Slots → List ℕ × Json → List Wanted
wanted_of_thing slots thing = map (wanted_by slots thing.0) (affordances_of thing.1)

abbrev pub wanted_of : Slots → List (List ℕ × Json) → List Wanted
wanted_of slots = flat_map (wanted_of_thing slots)

abbrev pub is_kind : Kind → Kind → Bool
is_kind kind.Property kind.Property = true
is_kind kind.Action kind.Action = true
is_kind kind.Event kind.Event = true
is_kind a b = false

-- the kind of the handler in its slot, where the rack has that slot
abbrev pub handler_kind : List Kind → Wanted → Option Kind
handler_kind kinds w = option_and_then (slice_get kinds) w.slot

abbrev pub has_kind : Kind → Option Kind → Bool
has_kind k None = false
has_kind k (Some other) = is_kind k other

-- this slot is among those of earlier affordances
abbrev pub is_among : List ℕ → Option ℕ → Bool
is_among earlier None = false
is_among [] (Some slot) = false
is_among (other ∷ earlier) (Some slot) = if other == slot then true else is_among earlier (Some slot)

-- its fault, where earlier affordances have these slots: it has no slot of the rack, or one whose handler is of
-- another kind, or one that is taken
abbrev pub fault_of : List Kind → List ℕ → Wanted → List ExposeFault
fault_of kinds earlier w =
    if is_none (handler_kind kinds w) then NoSlot w.segment w.pointer ∷ []
    else if has_kind w.kind (handler_kind kinds w) then
    (if is_among earlier w.slot then SlotTwice w.segment w.pointer ∷ [] else [])
    else KindDiffers w.segment w.pointer ∷ []

abbrev pub slots_in : Option ℕ → List ℕ
slots_in None = []
slots_in (Some slot) = slot ∷ []

-- All faults, in the order of Things and affordances.
abbrev pub faults_from : List Kind → List ℕ → List Wanted → List ExposeFault
faults_from kinds earlier [] = []
faults_from kinds earlier (w ∷ ws) = fault_of kinds earlier w ++ faults_from kinds (earlier ++ slots_in w.slot) ws

abbrev pub expose_faults : List Kind → Slots → List (List ℕ × Json) → List ExposeFault
expose_faults kinds slots things = faults_from kinds [] (wanted_of slots things)

-- ---- what is where

-- the Thing of this segment
abbrev pub thing_named : List ℕ → List ExposedThing → Option ExposedThing
thing_named segment [] = None
thing_named segment (thing ∷ things) = if bytes_eq segment thing.segment then Some thing else thing_named segment things

-- the affordance of this kind and name
abbrev pub affordance_named : Kind → List ℕ → List Placed → Option Placed
affordance_named k name [] = None
affordance_named k name (p ∷ ps) =
    if is_kind k p.affordance.kind && bytes_eq name p.affordance.name then Some p else affordance_named k name ps

-- those of one kind, of a Thing and of all Things in order
abbrev pub of_kind : Kind → Placed → Bool
of_kind k p = is_kind k p.affordance.kind

abbrev pub those_of : Kind → ExposedThing → List Placed
those_of k thing = filter (of_kind k) thing.affordances

abbrev pub events_of : List ExposedThing → List Placed
events_of = flat_map (those_of kind.Event)

-- An observable property and each event may emit (TD 1.1, sections 5.3.1.3 and 5.3.1.5).
abbrev pub is_emitter : Placed → Bool
is_emitter p = if is_kind kind.Event p.affordance.kind then true else is_kind kind.Property p.affordance.kind && p.affordance.observable

abbrev pub emitters_of_thing : ExposedThing → List Placed
emitters_of_thing thing = filter is_emitter thing.affordances

abbrev pub emitters_of : List ExposedThing → List Placed
emitters_of = flat_map emitters_of_thing
