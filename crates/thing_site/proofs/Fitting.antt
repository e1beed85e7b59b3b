-- Things whose affordances have no fault fit the rack.
use Rattle.std.proofs.Common.{◌≡◌, ℕ, List, [], ◌∷◌, ◌++◌, map, Bool, true, false, cond, refl, ap, subst, ◌∙◌}
use Rattle.std.specs.Prelude.{slice_get, Option, Some, None, option_map, unwrap_or, is_none, if◌then◌else◌}
use Rattle.std.specs.List.{AllByRecursion}
use Rattle.std.proofs.lemmas.Option.{slice_get-map}
use Rattle.wot_json.specs.Tree.{Json}
use Rattle.wot_json.specs.Meaning.{json_of}
use Rattle.wot_terms.specs.Faults.{IsValid}
use Rattle.wot_terms.specs.declared.kind.Kind.{Kind}
use Rattle.wot_terms.specs.declared.kind.Kind.TheVariants as kind
use Rattle.wot_terms.specs.declared.affordance.Affordance.{Affordance}
use Rattle.wot_terms.specs.declared.thing.Thing.{Thing}
use Rattle.wot_terms.specs.ThingLists.{kept_things}
use Rattle.wot_terms.specs.Affordances.{affordances_of}
use Rattle.thing_handler.specs.Handler.{Seen}
use Rattle.thing_site.specs.declared.fault.ExposeFault.{ExposeFault}
use Rattle.thing_site.specs.declared.fault.ExposeFault.TheVariants.{NoSlot, KindDiffers, SlotTwice}
use Rattle.thing_site.specs.declared.wanted.Wanted.{Wanted}
use Rattle.thing_site.specs.Site.{Slots, slot_named, pointer_of, placed, exposed_all, site_of, wanted_by, wanted_of, is_kind, has_kind, is_among, fault_of, faults_from, slots_in, expose_faults}
use Rattle.thing_site.specs.Exposing.{kinds_of}
use Rattle.thing_site.specs.Fits.{FitsSlot, ThingFits, Fits}

-- descriptions of Things are valid as the code keeps them
pub valid_things : (things : List Thing) → AllByRecursion (λ t. IsValid t.1) (kept_things things) → AllByRecursion (λ t. IsValid (json_of t.tree)) things
valid_things [] v = tt
valid_things (t ∷ things) v = (v.0, valid_things things v.1)

same_kind : (a b : Kind) → is_kind a b ≡ true → b ≡ a
same_kind kind.Property kind.Property e = refl
same_kind kind.Property kind.Action e = absurd cc
same_kind kind.Property kind.Event e = absurd cc
same_kind kind.Action kind.Property e = absurd cc
same_kind kind.Action kind.Action e = refl
same_kind kind.Action kind.Event e = absurd cc
same_kind kind.Event kind.Property e = absurd cc
same_kind kind.Event kind.Action e = absurd cc
same_kind kind.Event kind.Event e = refl

both_empty : {A : Type 0} (xs ys : List A) → xs ++ ys ≡ [] → (xs ≡ []) × (ys ≡ [])
both_empty [] ys e = (refl, e)
both_empty (x ∷ xs) ys e = absurd cc

-- an affordance without a fault fits
fits_if : (seen : List Seen) (earlier segment pointer : List ℕ) (k : Kind) (slot : Option ℕ)
    → fault_of (kinds_of seen) earlier (record { segment = segment; pointer = pointer; kind = k; slot = slot }) ≡ []
    → (h : Seen) × (slice_get seen (unwrap_or slot 0) ≡ Some h) × (h.kind ≡ k)
fits_if seen earlier segment pointer k None e = absurd cc
fits_if seen earlier segment pointer k (Some slot) e = at_slot (slice_get seen slot) refl
  where
    judged : Option Kind → List ExposeFault
    judged found =
        if is_none found then NoSlot segment pointer ∷ []
        else if has_kind k found then
        (if is_among earlier (Some slot) then SlotTwice segment pointer ∷ [] else [])
        else KindDiffers segment pointer ∷ []

    by_kind : (b : Bool) (otherwise : List ExposeFault) → cond b otherwise (KindDiffers segment pointer ∷ []) ≡ [] → b ≡ true
    by_kind true otherwise is = refl
    by_kind false otherwise is = absurd cc

    at_slot : (found : Option Seen) → slice_get seen slot ≡ found → (h : Seen) × (slice_get seen slot ≡ Some h) × (h.kind ≡ k)
    at_slot None is =
        let none : judged None ≡ [] = subst (λ (o : Option Kind). judged o ≡ []) (slice_get-map (λ h. h.kind) seen slot ∙ ap (option_map (λ h. h.kind)) is) e in
        absurd cc
    at_slot (Some h) is =
        let some : judged (Some h.kind) ≡ [] = subst (λ (o : Option Kind). judged o ≡ []) (slice_get-map (λ h. h.kind) seen slot ∙ ap (option_map (λ h. h.kind)) is) e in
        (h, is, same_kind k h.kind (by_kind (is_kind k h.kind) (if is_among earlier (Some slot) then SlotTwice segment pointer ∷ [] else []) some))

-- those of a Thing fit, and those after them have no fault
those_fit : (seen : List Seen) (slots : Slots) (segment : List ℕ) (earlier : List ℕ) (affordances : List Affordance) (rest : List Wanted)
    → faults_from (kinds_of seen) earlier (map (wanted_by slots segment) affordances ++ rest) ≡ []
    → AllByRecursion (FitsSlot seen) (map (placed slots segment) affordances) × ((after : List ℕ) × (faults_from (kinds_of seen) after rest ≡ []))
those_fit seen slots segment earlier [] rest e = (tt, (earlier, e))
those_fit seen slots segment earlier (a ∷ affordances) rest e =
    let w : Wanted = wanted_by slots segment a in
    let both = both_empty (fault_of (kinds_of seen) earlier w) (faults_from (kinds_of seen) (earlier ++ slots_in w.slot) (map (wanted_by slots segment) affordances ++ rest)) e in
    let further = those_fit seen slots segment (earlier ++ slots_in w.slot) affordances rest both.1 in
    ((fits_if seen earlier segment (pointer_of a) a.kind (slot_named segment (pointer_of a) slots) both.0, further.0), further.1)

all_fit : (seen : List Seen) (slots : Slots) (earlier : List ℕ) (things : List (List ℕ × Json)) → faults_from (kinds_of seen) earlier (wanted_of slots things) ≡ [] → AllByRecursion (ThingFits seen) (exposed_all slots things)
all_fit seen slots earlier [] e = tt
all_fit seen slots earlier (t ∷ things) e =
    let thing = those_fit seen slots t.0 earlier (affordances_of t.1) (wanted_of slots things) e in
    (thing.0, all_fit seen slots thing.1.0 things thing.1.1)

pub faultless_fits : (seen : List Seen) (left_out : ℕ) (slots : Slots) (things : List (List ℕ × Json)) → expose_faults (kinds_of seen) slots things ≡ [] → Fits (site_of left_out slots things) seen
faultless_fits seen left_out slots things e = all_fit seen slots [] things e
