-- Laws of a run in sections: what fits a rack fits it once its handlers forgot, and how many turns they keep.
use Rattle.std.proofs.Common.{◌≡◌, ℕ, ◌+◌, List, [], ◌∷◌, ◌++◌, length, map, refl, arith}
use Rattle.std.specs.List.{AllByRecursion}
use Rattle.std.proofs.lemmas.Option.{slice_get-map}
use Rattle.thing_handler.specs.Handler.{Seen, forgotten}
use Rattle.thing_handler.specs.Turns.{answered, missed, turns_in}
use Rattle.thing_site.specs.Site.{Placed, Site}
use Rattle.thing_site.specs.Fits.{FitsSlot, ThingFits, Fits}
use Rattle.servient_outside.specs.Network.{heard, did, broke, events_in}
use Rattle.servient_trace.specs.Trace.{Sighting, at_network, at_handler, happened_in, calls_in}
use Rattle.servient_trace.specs.ShownSections.{Shown, saw, forgot, seen_in, shown_of}
use Rattle.servient_core.specs.Sections.{turn_count, IsInTime}

-- ---- what fits a rack fits it once its handlers forgot

fits_slot : (slots : List Seen) (p : Placed) → FitsSlot slots p → FitsSlot (map forgotten slots) p
fits_slot slots p (h, there, kind) = (forgotten h, rw (slice_get-map forgotten slots p.slot, there) refl, kind)

fits_all : {A : Type 0} (P Q : A → Type 0) → ((x : A) → P x → Q x) → (xs : List A) → AllByRecursion P xs → AllByRecursion Q xs
fits_all P Q each [] all = tt
fits_all P Q each (x ∷ xs) all = (each x all.0, fits_all P Q each xs all.1)

pub fits_forgotten : (site : Site) (slots : List Seen) → Fits site slots → Fits site (map forgotten slots)
fits_forgotten site slots fits =
    fits_all (ThingFits slots) (ThingFits (map forgotten slots)) (λ thing. fits_all (FitsSlot slots) (FitsSlot (map forgotten slots)) (fits_slot slots) thing.affordances) site.things fits

-- ---- turns that are kept

-- the number of turns that the handlers keep after this, where they kept so many before
abbrev pub kept_after : ℕ → List Shown → ℕ
kept_after kept [] = kept
kept_after kept (forgot ∷ shown) = kept_after 0 shown
kept_after kept (saw (at_handler call) ∷ shown) = kept_after (kept + turn_count call) shown
kept_after kept (saw (at_network happening) ∷ shown) = kept_after kept shown

-- the number of turns that the run has then
abbrev pub turns_after : ℕ → List Shown → ℕ
turns_after turns [] = turns
turns_after turns (forgot ∷ shown) = turns_after turns shown
turns_after turns (saw (at_handler call) ∷ shown) = turns_after (turns + turn_count call) shown
turns_after turns (saw (at_network happening) ∷ shown) = turns_after turns shown

pub kept_then : (a b : List Shown) (kept : ℕ) → kept_after kept (a ++ b) ≡ kept_after (kept_after kept a) b
kept_then [] b kept = refl
kept_then (forgot ∷ a) b kept = kept_then a b 0
kept_then (saw (at_handler call) ∷ a) b kept = kept_then a b (kept + turn_count call)
kept_then (saw (at_network happening) ∷ a) b kept = kept_then a b kept

pub in_time_then : (most : ℕ) (a b : List Shown) (kept turns : ℕ) → IsInTime most kept turns a → IsInTime most (kept_after kept a) (turns_after turns a) b → IsInTime most kept turns (a ++ b)
in_time_then most [] b kept turns p q = q
in_time_then most (forgot ∷ a) b kept turns p q = (p.0, in_time_then most a b 0 turns p.1 q)
in_time_then most (saw (at_handler call) ∷ a) b kept turns p q = in_time_then most a b (kept + turn_count call) (turns + turn_count call) p q
in_time_then most (saw (at_network (heard e)) ∷ a) b kept turns p q = (p.0, p.1, in_time_then most a b kept turns p.2 q)
in_time_then most (saw (at_network (did act)) ∷ a) b kept turns p q = in_time_then most a b kept turns p q
in_time_then most (saw (at_network (broke call)) ∷ a) b kept turns p q = in_time_then most a b kept turns p q

-- the turns of what was seen
pub turns_of_shown : (shown : List Shown) (turns : ℕ) → turns_after turns shown ≡ turns + length (turns_in (calls_in (seen_in shown)))
turns_of_shown [] turns = omega arith
turns_of_shown (forgot ∷ shown) turns = turns_of_shown shown turns
turns_of_shown (saw (at_handler (answered turn)) ∷ shown) turns = omega (arith, turns_of_shown shown (turns + 1))
turns_of_shown (saw (at_handler (missed slot)) ∷ shown) turns = omega (arith, turns_of_shown shown (turns + 0))
turns_of_shown (saw (at_network happening) ∷ shown) turns = turns_of_shown shown turns

-- where nothing is forgotten, all turns are kept
pub kept_of_seen : (seen : List Sighting) (kept : ℕ) → kept_after kept (shown_of seen) ≡ kept + length (turns_in (calls_in seen))
kept_of_seen [] kept = omega arith
kept_of_seen (at_handler (answered turn) ∷ seen) kept = omega (arith, kept_of_seen seen (kept + 1))
kept_of_seen (at_handler (missed slot) ∷ seen) kept = omega (arith, kept_of_seen seen (kept + 0))
kept_of_seen (at_network happening ∷ seen) kept = kept_of_seen seen kept

-- where no event is heard, nothing is late
pub quiet_in_time : (most : ℕ) (seen : List Sighting) (kept turns : ℕ) → events_in (happened_in seen) ≡ [] → IsInTime most kept turns (shown_of seen)
quiet_in_time most [] kept turns none = tt
quiet_in_time most (at_handler call ∷ seen) kept turns none = quiet_in_time most seen (kept + turn_count call) (turns + turn_count call) none
quiet_in_time most (at_network (heard e) ∷ seen) kept turns none = absurd cc
quiet_in_time most (at_network (did act) ∷ seen) kept turns none = quiet_in_time most seen kept turns none
quiet_in_time most (at_network (broke call) ∷ seen) kept turns none = quiet_in_time most seen kept turns none
