-- Consequences of the definition of the Thing machine.
use Rattle.std.proofs.Common.{◌≡◌, ℕ, zero, suc, List, [], ◌∷◌, refl, sym, subst, ◌∙◌}
use Rattle.std.specs.Prelude.{Some, slice_get}
use Rattle.std.specs.List.{AllByRecursion}
use Rattle.std.proofs.lemmas.Option.{same_Some}
use Rattle.thing_ops.specs.declared.outcome.Outcome.{Outcome}
use Rattle.thing_ops.specs.Requests.{RequestSeen}
use Rattle.thing_handler.specs.Handler.{Seen}
use Rattle.thing_handler.specs.Turns.{RunTurn, HandlerCall, GrewBy}
use Rattle.thing_site.specs.Site.{Placed, ExposedThing, Site}
use Rattle.thing_state.specs.State.{State}
use Rattle.thing_site.specs.Refusals.{refused_by_schema}
use Rattle.thing_core.specs.Refusals.{Stands}
use Rattle.thing_core.specs.Thing.{Acts, Done, refuses, has_no_memory, performs}
use Rattle.thing_site.specs.Fits.{Fits, FitsSlot, ThingFits}
use Rattle.thing_core.specs.Kept.{Kept}
use Rattle.thing_core.specs.Performing.{MakesAct, MakesPolls}

-- a value that its schema refuses reaches no handler
pub schema_first : (site : Site) (q : RequestSeen) (done : Done) (s t : State) (seen : List HandlerCall) → Acts site q done s seen t
    → Stands refused_by_schema (record { site = site; state = s; request = q }) → (seen ≡ []) × (t ≡ s)
schema_first site q done s t seen (refuses o refused answers) stands = (answers.1.saw, answers.1.next)
schema_first site q done s t seen (has_no_memory answers) stands = (answers.1.saw, answers.1.next)
schema_first site q done s t seen (performs act inputs none asked given does) stands = absurd (none.1.1.1.1.1.1.0 stands)

-- a handler has its kind afterwards
kind_stays : (turns : List RunTurn) (from i : ℕ) (before after : List Seen) (x : Seen) → GrewBy turns from before after → slice_get before i ≡ Some x
    → (y : Seen) × (slice_get after i ≡ Some y) × (y.kind ≡ x.kind)
kind_stays turns from i [] after x grew e = absurd cc
kind_stays turns from i (h ∷ before) [] x grew e = absurd grew
kind_stays turns from zero (h ∷ before) (k ∷ after) x grew e =
    (k, refl, subst (λ (y : Seen). k.kind ≡ y.kind) (same_Some h x e) grew.0)
kind_stays turns from (suc i) (h ∷ before) (k ∷ after) x grew e = kind_stays turns (suc from) i before after x grew.2 e

slot_stays : (turns : List RunTurn) (before after : List Seen) (p : Placed) → GrewBy turns 0 before after → FitsSlot before p → FitsSlot after p
slot_stays turns before after p grew fit =
    let stays = kind_stays turns 0 p.slot before after fit.0 grew fit.1 in
    (stays.0, stays.1, stays.2 ∙ fit.2)

all_stay : (turns : List RunTurn) (before after : List Seen) (ps : List Placed) → GrewBy turns 0 before after → AllByRecursion (FitsSlot before) ps → AllByRecursion (FitsSlot after) ps
all_stay turns before after [] grew all = tt
all_stay turns before after (p ∷ ps) grew all = (slot_stays turns before after p grew all.0, all_stay turns before after ps grew all.1)

things_stay : (turns : List RunTurn) (before after : List Seen) (things : List ExposedThing) → GrewBy turns 0 before after → AllByRecursion (ThingFits before) things → AllByRecursion (ThingFits after) things
things_stay turns before after [] grew all = tt
things_stay turns before after (t ∷ things) grew all = (all_stay turns before after t.affordances grew all.0, things_stay turns before after things grew all.1)

pub site_stays : (turns : List RunTurn) (before after : List Seen) (site : Site) → GrewBy turns 0 before after → Fits site before → Fits site after
site_stays turns before after site grew all = things_stay turns before after site.things grew all

pub fits_on : (old new : Kept) (q : RequestSeen) (o : Outcome) (before after : List Seen) → MakesAct old new q o before after → Fits old.site before → Fits new.site after
fits_on old new q o before after act fits =
    subst (λ (site : Site). Fits site after) (sym act.site) (site_stays _ before after old.site act.made.shows.turns fits)

pub fits_on_after_polls : (old new : Kept) (before after : List Seen) → MakesPolls old new before after → Fits old.site before → Fits new.site after
fits_on_after_polls old new before after polls fits =
    subst (λ (site : Site). Fits site after) (sym polls.site) (site_stays _ before after old.site polls.made.shows.turns fits)
