-- A round of polls: each event is polled once, one after another.
use Rattle.std.specs.Prelude.{◌≡◌, ℕ, List, [], ◌∷◌, ◌++◌, map, drop, Bool, true, false}
use Rattle.std.specs.List.{filter}
use Rattle.servient_base.specs.Moves.{Makes}
use Rattle.wot_terms.specs.declared.kind.Kind.TheVariants as kind
use Rattle.thing_handler.specs.Handler.{Seen}
use Rattle.thing_handler.specs.Turns.{RackShows}
use Rattle.thing_site.specs.Site.{Placed, ExposedThing, of_kind, events_of}
use Rattle.thing_core.specs.declared.polling.Round.{Round}
use Rattle.thing_state.specs.State.{Emission}
use Rattle.thing_core.specs.Thing.{PollsEvent}
use Rattle.thing_core.specs.Kept.{Kept}

-- the events of these Things, of the first those from an affordance on
abbrev pub events_from : ℕ → List ExposedThing → List Placed
events_from affordance [] = []
events_from affordance (thing ∷ things) = filter (of_kind kind.Event) (drop affordance thing.affordances) ++ events_of things

-- the events that weren't polled yet in a round, in the order of Things and names
abbrev pub events_left : Round → List ExposedThing → List Placed
events_left round things = events_from round.affordance (drop round.thing things)

-- An event was polled, and what it emits waits to be handed out.
pub record MakesPoll (p : Placed) (old new : Kept) (before after : List Seen) : Type 0 where
  pub emissions : List Emission
  pub pending : new.pending ≡ map (λ e. e.target) emissions
  pub site : new.site ≡ old.site
  pub made : Makes RackShows (PollsEvent p emissions) old.state new.state before after

-- The first event that is left was polled; or none is left, and nothing was done.
abbrev pub PollsNext : Bool → Round → Round → Kept → Kept → List Seen → List Seen → Type 0
PollsNext true round later old new before after =
    (p : Placed) × (events_left round old.site.things ≡ p ∷ events_left later old.site.things) × MakesPoll p old new before after
PollsNext false round later old new before after = (events_left round old.site.things ≡ []) × (new ≡ old) × (after ≡ before)
