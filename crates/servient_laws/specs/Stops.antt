-- The times that a handler was out of memory over a whole run: the polls that were left out and the operations that
-- stopped at it are together at most as many as its count of misses rose by.
use Rattle.std.specs.Prelude.{◌≡◌, ◌<◌, ◌≤◌, ◌+◌, ◌-◌, ◌^◌, ◌⊎◌, ℕ, List, [], ◌∷◌, ◌++◌, Option, Some, None, slice_get}
use Rattle.std.specs.List.{filter_map, flat_map}
use Rattle.servient_base.specs.Moves.{Stays, Then, Each}
use Rattle.thing_ops.specs.declared.outcome.Outcome.TheVariants as outcome
use Rattle.thing_ops.specs.Requests.{RequestSeen}
use Rattle.thing_handler.specs.Handler.{Seen}
use Rattle.thing_handler.specs.Turns.{HandlerCall, missed, turns_in}
use Rattle.thing_site.specs.Site.{Placed, events_of}
use Rattle.thing_state.specs.State.{State as ThingState, Emission, most_turns}
use Rattle.thing_state.specs.Calls.{Move}
use Rattle.thing_core.specs.Thing.{Done, Acts, PollsEvent}
use Rattle.servient_outside.specs.declared.net.What.{What}
use Rattle.servient_outside.specs.declared.net.What.TheVariants as what
use Rattle.servient_outside.specs.declared.net.EventWithBytes.{EventWithBytes}
use Rattle.servient_core.specs.declared.serving.Served.{Served}
use Rattle.servient_trace.specs.Trace.{Sighting, calls_in, Outside, Shows}
use Rattle.servient_core.specs.Machine.{Site, State}
use Rattle.servient_core.specs.Serving.{Serves}

-- ---- what a run does with the Things

-- One thing that it does: an event affordance is polled, or a request is acted on.
pub data Task : Type 0 where
  polls : Placed → List Emission → Task
  acts : RequestSeen → Done → Task

abbrev pub DoesTask : Site → Task → Move
DoesTask site (polls p emissions) = PollsEvent p emissions
DoesTask site (acts q done) = Acts site q done

-- the event affordance that is polled
abbrev pub polled_in : Task → Option Placed
polled_in (polls p emissions) = Some p
polled_in (acts q done) = None

-- the affordances that are polled when this comes: by a tick all event affordances, in order, each once
abbrev pub polled_by : Site → What → List Placed
polled_by site what.Tick = events_of site.things
polled_by site other = []

-- While these events are taken the Things do these tasks, one after another, and nothing else is called; what is polled
-- is what their ticks poll.
pub record DoesTasks (site : Site) (took : List EventWithBytes) (s : ThingState) (seen : List HandlerCall) (t : ThingState) : Type 0 where
  pub tasks : List Task
  pub polled : filter_map polled_in tasks ≡ flat_map (λ (e : EventWithBytes). polled_by site e.event.what) took
  pub each : Each (DoesTask site) tasks s seen t

-- ---- what stops at a handler

-- A poll is left out: it makes no turn, though the run has a number left for one. An operation stops: its outcome is
-- that it was out of memory, and the last that is seen of it is that so was the handler which was to be called next.
abbrev pub StopsAt : ℕ → Task → ThingState → List HandlerCall → Type 0
StopsAt slot (polls p emissions) s seen = (p.slot ≡ slot) × (s.turns < most_turns s.left_out) × (turns_in seen ≡ [])
StopsAt slot (acts q done) s seen = (done.outcome ≡ outcome.Memory) × (before : List HandlerCall) × (seen ≡ before ++ missed slot ∷ [])

-- it is done, and is one that stops there, or isn't counted
abbrev pub CountsTask : Site → ℕ → Task → ℕ → Move
CountsTask site slot task n s seen t = DoesTask site task s seen t × ((n ≡ 0) ⊎ ((n ≡ 1) × StopsAt slot task s seen))

-- These tasks are done one after another, and n of them are counted, each of which stops there.
abbrev pub CountsTasks : Site → ℕ → List Task → ℕ → Move
CountsTasks site slot [] n s seen t = (n ≡ 0) × Stays s seen t
CountsTasks site slot (task ∷ tasks) n s seen t =
    (one others : ℕ) × (n ≡ one + others) × Then (CountsTask site slot task one) (CountsTasks site slot tasks others) s seen t

-- A count rose by so many at least, or is at the last value of 64 bits.
abbrev pub RoseAtLeast : ℕ → ℕ → ℕ → Type 0
RoseAtLeast n before now = (before + n ≤ now) ⊎ (2 ^ 64 - 1 ≤ now)

-- Serving does such tasks with the Things, and of each handler: however many of them are counted that stop at it, its
-- count of misses rose by as many at least.
abbrev pub StopsAreCounted : Type 0
StopsAreCounted =
    (site : Site) (budget : ℕ) (result : Served) (s t : State) (seen : List Sighting) (before now : Outside)
    → (serves : Serves site budget result s seen t) → Shows before now seen
    → (does : DoesTasks site serves.took s.thing (calls_in seen) t.thing)
    × ((slot n : ℕ) (old new : Seen) → CountsTasks site slot does.tasks n s.thing (calls_in seen) t.thing
    → slice_get before.slots slot ≡ Some old → slice_get now.slots slot ≡ Some new → RoseAtLeast n old.misses new.misses)
