-- The promises of the calls of the servient: moves of the machine, which the network and the rack show.
use Rattle.std.specs.Prelude.{◌≡◌, ◌≢◌, ◌≤◌, ◌<◌, ℕ, List, [], ◌∷◌, ◌++◌, length}
use Rattle.servient_base.specs.Moves.{Becomes, Stays, Then}
use Rattle.servient_outside.specs.declared.net.What.TheVariants as what
use Rattle.servient_outside.specs.declared.net.EventWithBytes.{EventWithBytes}
use Rattle.servient_outside.specs.Network.{Happening, broke, next_event, break_count}
use Rattle.thing_site.specs.declared.fault.ExposeFault.{ExposeFault}
use Rattle.thing_site.specs.Exposing.{IsFirst}
use Rattle.wot_registry.specs.Times.{last_moment}
use Rattle.directory_requests.specs.Requests.{standing_at}
use Rattle.http_bind.specs.Slots.{StandsFor as ConnectionsStandFor, HasRoom}
use Rattle.servient_trace.specs.Trace.{Sighting, at_network}
use Rattle.servient_core.specs.Machine.{Site, State, Run}
use Rattle.servient_core.specs.declared.layers.Layers.{Layers}
use Rattle.servient_core.specs.declared.servient.OpenFault.{OpenFault}
use Rattle.servient_core.specs.declared.servient.OpenFault.TheVariants.{Expose, NoMemory}
use Rattle.servient_core.specs.declared.serving.Served.{Served}
use Rattle.servient_core.specs.declared.serving.Served.TheVariants as served

-- The state that the code of a servient keeps is `Layers` of src/layers.rt: a part for each layer, of which contracts
-- see each by its own view.

-- the Things that it exposes
abbrev pub site_of_parts : Layers → Site
site_of_parts kept = kept.exposed.site

-- The state that is kept stands for one of the machine: each part for that of its layer, and the kept part of a
-- connection for its whole stream.
pub record StandsFor (kept : Layers) (s : State) : Type 0 where
  pub moment : s.moment ≡ kept.moment
  pub http : ConnectionsStandFor kept.http s.http
  pub coap : s.coap ≡ kept.coap
  pub thing : s.thing ≡ kept.exposed.state
  -- of the entries what stands, since what is over is taken away only at a request
  pub directory : standing_at s.moment s.directory ≡ standing_at kept.moment kept.directory

-- Between two events: no emission waits to be handed out, the exchanges are at no later moment, the moment is one that
-- a clock may give, and each connection has room for another piece. It is an invariant of `Servient`, so that `step`
-- and `serve` ask only that the rack fits.
pub record IsReady (kept : Layers) : Type 0 where
  pub pending : kept.exposed.pending ≡ []
  pub moment : kept.coap.exchanges.moment ≤ kept.moment
  pub clock : kept.moment ≤ last_moment
  pub room : (c : ℕ) → HasRoom c kept.http

-- the fault of exposing, or being out of memory
abbrev pub IsOpenFault : List ExposeFault → OpenFault → Type 0
IsOpenFault faults (Expose fault) = IsFirst faults fault
IsOpenFault faults NoMemory = Unit {0}

-- no event is the end of the run
abbrev pub HasNoStop : List EventWithBytes → Type 0
HasNoStop [] = Unit {0}
HasNoStop (e ∷ es) = (e.event.what ≢ what.Stop) × HasNoStop es

-- These events were taken, of at most budget. Where serving stopped, the last is a Stop and no other; where it failed,
-- none is, and they are fewer than budget; where it spent the budget, none is, and they are exactly that many.
abbrev pub AreTaken : ℕ → List EventWithBytes → Served → Type 0
AreTaken budget took served.Stopped =
    (prefix : List EventWithBytes) × (last : EventWithBytes)
    × (took ≡ prefix ++ last ∷ []) × (last.event.what ≡ what.Stop) × HasNoStop prefix × (length took ≤ budget)
AreTaken budget took served.Failed = HasNoStop took × (length took < budget)
AreTaken budget took served.Spent = HasNoStop took × (length took ≡ budget)

-- the network breaks where serving failed, and where it ended otherwise nothing more happens
abbrev pub Ends : Served → State → List Sighting → State → Type 0
Ends served.Stopped s = Stays s
Ends served.Failed s = Becomes s (at_network (broke next_event) ∷ [])
Ends served.Spent s = Stays s

-- Serving at most budget events: a run of the machine, and then its end.
pub record Serves (site : Site) (budget : ℕ) (result : Served) (s : State) (seen : List Sighting) (t : State) : Type 0 where
  pub took : List EventWithBytes
  pub run : Then (Run site took) (Ends result) s seen t
  pub taken : AreTaken budget took result

-- ---- what follows from that

-- the network broke at the end of these and nowhere before
abbrev pub BreaksAtEnd : List Happening → Type 0
BreaksAtEnd happened = (prefix : List Happening) × (happened ≡ prefix ++ broke next_event ∷ []) × (break_count prefix ≡ 0)
