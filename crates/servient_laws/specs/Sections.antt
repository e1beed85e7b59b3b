-- A run in which the handlers forget their turns now and then keeps the laws of whole runs: it is one run of the
-- machine over all its events, and the sections in which the outside shows it are joined to its trace.
use Rattle.std.specs.Prelude.{◌≡◌, ℕ, Option, List, ◌∷◌, ◌++◌, All}
use Rattle.coap_msg.specs.declared.endpoint.Endpoint.{Endpoint}
use Rattle.coap_msg.specs.Grammar.{CoapMessage}
use Rattle.coap_exchange.specs.Admission.{Arrival, Verdict, duplicate, refused, verdict, admitted_among}
use Rattle.coap_bind.specs.Server.{arrival}
use Rattle.servient_outside.specs.declared.net.EventWithBytes.{EventWithBytes}
use Rattle.servient_core.specs.declared.sections.RunBounds.{RunBounds}
use Rattle.servient_core.specs.declared.sections.SectionsEnd.{SectionsEnd}
use Rattle.servient_trace.specs.Trace.{Sighting, calls_in}
use Rattle.servient_core.specs.Machine.{Site, State, start, EventAndStep, Run}
use Rattle.servient_core.specs.Runs.{AreRequestsFrom}
use Rattle.servient_trace.specs.ShownSections.{Shown, seen_in}
use Rattle.servient_core.specs.Sections.{ServesInSections}
use Rattle.servient_laws.specs.Calls.{IsFit}
use Rattle.servient_laws.specs.Requests.{Brings, moment_of, ActsNoMore, IsTurnedAway}

-- this verdict on a request that an event brings leads here
abbrev pub LeadsTo : Verdict → Site → ℕ → List EventWithBytes → EventWithBytes → State → (Endpoint → CoapMessage → Type 0) → Type 0
LeadsTo v site exchanges first e s Outcome =
    (from : Endpoint) (m : CoapMessage) (history : List Arrival) → AreRequestsFrom 0 first history → Brings from m e
    → verdict exchanges (admitted_among exchanges history) (arrival from (moment_of s e) m) ≡ v → Outcome from m

-- After these events this one is taken, and the sightings of that stand in the trace: a duplicate of a request acts no
-- more, and a request that finds as many exchanges alive as may is turned away.
pub record TakesAmong (site : Site) (exchanges : ℕ) (epoch : Option ℕ) (first : List EventWithBytes) (e : EventWithBytes) (trace : List Sighting) : Type 0 where
  pub s : State
  pub t : State
  pub before : List Sighting
  pub seen : List Sighting
  pub behind : List Sighting
  pub whole : trace ≡ before ++ (seen ++ behind)
  pub run : Run site first (start site exchanges epoch) before s
  pub step : EventAndStep site e s seen t
  pub repeats : LeadsTo duplicate site exchanges first e s (λ from m. ActsNoMore exchanges from m s e seen t)
  pub full : LeadsTo refused site exchanges first e s (λ from m. IsTurnedAway from s e seen t)

-- Each event of such a run is taken so, whatever was forgotten before it, and each call of the run is fit for its
-- device.
abbrev pub SectionsKeepPromises : Type 0
SectionsKeepPromises =
    (site : Site) (bounds : RunBounds) (exchanges : ℕ) (epoch : Option ℕ) (result : SectionsEnd) (shown : List Shown) (end : State)
    → (serves : ServesInSections site bounds result (start site exchanges epoch) shown end)
    → All (IsFit site) (calls_in (seen_in shown))
    × ((first rest : List EventWithBytes) (e : EventWithBytes) → serves.took ≡ first ++ e ∷ rest → TakesAmong site exchanges epoch first e (seen_in shown))
