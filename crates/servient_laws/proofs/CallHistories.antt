-- The history of requests of what was seen so far.
use Rattle.std.proofs.Common.{◌≡◌, ◌≤◌, ℕ, max, List, [], ◌∷◌, ◌++◌, Option, refl, sym, ap, subst, ◌∙◌, arith, append_assoc}
use Rattle.std.proofs.lemmas.List.{append-nil}
use Rattle.coap_msg.specs.declared.endpoint.Endpoint.{Endpoint}
use Rattle.coap_msg.specs.Grammar.{CoapMessage}
use Rattle.coap_exchange.specs.Admission.{Arrival}
use Rattle.coap_exchange.specs.declared.met.Met.TheVariants.{Fresh}
use Rattle.coap_bind.specs.declared.server.Server.{Server}
use Rattle.coap_bind.specs.Server.{IsMet}
use Rattle.servient_outside.specs.declared.net.EventWithBytes.{EventWithBytes}
use Rattle.servient_outside.specs.Network.{events_in}
use Rattle.servient_trace.specs.Trace.{Sighting, happened_in}
use Rattle.servient_trace.proofs.TraceLaws.{events-append}
use Rattle.servient_core.specs.Machine.{Site, State, start, Step, EventAndStep}
use Rattle.servient_core.specs.Runs.{AreRequestsOf, AreRequestsFrom}
use Rattle.servient_core.proofs.MachineLaws.{step_keeps}
use Rattle.servient_core.proofs.RunHistories.{Holds, starts_so, step_goes_on}
use Rattle.servient_laws.specs.CallRequests.{moment_after, IsAdmitted}
use Rattle.servient_laws.proofs.RequestLaws.{met_by}

-- the events that came
abbrev pub came : List Sighting → List EventWithBytes
came seen = events_in (happened_in seen)

-- The state between two events holds what it holds after the requests of all that came.
pub record HasHeard (exchanges : ℕ) (seen : List Sighting) (s : State) : Type 0 where
  pub history : List Arrival
  pub requests : AreRequestsFrom 0 (came seen) history
  pub holds : Holds exchanges history (moment_after 0 (came seen)) s

pub heard_none : (site : Site) (exchanges : ℕ) (epoch : Option ℕ) → HasHeard exchanges [] (start site exchanges epoch)
heard_none site exchanges epoch = record { history = []; requests = refl; holds = starts_so site exchanges epoch }

-- ---- one more event

moment_then : (moment : ℕ) (events : List EventWithBytes) (e : EventWithBytes) → moment_after moment (events ++ e ∷ []) ≡ max (moment_after moment events) e.event.moment
moment_then moment [] e = refl
moment_then moment (x ∷ events) e = moment_then (max moment x.event.moment) events e

requests_then : (moment : ℕ) (events : List EventWithBytes) (e : EventWithBytes) (history new : List Arrival) → AreRequestsFrom moment events history
    → AreRequestsOf e.event.what e.bytes (max (moment_after moment events) e.event.moment) new → AreRequestsFrom moment (events ++ e ∷ []) (history ++ new)
requests_then moment [] e history new none of = (new, [], of, refl, ap (λ (h : List Arrival). h ++ new) none ∙ sym (append-nil new))
requests_then moment (x ∷ events) e history new (first, rest, one, others, whole) of =
    (first, rest ++ new, one, requests_then (max moment x.event.moment) events e rest new others of, ap (λ (h : List Arrival). h ++ new) whole ∙ append_assoc first rest new)

came_then : (site : Site) (e : EventWithBytes) (seen a : List Sighting) (s t : State) → EventAndStep site e s a t → came (seen ++ a) ≡ came seen ++ e ∷ []
came_then site e seen a s t w =
    let step : Step site e s w.second t = subst (λ (x : State). Step site e x w.second t) w.one.next w.other in
    let one : came a ≡ e ∷ [] = ap came (w.whole ∙ ap (λ (l : List Sighting). l ++ w.second) w.one.saw) ∙ ap (λ (l : List EventWithBytes). e ∷ l) (step_keeps site e s w.second t step).hears in
    events-append seen a ∙ ap (λ (l : List EventWithBytes). came seen ++ l) one

pub heard_more : (site : Site) (exchanges : ℕ) (e : EventWithBytes) (seen a : List Sighting) (s t : State) → HasHeard exchanges seen s → EventAndStep site e s a t → HasHeard exchanges (seen ++ a) t
heard_more site exchanges e seen a s t h w =
    let step : Step site e s w.second t = subst (λ (x : State). Step site e x w.second t) w.one.next w.other in
    let goes = step_goes_on exchanges h.history (moment_after 0 (came seen)) site e s t w.second step h.holds in
    let more : came (seen ++ a) ≡ came seen ++ e ∷ [] = came_then site e seen a s t w in
    let moment : moment_after 0 (came (seen ++ a)) ≡ max (moment_after 0 (came seen)) e.event.moment = ap (moment_after 0) more ∙ moment_then 0 (came seen) e in
    record {
      history = h.history ++ goes.new;
      requests = subst (λ (l : List EventWithBytes). AreRequestsFrom 0 l (h.history ++ goes.new)) (sym more) (requests_then 0 (came seen) e h.history goes.new h.requests goes.requests);
      holds = subst (λ (n : ℕ). Holds exchanges (h.history ++ goes.new) n t) (sym moment) goes.holds;
    }

-- ---- a request that is admitted

-- A request that met no other is admitted by the whole history.
pub admitted_by : (exchanges : ℕ) (seen : List Sighting) (e : EventWithBytes) (from : Endpoint) (m : CoapMessage) (slot : ℕ) (s : State) (u : Server) → HasHeard exchanges seen s
    → IsMet from e.bytes (max s.moment e.event.moment) m (Fresh slot) s.coap u → IsAdmitted exchanges seen e from m
admitted_by exchanges seen e from m slot s u h met = record {
  history = h.history;
  requests = h.requests;
  verdict_is = met_by exchanges h.history from e.bytes now m (Fresh slot) s.coap u h.holds.did past there;
}
  where
    now : ℕ
    now = max (moment_after 0 (came seen)) e.event.moment

    there : IsMet from e.bytes now m (Fresh slot) s.coap u
    there = subst (λ (n : ℕ). IsMet from e.bytes n m (Fresh slot) s.coap u) (ap (λ (n : ℕ). max n e.event.moment) h.holds.at) met

    past : s.coap.exchanges.moment ≤ now
    past = omega (arith, h.holds.early)
