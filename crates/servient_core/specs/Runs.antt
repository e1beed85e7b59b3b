-- Laws of whole runs of the machine.
use Rattle.std.specs.Prelude.{◌≡◌, ◌<◌, ◌≤◌, ◌+◌, ◌-◌, ◌^◌, ◌⊎◌, max, ℕ, List, [], ◌∷◌, ◌++◌, length, Option, Some, slice_get}
use Rattle.coap_msg.specs.declared.constants.TheConstants.{LONGEST_DATAGRAM}
use Rattle.coap_exchange.specs.Admission.{Arrival}
use Rattle.coap_bind.specs.Laws.{AreArrivals, Did}
use Rattle.thing_handler.specs.Handler.{Seen}
use Rattle.thing_handler.specs.Turns.{misses_in, times}
use Rattle.servient_outside.specs.declared.net.What.{What}
use Rattle.servient_outside.specs.declared.net.What.TheVariants as what
use Rattle.servient_outside.specs.declared.net.EventWithBytes.{EventWithBytes}
use Rattle.servient_core.specs.declared.serving.Served.{Served}
use Rattle.servient_trace.specs.Trace.{Sighting, calls_in, Outside, Shows}
use Rattle.servient_core.specs.Machine.{Site, State, start, Run}
use Rattle.servient_core.specs.Serving.{Serves}

-- ---- histories

-- The requests of what comes with these bytes at a moment: those of a datagram that isn't too long, and else none.
abbrev pub AreRequestsOf : What → List ℕ → ℕ → List Arrival → Type 0
AreRequestsOf (what.Datagram from size) bytes now new =
    (LONGEST_DATAGRAM < length bytes × (new ≡ [])) ⊎ (length bytes ≤ LONGEST_DATAGRAM × AreArrivals from bytes now new)
AreRequestsOf w bytes now new = new ≡ []

-- those of events, one after another, each at the greatest moment so far, from this one on
abbrev pub AreRequestsFrom : ℕ → List EventWithBytes → List Arrival → Type 0
AreRequestsFrom moment [] history = history ≡ []
AreRequestsFrom moment (e ∷ es) history =
    (new rest : List Arrival) × AreRequestsOf e.event.what e.bytes (max moment e.event.moment) new
    × AreRequestsFrom (max moment e.event.moment) es rest × (history ≡ new ++ rest)

-- A state has the history of these events: after the requests that came in them the CoAP server, in which n exchanges
-- may live, holds what it holds now; and it is at no later moment than the machine.
pub record HasHistory (exchanges : ℕ) (took : List EventWithBytes) (t : State) : Type 0 where
  pub history : List Arrival
  pub requests : AreRequestsFrom 0 took history
  pub did : Did exchanges history t.coap
  pub moment : t.coap.exchanges.moment ≤ t.moment

-- The state after each run from the beginning has that of its events.
abbrev pub EachRunHasAHistory : Type 0
EachRunHasAHistory =
    (site : Site) (exchanges : ℕ) (epoch : Option ℕ) (took : List EventWithBytes) (seen : List Sighting) (t : State)
    → Run site took (start site exchanges epoch) seen t → HasHistory exchanges took t

-- So has the state after serving, of the events that were taken.
abbrev pub ServingHasAHistory : Type 0
ServingHasAHistory =
    (site : Site) (exchanges budget : ℕ) (epoch : Option ℕ) (result : Served) (seen : List Sighting) (t : State)
    (serves : Serves site budget result (start site exchanges epoch) seen t) → HasHistory exchanges serves.took t

-- ---- misses
--
-- A miss is an entry of the trace. So the polls that are left out and the operations that stop at a handler are at most
-- as many as its count rose by: that is `stops_are_counted` of `servient_laws`.

-- the number of times that the handler in a slot was out of memory, in this trace
abbrev pub misses_of : ℕ → List Sighting → ℕ
misses_of slot seen = times slot (misses_in (calls_in seen))

-- A count rose by exactly `more`, or is at the last value of 64 bits.
abbrev pub RoseExactly : ℕ → ℕ → ℕ → Type 0
RoseExactly more before now = (now ≡ before + more) ⊎ (2 ^ 64 - 1 ≤ now)

-- Where serving was seen, each handler's count of misses rose by the number of times that it was out of memory.
abbrev pub MissesAreCounted : Type 0
MissesAreCounted =
    (site : Site) (budget slot : ℕ) (result : Served) (s t : State) (seen : List Sighting) (before now : Outside) (old new : Seen)
    → Serves site budget result s seen t → Shows before now seen
    → slice_get before.slots slot ≡ Some old → slice_get now.slots slot ≡ Some new
    → RoseExactly (misses_of slot seen) old.misses new.misses
