-- The storm event by event: its moments, how many events there are, and that none of them ends the run.
use Rattle.std.proofs.Common.{◌≡◌, ◌≢◌, ◌≤◌, ◌+◌, ◌*◌, ◌%◌, ◌∙◌, ℕ, zero, suc, List, [], ◌∷◌, ◌++◌, Option, Some, None, length, refl, ap, arith, length-append, add-one}
use Rattle.std.specs.List.{AllByRecursion}
use Rattle.servient_outside.specs.declared.net.What.TheVariants as what
use Rattle.servient_outside.specs.declared.net.EventWithBytes.{EventWithBytes}
use Rattle.storm_events.specs.declared.datagram.Datagram.{Datagram}
use Rattle.storm_events.specs.declared.coming.Coming.{Coming}
use Rattle.storm_events.specs.declared.storm.Storm.{Storm}
use Rattle.storm_events.specs.Generator.{number_after, drawn}
use Rattle.storm_events.specs.Storm.{choice_of, coming_by, endpoint_of, event_of, joined, with_event, storm_after, events_of}

-- each pause is below 500 ms
pub moment_bound : (seed i : ℕ) → (storm_after seed i).moment ≤ 499 * i
moment_bound seed zero = omega arith
moment_bound seed (suc i) = omega (arith, moment_bound seed i)

-- ---- what an event adds

one_longer : (s : Storm) (moment : ℕ) (c : Coming) → length (joined s moment c).events ≡ suc (length s.events)
one_longer s moment c = omega (arith, length-append s.events (event_of moment c.datagram ∷ []))

event_longer : (i : ℕ) (s : Storm) → length (with_event i s).events ≡ suc (length s.events)
event_longer i s =
    let first = number_after s.number in
    let second = number_after first in
    let third = number_after second in
    one_longer s (s.moment + drawn first % 500) (coming_by (choice_of (drawn second % 8)) third (i % 65536) (endpoint_of (drawn third)) s.datagrams)

pub count_is : (seed n : ℕ) → length (events_of seed n) ≡ n
count_is seed zero = refl
count_is seed (suc i) = event_longer i (storm_after seed i) ∙ ap (λ (n : ℕ). suc n) (count_is seed i)

-- one event more
pub one_more : (seed i : ℕ) → storm_after seed (i + 1) ≡ with_event i (storm_after seed i)
one_more seed i = ap (storm_after seed) (add-one i)

-- ---- no event of the storm ends the run

abbrev IsNoStop : EventWithBytes → Type 0
IsNoStop e = e.event.what ≢ what.Stop

is_no_stop : (moment : ℕ) (datagram : Option Datagram) → IsNoStop (event_of moment datagram)
is_no_stop moment None is = absurd cc
is_no_stop moment (Some d) is = absurd cc

all_and_one : (events : List EventWithBytes) (e : EventWithBytes) → AllByRecursion IsNoStop events → IsNoStop e → AllByRecursion IsNoStop (events ++ e ∷ [])
all_and_one [] e all one = (one, tt)
all_and_one (x ∷ events) e all one = (all.0, all_and_one events e all.1 one)

pub never_stops : (seed n : ℕ) → AllByRecursion (λ (e : EventWithBytes). e.event.what ≢ what.Stop) (events_of seed n)
never_stops seed zero = tt
never_stops seed (suc i) = all_and_one (storm_after seed i).events _ (never_stops seed i) (is_no_stop _ _)
