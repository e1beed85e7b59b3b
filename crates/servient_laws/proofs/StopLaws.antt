-- A run divided into what it does with the Things, and how much of that stopped at a handler.
use Rattle.std.proofs.Common.{◌≡◌, ◌≤◌, ◌+◌, ℕ, List, [], ◌∷◌, ◌++◌, map, max, true, false, eqb, refl, sym, ap, ap₂, subst, ◌∙◌, arith, append_assoc, inl, inr}
use Rattle.std.specs.List.{filter_map, flat_map}
use Rattle.std.proofs.lemmas.Bool.{cases_eq, eq-eqb, ne_eqb}
use Rattle.std.proofs.lemmas.List.{append-nil}
use Rattle.std.proofs.lemmas.List.Elements.{filter_map-append}
use Rattle.servient_base.specs.Moves.{Becomes, Each, Until, is_done, goes_on}
use Rattle.coap_msg.specs.declared.endpoint.Endpoint.{Endpoint}
use Rattle.thing_ops.specs.Requests.{RequestSeen}
use Rattle.thing_handler.specs.declared.handler.CallKind.TheVariants as call
use Rattle.thing_handler.specs.Turns.{HandlerCall, RunTurn, missed, turns_in, miss_in, misses_in, times}
use Rattle.thing_site.specs.Site.{Placed, events_of}
use Rattle.thing_state.specs.State.{State as ThingState, Emission}
use Rattle.thing_state.specs.Calls.{no_number, no_memory, gives}
use Rattle.thing_core.specs.Thing.{Done, PollsEvent}
use Rattle.coap_bind.specs.Server.{Heard, ignored, answered_at_once, asked}
use Rattle.http_bind.specs.Streams.{Taken, asks, wants_continue, is_faulty, interrupts, IsDry}
use Rattle.servient_outside.specs.declared.net.What.{What}
use Rattle.servient_outside.specs.declared.net.What.TheVariants as what
use Rattle.servient_outside.specs.declared.net.EventWithBytes.{EventWithBytes}
use Rattle.servient_outside.specs.declared.net.Act.TheVariants as act
use Rattle.servient_outside.specs.Network.{heard, broke, next_event}
use Rattle.servient_core.specs.declared.serving.Served.{Served}
use Rattle.servient_core.specs.declared.serving.Served.TheVariants as served
use Rattle.servient_trace.specs.Trace.{Sighting, at_network, call_in, calls_in}
use Rattle.servient_core.specs.Machine.{Site, State, OnThing, acts_of_reply, AnswersDatagram, HearsDatagram, PerformsByHttp, AnswersTaken, TakesNextMessage, HearsPiece, PollsAndDelivers, Follows, EventAndStep, Run}
use Rattle.servient_core.specs.Meaning.{by_coap, by_http}
use Rattle.servient_core.specs.Promises.{ActsOnNothing}
use Rattle.servient_core.specs.Runs.{misses_of, RoseExactly}
use Rattle.servient_core.specs.Serving.{Serves, Ends}
use Rattle.servient_core.proofs.MissLaws.{misses_are_counted}
use Rattle.servient_core.proofs.PartLaws.{the_calls}
use Rattle.servient_core.proofs.MeaningLaws.{does_quiet, each_quiet, ends_quiet, rest_quiet}
use Rattle.servient_laws.specs.Stops.{Task, polls, acts, DoesTask, polled_in, polled_by, StopsAt, CountsTask, CountsTasks, RoseAtLeast, StopsAreCounted}

-- ---- one move and then another

each_then : {S X A : Type 0} (P : A → S → List X → S → Type 0) (xs ys : List A) (s m t : S) (a b seen : List X) → Each P xs s a m → Each P ys m b t → seen ≡ a ++ b → Each P (xs ++ ys) s seen t
each_then {S} {X} {A} P [] ys s m t a b seen stays more whole =
    subst (λ (x : S). Each P ys x seen t) stays.next (subst (λ (x : List X). Each P ys m x t) (sym (whole ∙ ap (λ (x : List X). x ++ b) stays.saw)) more)
each_then {S} {X} {A} P (x ∷ xs) ys s m t a b seen w more whole = record {
  mid = w.mid;
  first = w.first;
  second = w.second ++ b;
  one = w.one;
  other = each_then P xs ys w.mid m t w.second b (w.second ++ b) w.other more refl;
  whole = whole ∙ ap (λ (y : List X). y ++ b) w.whole ∙ append_assoc w.first w.second b;
}

-- the trace from one state of the Things to another is some tasks, of which these are polled
record Tasks (site : Site) (ps : List Placed) (s : ThingState) (seen : List Sighting) (t : ThingState) : Type 0 where
  tasks : List Task
  polled : filter_map polled_in tasks ≡ ps
  each : Each (DoesTask site) tasks s (calls_in seen) t

tasks_then : (site : Site) (ps qs : List Placed) (s m t : ThingState) (a b seen : List Sighting) → Tasks site ps s a m → Tasks site qs m b t → seen ≡ a ++ b → Tasks site (ps ++ qs) s seen t
tasks_then site ps qs s m t a b seen p q whole = record {
  tasks = p.tasks ++ q.tasks;
  polled = filter_map-append polled_in p.tasks q.tasks ∙ ap₂ (λ (x y : List Placed). x ++ y) p.polled q.polled;
  each = each_then (DoesTask site) p.tasks q.tasks s m t (calls_in a) (calls_in b) (calls_in seen) p.each q.each (ap calls_in whole ∙ filter_map-append call_in a b);
}

no_task : (site : Site) (s t : ThingState) (seen : List Sighting) → calls_in seen ≡ [] → t ≡ s → Tasks site [] s seen t
no_task site s t seen none same = record { tasks = []; polled = refl; each = record { next = same; saw = none } }

-- a move that leaves the Things and calls nothing
quiet : (site : Site) (s t : State) (seen : List Sighting) → ActsOnNothing s seen t → Tasks site [] s.thing seen t.thing
quiet site s t seen q = no_task site s.thing t.thing seen q.calls q.thing

-- the state becomes another with the same Things
becomes : (site : Site) (s u t : State) (shown seen : List Sighting) → Becomes u shown seen t → u.thing ≡ s.thing → calls_in shown ≡ [] → Tasks site [] s.thing seen t.thing
becomes site s u t shown seen b same none = no_task site s.thing t.thing seen (ap calls_in b.saw ∙ none) (ap (λ (x : State). x.thing) b.next ∙ same)

one_task : (site : Site) (task : Task) (ps : List Placed) (s t : State) (seen : List Sighting) → filter_map polled_in (task ∷ []) ≡ ps → OnThing (DoesTask site task) s seen t → Tasks site ps s.thing seen t.thing
one_task site task ps s t seen is on =
    let saw : calls_in seen ≡ on.1 = ap calls_in on.3.saw ∙ the_calls on.1 in
    let next : t.thing ≡ on.0 = ap (λ (x : State). x.thing) on.3.next in
    record {
      tasks = task ∷ [];
      polled = is;
      each = record {
        mid = t.thing;
        first = calls_in seen;
        second = [];
        one = subst (λ (cs : List HandlerCall). DoesTask site task s.thing cs t.thing) (sym saw) (subst (λ (x : ThingState). DoesTask site task s.thing on.1 x) (sym next) on.2);
        other = record { next = refl; saw = refl };
        whole = sym (append-nil (calls_in seen));
      };
    }

until_quiet : (site : Site) (P : State → List Sighting → State → Type 0) (IsDone : State → Type 0) → ((s t : State) (seen : List Sighting) → P s seen t → Tasks site [] s.thing seen t.thing)
    → (s t : State) (seen : List Sighting) → Until P IsDone s seen t → Tasks site [] s.thing seen t.thing
until_quiet site P IsDone each s t seen (is_done s' seen' t' done stays) = becomes site s s t [] seen stays refl refl
until_quiet site P IsDone each s t seen (goes_on s' mid t' seen' first second one more whole) =
    tasks_then site [] [] s.thing mid.thing t.thing first second seen (each s mid first one) (until_quiet site P IsDone each mid t second more) whole

-- ---- requests

heard_tasks : (site : Site) (from : Endpoint) (h : Heard) (s t : State) (seen : List Sighting) → AnswersDatagram site from h s seen t → Tasks site [] s.thing seen t.thing
heard_tasks site from ignored s t seen stays = becomes site s s t [] seen stays refl refl
heard_tasks site from (answered_at_once bytes) s t seen does = quiet site s t seen (does_quiet (act.Datagram from bytes ∷ []) s t seen does)
heard_tasks site from (asked ask request) s t seen (done, w) =
    tasks_then site [] [] s.thing w.mid.thing t.thing w.first w.second seen (one_task site (acts ask.request done) [] s w.mid w.first refl w.one)
    (quiet site w.mid t w.second (rest_quiet site (by_coap from ask request) done w.mid t w.second w.other)) w.whole

datagram_tasks : (site : Site) (from : Endpoint) (bytes : List ℕ) (s t : State) (seen : List Sighting) → HearsDatagram site from bytes s seen t → Tasks site [] s.thing seen t.thing
datagram_tasks site from bytes s t seen (inl long) = becomes site s s t [] seen long.1 refl refl
datagram_tasks site from bytes s t seen (inr (short, (h, w))) =
    tasks_then site [] [] s.thing w.mid.thing t.thing w.first w.second seen (becomes site s (record s { coap = w.one.0 }) w.mid [] w.first w.one.2 refl refl) (heard_tasks site from h w.mid t w.second w.other) w.whole

by_http_tasks : (site : Site) (q : RequestSeen) (done : Done) (s t : State) (seen : List Sighting) → PerformsByHttp site q done s seen t → Tasks site [] s.thing seen t.thing
by_http_tasks site q done s t seen (inl directory) = becomes site s (record s { directory = directory.1.0 }) t [] seen directory.1.3 refl refl
by_http_tasks site q done s t seen (inr things) = one_task site (acts q done) [] s t seen refl things.1

taken_tasks : (site : Site) (c : ℕ) (taken : Taken) (s t : State) (seen : List Sighting) → AnswersTaken site c taken s seen t → Tasks site [] s.thing seen t.thing
taken_tasks site c (asks q) s t seen (done, w) =
    tasks_then site [] [] s.thing w.mid.thing t.thing w.first w.second seen (by_http_tasks site q done s w.mid w.first w.one)
    (quiet site w.mid t w.second (rest_quiet site (by_http c q) done w.mid t w.second w.other)) w.whole
taken_tasks site c wants_continue s t seen (bytes, w) =
    tasks_then site [] [] s.thing w.mid.thing t.thing w.first w.second seen (becomes site s (record s { http = w.one.0 }) w.mid [] w.first w.one.2 refl refl)
    (quiet site w.mid t w.second (does_quiet (acts_of_reply c (record { bytes = bytes; closes = false })) w.mid t w.second w.other)) w.whole
taken_tasks site c (is_faulty status) s t seen (bytes, w) =
    tasks_then site [] [] s.thing w.mid.thing t.thing w.first w.second seen (becomes site s (record s { http = w.one.0 }) w.mid [] w.first w.one.2 refl refl)
    (quiet site w.mid t w.second (does_quiet (acts_of_reply c (record { bytes = bytes; closes = true })) w.mid t w.second w.other)) w.whole
taken_tasks site c interrupts s t seen does = quiet site s t seen (does_quiet (act.Closed c ∷ []) s t seen does)

next_tasks : (site : Site) (c : ℕ) (s t : State) (seen : List Sighting) → TakesNextMessage site c s seen t → Tasks site [] s.thing seen t.thing
next_tasks site c s t seen (taken, w) =
    tasks_then site [] [] s.thing w.mid.thing t.thing w.first w.second seen (becomes site s (record s { http = w.one.0 }) w.mid [] w.first w.one.2 refl refl) (taken_tasks site c taken w.mid t w.second w.other) w.whole

piece_tasks : (site : Site) (c : ℕ) (bytes : List ℕ) (s t : State) (seen : List Sighting) → HearsPiece site c bytes s seen t → Tasks site [] s.thing seen t.thing
piece_tasks site c bytes s t seen w =
    tasks_then site [] [] s.thing w.mid.thing t.thing w.first w.second seen (becomes site s (record s { http = w.one.0 }) w.mid [] w.first w.one.2 refl refl)
    (until_quiet site (TakesNextMessage site c) (λ (x : State). IsDry c x.http) (λ x y calls move. next_tasks site c x y calls move) w.mid t w.second w.other) w.whole

-- ---- polls

poll_tasks : (site : Site) (p : Placed) (s t : State) (seen : List Sighting) → PollsAndDelivers p s seen t → Tasks site (p ∷ []) s.thing seen t.thing
poll_tasks site p s t seen (emissions, w) =
    tasks_then site (p ∷ []) [] s.thing w.mid.thing t.thing w.first w.second seen (one_task site (polls p emissions) (p ∷ []) s w.mid w.first refl w.one)
    (quiet site w.mid t w.second (each_quiet (map (λ e. e.target) emissions) w.mid t w.second w.other)) w.whole

polls_tasks : (site : Site) (ps : List Placed) (s t : State) (seen : List Sighting) → Each PollsAndDelivers ps s seen t → Tasks site ps s.thing seen t.thing
polls_tasks site [] s t seen stays = becomes site s s t [] seen stays refl refl
polls_tasks site (p ∷ ps) s t seen w =
    tasks_then site (p ∷ []) ps s.thing w.mid.thing t.thing w.first w.second seen (poll_tasks site p s w.mid w.first w.one) (polls_tasks site ps w.mid t w.second w.other) w.whole

-- ---- runs

follows_tasks : (site : Site) (w : What) (bytes : List ℕ) (s t : State) (seen : List Sighting) → Follows site w bytes s seen t → Tasks site (polled_by site w) s.thing seen t.thing
follows_tasks site (what.Opened c) bytes s t seen on = becomes site s (record s { http = on.0 }) t [] seen on.2 refl refl
follows_tasks site (what.Bytes c size) bytes s t seen on = piece_tasks site c bytes s t seen on
follows_tasks site (what.Ended c) bytes s t seen on = becomes site s (record s { http = on.0 }) t [] seen on.2 refl refl
follows_tasks site (what.Datagram from size) bytes s t seen on = datagram_tasks site from bytes s t seen on
follows_tasks site what.Tick bytes s t seen on = polls_tasks site (events_of site.things) s t seen on
follows_tasks site what.Stop bytes s t seen stays = becomes site s s t [] seen stays refl refl

event_tasks : (site : Site) (e : EventWithBytes) (s t : State) (seen : List Sighting) → EventAndStep site e s seen t → Tasks site (polled_by site e.event.what) s.thing seen t.thing
event_tasks site e s t seen w =
    let step = w.other in
    let ps = polled_by site e.event.what in
    let risen : State = record w.mid { moment = max w.mid.moment e.event.moment } in
    let follows : Tasks site ps w.mid.thing step.first step.mid.thing = follows_tasks site e.event.what e.bytes risen step.mid step.first step.one in
    let all : Tasks site (ps ++ []) w.mid.thing w.second t.thing =
    tasks_then site ps [] w.mid.thing step.mid.thing t.thing step.first step.second w.second follows (quiet site step.mid t step.second (ends_quiet step.mid t step.second step.other)) step.whole in
    tasks_then site [] ps s.thing w.mid.thing t.thing w.first w.second seen (becomes site s s w.mid (at_network (heard e) ∷ []) w.first w.one refl refl)
    (subst (λ (qs : List Placed). Tasks site qs w.mid.thing w.second t.thing) (append-nil ps) all) w.whole

abbrev polled_in_run : Site → List EventWithBytes → List Placed
polled_in_run site took = flat_map (λ (e : EventWithBytes). polled_by site e.event.what) took

run_tasks : (site : Site) (took : List EventWithBytes) (s t : State) (seen : List Sighting) → Run site took s seen t → Tasks site (polled_in_run site took) s.thing seen t.thing
run_tasks site [] s t seen stays = becomes site s s t [] seen stays refl refl
run_tasks site (e ∷ es) s t seen w =
    tasks_then site (polled_by site e.event.what) (polled_in_run site es) s.thing w.mid.thing t.thing w.first w.second seen (event_tasks site e s w.mid w.first w.one) (run_tasks site es w.mid t w.second w.other) w.whole

end_tasks : (site : Site) (result : Served) (s t : State) (seen : List Sighting) → Ends result s seen t → Tasks site [] s.thing seen t.thing
end_tasks site served.Stopped s t seen stays = becomes site s s t [] seen stays refl refl
end_tasks site served.Failed s t seen b = becomes site s s t (at_network (broke next_event) ∷ []) seen b refl refl
end_tasks site served.Spent s t seen stays = becomes site s s t [] seen stays refl refl

serves_tasks : (site : Site) (budget : ℕ) (result : Served) (s t : State) (seen : List Sighting) (r : Serves site budget result s seen t) → Tasks site (polled_in_run site r.took) s.thing seen t.thing
serves_tasks site budget result s t seen r =
    subst (λ (ps : List Placed). Tasks site ps s.thing seen t.thing) (append-nil (polled_in_run site r.took))
    (tasks_then site (polled_in_run site r.took) [] s.thing r.run.mid.thing t.thing r.run.first r.run.second seen (run_tasks site r.took s r.run.mid r.run.first r.run.one) (end_tasks site result r.run.mid t r.run.second r.run.other) r.run.whole)

-- ---- stops

-- the number of times that the handler in a slot was out of memory among these calls
abbrev missed_at : ℕ → List HandlerCall → ℕ
missed_at slot calls = times slot (misses_in calls)

times_then : (slot : ℕ) (a b : List ℕ) → times slot (a ++ b) ≡ times slot a + times slot b
times_then slot [] b = omega arith
times_then slot (m ∷ a) b = elim (cases_eq m slot) [
  | inl same ↦ let t : eqb m slot ≡ true = eq-eqb m slot same in rw t (omega (arith, times_then slot a b))
  | inr other ↦ let f : eqb m slot ≡ false = ne_eqb m slot other in rw f (times_then slot a b)
]

once : (slot : ℕ) → times slot (slot ∷ []) ≡ 1
once slot = let t : eqb slot slot ≡ true = eq-eqb slot slot refl in rw t refl

missed_then : (slot : ℕ) (a b seen : List HandlerCall) → seen ≡ a ++ b → missed_at slot seen ≡ missed_at slot a + missed_at slot b
missed_then slot a b seen whole = ap (missed_at slot) whole ∙ ap (times slot) (filter_map-append miss_in a b) ∙ times_then slot (misses_in a) (misses_in b)

-- a trace that ends in a miss has one
missed_last : (slot : ℕ) (before seen : List HandlerCall) → seen ≡ before ++ missed slot ∷ [] → 1 ≤ missed_at slot seen
missed_last slot before seen is =
    let one : missed_at slot (missed slot ∷ []) ≡ 1 = once slot in
    omega (arith, missed_then slot before (missed slot ∷ []) seen is, one)

no_turn_left : (turn : RunTurn) (others : List RunTurn) → turn ∷ others ≡ [] → ⊥
no_turn_left turn others e = cc

-- a poll that makes no turn, though it has a number, is missed
poll_missed : (slot : ℕ) (p : Placed) (emissions : List Emission) (s t : ThingState) (seen : List HandlerCall) → PollsEvent p emissions s seen t → StopsAt slot (polls p emissions) s seen → 1 ≤ missed_at slot seen
poll_missed slot p emissions s t seen (no_number, w) stops = absurd (omega (arith, w.one.0, stops.1))
poll_missed slot p emissions s t seen (no_memory, w) stops =
    let whole : seen ≡ missed p.slot ∷ [] = w.whole ∙ ap₂ (λ (x y : List HandlerCall). x ++ y) w.one.1.saw w.other.1.saw in
    missed_last slot [] seen (whole ∙ ap (λ (n : ℕ). missed n ∷ []) stops.0)
poll_missed slot p emissions s t seen (gives a, w) stops =
    let turn : RunTurn = record { number = s.turns; slot = p.slot; what = call.Poll; answer = a } in
    let whole : turns_in seen ≡ turn ∷ turns_in w.second = ap turns_in (w.whole ∙ ap (λ (x : List HandlerCall). x ++ w.second) w.one.1.saw) in
    absurd (no_turn_left turn (turns_in w.second) (sym whole ∙ stops.2))

task_missed : (site : Site) (slot : ℕ) (task : Task) (s t : ThingState) (seen : List HandlerCall) → DoesTask site task s seen t → StopsAt slot task s seen → 1 ≤ missed_at slot seen
task_missed site slot (polls p emissions) s t seen does stops = poll_missed slot p emissions s t seen does stops
task_missed site slot (acts q done) s t seen does stops = missed_last slot stops.1 seen stops.2

counted_missed : (site : Site) (slot : ℕ) (task : Task) (n : ℕ) (s t : ThingState) (seen : List HandlerCall) → CountsTask site slot task n s seen t → n ≤ missed_at slot seen
counted_missed site slot task n s t seen (does, inl none) = omega (arith, none)
counted_missed site slot task n s t seen (does, inr one) = omega (arith, one.0, task_missed site slot task s t seen does one.1)

tasks_missed : (site : Site) (slot : ℕ) (tasks : List Task) (n : ℕ) (s t : ThingState) (seen : List HandlerCall) → CountsTasks site slot tasks n s seen t → n ≤ missed_at slot seen
tasks_missed site slot [] n s t seen is = omega (arith, is.0)
tasks_missed site slot (task ∷ tasks) n s t seen (one, others, both, w) =
    omega (arith, both, counted_missed site slot task one s w.mid w.first w.one, tasks_missed site slot tasks others w.mid t w.second w.other, missed_then slot w.first w.second seen w.whole)

at_least : (n more before now : ℕ) → n ≤ more → RoseExactly more before now → RoseAtLeast n before now
at_least n more before now most (inl rose) = inl (omega (arith, most, rose))
at_least n more before now most (inr last) = inr last

pub stops_are_counted : StopsAreCounted
stops_are_counted site budget result s t seen before now serves shows =
    let all : Tasks site (polled_in_run site serves.took) s.thing seen t.thing = serves_tasks site budget result s t seen serves in (
      record { tasks = all.tasks; polled = all.polled; each = all.each },
      λ slot n old new counts was is.
          at_least n (misses_of slot seen) old.misses new.misses (tasks_missed site slot all.tasks n s.thing t.thing (calls_in seen) counts)
          (misses_are_counted site budget slot result s t seen before now old new serves shows was is),
    )
