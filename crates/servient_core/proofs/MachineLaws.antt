-- The invariants of every move of the machine.
use Rattle.std.specs.Prelude.{Option, Some, Bool}
use Rattle.std.proofs.Common.{None, ◌≡◌, ℕ, ◌+◌, List, [], ◌∷◌, ◌++◌, map, refl, sym, ap, subst, ◌∙◌, arith, max, length, length-append, inl, inr, true, false}
use Rattle.std.proofs.lemmas.List.Elements.{filter_map-append}
use Rattle.std.proofs.lemmas.List.{append-nil}
use Rattle.servient_base.specs.Moves.{Each, Until, is_done, goes_on}
use Rattle.coap_msg.specs.declared.endpoint.Endpoint.{Endpoint}
use Rattle.thing_handler.specs.Turns.{HandlerCall, RunTurn, AreNumberedFrom, turns_in}
use Rattle.thing_handler.proofs.TurnLaws.{numbered_then}
use Rattle.thing_site.specs.Site.{Placed, events_of}
use Rattle.thing_state.specs.State.{State as ThingState, Emission, last_of}
use Rattle.thing_ops.specs.Requests.{RequestSeen}
use Rattle.thing_state.specs.Calls.{Move as ThingMove}
use Rattle.thing_core.specs.Thing.{Done, Acts, PollsEvent}
use Rattle.coap_bind.specs.declared.server.Server.{Server}
use Rattle.coap_bind.specs.Server.{Heard, ignored, answered_at_once, asked, Hears, Answers, with_emitted, SendsNext}
use Rattle.servient_outside.specs.declared.net.Act.{Act}
use Rattle.servient_outside.specs.declared.net.Act.TheVariants as act
use Rattle.servient_outside.specs.declared.net.What.{What}
use Rattle.servient_outside.specs.declared.net.What.TheVariants as what
use Rattle.servient_outside.specs.declared.net.EventWithBytes.{EventWithBytes}
use Rattle.servient_outside.specs.Network.{Happening, did, broke, next_event, events_in, break_count}
use Rattle.servient_outside.proofs.NetLaws.{break_count-append}
use Rattle.servient_core.specs.declared.serving.Served.{Served}
use Rattle.servient_core.specs.declared.serving.Served.TheVariants as served
use Rattle.servient_trace.specs.Trace.{Sighting, at_network, at_handler, happened_in, calls_in, happening_in}
use Rattle.servient_core.specs.Machine.{Site, State, Move, OnHttp, OnCoap, OnThing, Does, PerformsByHttp, AnswersDatagram, HearsDatagram, acts_of_reply, SendsIfAny, RepliesToWait, AnswersWait, AnswersLateWait, Delivers, DeliversEach, observed_target, AnswersTaken, TakesNextMessage, ClosesIdle, PollsAndDelivers, SendsNotification, NothingIsDue, SendsNotifications, EndsEvent, notification_bytes, Follows, Step, Run}
use Rattle.servient_core.specs.Keeping.{AnswersLateWaits, ClosesAllIdle}
use Rattle.http_bind.specs.Streams.{HttpReply, Streams, Taken, asks, wants_continue, is_faulty, interrupts, Opened, Ended, Lengthened, Takes, IsDry, Answers as AnswersRequest, Wakes, Continues, Refuses, Closes, oldest_for, oldest_late, IsIdle, NoneIdle}
use Rattle.servient_core.specs.Serving.{Serves, BreaksAtEnd}
use Rattle.servient_core.proofs.PartLaws.{nothing_happened, the_calls}
use Rattle.servient_core.proofs.NumberLaws.{Counts, acts_count, polled_counts}
use Rattle.servient_trace.proofs.TraceLaws.{events-append, breaks-append, turns-append}

-- These events are heard, the network doesn't break, and the turns are numbered on from those that the state has.
pub record Keeps (events : List EventWithBytes) (s : State) (seen : List Sighting) (t : State) : Type 0 where
  pub hears : events_in (happened_in seen) ≡ events
  pub unbroken : break_count (happened_in seen) ≡ 0
  pub count : t.thing.turns ≡ s.thing.turns + length (turns_in (calls_in seen))
  pub numbered : AreNumberedFrom s.thing.turns (turns_in (calls_in seen))

becomes_keeps : (events : List EventWithBytes) (s u t : State) (shown seen : List Sighting) → t ≡ u → seen ≡ shown → Keeps events s shown u → Keeps events s seen t
becomes_keeps events s u t shown seen next saw k =
    subst (λ (z : List Sighting). Keeps events s z t) (sym saw) (subst (λ (x : State). Keeps events s shown x) (sym next) k)

stays_keeps : (s t : State) (seen : List Sighting) → t ≡ s → seen ≡ [] → Keeps [] s seen t
stays_keeps s t seen next saw = becomes_keeps [] s s t [] seen next saw (record { hears = refl; unbroken = refl; count = omega arith; numbered = tt })

then_keeps : (es fs : List EventWithBytes) (s m t : State) (a b seen : List Sighting) → Keeps es s a m → Keeps fs m b t → seen ≡ a ++ b → Keeps (es ++ fs) s seen t
then_keeps es fs s m t a b seen p q whole =
    let turns = turns-append a b in
    subst (λ (z : List Sighting). Keeps (es ++ fs) s z t) (sym whole) (record {
      hears = events-append a b ∙ ap (λ (x : List EventWithBytes). x ++ events_in (happened_in b)) p.hears ∙ ap (λ (x : List EventWithBytes). es ++ x) q.hears;
      unbroken = omega (arith, breaks-append a b, p.unbroken, q.unbroken);
      count = omega (arith, p.count, q.count, ap (λ (ts : List RunTurn). length ts) turns, length-append (turns_in (calls_in a)) (turns_in (calls_in b)));
      numbered = subst (λ (ts : List RunTurn). AreNumberedFrom s.thing.turns ts) (sym turns)
          (numbered_then s.thing.turns (turns_in (calls_in a)) (turns_in (calls_in b)) p.numbered (subst (λ (n : ℕ). AreNumberedFrom n (turns_in (calls_in b))) p.count q.numbered));
    })

-- ---- moves of one part

acts_alone : (acts : List Act) (s : State) → Keeps [] s (map (λ a. at_network (did a)) acts) s
acts_alone [] s = record { hears = refl; unbroken = refl; count = omega arith; numbered = tt }
acts_alone (act ∷ acts) s =
    let k = acts_alone acts s in
    record { hears = k.hears; unbroken = k.unbroken; count = k.count; numbered = k.numbered }

does_keeps : (acts : List Act) (s : State) (seen : List Sighting) (t : State) → Does acts s seen t → Keeps [] s seen t
does_keeps acts s seen t does = becomes_keeps [] s s t (map (λ a. at_network (did a)) acts) seen does.next does.saw (acts_alone acts s)

coap_keeps : (Change : ℕ → Server → Server → Type 0) (s : State) (seen : List Sighting) (t : State) → OnCoap Change s seen t → Keeps [] s seen t
coap_keeps Change s seen t on =
    becomes_keeps [] s (record s { coap = on.0 }) t [] seen on.2.next on.2.saw (record { hears = refl; unbroken = refl; count = omega arith; numbered = tt })

thing_keeps : (M : ThingMove) (s : State) (seen : List Sighting) (t : State) → ((x : ThingState) (calls : List HandlerCall) (y : ThingState) → M x calls y → Counts x calls y)
    → OnThing M s seen t → Keeps [] s seen t
thing_keeps M s seen t counts on =
    let c = counts s.thing on.1 on.0 on.2 in
    becomes_keeps [] s (record s { thing = on.0 }) t (map at_handler on.1) seen on.3.next on.3.saw (record {
      hears = ap events_in (nothing_happened on.1);
      unbroken = ap break_count (nothing_happened on.1);
      count = omega (arith, c.count, ap (λ (cs : List HandlerCall). length (turns_in cs)) (the_calls on.1));
      numbered = subst (λ (cs : List HandlerCall). AreNumberedFrom s.thing.turns (turns_in cs)) (sym (the_calls on.1)) c.numbered;
    })

-- ---- moves again and again

-- a move for each of some things
each_keeps : {A : Type 0} (P : A → Move) → ((x : A) (s : State) (seen : List Sighting) (t : State) → P x s seen t → Keeps [] s seen t)
    → (xs : List A) (s : State) (seen : List Sighting) (t : State) → Each P xs s seen t → Keeps [] s seen t
each_keeps P each [] s seen t stays = stays_keeps s t seen stays.next stays.saw
each_keeps P each (x ∷ xs) s seen t both =
    then_keeps [] [] s both.mid t both.first both.second seen (each x s both.first both.mid both.one) (each_keeps P each xs both.mid both.second t both.other) both.whole

-- a move that is made until nothing is left
until_keeps : (P : Move) (IsDone : State → Type 0) → ((s : State) (seen : List Sighting) (t : State) → P s seen t → Keeps [] s seen t)
    → (s : State) (seen : List Sighting) (t : State) → Until P IsDone s seen t → Keeps [] s seen t
until_keeps P IsDone each s seen t (is_done s' seen' t' done stays) = stays_keeps s t seen stays.next stays.saw
until_keeps P IsDone each s seen t (goes_on s' mid t' seen' first second one more whole) =
    then_keeps [] [] s mid t first second seen (each s first mid one) (until_keeps P IsDone each mid second t more) whole

-- ---- new values

-- the connections change
http_keeps : (Change : ℕ → Streams → Streams → Type 0) (s : State) (seen : List Sighting) (t : State) → OnHttp Change s seen t → Keeps [] s seen t
http_keeps Change s seen t on =
    becomes_keeps [] s (record s { http = on.0 }) t [] seen on.2.next on.2.saw (record { hears = refl; unbroken = refl; count = omega arith; numbered = tt })

wait_reply_keeps : (c : ℕ) (text : Option (List ℕ)) (s : State) (seen : List Sighting) (t : State) → RepliesToWait c text s seen t → Keeps [] s seen t
wait_reply_keeps c text s seen t is =
    let both = is.1 in
    then_keeps [] [] s both.mid t both.first both.second seen (http_keeps (λ now. Wakes c text now is.0.bytes is.0.closes) s both.first both.mid both.one)
    (does_keeps (acts_of_reply c is.0) both.mid both.second t both.other) both.whole

wait_keeps : (target : ℕ) (s : State) (seen : List Sighting) (t : State) → AnswersWait target s seen t → Keeps [] s seen t
wait_keeps target s seen t is = wait_reply_keeps is.0 (last_of target s.thing.last) s seen t is.2

late_wait_keeps : (s : State) (seen : List Sighting) (t : State) → AnswersLateWait s seen t → Keeps [] s seen t
late_wait_keeps s seen t is = wait_reply_keeps is.0 None s seen t is.2

delivers_keeps : (target : ℕ) (s : State) (seen : List Sighting) (t : State) → Delivers target s seen t → Keeps [] s seen t
delivers_keeps target s seen t both =
    then_keeps [] [] s both.mid t both.first both.second seen
    (until_keeps (AnswersWait target) (λ (x : State). oldest_for target x.http.waits ≡ None) (λ x calls y m. wait_keeps target x calls y m) s both.first both.mid both.one)
    (coap_keeps (λ now before after. after ≡ with_emitted target before) both.mid both.second t both.other) both.whole

delivers_each_keeps : (emissions : List Emission) (s : State) (seen : List Sighting) (t : State) → DeliversEach emissions s seen t → Keeps [] s seen t
delivers_each_keeps emissions s seen t each = each_keeps Delivers (λ x a calls b m. delivers_keeps x a calls b m) (map (λ e. e.target) emissions) s seen t each

-- ---- events

responds_keeps : (site : Site) (from : Endpoint) (h : Heard) (s : State) (seen : List Sighting) (t : State) → AnswersDatagram site from h s seen t → Keeps [] s seen t
responds_keeps site from ignored s seen t stays = stays_keeps s t seen stays.next stays.saw
responds_keeps site from (answered_at_once bytes) s seen t does = does_keeps (act.Datagram from bytes ∷ []) s seen t does
responds_keeps site from (asked ask request) s seen t is =
    let one = is.1 in
    let two = one.other in
    let three = two.one.1 in
    then_keeps [] [] s one.mid t one.first one.second seen
    (thing_keeps (Acts site ask.request is.0) s one.first one.mid (λ x calls y m. acts_count site ask.request is.0 x calls y m) one.one)
    (then_keeps [] [] one.mid two.mid t two.first two.second one.second
    (then_keeps [] [] one.mid three.mid two.mid three.first three.second two.first
    (coap_keeps (λ now. Answers request is.0.outcome (observed_target site one.mid.thing ask) two.one.0) one.mid three.first three.mid three.one)
    (does_keeps (act.Datagram from two.one.0 ∷ []) three.mid three.second two.mid three.other) three.whole)
    (delivers_each_keeps is.0.emissions two.mid two.second t two.other) two.whole)
    one.whole

receives_keeps : (site : Site) (from : Endpoint) (bytes : List ℕ) (s : State) (seen : List Sighting) (t : State) → HearsDatagram site from bytes s seen t → Keeps [] s seen t
receives_keeps site from bytes s seen t (inl long) = stays_keeps s t seen long.1.next long.1.saw
receives_keeps site from bytes s seen t (inr heard) =
    let both = heard.1.1 in
    then_keeps [] [] s both.mid t both.first both.second seen (coap_keeps (λ now. Hears from bytes now heard.1.0) s both.first both.mid both.one) (responds_keeps site from heard.1.0 both.mid both.second t both.other) both.whole

-- a reply is sent, if there is one
if_any_keeps : (c : ℕ) (reply : Option HttpReply) (s : State) (seen : List Sighting) (t : State) → SendsIfAny c reply s seen t → Keeps [] s seen t
if_any_keeps c None s seen t stays = stays_keeps s t seen stays.next stays.saw
if_any_keeps c (Some reply) s seen t does = does_keeps (acts_of_reply c reply) s seen t does

-- a request by HTTP
by_http_keeps : (site : Site) (q : RequestSeen) (done : Done) (s : State) (seen : List Sighting) (t : State) → PerformsByHttp site q done s seen t → Keeps [] s seen t
by_http_keeps site q done s seen t (inl directory) =
    let on = directory.1 in
    becomes_keeps [] s (record s { directory = on.0 }) t [] seen on.3.next on.3.saw (record { hears = refl; unbroken = refl; count = omega arith; numbered = tt })
by_http_keeps site q done s seen t (inr things) =
    thing_keeps (Acts site q done) s seen t (λ x calls y m. acts_count site q done x calls y m) things.1

handles_keeps : (site : Site) (c : ℕ) (taken : Taken) (s : State) (seen : List Sighting) (t : State) → AnswersTaken site c taken s seen t → Keeps [] s seen t
handles_keeps site c (asks q) s seen t is =
    let one = is.1 in
    let two = one.other in
    let three = two.one.1 in
    then_keeps [] [] s one.mid t one.first one.second seen
    (by_http_keeps site q is.0 s one.first one.mid one.one)
    (then_keeps [] [] one.mid two.mid t two.first two.second one.second
    (then_keeps [] [] one.mid three.mid two.mid three.first three.second two.first
    (http_keeps (λ now. AnswersRequest c is.0.outcome now two.one.0) one.mid three.first three.mid three.one)
    (if_any_keeps c two.one.0 three.mid three.second two.mid three.other) three.whole)
    (delivers_each_keeps is.0.emissions two.mid two.second t two.other) two.whole)
    one.whole
handles_keeps site c wants_continue s seen t is =
    let both = is.1 in
    then_keeps [] [] s both.mid t both.first both.second seen (http_keeps (λ now. Continues is.0) s both.first both.mid both.one)
    (does_keeps (acts_of_reply c (record { bytes = is.0; closes = false })) both.mid both.second t both.other) both.whole
handles_keeps site c (is_faulty status) s seen t is =
    let both = is.1 in
    then_keeps [] [] s both.mid t both.first both.second seen (http_keeps (λ now. Refuses c status is.0) s both.first both.mid both.one)
    (does_keeps (acts_of_reply c (record { bytes = is.0; closes = true })) both.mid both.second t both.other) both.whole
handles_keeps site c interrupts s seen t does = does_keeps (act.Closed c ∷ []) s seen t does

takes_keeps : (site : Site) (c : ℕ) (s : State) (seen : List Sighting) (t : State) → TakesNextMessage site c s seen t → Keeps [] s seen t
takes_keeps site c s seen t is =
    let both = is.1 in
    then_keeps [] [] s both.mid t both.first both.second seen (http_keeps (λ now. Takes c is.0) s both.first both.mid both.one)
    (handles_keeps site c is.0 both.mid both.second t both.other) both.whole

closes_keeps : (s : State) (seen : List Sighting) (t : State) → ClosesIdle s seen t → Keeps [] s seen t
closes_keeps s seen t is =
    let both = is.1 in
    then_keeps [] [] s both.mid t both.first both.second seen (http_keeps (λ now h k. IsIdle is.0 now h × Closes is.0 h k) s both.first both.mid both.one)
    (does_keeps (act.Closed is.0 ∷ []) both.mid both.second t both.other) both.whole

-- ---- polls, and the end of each event

pub polls_keeps : (p : Placed) (s : State) (seen : List Sighting) (t : State) → PollsAndDelivers p s seen t → Keeps [] s seen t
polls_keeps p s seen t is =
    let both = is.1 in
    then_keeps [] [] s both.mid t both.first both.second seen
    (thing_keeps (PollsEvent p is.0) s both.first both.mid (λ x calls y m. polled_counts p is.0 x calls y m) both.one)
    (delivers_each_keeps is.0 both.mid both.second t both.other) both.whole

notification_keeps : (s : State) (seen : List Sighting) (t : State) → SendsNotification s seen t → Keeps [] s seen t
notification_keeps s seen t is =
    let both = is.1 in
    then_keeps [] [] s both.mid t both.first both.second seen (coap_keeps (λ now. SendsNext now (Some is.0)) s both.first both.mid both.one)
    (does_keeps (act.Datagram is.0.to (notification_bytes is.0 s.thing) ∷ []) both.mid both.second t both.other) both.whole

notifications_keep : (s : State) (seen : List Sighting) (t : State) → SendsNotifications s seen t → Keeps [] s seen t
notifications_keep s seen t both =
    then_keeps [] [] s both.mid t both.first both.second seen
    (until_keeps SendsNotification NothingIsDue (λ x calls y m. notification_keeps x calls y m) s both.first both.mid both.one)
    (coap_keeps (λ now. SendsNext now None) both.mid both.second t both.other) both.whole

late_waits_keep : (s : State) (seen : List Sighting) (t : State) → AnswersLateWaits s seen t → Keeps [] s seen t
late_waits_keep s seen t r =
    until_keeps AnswersLateWait (λ (x : State). oldest_late x.moment x.http.waits ≡ None) (λ x calls y m. late_wait_keeps x calls y m) s seen t r

all_idle_keep : (s : State) (seen : List Sighting) (t : State) → ClosesAllIdle s seen t → Keeps [] s seen t
all_idle_keep s seen t r =
    until_keeps ClosesIdle (λ (x : State). NoneIdle x.moment x.http) (λ x calls y m. closes_keeps x calls y m) s seen t r

ends_keeps : (s : State) (seen : List Sighting) (t : State) → EndsEvent s seen t → Keeps [] s seen t
ends_keeps s seen t both =
    let rest = both.other in
    then_keeps [] [] s both.mid t both.first both.second seen (notifications_keep s both.first both.mid both.one)
    (then_keeps [] [] both.mid rest.mid t rest.first rest.second both.second (late_waits_keep both.mid rest.first rest.mid rest.one)
    (all_idle_keep rest.mid rest.second t rest.other) rest.whole) both.whole

-- ---- events and runs

follows_keeps : (site : Site) (w : What) (bytes : List ℕ) (s : State) (seen : List Sighting) (t : State) → Follows site w bytes s seen t → Keeps [] s seen t
follows_keeps site (what.Opened c) bytes s seen t on = http_keeps (Opened c) s seen t on
follows_keeps site (what.Bytes c size) bytes s seen t both =
    then_keeps [] [] s both.mid t both.first both.second seen (http_keeps (Lengthened c bytes) s both.first both.mid both.one)
    (until_keeps (TakesNextMessage site c) (λ (x : State). IsDry c x.http) (λ x calls y m. takes_keeps site c x calls y m) both.mid both.second t both.other) both.whole
follows_keeps site (what.Ended c) bytes s seen t on = http_keeps (λ now. Ended c) s seen t on
follows_keeps site (what.Datagram from size) bytes s seen t receives = receives_keeps site from bytes s seen t receives
follows_keeps site what.Tick bytes s seen t each = each_keeps PollsAndDelivers (λ x a calls b m. polls_keeps x a calls b m) (events_of site.things) s seen t each
follows_keeps site what.Stop bytes s seen t stays = stays_keeps s t seen stays.next stays.saw

pub step_keeps : (site : Site) (e : EventWithBytes) (s : State) (seen : List Sighting) (t : State) → Step site e s seen t → Keeps [] s seen t
step_keeps site e s seen t step =
    let moved : State = record s { moment = max s.moment e.event.moment } in
    let k = then_keeps [] [] moved step.mid t step.first step.second seen (follows_keeps site e.event.what e.bytes moved step.first step.mid step.one)
    (ends_keeps step.mid step.second t step.other) step.whole in
    record { hears = k.hears; unbroken = k.unbroken; count = k.count; numbered = k.numbered }

pub run_keeps : (site : Site) (es : List EventWithBytes) (s : State) (seen : List Sighting) (t : State) → Run site es s seen t → Keeps es s seen t
run_keeps site [] s seen t r = stays_keeps s t seen r.next r.saw
run_keeps site (e ∷ es) s seen t r =
    let one = r.one in
    then_keeps (e ∷ []) es s r.mid t r.first r.second seen
    (then_keeps (e ∷ []) [] s one.mid r.mid one.first one.second r.first
    (becomes_keeps (e ∷ []) s s one.mid _ one.first one.one.next one.one.saw (record { hears = refl; unbroken = refl; count = omega arith; numbered = tt }))
    (step_keeps site e one.mid one.second r.mid one.other) one.whole)
    (run_keeps site es r.mid r.second t r.other) r.whole

-- a run that ended with nothing more
pub ended_keeps : (site : Site) (es : List EventWithBytes) (s t : State) (seen first second : List Sighting) (mid : State) → Run site es s first mid → t ≡ mid → second ≡ [] → seen ≡ first ++ second → Keeps es s seen t
ended_keeps site es s t seen first second mid run next saw whole =
    subst (λ (fs : List EventWithBytes). Keeps fs s seen t) (append-nil es)
    (then_keeps es [] s mid t first second seen (run_keeps site es s first mid run) (stays_keeps mid t second next saw) whole)

-- Serving answers Failed exactly where the network broke, which it did at the end and nowhere before.
pub serves_breaks : (site : Site) (budget : ℕ) (result : Served) (s : State) (seen : List Sighting) (t : State) → Serves site budget result s seen t → (result ≡ served.Failed → BreaksAtEnd (happened_in seen)) × (¬ (result ≡ served.Failed) → break_count (happened_in seen) ≡ 0)
serves_breaks site budget served.Failed s seen t r =
    let run = r.run in
    let k = run_keeps site r.took s run.first run.mid run.one in (
      λ is. (happened_in run.first, ap happened_in run.whole ∙ filter_map-append happening_in run.first run.second ∙ ap (λ (z : List Sighting). happened_in run.first ++ happened_in z) run.other.saw, k.unbroken),
      λ other. absurd (other refl),
    )
serves_breaks site budget served.Stopped s seen t r = (λ is. cc, λ other. (ended_keeps site r.took s t seen r.run.first r.run.second r.run.mid r.run.one r.run.other.next r.run.other.saw r.run.whole).unbroken)
serves_breaks site budget served.Spent s seen t r = (λ is. cc, λ other. (ended_keeps site r.took s t seen r.run.first r.run.second r.run.mid r.run.one r.run.other.next r.run.other.saw r.run.whole).unbroken)

-- happenings that break at the end have a break
broken : (happened : List Happening) → BreaksAtEnd happened → break_count happened ≡ 0 → ⊥
broken happened b none = omega (arith, ap break_count b.1, break_count-append b.0 (broke next_event ∷ []), none)

-- where the network broke, serving answered Failed
pub breaks_fails : (site : Site) (budget : ℕ) (result : Served) (s : State) (seen : List Sighting) (t : State) → Serves site budget result s seen t → BreaksAtEnd (happened_in seen) → result ≡ served.Failed
breaks_fails site budget served.Failed s seen t r b = refl
breaks_fails site budget served.Stopped s seen t r b =
    absurd (broken (happened_in seen) b ((serves_breaks site budget served.Stopped s seen t r).1 (λ is. cc)))
breaks_fails site budget served.Spent s seen t r b =
    absurd (broken (happened_in seen) b ((serves_breaks site budget served.Spent s seen t r).1 (λ is. cc)))

-- the turns of serving are numbered one by one
pub serves_numbered : (site : Site) (budget : ℕ) (result : Served) (s : State) (seen : List Sighting) (t : State) → Serves site budget result s seen t → AreNumberedFrom s.thing.turns (turns_in (calls_in seen))
serves_numbered site budget served.Stopped s seen t r = (ended_keeps site r.took s t seen r.run.first r.run.second r.run.mid r.run.one r.run.other.next r.run.other.saw r.run.whole).numbered
serves_numbered site budget served.Spent s seen t r = (ended_keeps site r.took s t seen r.run.first r.run.second r.run.mid r.run.one r.run.other.next r.run.other.saw r.run.whole).numbered
serves_numbered site budget served.Failed s seen t r =
    subst (λ (ts : List RunTurn). AreNumberedFrom s.thing.turns ts) (sym same) (run_keeps site r.took s r.run.first r.run.mid r.run.one).numbered
  where
    same : turns_in (calls_in seen) ≡ turns_in (calls_in r.run.first)
    same =
        ap (λ (z : List Sighting). turns_in (calls_in z)) r.run.whole ∙ turns-append r.run.first r.run.second
        ∙ ap (λ (z : List Sighting). turns_in (calls_in r.run.first) ++ turns_in (calls_in z)) r.run.other.saw
        ∙ append-nil (turns_in (calls_in r.run.first))
