-- Two messages that are read as one request have one meaning.
use Rattle.std.proofs.Common.{inl, inr, true, false, ◌≡◌, ℕ, List, [], ◌∷◌, ◌++◌, map, Bool, refl, sym, ap, ap₂, subst, ◌∙◌}
use Rattle.std.specs.Prelude.{◌⊎◌, Option, Some, None}
use Rattle.servient_base.specs.Moves.{Becomes, Then, Each, Until, is_done, goes_on}
use Rattle.http_bind.specs.Streams.{HttpReply, oldest_for, oldest_late, NoneIdle}
use Rattle.std.proofs.lemmas.List.Elements.{filter_map-append}
use Rattle.std.proofs.lemmas.List.{append-nil}
use Rattle.coap_msg.specs.declared.endpoint.Endpoint.{Endpoint}
use Rattle.thing_ops.specs.declared.outcome.Outcome.{Outcome}
use Rattle.thing_ops.specs.declared.outcome.Outcome.TheVariants as outcome
use Rattle.thing_ops.specs.declared.routing.RouteKind.{RouteKind}
use Rattle.thing_ops.specs.declared.routing.RouteKind.TheVariants as route
use Rattle.thing_ops.specs.Requests.{RequestSeen}
use Rattle.thing_ops.specs.Routes.{route_of}
use Rattle.thing_handler.specs.Turns.{HandlerCall}
use Rattle.thing_state.specs.State.{State as ThingState, Emission, Invocation}
use Rattle.thing_state.specs.Places.{place_of}
use Rattle.thing_core.specs.Thing.{Done, Acts, refuses, has_no_memory, performs}
use Rattle.thing_core.proofs.DeterminedLaws.{determined}
use Rattle.directory_requests.specs.declared.server.ServedEntries.{ServedEntries}
use Rattle.directory_requests.specs.Asked.{is_of_directory}
use Rattle.directory_requests.specs.Requests.{DirectoryActs}
use Rattle.coap_opts.specs.Reading.{AskSeen}
use Rattle.coap_bind.specs.declared.pending.PendingReply.{PendingReply}
use Rattle.servient_outside.specs.declared.net.Act.{Act}
use Rattle.servient_outside.specs.declared.net.Act.TheVariants as act
use Rattle.servient_outside.specs.Network.{did}
use Rattle.servient_trace.specs.Trace.{Sighting, at_network, calls_in, call_in}
use Rattle.servient_core.specs.Machine.{Site, State, Move, Does, Performs, PerformsByHttp, acts_of_reply, SendsIfAny, AnswersWait, AnswersLateWait, Delivers, DeliversEach, ClosesIdle, SendsNotification, NothingIsDue, EndsEvent, notification_bytes}
use Rattle.servient_core.specs.Promises.{ActsOnNothing}
use Rattle.servient_core.specs.Meaning.{Message, by_coap, by_http, request_of, asks_directory, PerformsMessage, Writes, ComesTo, IsWritten, HaveOneMeaning, AsksDirectoryAlone, FindsNoDirectory}
use Rattle.servient_core.proofs.ConnectionLaws.{no_calls}
use Rattle.servient_core.proofs.PartLaws.{the_calls}
use Rattle.servient_core.proofs.PromiseLaws.{acts_as}

-- ---- what calls nothing

pub then_quiet : (s m t : State) (first second seen : List Sighting) → ActsOnNothing s first m → ActsOnNothing m second t → seen ≡ first ++ second → ActsOnNothing s seen t
then_quiet s m t first second seen p q whole = record {
  calls = ap calls_in whole ∙ filter_map-append call_in first second ∙ ap₂ (λ (x y : List HandlerCall). x ++ y) p.calls q.calls;
  thing = q.thing ∙ p.thing;
  directory = q.directory ∙ p.directory;
}

pub does_quiet : (acts : List Act) (s t : State) (seen : List Sighting) → Does acts s seen t → ActsOnNothing s seen t
does_quiet acts s t seen does = acts_as s s t (map (λ a. at_network (did a)) acts) seen does refl refl (no_calls acts)

pub stays_quiet : (s t : State) (seen : List Sighting) → Becomes s [] seen t → ActsOnNothing s seen t
stays_quiet s t seen stays = acts_as s s t [] seen stays refl refl refl

pub until_quiet : (P : Move) (IsDone : State → Type 0) → ((s t : State) (seen : List Sighting) → P s seen t → ActsOnNothing s seen t)
    → (s t : State) (seen : List Sighting) → Until P IsDone s seen t → ActsOnNothing s seen t
until_quiet P IsDone each s t seen (is_done s' seen' t' done stays) = stays_quiet s t seen stays
until_quiet P IsDone each s t seen (goes_on s' mid t' seen' first second one more whole) =
    then_quiet s mid t first second seen (each s mid first one) (until_quiet P IsDone each mid t second more) whole

pub wait_quiet : (target : ℕ) (s t : State) (seen : List Sighting) → AnswersWait target s seen t → ActsOnNothing s seen t
wait_quiet target s t seen is =
    let w = is.2.1 in
    then_quiet s w.mid t w.first w.second seen (acts_as s (record s { http = w.one.0 }) w.mid [] w.first w.one.2 refl refl refl)
    (does_quiet (acts_of_reply is.0 is.2.0) w.mid t w.second w.other) w.whole

pub delivers_quiet : (target : ℕ) (s t : State) (seen : List Sighting) → Delivers target s seen t → ActsOnNothing s seen t
delivers_quiet target s t seen w =
    then_quiet s w.mid t w.first w.second seen
    (until_quiet (AnswersWait target) (λ (x : State). oldest_for target x.http.waits ≡ None) (λ x y calls move. wait_quiet target x y calls move) s w.mid w.first w.one)
    (acts_as w.mid (record w.mid { coap = w.other.0 }) t [] w.second w.other.2 refl refl refl) w.whole

pub each_quiet : (targets : List ℕ) (s t : State) (seen : List Sighting) → Each Delivers targets s seen t → ActsOnNothing s seen t
each_quiet [] s t seen stays = stays_quiet s t seen stays
each_quiet (target ∷ targets) s t seen w =
    then_quiet s w.mid t w.first w.second seen (delivers_quiet target s w.mid w.first w.one) (each_quiet targets w.mid t w.second w.other) w.whole

pub if_any_quiet : (c : ℕ) (reply : Option HttpReply) (s t : State) (seen : List Sighting) → SendsIfAny c reply s seen t → ActsOnNothing s seen t
if_any_quiet c None s t seen stays = stays_quiet s t seen stays
if_any_quiet c (Some reply) s t seen does = does_quiet (acts_of_reply c reply) s t seen does

late_wait_quiet : (s t : State) (seen : List Sighting) → AnswersLateWait s seen t → ActsOnNothing s seen t
late_wait_quiet s t seen is =
    let w = is.2.1 in
    then_quiet s w.mid t w.first w.second seen (acts_as s (record s { http = w.one.0 }) w.mid [] w.first w.one.2 refl refl refl)
    (does_quiet (acts_of_reply is.0 is.2.0) w.mid t w.second w.other) w.whole

notification_quiet : (s t : State) (seen : List Sighting) → SendsNotification s seen t → ActsOnNothing s seen t
notification_quiet s t seen is =
    let w = is.1 in
    then_quiet s w.mid t w.first w.second seen (acts_as s (record s { coap = w.one.0 }) w.mid [] w.first w.one.2 refl refl refl)
    (does_quiet (act.Datagram is.0.to (notification_bytes is.0 s.thing) ∷ []) w.mid t w.second w.other) w.whole

closes_quiet : (s t : State) (seen : List Sighting) → ClosesIdle s seen t → ActsOnNothing s seen t
closes_quiet s t seen is =
    let w = is.1 in
    then_quiet s w.mid t w.first w.second seen (acts_as s (record s { http = w.one.0 }) w.mid [] w.first w.one.2 refl refl refl)
    (does_quiet (act.Closed is.0 ∷ []) w.mid t w.second w.other) w.whole

-- nor does what ends each event
pub ends_quiet : (s t : State) (seen : List Sighting) → EndsEvent s seen t → ActsOnNothing s seen t
ends_quiet s t seen ends =
    let sent = ends.one in
    let rest = ends.other in
    then_quiet s ends.mid t ends.first ends.second seen
    (then_quiet s sent.mid ends.mid sent.first sent.second ends.first
    (until_quiet SendsNotification NothingIsDue (λ x y calls move. notification_quiet x y calls move) s sent.mid sent.first sent.one)
    (acts_as sent.mid (record sent.mid { coap = sent.other.0 }) ends.mid [] sent.second sent.other.2 refl refl refl) sent.whole)
    (then_quiet ends.mid rest.mid t rest.first rest.second ends.second
    (until_quiet AnswersLateWait (λ (x : State). oldest_late x.moment x.http.waits ≡ None) (λ x y calls move. late_wait_quiet x y calls move) ends.mid rest.mid rest.first rest.one)
    (until_quiet ClosesIdle (λ (x : State). NoneIdle x.moment x.http) (λ x y calls move. closes_quiet x y calls move) rest.mid t rest.second rest.other) rest.whole)
    ends.whole

-- writing calls nothing
pub writes_quiet : (site : Site) (m : Message) (done : Done) (s t : State) (seen : List Sighting) → Writes site m done s seen t → ActsOnNothing s seen t
writes_quiet site (by_coap from ask request) done s t seen w =
    then_quiet s w.1.mid t w.1.first w.1.second seen (acts_as s (record s { coap = w.1.one.0 }) w.1.mid [] w.1.first w.1.one.2 refl refl refl)
    (does_quiet (act.Datagram from w.0 ∷ []) w.1.mid t w.1.second w.1.other) w.1.whole
writes_quiet site (by_http c q) done s t seen w =
    then_quiet s w.1.mid t w.1.first w.1.second seen (acts_as s (record s { http = w.1.one.0 }) w.1.mid [] w.1.first w.1.one.2 refl refl refl)
    (if_any_quiet c w.0 w.1.mid t w.1.second w.1.other) w.1.whole

-- nor does what is delivered
pub rest_quiet : (site : Site) (m : Message) (done : Done) (s t : State) (seen : List Sighting) → Then (Writes site m done) (DeliversEach done.emissions) s seen t → ActsOnNothing s seen t
rest_quiet site m done s t seen w =
    then_quiet s w.mid t w.first w.second seen (writes_quiet site m done s w.mid w.first w.one)
    (each_quiet (map (λ e. e.target) done.emissions) w.mid t w.second w.other) w.whole

-- of a test
never : (b : Bool) → b ≡ true → b ≡ false → ⊥
never true is isnt = absurd cc
never false is isnt = absurd cc

-- a request that isn't one to the directory is performed by the Things
by_things : (site : Site) (m : Message) (done : Done) (s t : State) (seen : List Sighting) → asks_directory m ≡ false → PerformsMessage site m done s seen t
    → Performs site (request_of m) done s seen t
by_things site (by_coap from ask request) done s t seen isnt move = move
by_things site (by_http c q) done s t seen isnt (inl (is, directory)) = absurd (never (is_of_directory (route_of q.path)) is isnt)
by_things site (by_http c q) done s t seen isnt (inr (isnt', things)) = things

-- the calls of a message are those of its request, and so is what becomes of the Things
act_of : (site : Site) (m : Message) (done : Done) (s t : State) (seen : List Sighting) → asks_directory m ≡ false → ComesTo site m done s seen t
    → Acts site (request_of m) done s.thing (calls_in seen) t.thing
act_of site m done s t seen isnt c =
    let on = by_things site m done s c.mid c.first isnt c.one in
    let quiet = rest_quiet site m done c.mid t c.second c.other in
    let calls_are : on.1 ≡ calls_in seen =
    sym (ap calls_in c.whole ∙ filter_map-append call_in c.first c.second ∙ ap₂ (λ (x y : List HandlerCall). x ++ y) (ap calls_in on.3.saw ∙ the_calls on.1) quiet.calls ∙ append-nil on.1) in
    let thing_is : on.0 ≡ t.thing = sym (quiet.thing ∙ ap (λ (x : State). x.thing) on.3.next) in
    subst (λ (x : ThingState). Acts site (request_of m) done s.thing (calls_in seen) x) thing_is
    (subst (λ (x : List HandlerCall). Acts site (request_of m) done s.thing x on.0) calls_are on.2)

pub is_written : (site : Site) (m : Message) → IsWritten site m
is_written site (by_coap from ask request) s t seen is = is
is_written site (by_http c q) s t seen is = is

pub one_meaning : (site : Site) (m n : Message) → HaveOneMeaning site m n
one_meaning site m n answers done other s t r u seen shown same isnt things one two on_seen on_shown had has =
    let second : Acts site (request_of m) other s.thing (calls_in shown) u.thing =
    subst (λ (x : ThingState). Acts site (request_of m) other x (calls_in shown) u.thing) (sym things)
    (subst (λ (x : RequestSeen). Acts site x other r.thing (calls_in shown) u.thing) (sym same)
    (act_of site n other r u shown (subst (λ (x : RequestSeen). is_of_directory (route_of x.path) ≡ false) same isnt) two)) in
    determined site (request_of m) answers done other s.thing t.thing u.thing (calls_in seen) (calls_in shown)
    (act_of site m done s t seen isnt one) second on_seen on_shown had has

-- ---- the directory

pub asks_directory_alone : (site : Site) (c : ℕ) (q : RequestSeen) → AsksDirectoryAlone site c q
asks_directory_alone site c q s t seen is (done, both) = either both.one
  where
    either : PerformsByHttp site q done s both.first both.mid → (o : Outcome) × DirectoryActs q s.moment o s.directory t.directory × (calls_in seen ≡ []) × (t.thing ≡ s.thing)
    either (inr things) = absurd (never (is_of_directory (route_of q.path)) is things.0)
    either (inl directory) =
        let on = directory.1 in
        let rest : Then (Writes site (by_http c q) done) (Each Delivers []) both.mid both.second t =
        subst (λ (ts : List Emission). Then (Writes site (by_http c q) done) (DeliversEach ts) both.mid both.second t) on.2 both.other in
        let quiet = then_quiet both.mid rest.mid t rest.first rest.second both.second (writes_quiet site (by_http c q) done both.mid rest.mid rest.first rest.one)
        (stays_quiet rest.mid t rest.second rest.other) rest.whole in
        let same : on.0 ≡ t.directory = sym (quiet.directory ∙ ap (λ (x : State). x.directory) on.3.next) in (
          done.outcome,
          subst (λ (d : ServedEntries). DirectoryActs q s.moment done.outcome s.directory d) same on.1,
          ap calls_in both.whole ∙ filter_map-append call_in both.first both.second ∙ ap₂ (λ (x y : List HandlerCall). x ++ y) (ap calls_in on.3.saw) quiet.calls,
          quiet.thing ∙ ap (λ (x : State). x.thing) on.3.next,
        )

-- no Thing is at a path of the directory
no_place : (path : List (List ℕ)) (site : Site) (invocations : List Invocation) → is_of_directory (route_of path) ≡ true → place_of path site invocations ≡ None
no_place path site invocations is = by_form (route_of path) is refl
  where
    by_form : (form : RouteKind) → is_of_directory form ≡ true → route_of path ≡ form → place_of path site invocations ≡ None
    by_form route.Things is e = rw e refl
    by_form route.Entry is e = rw e refl
    by_form form is e = absurd cc

-- so nothing is found there
nothing_found : (site : Site) (q : RequestSeen) (done : Done) (s : ThingState) (calls : List HandlerCall) (t : ThingState) → is_of_directory (route_of q.path) ≡ true
    → Acts site q done s calls t → (done.outcome ≡ outcome.NotFound) ⊎ (done.outcome ≡ outcome.Memory)
nothing_found site q done s calls t is (refuses o (inl first) answers) = inl (ap (λ (d : Done). d.outcome) answers.0 ∙ first.1)
nothing_found site q done s calls t is (refuses o (inr later) answers) = absurd (later.0 (no_place q.path site s.invocations is))
nothing_found site q done s calls t is (has_no_memory answers) = inr (ap (λ (d : Done). d.outcome) answers.0)
nothing_found site q done s calls t is (performs act inputs none asked given move) = absurd (none.0 (no_place q.path site s.invocations is))

pub finds_no_directory : (site : Site) (from : Endpoint) (ask : AskSeen) (request : PendingReply) → FindsNoDirectory site from ask request
finds_no_directory site from ask request done s t seen is both =
    let found = nothing_found site ask.request done s.thing both.one.1 both.one.0 is both.one.2 in
    let quiet = rest_quiet site (by_coap from ask request) done both.mid t both.second both.other in
    (found, quiet.directory ∙ ap (λ (x : State). x.directory) both.one.3.next)
