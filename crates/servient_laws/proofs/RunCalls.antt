-- Each call of a run is fit.
use Rattle.std.proofs.Common.{◌≡◌, ℕ, List, [], ◌∷◌, ◌++◌, map, true, false, sym, ap, subst, ◌∙◌, inl, inr}
use Rattle.std.specs.Prelude.{Contains}
use Rattle.std.specs.List.{AllByRecursion}
use Rattle.std.proofs.lemmas.List.Elements.{filter_map-append, All-from_recursion}
use Rattle.servient_base.specs.Moves.{Until, is_done, goes_on, Each}
use Rattle.coap_msg.specs.declared.endpoint.Endpoint.{Endpoint}
use Rattle.wot_terms.specs.declared.kind.Kind.TheVariants as kind
use Rattle.thing_handler.specs.Turns.{HandlerCall}
use Rattle.thing_ops.specs.Requests.{RequestSeen}
use Rattle.thing_site.specs.Site.{Placed, ExposedThing, Site, events_of, those_of}
use Rattle.thing_core.specs.Thing.{Done}
use Rattle.thing_core.proofs.SlotLaws.{ThingsHave}
use Rattle.coap_bind.specs.Server.{Heard, ignored, answered_at_once, asked}
use Rattle.http_bind.specs.Streams.{Taken, asks, wants_continue, is_faulty, interrupts, IsDry}
use Rattle.servient_outside.specs.declared.net.What.{What}
use Rattle.servient_outside.specs.declared.net.What.TheVariants as what
use Rattle.servient_outside.specs.declared.net.EventWithBytes.{EventWithBytes}
use Rattle.servient_outside.specs.declared.net.Act.TheVariants as act
use Rattle.servient_trace.specs.Trace.{Sighting, at_handler, call_in, calls_in}
use Rattle.servient_core.specs.Machine.{State, acts_of_reply, AnswersDatagram, HearsDatagram, PerformsByHttp, AnswersTaken, TakesNextMessage, HearsPiece, PollsAndDelivers, Follows, EventAndStep, Run}
use Rattle.servient_core.specs.Meaning.{by_coap, by_http}
use Rattle.servient_core.proofs.PartLaws.{the_calls}
use Rattle.servient_core.proofs.MeaningLaws.{does_quiet, each_quiet, ends_quiet, rest_quiet}
use Rattle.servient_laws.specs.Calls.{affordances_of, IsFit, CallsAreFit}
use Rattle.servient_laws.proofs.FoundKinds.{site_has_its_own}
use Rattle.servient_laws.proofs.CallLaws.{IsOne, of_one_kind, acts_fit, polled_fit}

abbrev AreFit : Site → List Sighting → Type 0
AreFit site seen = AllByRecursion (IsFit site) (calls_in seen)

fit_then : (site : Site) (a b seen : List Sighting) → AreFit site a → AreFit site b → seen ≡ a ++ b → AreFit site seen
fit_then site a b seen one other whole =
    subst (λ (cs : List HandlerCall). AllByRecursion (IsFit site) cs) (sym (ap calls_in whole ∙ filter_map-append call_in a b)) (both (calls_in a) one)
  where
    both : (xs : List HandlerCall) → AllByRecursion (IsFit site) xs → AllByRecursion (IsFit site) (xs ++ calls_in b)
    both [] all = other
    both (x ∷ xs) all = (all.0, both xs all.1)

fit_none : (site : Site) (seen : List Sighting) → calls_in seen ≡ [] → AreFit site seen
fit_none site seen none = subst (λ (cs : List HandlerCall). AllByRecursion (IsFit site) cs) (sym none) tt

-- the calls of a move of the Things
fit_calls : (site : Site) (calls : List HandlerCall) (seen : List Sighting) → AllByRecursion (IsFit site) calls → seen ≡ map at_handler calls → AreFit site seen
fit_calls site calls seen all saw = subst (λ (cs : List HandlerCall). AllByRecursion (IsFit site) cs) (sym (ap calls_in saw ∙ the_calls calls)) all

until_fit : (site : Site) (P : State → List Sighting → State → Type 0) (IsDone : State → Type 0) → ((s t : State) (seen : List Sighting) → P s seen t → AreFit site seen)
    → (s t : State) (seen : List Sighting) → Until P IsDone s seen t → AreFit site seen
until_fit site P IsDone each s t seen (is_done s' seen' t' done stays) = fit_none site seen (ap calls_in stays.saw)
until_fit site P IsDone each s t seen (goes_on s' mid t' seen' first second one more whole) =
    fit_then site first second seen (each s mid first one) (until_fit site P IsDone each mid t second more) whole

-- ---- requests

heard_fit : (site : Site) (from : Endpoint) (h : Heard) (s t : State) (seen : List Sighting) → AnswersDatagram site from h s seen t → AreFit site seen
heard_fit site from ignored s t seen stays = fit_none site seen (ap calls_in stays.saw)
heard_fit site from (answered_at_once bytes) s t seen does = fit_none site seen (ap calls_in does.saw)
heard_fit site from (asked ask request) s t seen (done, w) =
    fit_then site w.first w.second seen (fit_calls site w.one.1 w.first (acts_fit site ask.request done s.thing w.one.1 w.one.0 w.one.2) w.one.3.saw)
    (fit_none site w.second (rest_quiet site (by_coap from ask request) done w.mid t w.second w.other).calls) w.whole

datagram_fit : (site : Site) (from : Endpoint) (bytes : List ℕ) (s t : State) (seen : List Sighting) → HearsDatagram site from bytes s seen t → AreFit site seen
datagram_fit site from bytes s t seen (inl long) = fit_none site seen (ap calls_in long.1.saw)
datagram_fit site from bytes s t seen (inr (short, (h, w))) =
    fit_then site w.first w.second seen (fit_none site w.first (ap calls_in w.one.2.saw)) (heard_fit site from h w.mid t w.second w.other) w.whole

by_http_fit : (site : Site) (q : RequestSeen) (done : Done) (s t : State) (seen : List Sighting) → PerformsByHttp site q done s seen t → AreFit site seen
by_http_fit site q done s t seen (inl directory) = fit_none site seen (ap calls_in directory.1.3.saw)
by_http_fit site q done s t seen (inr things) =
    let on = things.1 in fit_calls site on.1 seen (acts_fit site q done s.thing on.1 on.0 on.2) on.3.saw

taken_fit : (site : Site) (c : ℕ) (taken : Taken) (s t : State) (seen : List Sighting) → AnswersTaken site c taken s seen t → AreFit site seen
taken_fit site c (asks q) s t seen (done, w) =
    fit_then site w.first w.second seen (by_http_fit site q done s w.mid w.first w.one) (fit_none site w.second (rest_quiet site (by_http c q) done w.mid t w.second w.other).calls) w.whole
taken_fit site c wants_continue s t seen (bytes, w) =
    fit_then site w.first w.second seen (fit_none site w.first (ap calls_in w.one.2.saw)) (fit_none site w.second (does_quiet (acts_of_reply c (record { bytes = bytes; closes = false })) w.mid t w.second w.other).calls) w.whole
taken_fit site c (is_faulty status) s t seen (bytes, w) =
    fit_then site w.first w.second seen (fit_none site w.first (ap calls_in w.one.2.saw)) (fit_none site w.second (does_quiet (acts_of_reply c (record { bytes = bytes; closes = true })) w.mid t w.second w.other).calls) w.whole
taken_fit site c interrupts s t seen does = fit_none site seen (does_quiet (act.Closed c ∷ []) s t seen does).calls

next_fit : (site : Site) (c : ℕ) (s t : State) (seen : List Sighting) → TakesNextMessage site c s seen t → AreFit site seen
next_fit site c s t seen (taken, w) =
    fit_then site w.first w.second seen (fit_none site w.first (ap calls_in w.one.2.saw)) (taken_fit site c taken w.mid t w.second w.other) w.whole

piece_fit : (site : Site) (c : ℕ) (bytes : List ℕ) (s t : State) (seen : List Sighting) → HearsPiece site c bytes s seen t → AreFit site seen
piece_fit site c bytes s t seen w =
    fit_then site w.first w.second seen (fit_none site w.first (ap calls_in w.one.2.saw))
    (until_fit site (TakesNextMessage site c) (λ (x : State). IsDry c x.http) (λ x y calls move. next_fit site c x y calls move) w.mid t w.second w.other) w.whole

-- ---- polls

joined : (P : Placed → Type 0) (ps qs : List Placed) → AllByRecursion P ps → AllByRecursion P qs → AllByRecursion P (ps ++ qs)
joined P [] qs one other = other
joined P (p ∷ ps) qs one other = (one.0, joined P ps qs one.1 other)

events_are : (site : Site) (things : List ExposedThing) → ThingsHave (Contains (affordances_of site)) things → AllByRecursion (IsOne site kind.Event) (events_of things)
events_are site [] all = tt
events_are site (t ∷ things) all =
    joined (IsOne site kind.Event) (those_of kind.Event t) (events_of things) (of_one_kind site kind.Event t.affordances all.0) (events_are site things all.1)

poll_fit : (site : Site) (p : Placed) (s t : State) (seen : List Sighting) → IsOne site kind.Event p → PollsAndDelivers p s seen t → AreFit site seen
poll_fit site p s t seen one (emissions, w) =
    fit_then site w.first w.second seen
    (fit_calls site w.one.1 w.first (polled_fit site p emissions s.thing w.one.1 w.one.0 one.among one.kind w.one.2) w.one.3.saw)
    (fit_none site w.second (each_quiet (map (λ e. e.target) emissions) w.mid t w.second w.other).calls) w.whole

polls_fit : (site : Site) (ps : List Placed) (s t : State) (seen : List Sighting) → AllByRecursion (IsOne site kind.Event) ps → Each PollsAndDelivers ps s seen t → AreFit site seen
polls_fit site [] s t seen all stays = fit_none site seen (ap calls_in stays.saw)
polls_fit site (p ∷ ps) s t seen all w =
    fit_then site w.first w.second seen (poll_fit site p s w.mid w.first all.0 w.one) (polls_fit site ps w.mid t w.second all.1 w.other) w.whole

-- ---- runs

follows_fit : (site : Site) (w : What) (bytes : List ℕ) (s t : State) (seen : List Sighting) → Follows site w bytes s seen t → AreFit site seen
follows_fit site (what.Opened c) bytes s t seen on = fit_none site seen (ap calls_in on.2.saw)
follows_fit site (what.Bytes c size) bytes s t seen on = piece_fit site c bytes s t seen on
follows_fit site (what.Ended c) bytes s t seen on = fit_none site seen (ap calls_in on.2.saw)
follows_fit site (what.Datagram from size) bytes s t seen on = datagram_fit site from bytes s t seen on
follows_fit site what.Tick bytes s t seen on = polls_fit site (events_of site.things) s t seen (events_are site site.things (site_has_its_own site)) on
follows_fit site what.Stop bytes s t seen stays = fit_none site seen (ap calls_in stays.saw)

event_fit : (site : Site) (e : EventWithBytes) (s t : State) (seen : List Sighting) → EventAndStep site e s seen t → AreFit site seen
event_fit site e s t seen w =
    let step = w.other in
    fit_then site w.first w.second seen (fit_none site w.first (ap calls_in w.one.saw))
    (fit_then site step.first step.second w.second (follows_fit site e.event.what e.bytes _ step.mid step.first step.one) (fit_none site step.second (ends_quiet step.mid t step.second step.other).calls) step.whole)
    w.whole

run_fit : (site : Site) (took : List EventWithBytes) (s t : State) (seen : List Sighting) → Run site took s seen t → AreFit site seen
run_fit site [] s t seen stays = fit_none site seen (ap calls_in stays.saw)
run_fit site (e ∷ es) s t seen w = fit_then site w.first w.second seen (event_fit site e s w.mid w.first w.one) (run_fit site es w.mid t w.second w.other) w.whole

pub calls_are_fit : CallsAreFit
calls_are_fit site took s t seen run = All-from_recursion (IsFit site) (calls_in seen) (run_fit site took s t seen run)
