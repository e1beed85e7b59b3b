-- The moves of the machine, and the connections of others.
use Rattle.std.proofs.Common.{◌≡◌, ◌∙◌, ℕ, Bool, true, false, List, [], ◌∷◌, ◌++◌, inl, inr, refl, sym, ap, subst}
use Rattle.std.specs.Prelude.{Option, Some, None, ◌==◌, ◌||◌}
use Rattle.std.proofs.lemmas.List.{map-append}
use Rattle.servient_base.specs.Moves.{Each, Until, is_done, goes_on}
use Rattle.thing_ops.specs.declared.outcome.Outcome.{Outcome}
use Rattle.thing_ops.specs.Requests.{RequestSeen}
use Rattle.thing_core.specs.Thing.{Done}
use Rattle.thing_site.specs.Site.{Placed, events_of}
use Rattle.thing_state.specs.State.{Emission, last_of}
use Rattle.coap_bind.specs.Server.{Heard, ignored, answered_at_once, asked}
use Rattle.coap_msg.specs.declared.endpoint.Endpoint.{Endpoint}
use Rattle.http_bind.specs.declared.waits.Wait.{Wait}
use Rattle.http_bind.specs.Streams.{Streams, HttpReply, Taken, asks, wants_continue, is_faulty, interrupts, oldest, oldest_for, oldest_late, is_late, NoneIdle, after_reply, Answers as AnswersRequest, lets_wait, sends_reply, IsDry}
use Rattle.servient_outside.specs.declared.net.What.{What}
use Rattle.servient_outside.specs.declared.net.What.TheVariants as what
use Rattle.servient_trace.specs.Trace.{Sighting}
use Rattle.servient_core.specs.Machine.{Site, State, SendsIfAny, RepliesToWait, AnswersWait, AnswersLateWait, Delivers, PerformsByHttp, AnswersDatagram, HearsDatagram, AnswersTaken, TakesNextMessage, ClosesIdle, PollsAndDelivers, SendsNotification, NothingIsDue, EndsEvent, Follows}
use Rattle.servient_ends.specs.Ends.{along, emitted_on, emitted_by_datagram, emitted_by_message, emitted_by_next, emitted_by_polls, emitted_by}
use Rattle.servient_ends.proofs.StepParts.{targets_in}
use Rattle.neighbour_laws.specs.Neighbours.{connection_of, is_answered, waits_besides, as_it_was}
use Rattle.neighbour_laws.proofs.StreamLaws.{order_same, passed_on, passed_then, passed_same, own_passed, own_place, own_wait, wakes_passed, closes_passed, Passed}

-- ---- moves

pub record Moved (d : Option ℕ) (targets : List ℕ) (s t : State) : Type 0 where
  pub moment : t.moment ≡ s.moment
  pub passed : Passed d s.moment targets s.http t.http

passed_at : (d : Option ℕ) (now later : ℕ) (targets : List ℕ) (h k : Streams) → later ≡ now → Passed d later targets h k → Passed d now targets h k
passed_at d now later targets h k is one = subst (λ (n : ℕ). Passed d n targets h k) is one

moved_then : (d : Option ℕ) (a b : List ℕ) (s m t : State) → Moved d a s m → Moved d b m t → Moved d (a ++ b) s t
moved_then d a b s m t one two =
    record { moment = two.moment ∙ one.moment; passed = passed_then d s.moment a b s.http m.http t.http one.passed (passed_at d s.moment m.moment b m.http t.http one.moment two.passed) }

moved_on : (d : Option ℕ) (a : List ℕ) (s m t : State) → Moved d a s m → Moved d a m t → Moved d a s t
moved_on d a s m t one two =
    record { moment = two.moment ∙ one.moment; passed = passed_on d s.moment a s.http m.http t.http one.passed (passed_at d s.moment m.moment a m.http t.http one.moment two.passed) }

-- what leaves the connections
moved_same : (d : Option ℕ) (s t : State) → t.moment ≡ s.moment → t.http ≡ s.http → Moved d [] s t
moved_same d s t moment http = record { moment = moment; passed = passed_same d s.moment s.http t.http http }

moved_any : (d : Option ℕ) (targets : List ℕ) (s t : State) → Moved d [] s t → Moved d targets s t
moved_any d targets s t one = record { moment = one.moment; passed = passed_then d s.moment [] targets s.http t.http t.http one.passed (passed_self targets) }
  where
    passed_self : (targets : List ℕ) → Passed d s.moment targets t.http t.http
    passed_self targets = record { order = order_same (waits_besides d t.http.waits) (waits_besides d t.http.waits) refl; left = λ c is. as_it_was refl refl }

is_due : (target : ℕ) (now : ℕ) (w : Wait) → (w.target == target) ≡ true → is_answered now (target ∷ []) w ≡ true
is_due target now w is = ap (λ (b : Bool). (b || false) || is_late now w) is

wait_moved : (d : Option ℕ) (targets : List ℕ) (p : Wait → Bool) (c : ℕ) (text : Option (List ℕ)) (s t : State) (seen : List Sighting) → ((w : Wait) → p w ≡ true → is_answered s.moment targets w ≡ true)
    → oldest p s.http.waits ≡ Some c → RepliesToWait c text s seen t → Moved d targets s t
wait_moved d targets p c text s t seen due is r =
    let next = r.1.other.next ∙ r.1.one.2.next in
    record {
      moment = ap (λ (x : State). x.moment) next;
      passed = subst (Passed d s.moment targets s.http) (sym (ap (λ (x : State). x.http) next))
          (wakes_passed d s.moment targets p c _ r.0.bytes r.0.closes s.http r.1.one.0 due is r.1.one.1.1);
    }

waits_moved : (d : Option ℕ) (target : ℕ) (s t : State) (seen : List Sighting) → Until (AnswersWait target) (λ (x : State). oldest_for target x.http.waits ≡ None) s seen t → Moved d (target ∷ []) s t
waits_moved d target s t seen (is_done s' seen' t' done stays) = moved_any d (target ∷ []) s t (moved_same d s t (ap (λ (x : State). x.moment) stays.next) (ap (λ (x : State). x.http) stays.next))
waits_moved d target s t seen (goes_on s' m t' seen' a b one more whole) =
    moved_on d (target ∷ []) s m t (wait_moved d (target ∷ []) (λ w. w.target == target) one.0 (last_of target s.thing.last) s m a (is_due target s.moment) one.1 one.2) (waits_moved d target m t b more)

delivered_moved : (d : Option ℕ) (targets : List ℕ) (s t : State) (seen : List Sighting) → Each Delivers targets s seen t → Moved d targets s t
delivered_moved d [] s t seen stays = moved_same d s t (ap (λ (x : State). x.moment) stays.next) (ap (λ (x : State). x.http) stays.next)
delivered_moved d (target ∷ targets) s t seen both =
    let on = both.one.other in
    moved_then d (target ∷ []) targets s both.mid t
    (moved_then d (target ∷ []) [] s both.one.mid both.mid (waits_moved d target s both.one.mid both.one.first both.one.one)
    (moved_same d both.one.mid both.mid (ap (λ (x : State). x.moment) on.2.next) (ap (λ (x : State). x.http) on.2.next))) (delivered_moved d targets both.mid t both.second both.other)

-- ---- messages of a connection

own_moved : (c : ℕ) (s t : State) (h : Streams) → t.moment ≡ s.moment → t.http ≡ h → Passed (Some c) s.moment [] s.http h → Moved (Some c) [] s t
own_moved c s t h moment http passed = record { moment = moment; passed = subst (Passed (Some c) s.moment [] s.http) (sym http) passed }

any_moved : (d : Option ℕ) (c : ℕ) (reply : Option HttpReply) (s t : State) (seen : List Sighting) → SendsIfAny c reply s seen t → Moved d [] s t
any_moved d c None s t seen stays = moved_same d s t (ap (λ (x : State). x.moment) stays.next) (ap (λ (x : State). x.http) stays.next)
any_moved d c (Some reply) s t seen does = moved_same d s t (ap (λ (x : State). x.moment) does.next) (ap (λ (x : State). x.http) does.next)

performed_moved : (d : Option ℕ) (site : Site) (q : RequestSeen) (done : Done) (s t : State) (seen : List Sighting) → PerformsByHttp site q done s seen t → Moved d [] s t
performed_moved d site q done s t seen (inl (is, (x, acts, none, p))) = moved_same d s t (ap (λ (x : State). x.moment) p.next) (ap (λ (x : State). x.http) p.next)
performed_moved d site q done s t seen (inr (isnt, (x, calls, acts, p))) = moved_same d s t (ap (λ (x : State). x.moment) p.next) (ap (λ (x : State). x.http) p.next)

answer_passed : (c now : ℕ) (o : Outcome) (reply : Option HttpReply) (h k : Streams) → AnswersRequest c o now reply h k → Passed (Some c) now [] h k
answer_passed c now o reply h k (lets_wait target is w none) = own_wait c now (record { connection = c; target = target; since = now }) h k refl w.4
answer_passed c now o reply h k (sends_reply bytes closes none r is) = own_passed c now (after_reply closes now r.0) h k r.6

message_moved : (site : Site) (c : ℕ) (taken : Taken) (s t : State) (seen : List Sighting) (r : AnswersTaken site c taken s seen t) → Moved (Some c) (targets_in (emitted_by_message site c taken s seen t r)) s t
message_moved site c (asks q) s t seen r =
    let one = r.1 in
    let two = one.other in
    let three = two.one.1 in
    let on = three.one in
    moved_then (Some c) [] (targets_in r.0.emissions) s one.mid t (performed_moved (Some c) site q r.0 s one.mid one.first one.one)
    (moved_then (Some c) [] (targets_in r.0.emissions) one.mid two.mid t
    (moved_then (Some c) [] [] one.mid three.mid two.mid
    (own_moved c one.mid three.mid on.0 (ap (λ (x : State). x.moment) on.2.next) (ap (λ (x : State). x.http) on.2.next) (answer_passed c one.mid.moment r.0.outcome two.one.0 one.mid.http on.0 on.1))
    (any_moved (Some c) c two.one.0 three.mid two.mid three.second three.other)) (delivered_moved (Some c) (targets_in r.0.emissions) two.mid t two.second two.other))
message_moved site c wants_continue s t seen r =
    let next = r.1.other.next ∙ r.1.one.2.next in
    moved_same (Some c) s t (ap (λ (x : State). x.moment) next) (ap (λ (x : State). x.http) next ∙ r.1.one.1.1)
message_moved site c (is_faulty status) s t seen r =
    let next = r.1.other.next ∙ r.1.one.2.next in
    own_moved c s t r.1.one.0 (ap (λ (x : State). x.moment) next) (ap (λ (x : State). x.http) next) (own_passed c s.moment None s.http r.1.one.0 r.1.one.1.1)
message_moved site c interrupts s t seen r = moved_same (Some c) s t (ap (λ (x : State). x.moment) r.next) (ap (λ (x : State). x.http) r.next)

next_moved : (site : Site) (c : ℕ) (s t : State) (seen : List Sighting) (r : TakesNextMessage site c s seen t) → Moved (Some c) (targets_in (emitted_by_next site c s seen t r)) s t
next_moved site c s t seen r =
    let on = r.1.one in
    moved_then (Some c) [] (targets_in (emitted_by_next site c s seen t r)) s r.1.mid t
    (own_moved c s r.1.mid on.0 (ap (λ (x : State). x.moment) on.2.next) (ap (λ (x : State). x.http) on.2.next) (own_passed c s.moment on.1.1 s.http on.0 on.1.4))
    (message_moved site c r.0 r.1.mid t r.1.second r.1.other)

both_targets : (a b : List Emission) → targets_in (a ++ b) ≡ targets_in a ++ targets_in b
both_targets a b = map-append (λ (e : Emission). e.target) a b

moved_both : (d : Option ℕ) (a b : List Emission) (s m t : State) → Moved d (targets_in a) s m → Moved d (targets_in b) m t → Moved d (targets_in (a ++ b)) s t
moved_both d a b s m t one two = subst (λ (l : List ℕ). Moved d l s t) (sym (both_targets a b)) (moved_then d (targets_in a) (targets_in b) s m t one two)

messages_moved : (site : Site) (c : ℕ) (s t : State) (seen : List Sighting) (r : Until (TakesNextMessage site c) (λ x. IsDry c x.http) s seen t)
    → Moved (Some c) (targets_in (along (TakesNextMessage site c) (λ x. IsDry c x.http) (emitted_by_next site c) s seen t r)) s t
messages_moved site c s t seen (is_done s' seen' t' done stays) = moved_same (Some c) s t (ap (λ (x : State). x.moment) stays.next) (ap (λ (x : State). x.http) stays.next)
messages_moved site c s t seen (goes_on s' m t' seen' a b one more whole) =
    moved_both (Some c) (emitted_by_next site c s a m one) (along (TakesNextMessage site c) (λ x. IsDry c x.http) (emitted_by_next site c) m b t more) s m t (next_moved site c s m a one) (messages_moved site c m t b more)

-- ---- datagrams, polls, and any event

heard_moved : (site : Site) (from : Endpoint) (h : Heard) (s t : State) (seen : List Sighting) (r : AnswersDatagram site from h s seen t) → Moved None (targets_in (emitted_on site from h s seen t r)) s t
heard_moved site from ignored s t seen r = moved_same None s t (ap (λ (x : State). x.moment) r.next) (ap (λ (x : State). x.http) r.next)
heard_moved site from (answered_at_once bytes) s t seen r = moved_same None s t (ap (λ (x : State). x.moment) r.next) (ap (λ (x : State). x.http) r.next)
heard_moved site from (asked ask pending) s t seen r =
    let one = r.1 in
    let two = one.other in
    let three = two.one.1 in
    let next = three.other.next ∙ three.one.2.next in
    moved_then None [] (targets_in r.0.emissions) s two.mid t
    (moved_then None [] [] s one.mid two.mid (moved_same None s one.mid (ap (λ (x : State). x.moment) one.one.3.next) (ap (λ (x : State). x.http) one.one.3.next))
    (moved_same None one.mid two.mid (ap (λ (x : State). x.moment) next) (ap (λ (x : State). x.http) next)))
    (delivered_moved None (targets_in r.0.emissions) two.mid t two.second two.other)

datagram_moved : (site : Site) (from : Endpoint) (bytes : List ℕ) (s t : State) (seen : List Sighting) (r : HearsDatagram site from bytes s seen t) → Moved None (targets_in (emitted_by_datagram site from bytes s seen t r)) s t
datagram_moved site from bytes s t seen (inl long) = moved_same None s t (ap (λ (x : State). x.moment) long.1.next) (ap (λ (x : State). x.http) long.1.next)
datagram_moved site from bytes s t seen (inr h) =
    let both = h.1.1 in
    moved_then None [] (targets_in (emitted_on site from h.1.0 both.mid both.second t both.other)) s both.mid t
    (moved_same None s both.mid (ap (λ (x : State). x.moment) both.one.2.next) (ap (λ (x : State). x.http) both.one.2.next)) (heard_moved site from h.1.0 both.mid t both.second both.other)

polls_moved : (events : List Placed) (s t : State) (seen : List Sighting) (r : Each PollsAndDelivers events s seen t) → Moved None (targets_in (emitted_by_polls events s seen t r)) s t
polls_moved [] s t seen stays = moved_same None s t (ap (λ (x : State). x.moment) stays.next) (ap (λ (x : State). x.http) stays.next)
polls_moved (p ∷ events) s t seen r =
    let one = r.one.1 in
    moved_both None r.one.0 (emitted_by_polls events r.mid r.second t r.other) s r.mid t
    (moved_then None [] (targets_in r.one.0) s one.mid r.mid (moved_same None s one.mid (ap (λ (x : State). x.moment) one.one.3.next) (ap (λ (x : State). x.http) one.one.3.next))
    (delivered_moved None (targets_in r.one.0) one.mid r.mid one.second one.other)) (polls_moved events r.mid t r.second r.other)

pub follows_moved : (site : Site) (w : What) (bytes : List ℕ) (s t : State) (seen : List Sighting) (f : Follows site w bytes s seen t) → Moved (connection_of w) (targets_in (emitted_by site w bytes s seen t f)) s t
follows_moved site (what.Opened c) bytes s t seen f = own_moved c s t f.0 (ap (λ (x : State). x.moment) f.2.next) (ap (λ (x : State). x.http) f.2.next) (own_passed c s.moment _ s.http f.0 f.1)
follows_moved site (what.Bytes c size) bytes s t seen f =
    let on = f.one in
    moved_then (Some c) [] _ s f.mid t (own_moved c s f.mid on.0 (ap (λ (x : State). x.moment) on.2.next) (ap (λ (x : State). x.http) on.2.next) (own_place c s.moment _ s.http on.0 on.1)) (messages_moved site c f.mid t f.second f.other)
follows_moved site (what.Ended c) bytes s t seen f = own_moved c s t f.0 (ap (λ (x : State). x.moment) f.2.next) (ap (λ (x : State). x.http) f.2.next) (own_passed c s.moment None s.http f.0 f.1)
follows_moved site (what.Datagram from size) bytes s t seen f = datagram_moved site from bytes s t seen f
follows_moved site what.Tick bytes s t seen f = polls_moved (events_of site.things) s t seen f
follows_moved site what.Stop bytes s t seen f = moved_same None s t (ap (λ (x : State). x.moment) f.next) (ap (λ (x : State). x.http) f.next)

-- ---- the end of an event

notices_moved : (d : Option ℕ) (s t : State) (seen : List Sighting) → Until SendsNotification NothingIsDue s seen t → Moved d [] s t
notices_moved d s t seen (is_done s' seen' t' done stays) = moved_same d s t (ap (λ (x : State). x.moment) stays.next) (ap (λ (x : State). x.http) stays.next)
notices_moved d s t seen (goes_on s' m t' seen' a b one more whole) =
    let next = one.1.other.next ∙ one.1.one.2.next in
    moved_on d [] s m t (moved_same d s m (ap (λ (x : State). x.moment) next) (ap (λ (x : State). x.http) next)) (notices_moved d m t b more)

late_moved : (d : Option ℕ) (s t : State) (seen : List Sighting) → Until AnswersLateWait (λ (x : State). oldest_late x.moment x.http.waits ≡ None) s seen t → Moved d [] s t
late_moved d s t seen (is_done s' seen' t' done stays) = moved_same d s t (ap (λ (x : State). x.moment) stays.next) (ap (λ (x : State). x.http) stays.next)
late_moved d s t seen (goes_on s' m t' seen' a b one more whole) = moved_on d [] s m t (wait_moved d [] (is_late s.moment) one.0 None s m a (λ w is. is) one.1 one.2) (late_moved d m t b more)

idle_moved : (d : Option ℕ) (s t : State) (seen : List Sighting) → Until ClosesIdle (λ (x : State). NoneIdle x.moment x.http) s seen t → Moved d [] s t
idle_moved d s t seen (is_done s' seen' t' done stays) = moved_same d s t (ap (λ (x : State). x.moment) stays.next) (ap (λ (x : State). x.http) stays.next)
idle_moved d s t seen (goes_on s' m t' seen' a b one more whole) =
    let on = one.1.one in
    let next = one.1.other.next ∙ on.2.next in
    moved_on d [] s m t
    (record { moment = ap (λ (x : State). x.moment) next; passed = subst (Passed d s.moment [] s.http) (sym (ap (λ (x : State). x.http) next)) (closes_passed d s.moment one.0 s.http on.0 on.1.0 on.1.1) })
    (idle_moved d m t b more)

pub ends_moved : (d : Option ℕ) (s t : State) (seen : List Sighting) → EndsEvent s seen t → Moved d [] s t
ends_moved d s t seen ends =
    let on = ends.one.other in
    moved_on d [] s ends.mid t
    (moved_on d [] s ends.one.mid ends.mid (notices_moved d s ends.one.mid ends.one.first ends.one.one) (moved_same d ends.one.mid ends.mid (ap (λ (x : State). x.moment) on.2.next) (ap (λ (x : State). x.http) on.2.next)))
    (moved_on d [] ends.mid ends.other.mid t (late_moved d ends.mid ends.other.mid ends.other.first ends.other.one) (idle_moved d ends.other.mid t ends.other.second ends.other.other))

-- an event up to its end, and its end
pub moved_to_end : (d : Option ℕ) (targets : List ℕ) (s m t : State) → Moved d targets s m → Moved d [] m t → Moved d targets s t
moved_to_end d targets s m t one two = moved_on d targets s m t one (moved_any d targets m t two)
