-- The datagrams that the world notes as sent by the servient are those in the trace of its machine.
use Rattle.std.proofs.Common.{◌≡◌, ◌∙◌, ℕ, Bool, true, false, List, [], ◌∷◌, ◌++◌, map, inl, inr, refl, sym, ap, append_assoc}
use Rattle.std.specs.Prelude.{Option, Some, None}
use Rattle.std.proofs.lemmas.List.{append-nil}
use Rattle.servient_base.specs.Moves.{Each, Until, is_done, goes_on}
use Rattle.coap_msg.specs.declared.endpoint.Endpoint.{Endpoint}
use Rattle.coap_observe.specs.declared.notice.Notice.{Notice}
use Rattle.coap_bind.specs.Server.{Heard, ignored, answered_at_once, asked}
use Rattle.thing_ops.specs.Requests.{RequestSeen}
use Rattle.thing_handler.specs.Turns.{HandlerCall}
use Rattle.http_bind.specs.Streams.{HttpReply, Taken, asks, wants_continue, is_faulty, interrupts, oldest_for, oldest_late, IsDry, NoneIdle}
use Rattle.thing_site.specs.Site.{Placed, events_of}
use Rattle.thing_state.specs.State.{State as ThingState, last_of}
use Rattle.thing_core.specs.Thing.{Done}
use Rattle.servient_outside.specs.declared.net.What.{What}
use Rattle.servient_outside.specs.declared.net.What.TheVariants as what
use Rattle.servient_outside.specs.Network.{did}
use Rattle.servient_trace.specs.Trace.{Sighting, at_network, at_handler}
use Rattle.servient_core.specs.Machine.{Site, State, Move, acts_of_reply, SendsIfAny, RepliesToWait, AnswersWait, AnswersLateWait, Delivers, PerformsByHttp, AnswersDatagram, HearsDatagram, AnswersTaken, TakesNextMessage, ClosesIdle, PollsAndDelivers, notification_bytes, SendsNotification, NothingIsDue, EndsEvent, Follows, EventAndStep}
use Rattle.servient_ends.specs.Ends.{along, sent_on, back_of, notifications_in, event_at, datagrams_at, datagrams_in}
use Rattle.servient_ends.proofs.StepParts.{IsNoDatagram, Leaves, late_leave, idle_leave}

abbrev Sent : Type 0
Sent = List (Endpoint × List ℕ)

pub seen_both : (a b : List Sighting) → datagrams_in (a ++ b) ≡ datagrams_in a ++ datagrams_in b
seen_both [] b = refl
seen_both (at_network h ∷ a) b = ap (λ (l : Sent). datagrams_at h ++ l) (seen_both a b) ∙ sym (append_assoc (datagrams_at h) (datagrams_in a) (datagrams_in b))
seen_both (at_handler call ∷ a) b = seen_both a b

-- the datagrams that one move and then another sends
then_sends : (seen first second : List Sighting) (a b : Sent) → seen ≡ first ++ second → datagrams_in first ≡ a → datagrams_in second ≡ b → datagrams_in seen ≡ a ++ b
then_sends seen first second a b whole one other =
    ap datagrams_in whole ∙ (seen_both first second ∙ (ap (λ (l : Sent). l ++ datagrams_in second) one ∙ ap (λ (l : Sent). a ++ l) other))

-- ---- moves that send no datagram

abbrev IsQuiet : List Sighting → Type 0
IsQuiet seen = datagrams_in seen ≡ []

quiet_then : (seen first second : List Sighting) → seen ≡ first ++ second → IsQuiet first → IsQuiet second → IsQuiet seen
quiet_then seen first second whole one other = then_sends seen first second [] [] whole one other

quiet_as : (shown seen : List Sighting) → seen ≡ shown → IsQuiet shown → IsQuiet seen
quiet_as shown seen saw none = ap datagrams_in saw ∙ none

calls_quiet : (calls : List HandlerCall) → IsQuiet (map at_handler calls)
calls_quiet [] = refl
calls_quiet (call ∷ calls) = calls_quiet calls

reply_quiet : (c : ℕ) (bytes : List ℕ) (closes : Bool) → IsQuiet (map (λ a. at_network (did a)) (acts_of_reply c (record { bytes = bytes; closes = closes })))
reply_quiet c bytes true = refl
reply_quiet c bytes false = refl

until_quiet : (P : Move) (IsDone : State → Type 0) → ((s t : State) (seen : List Sighting) → P s seen t → IsQuiet seen) → (s t : State) (seen : List Sighting) → Until P IsDone s seen t → IsQuiet seen
until_quiet P IsDone each s t seen (is_done s' seen' t' done stays) = quiet_as [] seen stays.saw refl
until_quiet P IsDone each s t seen (goes_on s' mid t' seen' first second one more whole) =
    quiet_then seen first second whole (each s mid first one) (until_quiet P IsDone each mid t second more)

each_quiet : {A : Type 0} (P : A → Move) → ((x : A) (s t : State) (seen : List Sighting) → P x s seen t → IsQuiet seen) → (xs : List A) (s t : State) (seen : List Sighting) → Each P xs s seen t → IsQuiet seen
each_quiet P each [] s t seen stays = quiet_as [] seen stays.saw refl
each_quiet P each (x ∷ xs) s t seen both =
    quiet_then seen both.first both.second both.whole (each x s both.mid both.first both.one) (each_quiet P each xs both.mid t both.second both.other)

wait_quiet : (c : ℕ) (text : Option (List ℕ)) (s t : State) (seen : List Sighting) → RepliesToWait c text s seen t → IsQuiet seen
wait_quiet c text s t seen is =
    quiet_then seen is.1.first is.1.second is.1.whole (quiet_as [] is.1.first is.1.one.2.saw refl) (quiet_as _ is.1.second is.1.other.saw (reply_quiet c is.0.bytes is.0.closes))

delivers_quiet : (target : ℕ) (s t : State) (seen : List Sighting) → Delivers target s seen t → IsQuiet seen
delivers_quiet target s t seen both =
    quiet_then seen both.first both.second both.whole
    (until_quiet (AnswersWait target) (λ (x : State). oldest_for target x.http.waits ≡ None) (λ x y shown move. wait_quiet move.0 (last_of target x.thing.last) x y shown move.2) s both.mid both.first both.one)
    (quiet_as [] both.second both.other.2.saw refl)

deliveries_quiet : (targets : List ℕ) (s t : State) (seen : List Sighting) → Each Delivers targets s seen t → IsQuiet seen
deliveries_quiet targets s t seen each = each_quiet Delivers delivers_quiet targets s t seen each

any_quiet : (c : ℕ) (reply : Option HttpReply) (s t : State) (seen : List Sighting) → SendsIfAny c reply s seen t → IsQuiet seen
any_quiet c None s t seen stays = quiet_as [] seen stays.saw refl
any_quiet c (Some reply) s t seen does = quiet_as _ seen does.saw (reply_quiet c reply.bytes reply.closes)

http_quiet : (site : Site) (q : RequestSeen) (done : Done) (s t : State) (seen : List Sighting) → PerformsByHttp site q done s seen t → IsQuiet seen
http_quiet site q done s t seen (inl directory) = quiet_as [] seen directory.1.3.saw refl
http_quiet site q done s t seen (inr things) = quiet_as (map at_handler things.1.1) seen things.1.3.saw (calls_quiet things.1.1)

message_quiet : (site : Site) (c : ℕ) (taken : Taken) (s t : State) (seen : List Sighting) → AnswersTaken site c taken s seen t → IsQuiet seen
message_quiet site c (asks q) s t seen r =
    let one = r.1 in
    let two = one.other in
    let three = two.one.1 in
    quiet_then seen one.first one.second one.whole (http_quiet site q r.0 s one.mid one.first one.one)
    (quiet_then one.second two.first two.second two.whole
    (quiet_then two.first three.first three.second three.whole (quiet_as [] three.first three.one.2.saw refl) (any_quiet c two.one.0 three.mid two.mid three.second three.other))
    (deliveries_quiet _ two.mid t two.second two.other))
message_quiet site c wants_continue s t seen r =
    quiet_then seen r.1.first r.1.second r.1.whole (quiet_as [] r.1.first r.1.one.2.saw refl) (quiet_as _ r.1.second r.1.other.saw (reply_quiet c r.0 false))
message_quiet site c (is_faulty status) s t seen r =
    quiet_then seen r.1.first r.1.second r.1.whole (quiet_as [] r.1.first r.1.one.2.saw refl) (quiet_as _ r.1.second r.1.other.saw (reply_quiet c r.0 true))
message_quiet site c interrupts s t seen r = quiet_as _ seen r.saw refl

next_quiet : (site : Site) (c : ℕ) (s t : State) (seen : List Sighting) → TakesNextMessage site c s seen t → IsQuiet seen
next_quiet site c s t seen r =
    quiet_then seen r.1.first r.1.second r.1.whole (quiet_as [] r.1.first r.1.one.2.saw refl) (message_quiet site c r.0 r.1.mid t r.1.second r.1.other)

poll_quiet : (p : Placed) (s t : State) (seen : List Sighting) → PollsAndDelivers p s seen t → IsQuiet seen
poll_quiet p s t seen r =
    quiet_then seen r.1.first r.1.second r.1.whole (quiet_as (map at_handler r.1.one.1) r.1.first r.1.one.3.saw (calls_quiet r.1.one.1)) (deliveries_quiet _ r.1.mid t r.1.second r.1.other)

other_quiet : (site : Site) (w : What) (bytes : List ℕ) (s t : State) (seen : List Sighting) → IsNoDatagram w → Follows site w bytes s seen t → IsQuiet seen
other_quiet site (what.Opened c) bytes s t seen plain f = quiet_as [] seen f.2.saw refl
other_quiet site (what.Bytes c size) bytes s t seen plain f =
    quiet_then seen f.first f.second f.whole (quiet_as [] f.first f.one.2.saw refl)
    (until_quiet (TakesNextMessage site c) (λ (x : State). IsDry c x.http) (next_quiet site c) f.mid t f.second f.other)
other_quiet site (what.Ended c) bytes s t seen plain f = quiet_as [] seen f.2.saw refl
other_quiet site (what.Datagram from size) bytes s t seen plain f = absurd plain
other_quiet site what.Tick bytes s t seen plain f = each_quiet PollsAndDelivers poll_quiet (events_of site.things) s t seen f
other_quiet site what.Stop bytes s t seen plain f = quiet_as [] seen f.saw refl

-- ---- what is sent back

abbrev pub back_to : Endpoint → List (List ℕ) → Sent
back_to from said = map (λ b. (from, b)) said

heard_sends : (site : Site) (from : Endpoint) (h : Heard) (s t : State) (seen : List Sighting) (r : AnswersDatagram site from h s seen t) → datagrams_in seen ≡ back_to from (sent_on site from h s seen t r)
heard_sends site from ignored s t seen r = ap datagrams_in r.saw
heard_sends site from (answered_at_once bytes) s t seen r = ap datagrams_in r.saw
heard_sends site from (asked ask request) s t seen r =
    let one = r.1 in
    let two = one.other in
    let three = two.one.1 in
    let said : Sent = (from, two.one.0) ∷ [] in
    then_sends seen one.first one.second [] said one.whole (quiet_as (map at_handler one.one.1) one.first one.one.3.saw (calls_quiet one.one.1))
    (then_sends one.second two.first two.second said [] two.whole
    (then_sends two.first three.first three.second [] said three.whole (quiet_as [] three.first three.one.2.saw refl) (ap datagrams_in three.other.saw))
    (deliveries_quiet _ two.mid t two.second two.other))

datagram_sends : (site : Site) (from : Endpoint) (bytes : List ℕ) (s t : State) (seen : List Sighting) (r : HearsDatagram site from bytes s seen t)
    → datagrams_in seen ≡ back_to from (back_of site from bytes s seen t r)
datagram_sends site from bytes s t seen (inl long) = ap datagrams_in long.1.saw
datagram_sends site from bytes s t seen (inr h) =
    let both = h.1.1 in
    then_sends seen both.first both.second [] (back_to from (sent_on site from h.1.0 both.mid both.second t both.other)) both.whole (quiet_as [] both.first both.one.2.saw refl)
    (heard_sends site from h.1.0 both.mid t both.second both.other)

-- ---- the end of an event

abbrev pub noticed : ThingState → List Notice → Sent
noticed thing ns = map (λ n. (n.to, notification_bytes n thing)) ns

notifications_send : (thing : ThingState) (s t : State) (seen : List Sighting) → s.thing ≡ thing → (u : Until SendsNotification NothingIsDue s seen t)
    → (datagrams_in seen ≡ noticed thing (along SendsNotification NothingIsDue (λ x shown y sends. sends.0 ∷ []) s seen t u)) × (t.thing ≡ thing)
notifications_send thing s t seen same (is_done s' seen' t' done stays) = (ap datagrams_in stays.saw, ap (λ (x : State). x.thing) stays.next ∙ same)
notifications_send thing s t seen same (goes_on s' mid t' seen' first second one more whole) =
    let on = one.1.one in
    let does = one.1.other in
    let same_mid : mid.thing ≡ thing = ap (λ (x : State). x.thing) does.next ∙ (ap (λ (x : State). x.thing) on.2.next ∙ same) in
    let rest = notifications_send thing mid t second same_mid more in
    let said : ThingState → Sent = λ x. (one.0.to, notification_bytes one.0 x) ∷ [] in (
      then_sends seen first second (said thing) _ whole
          (then_sends first one.1.first one.1.second [] (said thing) one.1.whole (quiet_as [] one.1.first on.2.saw refl) (ap datagrams_in does.saw ∙ ap said same)) rest.0,
      rest.1,
    )

end_sends : (s t : State) (seen : List Sighting) (ends : EndsEvent s seen t) → datagrams_in seen ≡ noticed t.thing (notifications_in s seen t ends)
end_sends s t seen ends =
    let n = notifications_send s.thing s ends.one.mid ends.one.first refl ends.one.one in
    let x = ends.mid in
    let on = ends.one.other in
    let left : Leaves x ends.other.mid = late_leave x ends.other.mid ends.other.first ends.other.one in
    let idle : Leaves ends.other.mid t = idle_leave ends.other.mid t ends.other.second ends.other.other in
    let thing : s.thing ≡ t.thing = sym (idle.thing ∙ (left.thing ∙ (ap (λ (y : State). y.thing) on.2.next ∙ n.1))) in
    let ns : List Notice = notifications_in s seen t ends in
    let quiet : IsQuiet ends.second = quiet_then ends.second ends.other.first ends.other.second ends.other.whole
    (until_quiet AnswersLateWait (λ (y : State). oldest_late y.moment y.http.waits ≡ None) (λ y z shown move. wait_quiet move.0 None y z shown move.2) x ends.other.mid ends.other.first ends.other.one)
    (until_quiet ClosesIdle (λ (y : State). NoneIdle y.moment y.http)
    (λ y z shown move. quiet_then shown move.1.first move.1.second move.1.whole (quiet_as [] move.1.first move.1.one.2.saw refl) (quiet_as _ move.1.second move.1.other.saw refl))
    ends.other.mid t ends.other.second ends.other.other) in
    then_sends seen ends.first ends.second (noticed s.thing ns) [] ends.whole
    (then_sends ends.first ends.one.first ends.one.second (noticed s.thing ns) [] ends.one.whole n.0 (quiet_as [] ends.one.second on.2.saw refl) ∙ append-nil (noticed s.thing ns)) quiet
    ∙ (append-nil (noticed s.thing ns) ∙ ap (λ (y : ThingState). noticed y ns) thing)

-- ---- an event

-- The trace of a datagram with its step: the datagrams that were sent back, and the notifications.
pub hearing_sends : (site : Site) (now : ℕ) (from : Endpoint) (size : ℕ) (bytes : List ℕ) (s t : State) (seen : List Sighting)
    → (step : EventAndStep site (event_at now (what.Datagram from size) bytes) s seen t)
    → datagrams_in seen ≡ back_to from (back_of site from bytes _ step.other.first step.other.mid step.other.one) ++ noticed t.thing (notifications_in step.other.mid step.other.second t step.other.other)
hearing_sends site now from size bytes s t seen step =
    then_sends seen step.first step.second [] _ step.whole (quiet_as _ step.first step.one.saw refl)
    (then_sends step.second step.other.first step.other.second _ _ step.other.whole
    (datagram_sends site from bytes _ step.other.mid step.other.first step.other.one) (end_sends step.other.mid t step.other.second step.other.other))

-- Of any other event with its step: the notifications.
pub doing_sends : (site : Site) (now : ℕ) (w : What) (bytes : List ℕ) (s t : State) (seen : List Sighting) → IsNoDatagram w
    → (step : EventAndStep site (event_at now w bytes) s seen t)
    → datagrams_in seen ≡ noticed t.thing (notifications_in step.other.mid step.other.second t step.other.other)
doing_sends site now w bytes s t seen plain step =
    then_sends seen step.first step.second [] _ step.whole (quiet_as _ step.first step.one.saw refl)
    (then_sends step.second step.other.first step.other.second [] _ step.other.whole
    (other_quiet site w bytes _ step.other.mid step.other.first plain step.other.one) (end_sends step.other.mid t step.other.second step.other.other))
