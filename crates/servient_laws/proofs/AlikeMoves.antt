-- The moves that two runs make alike: deliveries, replies, notifications, and what ends each event.
use Rattle.std.proofs.Common.{◌≡◌, ℕ, List, [], ◌∷◌, map, Option, Some, None, refl, sym, ap, ap₂, subst, ◌∙◌, inl}
use Rattle.std.specs.Prelude.{unwrap_or}
use Rattle.std.proofs.lemmas.Option.{same_Some}
use Rattle.servient_base.specs.Moves.{Then, Until}
use Rattle.thing_handler.specs.declared.handler.Answer.{Answer}
use Rattle.thing_state.specs.State.{State as ThingState, Emission, last_of}
use Rattle.coap_observe.specs.declared.notice.Notice.{Notice}
use Rattle.coap_bind.specs.declared.server.Server.{Server}
use Rattle.coap_bind.specs.Server.{with_emitted, SendsNext}
use Rattle.http_bind.specs.Streams.{HttpReply, Streams, with_connection, without_wait, Wakes, Closes, oldest_for, oldest_late, IsIdle, NoneIdle}
use Rattle.servient_outside.specs.declared.net.Act.{Act}
use Rattle.servient_outside.specs.declared.net.Act.TheVariants as act
use Rattle.servient_outside.specs.Network.{did}
use Rattle.servient_trace.specs.Trace.{Sighting, at_network}
use Rattle.servient_core.specs.Machine.{State, OnCoap, Does, acts_of_reply, Sends, SendsIfAny, RepliesToWait, AnswersWait, MarksObservers, Delivers, DeliversEach, ClosesIdle, notification_bytes, SendsNotification, NothingIsDue, SendsNotifications, AnswersLateWait, EndsEvent}
use Rattle.servient_core.specs.Keeping.{AnswersWaits, ClosesAllIdle, AnswersLateWaits}
use Rattle.servient_laws.specs.Determined.{SameServer, Alike, Agree}
use Rattle.servient_laws.proofs.AlikeStates.{AgreeAs, coap_changed, becomes_alike, becomes_agree, joined_alike, then_agree, each_agree, until_agree, passing_http, coap_agree}
use Rattle.servient_laws.proofs.AlikeStreams.{woken_once, none_idle}
use Rattle.servient_laws.proofs.AlikeObservers.{SameNotifications, same_emitted, same_next, same_bytes}

-- ---- acts

pub does_agree : (answers : ℕ → Answer) (acts : List Act) → AgreeAs answers (Does acts) (Does acts)
does_agree answers acts s t u v a b alike p q on_a on_b = becomes_agree s t u v (map (λ x. at_network (did x)) acts) (map (λ x. at_network (did x)) acts) a b alike refl p q

pub sends_agree : (answers : ℕ → Answer) (c : ℕ) (reply : HttpReply) → AgreeAs answers (Sends c reply) (Sends c reply)
sends_agree answers c reply = does_agree answers (acts_of_reply c reply)

pub if_any_agree : (answers : ℕ → Answer) (c : ℕ) (reply : Option HttpReply) → AgreeAs answers (SendsIfAny c reply) (SendsIfAny c reply)
if_any_agree answers c None s t u v a b alike p q on_a on_b = becomes_agree s t u v [] [] a b alike refl p q
if_any_agree answers c (Some reply) s t u v a b alike p q on_a on_b = sends_agree answers c reply s t u v a b alike p q on_a on_b

-- ---- requests that wait

wakes_agree : (answers : ℕ → Answer) (c : ℕ) (text : Option (List ℕ)) → AgreeAs answers (RepliesToWait c text) (RepliesToWait c text)
wakes_agree answers c text =
    passing_http answers (λ (reply : HttpReply) now. Wakes c text now reply.bytes reply.closes) (Sends c) (λ x y now h k l p q. woken_once c text x y now h k l p q)
    (sends_agree answers c)

-- the oldest that waits, by two ways to find it in the connections and a text that it gets
to_one_agree : (answers : ℕ → Answer) (c d : ℕ) (x y : Option (List ℕ)) → c ≡ d → x ≡ y → AgreeAs answers (RepliesToWait c x) (RepliesToWait d y)
to_one_agree answers c d x y one text s t u v a b alike p q on_a on_b =
    wakes_agree answers c x s t u v a b alike p
    (subst (λ (z : Option (List ℕ)). RepliesToWait c z t b v) (sym text) (subst (λ (n : ℕ). RepliesToWait n y t b v) (sym one) q)) on_a on_b

wait_agree : (answers : ℕ → Answer) (target : ℕ) → AgreeAs answers (AnswersWait target) (AnswersWait target)
wait_agree answers target s t u v a b alike (c, found, p) (d, found', q) on_a on_b =
    let one : c ≡ d = same_Some c d (sym found ∙ ap (λ (h : Streams). oldest_for target h.waits) alike.http ∙ found') in
    to_one_agree answers c d (last_of target s.thing.last) (last_of target t.thing.last) one (ap (λ (x : ThingState). last_of target x.last) alike.thing) s t u v a b alike p q on_a on_b

none_or_some : (o p : Option ℕ) (c : ℕ) → o ≡ p → o ≡ None → p ≡ Some c → ⊥
none_or_some o p c same none some = absurd (let apart : None ≡ Some c = sym none ∙ same ∙ some in cc)

waits_agree : (answers : ℕ → Answer) (target : ℕ) → AgreeAs answers (AnswersWaits target) (AnswersWaits target)
waits_agree answers target =
    until_agree answers (AnswersWait target) (λ s. oldest_for target s.http.waits ≡ None) (wait_agree answers target)
    (λ s t u a alike none move. none_or_some (oldest_for target s.http.waits) (oldest_for target t.http.waits) move.0 (ap (λ (h : Streams). oldest_for target h.waits) alike.http) none move.1)

late_agree : (answers : ℕ → Answer) → AgreeAs answers AnswersLateWait AnswersLateWait
late_agree answers s t u v a b alike (c, found, p) (d, found', q) on_a on_b =
    let one : c ≡ d = same_Some c d (sym found ∙ ap₂ (λ (now : ℕ) (h : Streams). oldest_late now h.waits) alike.moment alike.http ∙ found') in
    to_one_agree answers c d None None one refl s t u v a b alike p q on_a on_b

lates_agree : (answers : ℕ → Answer) → AgreeAs answers AnswersLateWaits AnswersLateWaits
lates_agree answers =
    until_agree answers AnswersLateWait (λ s. oldest_late s.moment s.http.waits ≡ None) (late_agree answers)
    (λ s t u a alike none move. none_or_some (oldest_late s.moment s.http.waits) (oldest_late t.moment t.http.waits) move.0
    (ap₂ (λ (now : ℕ) (h : Streams). oldest_late now h.waits) alike.moment alike.http) none move.1)

-- ---- new values

marks_agree : (answers : ℕ → Answer) (target : ℕ) → AgreeAs answers (MarksObservers target) (MarksObservers target)
marks_agree answers target =
    coap_agree answers (λ now before after. after ≡ with_emitted target before)
    (λ now c d e f same one other. subst (λ (x : Server). SameServer e x) (sym other) (subst (λ (x : Server). SameServer x (with_emitted target d)) (sym one) (same_emitted target c d same)))

delivers_agree : (answers : ℕ → Answer) (target : ℕ) → AgreeAs answers (Delivers target) (Delivers target)
delivers_agree answers target = then_agree answers (AnswersWaits target) (AnswersWaits target) (MarksObservers target) (MarksObservers target) (waits_agree answers target) (marks_agree answers target)

pub deliveries_agree : (answers : ℕ → Answer) (emissions : List Emission) → AgreeAs answers (DeliversEach emissions) (DeliversEach emissions)
deliveries_agree answers emissions = each_agree answers Delivers (map (λ e. e.target) emissions) (delivers_agree answers)

-- ---- notifications

next_of : (s t : State) (o p : Option Notice) (c d : Server) → Alike s t → SendsNext s.moment o s.coap c → SendsNext t.moment p t.coap d → SameNotifications o p × SameServer c d
next_of s t o p c d alike one other = same_next s.moment o p s.coap t.coap c d alike.coap one (subst (λ (now : ℕ). SendsNext now p t.coap d) (sym alike.moment) other)

notification_agrees : (answers : ℕ → Answer) → AgreeAs answers SendsNotification SendsNotification
notification_agrees answers s t u v a b alike (n, p) (k, q) on_a on_b =
    let both = next_of s t (Some n) (Some k) p.one.0 q.one.0 alike p.one.1 q.one.1 in
    let first : Agree p.first q.first p.mid q.mid =
    becomes_alike (record s { coap = p.one.0 }) (record t { coap = q.one.0 }) p.mid q.mid [] [] p.first q.first (coap_changed s t p.one.0 q.one.0 alike both.1) refl p.one.2 q.one.2 in
    let values = ap₂ (λ (x : ThingState) (target : ℕ). unwrap_or (last_of target x.last) []) alike.thing both.0.target in
    let bytes : notification_bytes n s.thing ≡ notification_bytes k t.thing = same_bytes n k (unwrap_or (last_of n.target s.thing.last) []) (unwrap_or (last_of k.target t.thing.last) []) both.0 values in
    let second : Agree p.second q.second u v =
    becomes_alike p.mid q.mid u v (at_network (did (act.Datagram n.to (notification_bytes n s.thing))) ∷ []) (at_network (did (act.Datagram k.to (notification_bytes k t.thing))) ∷ []) p.second q.second first.state
    (ap₂ (λ to (x : List ℕ). at_network (did (act.Datagram to x)) ∷ []) both.0.to bytes) p.other q.other in
    inl (joined_alike p.first q.first p.second q.second a b p.mid q.mid u v first second p.whole q.whole)

due_or_not : (s t u : State) (a : List Sighting) → Alike s t → NothingIsDue s → SendsNotification t a u → ⊥
due_or_not s t u a alike (c, none) (n, p) = (next_of s t None (Some n) c p.one.0 alike none p.one.1).0

notifications_agree : (answers : ℕ → Answer) → AgreeAs answers SendsNotifications SendsNotifications
notifications_agree answers =
    then_agree answers (Until SendsNotification NothingIsDue) (Until SendsNotification NothingIsDue) (OnCoap (λ now. SendsNext now None)) (OnCoap (λ now. SendsNext now None))
    (until_agree answers SendsNotification NothingIsDue (notification_agrees answers) due_or_not)
    (coap_agree answers (λ now. SendsNext now None) (λ now c d e f same one other. (same_next now None None c d e f same one other).1))

-- ---- idle connections

closes_agree : (answers : ℕ → Answer) → AgreeAs answers ClosesIdle ClosesIdle
closes_agree answers =
    passing_http answers (λ (c : ℕ) now h k. IsIdle c now h × Closes c h k) (λ c. Does (act.Closed c ∷ [])) closed
    (λ c. does_agree answers (act.Closed c ∷ []))
  where
    closed : (c d now : ℕ) (h k l : Streams) → IsIdle c now h × Closes c h k → IsIdle d now h × Closes d h l → (c ≡ d) × (k ≡ l)
    closed c d now h k l p q =
        let same : c ≡ d = same_Some c d (sym p.0 ∙ q.0) in
        (same, p.1 ∙ ap (λ (n : ℕ). with_connection n None (without_wait n h)) same ∙ sym q.1)

closes_all_agree : (answers : ℕ → Answer) → AgreeAs answers ClosesAllIdle ClosesAllIdle
closes_all_agree answers =
    until_agree answers ClosesIdle (λ s. NoneIdle s.moment s.http) (closes_agree answers) apart
  where
    apart : (s t u : State) (a : List Sighting) → Alike s t → NoneIdle s.moment s.http → ClosesIdle t a u → ⊥
    apart s t u a alike none (c, p) =
        none_idle c t.moment t.http (subst (λ (now : ℕ). NoneIdle now t.http) alike.moment (subst (λ (h : Streams). NoneIdle s.moment h) alike.http none)) p.one.1.0

pub ends_agree : (answers : ℕ → Answer) → AgreeAs answers EndsEvent EndsEvent
ends_agree answers =
    then_agree answers SendsNotifications SendsNotifications (Then AnswersLateWaits ClosesAllIdle) (Then AnswersLateWaits ClosesAllIdle) (notifications_agree answers)
    (then_agree answers AnswersLateWaits AnswersLateWaits ClosesAllIdle ClosesAllIdle (lates_agree answers) (closes_all_agree answers))
