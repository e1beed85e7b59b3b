-- Each datagram goes to an endpoint that spoke: the observers are of such endpoints.
use Rattle.std.proofs.Common.{◌≡◌, ◌∙◌, ℕ, Bool, true, false, cond, List, [], ◌∷◌, ◌++◌, map, max, find, ◌⊎◌, inl, inr, refl, sym, ap, subst, arith, append_assoc}
use Rattle.std.specs.Prelude.{Option, Some, None, All, Contains}
use Rattle.std.proofs.lemmas.List.{append-nil}
use Rattle.std.proofs.lemmas.List.Elements.{All-nil, All-cons, All-head, All-tail, All-push, All-map, All-filter, All-weaker, All-contains, Contains-append_left, Contains-append_right, Contains-append_cases}
use Rattle.neighbour_laws.proofs.Lists.{found_all}
use Rattle.coap_msg.specs.declared.endpoint.Endpoint.{Endpoint}
use Rattle.coap_observe.specs.declared.observer.Observer.{Observer}
use Rattle.coap_observe.specs.declared.notice.Notice.{Notice}
use Rattle.coap_observe.specs.declared.notice.Registered.TheVariants.{New, Replaced, Full}
use Rattle.coap_observe.specs.Watching.{Watching, where_so, with_first, is_due, is_sendable, resent, renewed, notified, is_of_target, is_sent_as, is_pair, marked, acknowledged, replaced, newcomer, GivesUp, nobody, endpoint, IsNotification, Sends, same, newer, first, nothing}
use Rattle.coap_bind.specs.declared.observing.Effect.{Effect}
use Rattle.coap_bind.specs.declared.server.Server.{Server}
use Rattle.coap_bind.specs.Observing.{Watches, leaves, cancels, registers}
use Rattle.coap_bind.specs.Server.{with_emitted, with_bodies, with_observers, SendsNext, asked}
use Rattle.coap_bind.specs.Blocks.{bodies_after}
use Rattle.thing_state.specs.State.{State as ThingState, Emission}
use Rattle.servient_outside.specs.declared.net.What.{What}
use Rattle.servient_outside.specs.declared.net.What.TheVariants as what
use Rattle.servient_outside.specs.declared.net.EventWithBytes.{EventWithBytes}
use Rattle.servient_outside.specs.declared.net.Act.TheVariants as act
use Rattle.servient_outside.specs.Network.{heard, did}
use Rattle.servient_trace.specs.Trace.{Sighting, at_network}
use Rattle.servient_core.specs.Machine.{Site, State, start, notification_bytes, EventAndStep, Run}
use Rattle.servient_ends.specs.Ends.{datagrams_in, emitted_by, notifications_in, event_at, back_of}
use Rattle.servient_ends.proofs.SeenLaws.{seen_both, back_to, noticed, hearing_sends, doing_sends}
use Rattle.servient_ends.proofs.StepParts.{IsNoDatagram, with_targets, targets_in, other_happened}
use Rattle.neighbour_laws.specs.Askers.{HasSpoken, DatagramsGoToAskers}
use Rattle.neighbour_laws.specs.Converging.{Deed}
use Rattle.neighbour_laws.proofs.EventParts.{Hearing, is_passed, is_heard, is_answered, Course, follows_course, happened_course, SendsEach, event_ends}
use Rattle.neighbour_laws.proofs.HeardParts.{Told, leaves_all, acknowledges, rejects, cancels_one, hears_told, asked_from, replied_observers, next_observers}

-- ---- what stays of observers

module _ (P : Endpoint → Type 0) where
  -- each observer is of such an endpoint
  abbrev pub AreOf : List Observer → Type 0
  AreOf ws = All (λ (w : Observer). P w.from) ws

  changed_are : (test : Observer → Bool) (change : Observer → Observer) → ((w : Observer) → (change w).from ≡ w.from) → (ws : List Observer) → AreOf ws → AreOf (map (where_so test change) ws)
  changed_are test change keeps ws all = All-map (λ (w : Observer). P w.from) (where_so test change) ws (All-weaker (λ (w : Observer). P w.from) (λ (w : Observer). P (where_so test change w).from) each ws all)
    where
      each : (w : Observer) → P w.from → P (where_so test change w).from
      each w p = by (test w)
        where
          by : (b : Bool) → P (cond b (change w) w).from
          by true = subst P (sym (keeps w)) p
          by false = p

  first_are : (test : Observer → Bool) (change : Observer → Observer) → ((w : Observer) → (change w).from ≡ w.from) → (ws : List Observer) → AreOf ws → AreOf (with_first test change ws)
  first_are test change keeps [] all = all
  first_are test change keeps (w ∷ ws) all =
      by (test w) (All-head (λ (v : Observer). P v.from) w ws all) (All-tail (λ (v : Observer). P v.from) w ws all)
      (first_are test change keeps ws (All-tail (λ (v : Observer). P v.from) w ws all))
    where
      by : (b : Bool) → P w.from → AreOf ws → AreOf (with_first test change ws) → AreOf (cond b (change w ∷ ws) (w ∷ with_first test change ws))
      by true p rest further = All-cons (λ (v : Observer). P v.from) (change w) ws (subst P (sym (keeps w)) p) rest
      by false p rest further = All-cons (λ (v : Observer). P v.from) w (with_first test change ws) p further

  told_are : (from : Endpoint) (old new : Watching) → Told from old new → AreOf old.list → AreOf new.list
  told_are from old new (leaves_all is) all = subst (λ (w : Watching). AreOf w.list) (sym is) all
  told_are from old new (acknowledges id is) all = subst (λ (w : Watching). AreOf w.list) (sym is) (changed_are (is_sent_as from id) acknowledged (λ w. refl) old.list all)
  told_are from old new (rejects id is) all = subst (λ (w : Watching). AreOf w.list) (sym is) (All-filter _ (λ (w : Observer). P w.from) old.list all)
  told_are from old new (cancels_one token is) all = subst (λ (w : Watching). AreOf w.list) (sym is) (All-filter _ (λ (w : Observer). P w.from) old.list all)

  watched_are : (does : Effect) (from : Endpoint) (token : List ℕ) (old : Watching) (o : Option ℕ) (new : Watching) → Watches does from token old o new → P from → AreOf old.list → AreOf new.list
  watched_are does from token old o new (leaves is none same_list) p all = subst (λ (w : Watching). AreOf w.list) (sym same_list) all
  watched_are does from token old o new (cancels is none gone) p all = subst (λ (w : Watching). AreOf w.list) (sym gone) (All-filter _ (λ (w : Observer). P w.from) old.list all)
  watched_are does from token old o new (registers target (Replaced n) is at says) p all =
      subst (λ (w : Watching). AreOf w.list) (sym at.1) (changed_are (is_pair from token) (replaced target) (λ w. refl) old.list all)
  watched_are does from token old o new (registers target (New n) is at says) p all =
      subst (λ (w : Watching). AreOf w.list) (sym at.3) (All-push (λ (w : Observer). P w.from) old.list (newcomer from token target) all p)
  watched_are does from token old o new (registers target Full is at says) p all = subst (λ (w : Watching). AreOf w.list) (sym at.2) all

  emitted_are : (targets : List ℕ) (s : Server) → AreOf s.observers.list → AreOf (with_targets targets s).observers.list
  emitted_are [] s all = all
  emitted_are (target ∷ targets) s all = emitted_are targets (with_emitted target s) (changed_are (is_of_target target) marked (λ w. refl) s.observers.list all)

  given_up_are : (now : ℕ) (ws us : List Observer) → GivesUp now ws us → AreOf ws → AreOf us
  given_up_are now ws us (nobody _ _ none is) all = subst AreOf (sym is) all
  given_up_are now ws us (endpoint from _ _ due rest) all = given_up_are now _ us rest (All-filter _ (λ (w : Observer). P w.from) ws all)

  abbrev GoesTo : Option Notice → Type 0
  GoesTo None = Unit {0}
  GoesTo (Some n) = P n.to

  record AreSent (n : Option Notice) (us : List Observer) : Type 0 where
    to : GoesTo n
    are : AreOf us

  found_is : (test : Observer → Bool) (ws : List Observer) (w : Observer) (n : Notice) (id number : ℕ) (fresh : Bool) → find test ws ≡ Some w → IsNotification w id number fresh n → AreOf ws → P n.to
  found_is test ws w n id number fresh found is all = subst P (sym is.to) (found_all (λ (v : Observer). P v.from) test ws w found all)

  sent_are : (now id : ℕ) (ws us : List Observer) (n : Option Notice) → Sends now id ws n us → AreOf ws → AreSent n us
  sent_are now id ws us o (same w x n _ found plain had is after) all =
      record { to = found_is (is_due now) ws w n x.id w.sequence false found is all; are = subst AreOf (sym after) (first_are (is_due now) (resent now) (λ v. refl) ws all) }
  sent_are now id ws us o (newer w n _ found marked_one is after) all =
      record { to = found_is (is_due now) ws w n _ _ true found is all; are = subst AreOf (sym after) (first_are (is_due now) (renewed now id) (λ v. refl) ws all) }
  sent_are now id ws us o (first w n _ none found is after) all =
      record { to = found_is (is_sendable ws) ws w n _ _ true found is all; are = subst AreOf (sym after) (first_are (is_sendable ws) (notified now id) (λ v. refl) ws all) }
  sent_are now id ws us o (nothing _ none free after) all = record { to = tt; are = subst AreOf (sym after) all }

  next_are : (now : ℕ) (n : Option Notice) (s t : Server) → SendsNext now n s t → AreOf s.observers.list → AreSent n t.observers.list
  next_are now n s t sends all =
      let is : t.observers ≡ sends.observers = next_observers now n s t sends in
      let x = sent_are now s.next_id sends.notifies.left sends.observers.list n sends.notifies.sends (given_up_are now s.observers.list sends.notifies.left sends.notifies.gives_up all) in
      record { to = x.to; are = subst (λ (w : Watching). AreOf w.list) (sym is) x.are }

  record AreAllSent (ns : List Notice) (us : List Observer) : Type 0 where
    to : All (λ (n : Notice). P n.to) ns
    are : AreOf us

  each_are : (now : ℕ) (ns : List Notice) (s t : Server) → SendsEach now ns s t → AreOf s.observers.list → AreAllSent ns t.observers.list
  each_are now [] s t is all = record { to = All-nil (λ (n : Notice). P n.to); are = subst (λ (x : Server). AreOf x.observers.list) (sym is) all }
  each_are now (n ∷ ns) s t (m, one, more) all =
      let x = next_are now (Some n) s m one all in
      let rest = each_are now ns m t more x.are in
      record { to = All-cons (λ (k : Notice). P k.to) n ns x.to rest.to; are = rest.are }

  -- what a datagram from such an endpoint does
  heard_are : (from : Endpoint) (bytes : List ℕ) (now : ℕ) (deeds : List Deed) (s t : Server) → Hearing from bytes now deeds s t → P from → AreOf s.observers.list → AreOf t.observers.list
  heard_are from bytes now deeds s t (is_passed stays none) p all = subst (λ (x : Server). AreOf x.observers.list) (sym stays) all
  heard_are from bytes now deeds s t (is_heard h hears none) p all = told_are from s.observers t.observers (hears_told from bytes now h s t hears) all
  heard_are from bytes now deeds s t (is_answered ask r o target reply u hears a none) p all =
      subst (λ (w : Watching). AreOf w.list) (sym (replied_observers r.kind r.slot reply (with_bodies (bodies_after r.blocks r.from o u.bodies) (with_observers a.observers u)) t a.replies.after))
      (watched_are _ r.from r.token u.observers a.observe a.observers a.watches (subst P (sym (asked_from from bytes now ask r s u hears)) p)
      (told_are from s.observers u.observers (hears_told from bytes now (asked ask r) s u hears) all))

-- ---- what was seen

spoken_more : (to : Endpoint) (before more : List Sighting) → HasSpoken to before → HasSpoken to (before ++ more)
spoken_more to before more h = record { event = h.event; size = h.size; came = Contains-append_left before more _ h.came; is_its = h.is_its }

-- each datagram among these goes to an endpoint that spoke before
abbrev Go : List Sighting → List Sighting → Type 0
Go before a = (d : Endpoint × List ℕ) → Contains (datagrams_in a) d → HasSpoken d.0 before

-- each goes to one that spoke before it
abbrev AllGo : List Sighting → List Sighting → Type 0
AllGo before [] = Unit {0}
AllGo before (x ∷ later) = Go before (x ∷ []) × AllGo (before ++ x ∷ []) later

contains_same : (a b : List (Endpoint × List ℕ)) (d : Endpoint × List ℕ) → a ≡ b → Contains a d → Contains b d
contains_same a b d is there = subst (λ (l : List (Endpoint × List ℕ)). Contains l d) is there

all_go : (before a : List Sighting) → Go before a → AllGo before a
all_go before [] go = tt
all_go before (x ∷ a) go = (
  (λ d there. go d (contains_same _ _ d (sym (seen_both (x ∷ []) a)) (Contains-append_left (datagrams_in (x ∷ [])) (datagrams_in a) d there))),
  all_go (before ++ x ∷ []) a (λ d there.
      spoken_more d.0 before (x ∷ []) (go d (contains_same _ _ d (sym (seen_both (x ∷ []) a)) (Contains-append_right (datagrams_in (x ∷ [])) (datagrams_in a) d there)))),
)

all_go_both : (before a b : List Sighting) → AllGo before a → AllGo (before ++ a) b → AllGo before (a ++ b)
all_go_both before [] b one rest = subst (λ (l : List Sighting). AllGo l b) (append-nil before) rest
all_go_both before (x ∷ a) b one rest = (one.0, all_go_both (before ++ x ∷ []) a b one.1 (subst (λ (l : List Sighting). AllGo l b) (sym (append_assoc before (x ∷ []) a)) rest))

goes_at : (before pre later : List Sighting) (to : Endpoint) (bytes : List ℕ) → AllGo before (pre ++ at_network (did (act.Datagram to bytes)) ∷ later) → HasSpoken to (before ++ pre)
goes_at before [] later to bytes all = subst (HasSpoken to) (sym (append-nil before)) (all.0 (to, bytes) (0, omega arith, refl))
goes_at before (x ∷ pre) later to bytes all = subst (HasSpoken to) (append_assoc before (x ∷ []) pre) (goes_at (before ++ x ∷ []) pre later to bytes all.1)

-- ---- an event

record Spoke (seen : List Sighting) (s : State) : Type 0 where
  goes : AllGo [] seen
  are : AreOf (λ to. HasSpoken to seen) s.coap.observers.list

-- an event with its step, whose datagrams go to endpoints that spoke once it was heard
event_goes_by : (site : Site) (e : EventWithBytes) (seen a : List Sighting) (s t : State) → Spoke seen s → (w : EventAndStep site e s a t)
    → (AreOf (λ to. HasSpoken to (seen ++ w.first)) s.coap.observers.list → AreOf (λ to. HasSpoken to (seen ++ w.first)) w.other.mid.coap.observers.list)
    → (All (λ (n : Notice). HasSpoken n.to (seen ++ w.first)) (notifications_in w.other.mid w.other.second t w.other.other) → Go (seen ++ w.first) a) → Spoke (seen ++ a) t
event_goes_by site e seen a s t k w hears sends =
    let P : Endpoint → Type 0 = λ to. HasSpoken to (seen ++ w.first) in
    let before : AreOf P s.coap.observers.list = All-weaker (λ (v : Observer). HasSpoken v.from seen) (λ (v : Observer). P v.from) (λ v p. spoken_more v.from seen w.first p) s.coap.observers.list k.are in
    let ends = event_ends w.other.mid t w.other.second w.other.other in
    let each = each_are P w.other.mid.moment (notifications_in w.other.mid w.other.second t w.other.other) w.other.mid.coap ends.between ends.sends (hears before) in
    let last = next_are P w.other.mid.moment None ends.between t.coap ends.last each.are in
    let whole : seen ++ a ≡ (seen ++ w.first) ++ w.second = ap (λ (l : List Sighting). seen ++ l) w.whole ∙ sym (append_assoc seen w.first w.second) in
    let none : datagrams_in w.first ≡ [] = ap datagrams_in w.one.saw in
    let first : AllGo seen w.first = all_go seen w.first (λ d there. absurd (no_datagram d (contains_same (datagrams_in w.first) [] d none there))) in
    let second : AllGo (seen ++ w.first) w.second = all_go (seen ++ w.first) w.second (λ d there.
    sends each.to d (contains_same _ _ d (sym (ap datagrams_in w.whole ∙ seen_both w.first w.second)) (Contains-append_right (datagrams_in w.first) (datagrams_in w.second) d there))) in
    record {
      goes = subst (λ (l : List Sighting). AllGo [] l) (sym whole) (all_go_both [] (seen ++ w.first) w.second (all_go_both [] seen w.first k.goes first) second);
      are = All-weaker (λ (v : Observer). P v.from) (λ (v : Observer). HasSpoken v.from (seen ++ a))
          (λ v p. subst (HasSpoken v.from) (sym whole) (spoken_more v.from (seen ++ w.first) w.second p)) t.coap.observers.list last.are;
    }
  where
    no_datagram : (d : Endpoint × List ℕ) → Contains [] d → ⊥
    no_datagram d there = absurd (omega (arith, there.1))

notices_go : (P : Endpoint → Type 0) (thing : ThingState) (ns : List Notice) → All (λ (n : Notice). P n.to) ns → (d : Endpoint × List ℕ) → Contains (noticed thing ns) d → P d.0
notices_go P thing ns all d there =
    All-contains (λ (x : Endpoint × List ℕ). P x.0) (noticed thing ns) d (All-map (λ (x : Endpoint × List ℕ). P x.0) (λ (n : Notice). (n.to, notification_bytes n thing)) ns all) there

replies_go : (P : Endpoint → Type 0) (from : Endpoint) (said : List (List ℕ)) → P from → (d : Endpoint × List ℕ) → Contains (back_to from said) d → P d.0
replies_go P from said p d there = All-contains (λ (x : Endpoint × List ℕ). P x.0) (back_to from said) d (are_back said) there
  where
    are_back : (said : List (List ℕ)) → All (λ (x : Endpoint × List ℕ). P x.0) (back_to from said)
    are_back [] = All-nil (λ (x : Endpoint × List ℕ). P x.0)
    are_back (bytes ∷ said) = All-cons (λ (x : Endpoint × List ℕ). P x.0) (from, bytes) (back_to from said) p (are_back said)

abbrev moved : ℕ → State → State
moved now s = record s { moment = max s.moment now }

-- the observers after a course are of endpoints that spoke
course_are : (P : Endpoint → Type 0) (es : List Emission) (H : Server → Server → Type 0) (s t : State) → Course H es s t
    → ((c : Server) → H s.coap c → AreOf P c.observers.list) → AreOf P t.coap.observers.list
course_are P es H s t c hears =
    subst (λ (x : Server). AreOf P x.observers.list) (sym c.coap) (emitted_are P (targets_in es) c.after (hears c.after c.hearing))

datagram_goes : (site : Site) (now : ℕ) (from : Endpoint) (size : ℕ) (bytes : List ℕ) (seen a : List Sighting) (s t : State) → Spoke seen s
    → EventAndStep site (event_at now (what.Datagram from size) bytes) s a t → Spoke (seen ++ a) t
datagram_goes site now from size bytes seen a s t k w =
    let it : EventWithBytes = event_at now (what.Datagram from size) bytes in
    let m : State = moved now w.mid in
    let spoke : HasSpoken from (seen ++ w.first) = record {
      event = it;
      size = size;
      came = Contains-append_right seen w.first (at_network (heard it)) (subst (λ (l : List Sighting). Contains l (at_network (heard it))) (sym w.one.saw) (0, omega arith, refl));
      is_its = refl;
    } in
    event_goes_by site it seen a s t k w
    (λ all. course_are (λ to. HasSpoken to (seen ++ w.first)) _ _ m w.other.mid (follows_course site (what.Datagram from size) bytes m w.other.mid w.other.first w.other.one)
    (λ c hearing. heard_are (λ to. HasSpoken to (seen ++ w.first)) from bytes m.moment _ m.coap c hearing spoke
    (subst (λ (x : State). AreOf (λ to. HasSpoken to (seen ++ w.first)) x.coap.observers.list) (sym w.one.next) all)))
    (λ notices d there. either (seen ++ w.first) from (back_of site from bytes m w.other.first w.other.mid w.other.one) t.thing
    (notifications_in w.other.mid w.other.second t w.other.other) spoke notices d (contains_same _ _ d (hearing_sends site now from size bytes s t a w) there))
  where
    either : (before : List Sighting) (from : Endpoint) (back : List (List ℕ)) (thing : ThingState) (ns : List Notice) → HasSpoken from before → All (λ (n : Notice). HasSpoken n.to before) ns
        → (d : Endpoint × List ℕ) → Contains (back_to from back ++ noticed thing ns) d → HasSpoken d.0 before
    either before from back thing ns spoke notices d there = by (Contains-append_cases (back_to from back) (noticed thing ns) d there)
      where
        by : Contains (back_to from back) d ⊎ Contains (noticed thing ns) d → HasSpoken d.0 before
        by (inl one) = replies_go (λ to. HasSpoken to before) from back spoke d one
        by (inr other) = notices_go (λ to. HasSpoken to before) thing ns notices d other

other_goes : (site : Site) (now : ℕ) (v : What) (bytes : List ℕ) (seen a : List Sighting) (s t : State) → IsNoDatagram v → Spoke seen s → EventAndStep site (event_at now v bytes) s a t → Spoke (seen ++ a) t
other_goes site now v bytes seen a s t plain k w =
    let m : State = moved now w.mid in
    event_goes_by site (event_at now v bytes) seen a s t k w
    (λ all. course_are (λ to. HasSpoken to (seen ++ w.first)) (emitted_by site v bytes m w.other.first w.other.mid w.other.one) (λ (b c : Server). (c ≡ b) × (◌≡◌ {A = List Deed} [] [])) m w.other.mid
    (happened_course (emitted_by site v bytes m w.other.first w.other.mid w.other.one) m w.other.mid (other_happened site v bytes m w.other.mid w.other.first plain w.other.one))
    (λ c is. subst (λ (x : Server). AreOf (λ to. HasSpoken to (seen ++ w.first)) x.observers.list) (sym is.0)
    (subst (λ (x : State). AreOf (λ to. HasSpoken to (seen ++ w.first)) x.coap.observers.list) (sym w.one.next) all)))
    (λ notices d there. notices_go (λ to. HasSpoken to (seen ++ w.first)) t.thing (notifications_in w.other.mid w.other.second t w.other.other) notices d
    (contains_same _ _ d (doing_sends site now v bytes s t a plain w) there))

event_goes : (site : Site) (e : EventWithBytes) (seen a : List Sighting) (s t : State) → Spoke seen s → EventAndStep site e s a t → Spoke (seen ++ a) t
event_goes site e seen a s t k w = by e.event.what refl
  where
    at : (v : What) → e.event.what ≡ v → EventAndStep site (event_at e.event.moment v e.bytes) s a t
    at v is = subst (λ (x : What). EventAndStep site (event_at e.event.moment x e.bytes) s a t) is w

    by : (v : What) → e.event.what ≡ v → Spoke (seen ++ a) t
    by (what.Datagram from size) is = datagram_goes site e.event.moment from size e.bytes seen a s t k (at (what.Datagram from size) is)
    by (what.Opened c) is = other_goes site e.event.moment (what.Opened c) e.bytes seen a s t tt k (at (what.Opened c) is)
    by (what.Bytes c size) is = other_goes site e.event.moment (what.Bytes c size) e.bytes seen a s t tt k (at (what.Bytes c size) is)
    by (what.Ended c) is = other_goes site e.event.moment (what.Ended c) e.bytes seen a s t tt k (at (what.Ended c) is)
    by what.Tick is = other_goes site e.event.moment what.Tick e.bytes seen a s t tt k (at what.Tick is)
    by what.Stop is = other_goes site e.event.moment what.Stop e.bytes seen a s t tt k (at what.Stop is)

run_goes : (site : Site) (took : List EventWithBytes) (seen a : List Sighting) (s t : State) → Spoke seen s → Run site took s a t → Spoke (seen ++ a) t
run_goes site [] seen a s t k stays = subst (λ (l : List Sighting). Spoke l t) (sym (ap (λ (l : List Sighting). seen ++ l) stays.saw ∙ append-nil seen)) (subst (Spoke seen) (sym stays.next) k)
run_goes site (e ∷ took) seen a s t k w =
    subst (λ (l : List Sighting). Spoke l t) (sym (ap (λ (l : List Sighting). seen ++ l) w.whole ∙ sym (append_assoc seen w.first w.second)))
    (run_goes site took (seen ++ w.first) w.second w.mid t (event_goes site e seen w.first s w.mid k w.one) w.other)

pub datagrams_go_to_askers : DatagramsGoToAskers
datagrams_go_to_askers site exchanges epoch took seen s run before later to bytes is =
    let k = run_goes site took [] seen (start site exchanges epoch) s (record { goes = tt; are = All-nil (λ (w : Observer). HasSpoken w.from []) }) run in
    goes_at [] before later to bytes (subst (λ (l : List Sighting). AllGo [] l) is k.goes)
