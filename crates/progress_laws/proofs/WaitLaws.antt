-- A wait ends.
use Rattle.std.proofs.Common.{◌≡◌, ◌≢◌, ◌<◌, ◌≤◌, ◌+◌, ◌-◌, ◌⊎◌, ◌++◌, ◌==◌, ℕ, max, Bool, true, false, List, [], ◌∷◌, Option, Some, None, option_map, nat_le, Contains, refl, sym, ap, subst, ◌∙◌, append_assoc, arith, inl, inr}
use Rattle.std.proofs.lemmas.Bool.Decides.{nat_tests}
use Rattle.std.proofs.lemmas.List.{append-nil}
use Rattle.std.proofs.lemmas.Option.{same_Some}
use Rattle.servient_base.specs.Moves.{Becomes}
use Rattle.thing_site.specs.Site.{events_of}
use Rattle.http_bind.specs.declared.owed.Owed.{Owed}
use Rattle.http_bind.specs.declared.waits.Wait.{Wait}
use Rattle.http_bind.specs.Streams.{Connection, Streams, connection_at, with_connection, without_wait, is_waiting, is_late, is_idle, opened_at, Lengthened, lengthened, rest_of}
use Rattle.http_bind.proofs.WaitLists.{none_is_left}
use Rattle.servient_outside.specs.declared.net.What.{What}
use Rattle.servient_outside.specs.declared.net.What.TheVariants as what
use Rattle.servient_outside.specs.declared.net.EventWithBytes.{EventWithBytes}
use Rattle.servient_outside.specs.declared.net.Act.{Act}
use Rattle.servient_outside.specs.declared.net.Act.TheVariants as act
use Rattle.servient_outside.specs.Network.{heard}
use Rattle.servient_trace.specs.Trace.{Sighting, at_network}
use Rattle.servient_core.specs.Machine.{Site, State, start, HearsPiece, Follows, Step, EventAndStep, Run}
use Rattle.progress_laws.specs.Waits.{Delivery, first_of, acts_on, deliveries_of_messages, deliveries_of_event, deliveries_at, IsToldOf, IsInterrupted, Fate, is_opened, has_ended, is_cut_off, is_told, is_too_late, waits_on, WaitsEnd}
use Rattle.progress_laws.proofs.WaitingStreams.{same_of, IsAmong, among_of, contains_of, Owes, IsSound, here_is, there_is, lengthened_here}
use Rattle.progress_laws.proofs.WaitMoves.{Base, base_http, base_first, base_follows, base_notifications, base_ends, lengthened_changes, moved, event_base, reached_sound, none_sound}
use Rattle.progress_laws.proofs.WaitFates.{opened_is_awake, Leaves, leaves_cut, Still, Cut, IsTold, still_after, Fares, stays, is_told as was_told}
use Rattle.progress_laws.proofs.WaitDeliveries.{Far, messages_far, datagram_far, polls_far}
use Rattle.progress_laws.proofs.WaitEnds.{cut_ends, Ends, on_time, too_late, still_ends, none_late, Own, nothing_taken, interrupted, own_messages}

-- ---- what follows from an event

-- The fate of a wait by the moves that follow from an event, before its end.
data Followed (w : Wait) (it : EventWithBytes) (o : Owed) (now : ℕ) (ds : List Delivery) (s : State) (seen : List Sighting) (t : State) : Type 0 where
  by_opening : it.event.what ≡ what.Opened w.connection → Cut w now [] seen t → Followed w it o now ds s seen t
  by_ending : it.event.what ≡ what.Ended w.connection → Cut w now [] seen t → Followed w it o now ds s seen t
  by_interruption : IsInterrupted w it s → Cut w now (act.Closed w.connection ∷ []) seen t → Followed w it o now ds s seen t
  so_far : Fares w o now ds ds seen t → Followed w it o now ds s seen t

-- its connection is opened anew, or has ended
cut_here : (w : Wait) (o : Owed) (now : ℕ) (seen a : List Sighting) (s t : State) (y : Option Connection) (h : Streams) → Still w o seen s → h ≡ with_connection w.connection y (without_wait w.connection s.http)
    → is_idle now y ≡ false → Becomes (record s { http = h }) [] a t → Cut w now [] (seen ++ a) t
cut_here w o now seen a s t y h still is awake p =
    let http : t.http ≡ with_connection w.connection y (without_wait w.connection s.http) = ap (λ (x : State). x.http) p.next ∙ is in record {
      over = ap (λ (k : Streams). is_waiting w.connection k.waits) http ∙ none_is_left w.connection s.http.waits;
      awake = ap (is_idle now) (ap (connection_at w.connection) http ∙ here_is w.connection still.owes.connection y (without_wait w.connection s.http) still.owes.is) ∙ awake;
      acts_are = ap (acts_on w.connection) (ap (λ (l : List Sighting). seen ++ l) p.saw ∙ append-nil seen) ∙ still.acts;
    }

-- bytes come on a connection
lengthened_leaves : (w : Wait) (d now : ℕ) (piece : List ℕ) (s t : State) (h : Streams) (a : List Sighting) → (d == w.connection) ≡ false → Lengthened d piece now s.http h → Becomes (record s { http = h }) [] a t
    → Leaves w s t a
lengthened_leaves w d now piece s t h a isnt is p =
    let same : t.http ≡ with_connection d (option_map (lengthened piece now) (connection_at d s.http)) s.http = ap (λ (x : State). x.http) p.next ∙ is in record {
      connection = ap (connection_at w.connection) same ∙ there_is w.connection d (option_map (lengthened piece now) (connection_at d s.http)) s.http isnt;
      still = λ there. subst (λ (k : Streams). IsAmong w k.waits) (sym same) there;
      none = λ none. ap (λ (k : Streams). is_waiting w.connection k.waits) same ∙ none;
      acts = ap (acts_on w.connection) p.saw;
    }

lengthened_still : (w : Wait) (o : Owed) (now : ℕ) (piece : List ℕ) (seen : List Sighting) (s t : State) (h : Streams) (a : List Sighting) → Still w o seen s → Lengthened w.connection piece now s.http h
    → Becomes (record s { http = h }) [] a t → Still w o (seen ++ a) t
lengthened_still w o now piece seen s t h a still is p =
    let same : t.http ≡ with_connection w.connection (option_map (lengthened piece now) (connection_at w.connection s.http)) s.http = ap (λ (x : State). x.http) p.next ∙ is in record {
      there = subst (λ (k : Streams). IsAmong w k.waits) (sym same) still.there;
      owes = subst (λ (k : Streams). Owes w.connection o k) (sym same) (lengthened_here w.connection o piece now s.http still.owes);
      acts = ap (acts_on w.connection) (ap (λ (l : List Sighting). seen ++ l) p.saw ∙ append-nil seen) ∙ still.acts;
    }

-- on its own
own_follows : (site : Site) (w : Wait) (it : EventWithBytes) (o : Owed) (seen a : List Sighting) (s t : State) (size : ℕ) → Still w o seen (moved s it) → (move : HearsPiece site w.connection it.bytes (moved s it) a t)
    → it.event.what ≡ what.Bytes w.connection size
    → Followed w it o (moved s it).moment (deliveries_of_messages site w.connection move.mid t move.second move.other) s (seen ++ a) t
own_follows site w it o seen a s t size still move event =
    subst (λ (l : List Sighting). Followed w it o now (deliveries_of_messages site w.connection move.mid t move.second move.other) s l t)
    (append_assoc seen move.first move.second ∙ ap (λ (l : List Sighting). seen ++ l) (sym move.whole))
    (by (own_messages site w o now (seen ++ move.first) move.second move.mid t longer move.other))
  where
    now : ℕ
    now = (moved s it).moment

    longer : Still w o (seen ++ move.first) move.mid
    longer = lengthened_still w o (moved s it).moment it.bytes seen (moved s it) move.mid move.one.0 move.first still move.one.1 move.one.2

    http : move.mid.http ≡ with_connection w.connection (option_map (lengthened it.bytes (moved s it).moment) (connection_at w.connection s.http)) s.http
    http = ap (λ (x : State). x.http) move.one.2.next ∙ move.one.1

    x : Connection
    x = lengthened it.bytes (moved s it).moment still.owes.connection

    there : connection_at w.connection move.mid.http ≡ Some (lengthened it.bytes (moved s it).moment still.owes.connection)
    there = ap (connection_at w.connection) http
        ∙ here_is w.connection still.owes.connection (option_map (lengthened it.bytes (moved s it).moment) (connection_at w.connection s.http)) s.http still.owes.is
        ∙ ap (λ (y : Option Connection). option_map (lengthened it.bytes (moved s it).moment) y) still.owes.is

    by : Own site w o (moved s it).moment (seen ++ move.first) move.mid t move.second move.other
        → Followed w it o (moved s it).moment (deliveries_of_messages site w.connection move.mid t move.second move.other) s ((seen ++ move.first) ++ move.second) t
    by (nothing_taken yet none) = so_far (stays (ap (first_of w.target) none) yet)
    by (interrupted y is behind cut) =
        by_interruption (record {
          size = size;
          connection = still.owes.connection;
          event = event;
          is = still.owes.is;
          behind = subst (λ (z : Connection). rest_of z ≢ []) (same_Some y (lengthened it.bytes (moved s it).moment still.owes.connection) (sym is ∙ there)) behind;
        }) cut

-- any event
follows_fate : (site : Site) (w : Wait) (it : EventWithBytes) (o : Owed) (k : What) (seen a : List Sighting) (s t : State) → it.event.what ≡ k → Base s.http.waits (moved s it).moment (moved s it)
    → Still w o seen (moved s it) → (move : Follows site k it.bytes (moved s it) a t)
    → Followed w it o (moved s it).moment (deliveries_of_event site k it.bytes (moved s it) t a move) s (seen ++ a) t
follows_fate site w it o (what.Opened d) seen a s t event base still move = by (d == w.connection) refl
  where
    by : (test : Bool) → (d == w.connection) ≡ test → Followed w it o (moved s it).moment [] s (seen ++ a) t
    by false test = so_far (stays refl (still_after w o seen a (moved s it) t (leaves_cut w d (Some (opened_at (moved s it).moment)) (moved s it) t move.0 a test move.1 move.2) still))
    by true test =
        let same = same_of d w.connection test in
        by_opening (event ∙ ap what.Opened same)
        (cut_here w o (moved s it).moment seen a (moved s it) t (Some (opened_at (moved s it).moment)) move.0 still
        (subst (λ (c : ℕ). move.0 ≡ with_connection c (Some (opened_at (moved s it).moment)) (without_wait c s.http)) same move.1)
        (opened_is_awake (moved s it).moment (opened_at (moved s it).moment) refl refl) move.2)
follows_fate site w it o (what.Ended d) seen a s t event base still move = by (d == w.connection) refl
  where
    by : (test : Bool) → (d == w.connection) ≡ test → Followed w it o (moved s it).moment [] s (seen ++ a) t
    by false test = so_far (stays refl (still_after w o seen a (moved s it) t (leaves_cut w d None (moved s it) t move.0 a test move.1 move.2) still))
    by true test =
        let same = same_of d w.connection test in
        by_ending (event ∙ ap what.Ended same)
        (cut_here w o (moved s it).moment seen a (moved s it) t None move.0 still (subst (λ (c : ℕ). move.0 ≡ with_connection c None (without_wait c s.http)) same move.1) refl move.2)
follows_fate site w it o (what.Bytes d size) seen a s t event base still move = by (d == w.connection) refl
  where
    by : (test : Bool) → (d == w.connection) ≡ test → Followed w it o (moved s it).moment (deliveries_of_messages site d move.mid t move.second move.other) s (seen ++ a) t
    by true test =
        subst (λ (c : ℕ). (m : HearsPiece site c it.bytes (moved s it) a t) → it.event.what ≡ what.Bytes c size
        → Followed w it o (moved s it).moment (deliveries_of_messages site c m.mid t m.second m.other) s (seen ++ a) t) (sym (same_of d w.connection test))
        (own_follows site w it o seen a s t size still) move event
    by false test =
        let longer = lengthened_leaves w d (moved s it).moment it.bytes (moved s it) move.mid move.one.0 move.first test move.one.1 move.one.2 in
        let far : Far s.http.waits (moved s it).moment w o [] (seen ++ move.first) move.mid = record {
          base = base_http s.http.waits (moved s it).moment (Lengthened d it.bytes) (λ h k is. lengthened_changes (moved s it).moment d it.bytes h k is) (moved s it) move.mid move.first base move.one;
          fares = stays refl (still_after w o seen move.first (moved s it) move.mid longer still);
        } in
        so_far (subst (λ (l : List Sighting). Fares w o (moved s it).moment (deliveries_of_messages site d move.mid t move.second move.other) (deliveries_of_messages site d move.mid t move.second move.other) l t)
        (append_assoc seen move.first move.second ∙ ap (λ (l : List Sighting). seen ++ l) (sym move.whole))
        (messages_far s.http.waits (moved s it).moment w o site d [] (seen ++ move.first) move.second move.mid t test far move.other).fares)
follows_fate site w it o (what.Datagram to size) seen a s t event base still move =
    so_far (datagram_far s.http.waits (moved s it).moment w o site to it.bytes [] seen a (moved s it) t (record { base = base; fares = stays refl still }) move).fares
follows_fate site w it o what.Tick seen a s t event base still move =
    so_far (polls_far s.http.waits (moved s it).moment w o (events_of site.things) [] seen a (moved s it) t (record { base = base; fares = stays refl still }) move).fares
follows_fate site w it o what.Stop seen a s t event base still move =
    so_far (stays refl (subst (λ (l : List Sighting). Still w o l t) (sym (ap (λ (l : List Sighting). seen ++ l) move.saw ∙ append-nil seen)) (subst (Still w o seen) (sym move.next) still)))

-- ---- an event with its end

-- all that was done to a connection that was told
told_of_all : (w : Wait) (o : Owed) (now : ℕ) (text : Option (List ℕ)) (s t : State) (seen : List Sighting) → Owes w.connection o s.http → IsTold w o now text seen t → IsToldOf text w s seen
told_of_all w o now text s t seen owes told = record {
  connection = owes.connection;
  owed = o;
  bytes = told.bytes;
  is = owes.is;
  owes = owes.owed;
  replies = told.replies;
  acts = told.cut.acts_are;
}

step_fate : (site : Site) (w : Wait) (it : EventWithBytes) (o : Owed) (seen a : List Sighting) (s t : State) → IsSound s.http → IsAmong w s.http.waits → Owes w.connection o s.http → acts_on w.connection seen ≡ []
    → (step : Step site it s a t)
    → Fate w it (deliveries_of_event site it.event.what it.bytes (moved s it) step.mid step.first step.one) s (seen ++ a) t
step_fate site w it o seen a s t sound there owes none step =
    subst (λ (l : List Sighting). Fate w it ds s l t) (append_assoc seen step.first step.second ∙ ap (λ (l : List Sighting). seen ++ l) (sym step.whole))
    (by (follows_fate site w it o it.event.what seen step.first s step.mid refl before still step.one))
  where
    ds : List Delivery
    ds = deliveries_of_event site it.event.what it.bytes (moved s it) step.mid step.first step.one

    before : Base s.http.waits (moved s it).moment (moved s it)
    before = base_first s it sound

    after : Base s.http.waits (moved s it).moment step.mid
    after = base_follows s.http.waits (moved s it).moment site it.event.what it.bytes (moved s it) step.mid step.first before step.one

    ended : Base s.http.waits (moved s it).moment t
    ended = base_ends s.http.waits (moved s it).moment step.mid t step.second after step.other

    still : Still w o seen (moved s it)
    still = record { there = there; owes = record { connection = owes.connection; is = owes.is; owed = owes.owed }; acts = none }

    end_cut : (acts : List Act) → Cut w (moved s it).moment acts (seen ++ step.first) step.mid → Cut w (moved s it).moment acts ((seen ++ step.first) ++ step.second) t
    end_cut acts cut = cut_ends s.http.waits (moved s it).moment w acts (seen ++ step.first) step.second step.mid t after cut step.other

    waiting : first_of w.target (deliveries_of_event site it.event.what it.bytes (moved s it) step.mid step.first step.one) ≡ None → Ends w o (moved s it).moment ((seen ++ step.first) ++ step.second) t
        → Fate w it (deliveries_of_event site it.event.what it.bytes (moved s it) step.mid step.first step.one) s ((seen ++ step.first) ++ step.second) t
    waiting first (on_time early yet) = waits_on first (subst (λ (n : ℕ). is_late n w ≡ false) (sym ended.moment) early) yet.acts (contains_of w t.http.waits yet.there)
    waiting first (too_late late told) =
        is_too_late first (subst (λ (n : ℕ). is_late n w ≡ true) (sym ended.moment) late) (told_of_all w o (moved s it).moment None s t ((seen ++ step.first) ++ step.second) owes told) told.cut.over

    by : Followed w it o (moved s it).moment (deliveries_of_event site it.event.what it.bytes (moved s it) step.mid step.first step.one) s (seen ++ step.first) step.mid
        → Fate w it (deliveries_of_event site it.event.what it.bytes (moved s it) step.mid step.first step.one) s ((seen ++ step.first) ++ step.second) t
    by (by_opening event cut) = let end = end_cut [] cut in is_opened event end.acts_are end.over
    by (by_ending event cut) = let end = end_cut [] cut in has_ended event end.acts_are end.over
    by (by_interruption is cut) = let end = end_cut (act.Closed w.connection ∷ []) cut in is_cut_off is end.acts_are end.over
    by (so_far (was_told d first told)) =
        let end = end_cut _ told.cut in
        is_told d first (told_of_all w o (moved s it).moment d.text s t ((seen ++ step.first) ++ step.second) owes (record { bytes = told.bytes; replies = told.replies; cut = end })) end.over
    by (so_far (stays first yet)) = waiting first (still_ends s.http.waits (moved s it).moment w o (seen ++ step.first) step.second step.mid t after yet step.other)

event_fate : (site : Site) (w : Wait) (it : EventWithBytes) (s t : State) (seen : List Sighting) → IsSound s.http → Contains s.http.waits w → (step : EventAndStep site it s seen t) → Fate w it (deliveries_at site it s t seen step) s seen t
event_fate site w it s t seen sound is step =
    subst (λ (x : State). Fate w it (deliveries_at site it s t seen step) x seen t) step.one.next
    (subst (λ (l : List Sighting). Fate w it (deliveries_at site it s t seen step) step.mid l t) (ap (λ (l : List Sighting). l ++ step.second) (sym step.one.saw) ∙ sym step.whole)
    (step_fate site w it owed.0 (at_network (heard it) ∷ []) step.second step.mid t safe among owed.1 refl step.other))
  where
    safe : IsSound step.mid.http
    safe = subst (λ (x : State). IsSound x.http) (sym step.one.next) sound

    among : IsAmong w step.mid.http.waits
    among = subst (λ (x : State). IsAmong w x.http.waits) (sym step.one.next) (among_of w s.http.waits is)

    owed : (o : Owed) × Owes w.connection o step.mid.http
    owed = safe.owed w among

-- ---- none is late between events

event_early : (site : Site) (it : EventWithBytes) (s t : State) (seen : List Sighting) → IsSound s.http → EventAndStep site it s seen t → (v : Wait) → IsAmong v t.http.waits → is_late t.moment v ≡ false
event_early site it s t seen sound w v there =
    subst (λ (n : ℕ). is_late n v ≡ false) (sym (base_ends s.http.waits now step.mid t step.second after step.other).moment)
    (none_late s.http.waits now step.other.mid t step.other.second v (base_notifications s.http.waits now step.mid step.other.mid step.other.first after step.other.one) step.other.other there)
  where
    now : ℕ
    now = (moved s it).moment

    step : Step site it s w.second t
    step = subst (λ (x : State). Step site it x w.second t) w.one.next w.other

    after : Base s.http.waits (moved s it).moment step.mid
    after = base_follows s.http.waits (moved s it).moment site it.event.what it.bytes (moved s it) step.mid step.first (base_first s it sound) step.one

run_early : (site : Site) (took : List EventWithBytes) (s t : State) (a : List Sighting) → IsSound s.http → ((v : Wait) → IsAmong v s.http.waits → is_late s.moment v ≡ false) → Run site took s a t
    → (v : Wait) → IsAmong v t.http.waits → is_late t.moment v ≡ false
run_early site [] s t a sound early same v there = subst (λ (x : State). is_late x.moment v ≡ false) (sym same.next) (early v (subst (λ (x : State). IsAmong v x.http.waits) same.next there))
run_early site (it ∷ took) s t a sound early w v there =
    run_early site took w.mid t w.second (event_base site it s w.mid w.first sound w.one).sound (event_early site it s w.mid w.first sound w.one) w.other v there

-- ---- the law

in_time : (now since : ℕ) → nat_le 60000 (now - since) ≡ false → now - since < 60000
in_time now since early = grind (arith, nat_tests)

in_short : (before now since later : ℕ) → now - since < 60000 → before ≤ now + 1000 → later ≡ max now before → later - since < 61000
in_short before now since later early few is = omega (arith, early, few, is)

pub waits_end : WaitsEnd
waits_end site exchanges epoch took before seen s t it run step = record {
  moment = base.moment;
  on_time = λ w there. in_time t.moment w.since (event_early site it s t seen sound step w (among_of w t.http.waits there));
  new = λ w there isnt. by w isnt (base.new w (among_of w t.http.waits there));
  fates = λ w there. event_fate site w it s t seen sound there step;
  short = λ few w there.
      in_short it.event.moment s.moment w.since t.moment (in_time s.moment w.since (run_early site took (start site exchanges epoch) s before none_sound (λ v none. absurd none) run w (among_of w s.http.waits there))) few base.moment;
}
  where
    sound : IsSound s.http
    sound = reached_sound site exchanges epoch took s before run

    base : Base s.http.waits (max s.moment it.event.moment) t
    base = event_base site it s t seen (reached_sound site exchanges epoch took s before run) step

    by : (w : Wait) → ¬ (Contains s.http.waits w) → IsAmong w s.http.waits ⊎ (w.since ≡ max s.moment it.event.moment) → w.since ≡ t.moment
    by w isnt (inl among) = absurd (isnt (contains_of w s.http.waits among))
    by w isnt (inr is) = is ∙ sym (base_moment w)
      where
        base_moment : (v : Wait) → t.moment ≡ max s.moment it.event.moment
        base_moment v = (event_base site it s t seen (reached_sound site exchanges epoch took s before run) step).moment
