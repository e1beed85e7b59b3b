-- The fate of a wait at the end of an event, and where bytes come on its own connection.
use Rattle.std.proofs.Common.{◌≡◌, ◌≢◌, ◌++◌, ◌==◌, ℕ, Bool, true, false, List, [], ◌∷◌, Option, Some, None, refl, sym, ap, ap₂, subst, ◌∙◌, append_assoc, arith}
use Rattle.std.proofs.lemmas.List.{append-nil}
use Rattle.std.proofs.lemmas.List.Quantifiers.{position-Some}
use Rattle.std.proofs.lemmas.Option.{same_Some}
use Rattle.servient_base.specs.Moves.{Then, Until, is_done, goes_on}
use Rattle.coap_bind.specs.Server.{SendsNext}
use Rattle.http_bind.specs.declared.owed.Owed.{Owed}
use Rattle.http_bind.specs.declared.waits.Wait.{Wait}
use Rattle.http_bind.specs.Streams.{Connection, Streams, Taken, connection_at, with_connection, without_wait, is_waiting, is_late, is_idle, rest_of, LetsTake, takes_front, is_interrupted, oldest_late, IsIdle, NoneIdle}
use Rattle.http_bind.proofs.WaitLists.{none_is_left}
use Rattle.servient_outside.specs.declared.net.Act.{Act}
use Rattle.servient_outside.specs.declared.net.Act.TheVariants as act
use Rattle.servient_trace.specs.Trace.{Sighting}
use Rattle.servient_core.specs.Machine.{Site, State, Move, Does, AnswersTaken, TakesEveryMessage, SendsNotification, NothingIsDue, SendsNotifications, AnswersLateWait, ClosesIdle, EndsEvent, notification_bytes}
use Rattle.progress_laws.specs.Waits.{acts_on, deliveries_of_messages}
use Rattle.progress_laws.proofs.WaitingStreams.{same_of, turned, isnt_both, false_unless, IsAmong, Oldest, oldest_is, none_oldest, none_here, among_others}
use Rattle.progress_laws.proofs.WaitMoves.{Base, base_notifications, base_late, base_lates, base_idle}
use Rattle.progress_laws.proofs.WaitFates.{acts_then, acts_seen, close_here, close_there, owing_is_awake, Leaves, leaves_then, leaves_same, leaves_coap, leaves_does, leaves_cut, Still, Cut, IsTold, still_after, cut_after, told_after, Told, told_of, told_leaves, told_here}

-- ---- moves that leave any connection alone

leaves_until : (w : Wait) (P : Move) (IsDone : State → Type 0) → ((s t : State) (a : List Sighting) → P s a t → Leaves w s t a) → (s t : State) (a : List Sighting) → Until P IsDone s a t → Leaves w s t a
leaves_until w P IsDone each s t a (is_done s' a' t' done stays) = leaves_same w s t s [] a refl stays refl
leaves_until w P IsDone each s t a (goes_on s' m t' a' first second one more whole) =
    leaves_then w s m t first second a whole (each s m first one) (leaves_until w P IsDone each m t second more)

notification_leaves : (w : Wait) (s t : State) (a : List Sighting) → SendsNotification s a t → Leaves w s t a
notification_leaves w s t a (n, move) =
    leaves_then w s move.mid t move.first move.second a move.whole (leaves_coap w (λ now. SendsNext now (Some n)) s move.mid move.first move.one)
    (leaves_does w (act.Datagram n.to (notification_bytes n s.thing) ∷ []) move.mid t move.second refl move.other)

notifications_leave : (w : Wait) (s t : State) (a : List Sighting) → SendsNotifications s a t → Leaves w s t a
notifications_leave w s t a move =
    leaves_then w s move.mid t move.first move.second a move.whole (leaves_until w SendsNotification NothingIsDue (λ x y b one. notification_leaves w x y b one) s move.mid move.first move.one)
    (leaves_coap w (λ now. SendsNext now None) move.mid t move.second move.other)

-- ---- connections that are idle

-- one that isn't idle stays
idle_leaves : (w : Wait) (now : ℕ) (s t : State) (a : List Sighting) → s.moment ≡ now → is_idle now (connection_at w.connection s.http) ≡ false → ClosesIdle s a t → Leaves w s t a
idle_leaves w now s t a moment awake (d, move) =
    leaves_then w s move.mid t move.first move.second a move.whole (leaves_cut w d None s move.mid move.one.0 move.first isnt move.one.1.1 move.one.2)
    (leaves_does w (act.Closed d ∷ []) move.mid t move.second (close_there w.connection d (turned d w.connection isnt)) move.other)
  where
    idle : is_idle now (connection_at d s.http) ≡ true
    idle = (position-Some (is_idle now) s.http.places d None (subst (λ (n : ℕ). IsIdle d n s.http) moment move.one.1.0)).1

    isnt : (d == w.connection) ≡ false
    isnt = false_unless (d == w.connection) (λ is.
        isnt_both (is_idle now (connection_at w.connection s.http)) (subst (λ (c : ℕ). is_idle now (connection_at c s.http) ≡ true) (same_of d w.connection is) idle) awake)

abbrev pub ClosesAll : Move
ClosesAll = Until ClosesIdle (λ state. NoneIdle state.moment state.http)

abbrev pub AnswersLate : Move
AnswersLate = Until AnswersLateWait (λ state. oldest_late state.moment state.http.waits ≡ None)

all_idle_leave : (from : List Wait) (now : ℕ) (w : Wait) (s t : State) (a : List Sighting) → Base from now s → is_idle now (connection_at w.connection s.http) ≡ false → ClosesAll s a t → Leaves w s t a
all_idle_leave from now w s t a base awake (is_done s' a' t' done stays) = leaves_same w s t s [] a refl stays refl
all_idle_leave from now w s t a base awake (goes_on s' m t' a' first second one more whole) =
    let leaves = idle_leaves w now s m first base.moment awake one in
    leaves_then w s m t first second a whole leaves
    (all_idle_leave from now w m t second (base_idle from now s m first base one) (ap (is_idle now) leaves.connection ∙ awake) more)

-- ---- a connection on which nobody waits any more

late_leaves : (w : Wait) (s t : State) (a : List Sighting) → is_waiting w.connection s.http.waits ≡ false → AnswersLateWait s a t → Leaves w s t a
late_leaves w s t a over (d, found, move) = told_leaves w d None s t a isnt r
  where
    r : Told d None s t a
    r = told_of d None s t a move

    isnt : (d == w.connection) ≡ false
    isnt = false_unless (d == w.connection) (λ is.
        isnt_both (is_waiting w.connection s.http.waits) (subst (λ (c : ℕ). is_waiting c s.http.waits ≡ true) (same_of d w.connection is) r.wakes.0) over)

lates_leave : (w : Wait) (s t : State) (a : List Sighting) → is_waiting w.connection s.http.waits ≡ false → AnswersLate s a t → Leaves w s t a
lates_leave w s t a over (is_done s' a' t' done stays) = leaves_same w s t s [] a refl stays refl
lates_leave w s t a over (goes_on s' m t' a' first second one more whole) =
    let leaves = late_leaves w s m first over one in leaves_then w s m t first second a whole leaves (lates_leave w m t second (leaves.none over) more)

-- the end of an event leaves it alone
pub cut_ends : (from : List Wait) (now : ℕ) (w : Wait) (acts : List Act) (seen a : List Sighting) (s t : State) → Base from now s → Cut w now acts seen s → EndsEvent s a t → Cut w now acts (seen ++ a) t
cut_ends from now w acts seen a s t base cut move =
    let sent = notifications_leave w s move.mid move.first move.one in
    let told = lates_leave w move.mid move.other.mid move.other.first (sent.none cut.over) move.other.one in
    let before = base_lates from now move.mid move.other.mid move.other.first (base_notifications from now s move.mid move.first base move.one) move.other.one in
    let closed = all_idle_leave from now w move.other.mid t move.other.second before (ap (is_idle now) (told.connection ∙ sent.connection) ∙ cut.awake) move.other.other in
    cut_after w now acts seen a s t
    (leaves_then w s move.mid t move.first move.second a move.whole sent
    (leaves_then w move.mid move.other.mid t move.other.first move.other.second move.second move.other.whole told closed)) cut

-- ---- one that still waits

-- it waits on, or it is late and was told of nothing
pub data Ends (w : Wait) (o : Owed) (now : ℕ) (seen : List Sighting) (u : State) : Type 0 where
  on_time : is_late now w ≡ false → Still w o seen u → Ends w o now seen u
  too_late : is_late now w ≡ true → IsTold w o now None seen u → Ends w o now seen u

-- while those that are late are told
data Telling (w : Wait) (o : Owed) (now : ℕ) (seen : List Sighting) (u : State) : Type 0 where
  waits_yet : Still w o seen u → Telling w o now seen u
  was_told : is_late now w ≡ true → IsTold w o now None seen u → Telling w o now seen u

telling_step : (from : List Wait) (now : ℕ) (w : Wait) (o : Owed) (seen a : List Sighting) (s t : State) → Base from now s → Telling w o now seen s → AnswersLateWait s a t → Telling w o now (seen ++ a) t
telling_step from now w o seen a s t base telling (d, found, move) = by (d == w.connection) refl telling
  where
    r : Told d None s t a
    r = told_of d None s t a move

    oldest : Oldest (is_late now) d s.http.waits
    oldest = oldest_is (is_late now) d s.http.waits (subst (λ (n : ℕ). oldest_late n s.http.waits ≡ Some d) base.moment found)

    by : (test : Bool) → (d == w.connection) ≡ test → Telling w o now seen s → Telling w o now (seen ++ a) t
    by false test (waits_yet still) = waits_yet (still_after w o seen a s t (told_leaves w d None s t a test r) still)
    by false test (was_told late told) = was_told late (told_after w o now None seen a s t (told_leaves w d None s t a test r) told)
    by true test (was_told late told) =
        absurd (isnt_both (is_waiting w.connection s.http.waits) (subst (λ (c : ℕ). is_waiting c s.http.waits ≡ true) (same_of d w.connection test) r.wakes.0) told.cut.over)
    by true test (waits_yet still) =
        let is_it : oldest.wait ≡ w = base.sound.apart oldest.wait w oldest.there still.there (oldest.connection ∙ same_of d w.connection test) in
        was_told (subst (λ (v : Wait). is_late now v ≡ true) is_it oldest.passes)
        (told_here w o now None seen a s t base.moment still (subst (λ (c : ℕ). Told c None s t a) (same_of d w.connection test) r))

telling_all : (from : List Wait) (now : ℕ) (w : Wait) (o : Owed) (seen a : List Sighting) (s t : State) → Base from now s → Telling w o now seen s → AnswersLate s a t → Ends w o now (seen ++ a) t
telling_all from now w o seen a s t base telling (is_done s' a' t' done stays) =
    subst (λ (l : List Sighting). Ends w o now l t) (sym (ap (λ (l : List Sighting). seen ++ l) stays.saw ∙ append-nil seen)) (subst (Ends w o now seen) (sym stays.next) (by telling))
  where
    by : Telling w o now seen s → Ends w o now seen s
    by (was_told late told) = too_late late told
    by (waits_yet still) = on_time (none_oldest (is_late now) w s.http.waits (subst (λ (n : ℕ). oldest_late n s.http.waits ≡ None) base.moment done) still.there) still
telling_all from now w o seen a s t base telling (goes_on s' m t' a' first second one more whole) =
    subst (λ (l : List Sighting). Ends w o now l t) (append_assoc seen first second ∙ ap (λ (l : List Sighting). seen ++ l) (sym whole))
    (telling_all from now w o (seen ++ first) second m t (base_late from now s m first base one) (telling_step from now w o seen first s m base telling one) more)

-- the end of an event
pub still_ends : (from : List Wait) (now : ℕ) (w : Wait) (o : Owed) (seen a : List Sighting) (s t : State) → Base from now s → Still w o seen s → EndsEvent s a t → Ends w o now (seen ++ a) t
still_ends from now w o seen a s t base still move =
    subst (λ (l : List Sighting). Ends w o now l t) (assoc ∙ ap (λ (l : List Sighting). seen ++ l) (sym (move.whole ∙ ap (λ (l : List Sighting). move.first ++ l) move.other.whole))) (by told)
  where
    sent : Leaves w s move.mid move.first
    sent = notifications_leave w s move.mid move.first move.one

    after : Base from now move.mid
    after = base_notifications from now s move.mid move.first base move.one

    told : Ends w o now ((seen ++ move.first) ++ move.other.first) move.other.mid
    told = telling_all from now w o (seen ++ move.first) move.other.first move.mid move.other.mid after (waits_yet (still_after w o seen move.first s move.mid sent still)) move.other.one

    before : Base from now move.other.mid
    before = base_lates from now move.mid move.other.mid move.other.first after move.other.one

    assoc : ((seen ++ move.first) ++ move.other.first) ++ move.other.second ≡ seen ++ (move.first ++ (move.other.first ++ move.other.second))
    assoc = append_assoc (seen ++ move.first) move.other.first move.other.second ∙ append_assoc seen move.first (move.other.first ++ move.other.second)

    closing : is_idle now (connection_at w.connection move.other.mid.http) ≡ false → Leaves w move.other.mid t move.other.second
    closing awake = all_idle_leave from now w move.other.mid t move.other.second before awake move.other.other

    by : Ends w o now ((seen ++ move.first) ++ move.other.first) move.other.mid → Ends w o now (((seen ++ move.first) ++ move.other.first) ++ move.other.second) t
    by (on_time early yet) =
        on_time early (still_after w o ((seen ++ move.first) ++ move.other.first) move.other.second move.other.mid t (closing (owing_is_awake w.connection o now move.other.mid.http yet.owes)) yet)
    by (too_late late was) =
        too_late late (told_after w o now None ((seen ++ move.first) ++ move.other.first) move.other.second move.other.mid t (closing was.cut.awake) was)

-- none is late after it
pub none_late : (from : List Wait) (now : ℕ) (s t : State) (a : List Sighting) (v : Wait) → Base from now s → (move : Then AnswersLate ClosesAll s a t) → IsAmong v t.http.waits → is_late now v ≡ false
none_late from now s t a v base move there =
    subst (λ (n : ℕ). is_late n v ≡ false) (base_lates from now s move.mid move.first base move.one).moment
    (none_oldest (is_late move.mid.moment) v move.mid.http.waits (ended s move.mid move.first move.one) (fewer move.mid t move.second move.other there))
  where
    ended : (x y : State) (b : List Sighting) → AnswersLate x b y → oldest_late y.moment y.http.waits ≡ None
    ended x y b (is_done s' a' t' done stays) = subst (λ (z : State). oldest_late z.moment z.http.waits ≡ None) (sym stays.next) done
    ended x y b (goes_on s' m t' a' first second one more whole) = ended m y second more

    one_fewer : (x y : State) (b : List Sighting) → ClosesIdle x b y → IsAmong v y.http.waits → IsAmong v x.http.waits
    one_fewer x y b (d, close) is =
        (among_others d v x.http.waits (subst (λ (h : Streams). IsAmong v h.waits) (ap (λ (z : State). z.http) (close.other.next ∙ close.one.2.next) ∙ close.one.1.1) is)).0

    fewer : (x y : State) (b : List Sighting) → ClosesAll x b y → IsAmong v y.http.waits → IsAmong v x.http.waits
    fewer x y b (is_done s' a' t' done stays) is = subst (λ (z : State). IsAmong v z.http.waits) stays.next is
    fewer x y b (goes_on s' m t' a' first second one more whole) is = one_fewer x m first one (fewer m y second more is)

-- ---- bytes on its own connection

-- nothing is taken from a connection that isn't open
shut_stays : (site : Site) (c : ℕ) (u t : State) (a : List Sighting) → connection_at c u.http ≡ None → TakesEveryMessage site c u a t → (t ≡ u) × (a ≡ [])
shut_stays site c u t a none (is_done s' a' t' done stays) = (stays.next, stays.saw)
shut_stays site c u t a none (goes_on s' m t' a' first second one more whole) = absurd (let e : None ≡ Some one.1.one.1.0 = sym none ∙ one.1.one.1.2 in cc)

-- Its fate: nothing is taken, since no byte is behind its request, or it is interrupted.
pub data Own (site : Site) (w : Wait) (o : Owed) (now : ℕ) (seen : List Sighting) (s t : State) (a : List Sighting) (move : TakesEveryMessage site w.connection s a t) : Type 0 where
  nothing_taken : Still w o (seen ++ a) t → deliveries_of_messages site w.connection s t a move ≡ [] → Own site w o now seen s t a move
  interrupted : (x : Connection) → connection_at w.connection s.http ≡ Some x → rest_of x ≢ [] → Cut w now (act.Closed w.connection ∷ []) (seen ++ a) t → Own site w o now seen s t a move

-- it is closed
closed_cut : (site : Site) (w : Wait) (o : Owed) (now : ℕ) (seen a b : List Sighting) (s m t : State) (h : Streams) (whole : List Sighting) → Still w o seen s → h ≡ with_connection w.connection None (without_wait w.connection s.http)
    → m ≡ record s { http = h } → a ≡ acts_seen (act.Closed w.connection ∷ []) → TakesEveryMessage site w.connection m b t → whole ≡ a ++ b → Cut w now (act.Closed w.connection ∷ []) (seen ++ whole) t
closed_cut site w o now seen a b s m t h whole still is next saw more whole_is = record {
  over = ap (λ (k : Streams). is_waiting w.connection k.waits) http ∙ none_is_left w.connection s.http.waits;
  awake = ap (is_idle now) (ap (connection_at w.connection) http ∙ none_here w.connection (without_wait w.connection s.http));
  acts_are = acts_then w.connection seen whole ∙ ap₂ (λ (x y : List Act). x ++ y) still.acts
      (ap (acts_on w.connection) (whole_is ∙ ap₂ (λ (x y : List Sighting). x ++ y) saw stays.1) ∙ close_here w.connection (self w.connection));
}
  where
    mid : m.http ≡ with_connection w.connection None (without_wait w.connection s.http)
    mid = ap (λ (x : State). x.http) next ∙ is

    stays : (t ≡ m) × (b ≡ [])
    stays = shut_stays site w.connection m t b (ap (connection_at w.connection) mid ∙ none_here w.connection (without_wait w.connection s.http)) more

    http : t.http ≡ with_connection w.connection None (without_wait w.connection s.http)
    http = ap (λ (x : State). x.http) stays.0 ∙ mid

    self : (n : ℕ) → (n == n) ≡ true
    self n = by (n == n) refl
      where
        by : (test : Bool) → (n == n) ≡ test → test ≡ true
        by true is = refl
        by false is = absurd (isnt_both (n == n) (let e : (n == n) ≡ true = grind arith in e) is)

pub own_messages : (site : Site) (w : Wait) (o : Owed) (now : ℕ) (seen a : List Sighting) (s t : State) → Still w o seen s → (move : TakesEveryMessage site w.connection s a t) → Own site w o now seen s t a move
own_messages site w o now seen a s t still (is_done s' a' t' done stays) =
    nothing_taken (subst (λ (l : List Sighting). Still w o l t) (sym (ap (λ (l : List Sighting). seen ++ l) stays.saw ∙ append-nil seen)) (subst (Still w o seen) (sym stays.next) still)) refl
own_messages site w o now seen a s t still (goes_on s' m t' a' first second (taken, one) more whole) = by one.one.1.3
  where
    x : Connection
    x = one.one.1.0

    same : still.owes.connection ≡ one.one.1.0
    same = same_Some still.owes.connection one.one.1.0 (sym still.owes.is ∙ one.one.1.2)

    owed : one.one.1.0.owed ≡ Some o
    owed = ap (λ (y : Connection). y.owed) (sym same) ∙ still.owes.owed

    by : LetsTake taken one.one.1.0 one.one.1.1 → Own site w o now seen s t a (goes_on s m t a first second (taken, one) more whole)
    by (takes_front f none front takes is) = absurd (let e : Some o ≡ None = sym owed ∙ none in cc)
    by (is_interrupted p is behind taken_is gone) =
        let closes : Does (act.Closed w.connection ∷ []) one.mid one.second m = subst (λ (k : Taken). AnswersTaken site w.connection k one.mid one.second m) taken_is one.other in
        interrupted one.one.1.0 one.one.1.2 behind
        (closed_cut site w o now seen first second s m t one.one.0 a still (one.one.1.4 ∙ ap (λ (y : Option Connection). with_connection w.connection y (without_wait w.connection s.http)) gone)
        (closes.next ∙ one.one.2.next) (one.whole ∙ ap₂ (λ (l k : List Sighting). l ++ k) one.one.2.saw closes.saw) more whole)
