-- The fate of a wait while emissions are delivered, and while messages are taken.
use Rattle.std.proofs.Common.{◌≡◌, ◌++◌, ◌==◌, ℕ, true, false, List, [], ◌∷◌, Option, Some, None, refl, sym, ap, subst, ◌∙◌, append_assoc, inl, inr}
use Rattle.std.proofs.lemmas.List.{append-nil}
use Rattle.servient_base.specs.Moves.{Becomes, Until, Each, is_done, goes_on}
use Rattle.coap_msg.specs.declared.endpoint.Endpoint.{Endpoint}
use Rattle.coap_bind.specs.declared.pending.PendingReply.{PendingReply}
use Rattle.coap_bind.specs.Server.{Heard, ignored, answered_at_once, asked as is_asked, Hears, Answers, with_emitted}
use Rattle.coap_opts.specs.Reading.{AskSeen}
use Rattle.thing_ops.specs.declared.outcome.Outcome.{Outcome}
use Rattle.thing_ops.specs.Requests.{RequestSeen}
use Rattle.thing_site.specs.Site.{Placed}
use Rattle.thing_state.specs.State.{State as ThingState, Emission, last_of}
use Rattle.thing_core.specs.Thing.{Done, Acts, PollsEvent}
use Rattle.http_bind.specs.declared.owed.Owed.{Owed}
use Rattle.http_bind.specs.declared.waits.Wait.{Wait}
use Rattle.http_bind.specs.Streams.{HttpReply, Streams, Taken, asks, wants_continue, is_faulty, interrupts, connection_at, other_waits, is_waiting, Answers as AnswersRequest, lets_wait, sends_reply, after_reply, Takes, oldest_for}
use Rattle.servient_outside.specs.declared.net.Act.TheVariants as act
use Rattle.servient_trace.specs.Trace.{Sighting}
use Rattle.servient_core.specs.Machine.{Site, State, AnswersWait, Delivers, DeliversEach, PerformsByHttp, AnswersAsk, AnswersDatagram, HearsDatagram, SendsIfAny, AnswersMessage, AnswersTaken, TakesNextMessage, TakesEveryMessage, PollsAndDelivers, acts_of_reply, observed_target}
use Rattle.progress_laws.specs.Waits.{Delivery, delivery_of, deliveries_of, acts_on, deliveries_of_taken, deliveries_of_messages, deliveries_of_answer, deliveries_of_datagram, deliveries_of_polls}
use Rattle.progress_laws.proofs.WaitingStreams.{turned, IsAmong, others_among, more_among, none_oldest, still_none, none_with}
use Rattle.progress_laws.proofs.WaitMoves.{Base, base_coap, base_performs, base_message, base_next, base_thing, base_ask, base_http, takes_changes}
use Rattle.progress_laws.proofs.WaitFates.{first_more, none_last, Leaves, leaves_then, leaves_same, leaves_coap, leaves_thing, leaves_does, leaves_cut, reply_there, close_there, Fares, stays, is_told, fares_after, fares_here, Amid, amid_step}

-- ---- one target is delivered

amid_all : (from : List Wait) (now : ℕ) (w : Wait) (o : Owed) (thing : ThingState) (target : ℕ) (ds : List Delivery) (seen a : List Sighting) (s t : State)
    → Amid from now w o thing ds (ds ++ record { target = target; text = last_of target thing.last } ∷ []) seen s
    → Until (AnswersWait target) (λ state. oldest_for target state.http.waits ≡ None) s a t
    → Amid from now w o thing (ds ++ record { target = target; text = last_of target thing.last } ∷ []) (ds ++ record { target = target; text = last_of target thing.last } ∷ []) (seen ++ a) t
amid_all from now w o thing target ds seen a s t amid (is_done s' a' t' done stays_so) = record {
  base = subst (Base from now) (sym stays_so.next) amid.base;
  thing_is = ap (λ (x : State). x.thing) stays_so.next ∙ amid.thing_is;
  fares = fares_here w o now (ds ++ record { target = target; text = last_of target thing.last } ∷ []) (ds ++ record { target = target; text = last_of target thing.last } ∷ []) seen (seen ++ a) s t
      stays_so.next (ap (λ (l : List Sighting). seen ++ l) stays_so.saw ∙ append-nil seen) (by amid.fares);
}
  where
    by : Fares w o now ds (ds ++ record { target = target; text = last_of target thing.last } ∷ []) seen s
        → Fares w o now (ds ++ record { target = target; text = last_of target thing.last } ∷ []) (ds ++ record { target = target; text = last_of target thing.last } ∷ []) seen s
    by (is_told d first told) = is_told d first told
    by (stays none still) =
        stays (none_last w.target ds (record { target = target; text = last_of target thing.last }) none
        (turned w.target target (none_oldest (λ v. v.target == target) w s.http.waits done still.there))) still
amid_all from now w o thing target ds seen a s t amid (goes_on s' m t' a' first second one more whole) =
    let rest = amid_all from now w o thing target ds (seen ++ first) second m t (amid_step from now w o thing target ds seen first s m amid one) more in
    record {
      base = rest.base;
      thing_is = rest.thing_is;
      fares = fares_here w o now (ds ++ record { target = target; text = last_of target thing.last } ∷ []) (ds ++ record { target = target; text = last_of target thing.last } ∷ []) ((seen ++ first) ++ second) (seen ++ a) t t refl
          (ap (λ (l : List Sighting). seen ++ l) whole ∙ sym (append_assoc seen first second)) rest.fares;
    }

-- after what was delivered
abbrev pub After : List Wait → ℕ → Wait → Owed → ThingState → List Delivery → List Sighting → State → Type 0
After from now w o thing ds seen u = Amid from now w o thing ds ds seen u

delivers_after : (from : List Wait) (now : ℕ) (w : Wait) (o : Owed) (thing : ThingState) (target : ℕ) (ds : List Delivery) (seen a : List Sighting) (s t : State)
    → After from now w o thing ds seen s → Delivers target s a t → After from now w o thing (ds ++ record { target = target; text = last_of target thing.last } ∷ []) (seen ++ a) t
delivers_after from now w o thing target ds seen a s t after move =
    let begins : Amid from now w o thing ds (ds ++ record { target = target; text = last_of target thing.last } ∷ []) seen s =
    record { base = after.base; thing_is = after.thing_is; fares = by after.fares } in
    let mid = amid_all from now w o thing target ds seen move.first s move.mid begins move.one in
    record {
      base = base_coap from now (λ n before next. next ≡ with_emitted target before) move.mid t move.second mid.base move.other;
      thing_is = ap (λ (x : State). x.thing) move.other.2.next ∙ mid.thing_is;
      fares = fares_here w o now (ds ++ record { target = target; text = last_of target thing.last } ∷ []) (ds ++ record { target = target; text = last_of target thing.last } ∷ []) ((seen ++ move.first) ++ move.second) (seen ++ a) t t refl
          (ap (λ (l : List Sighting). seen ++ l) move.whole ∙ sym (append_assoc seen move.first move.second))
          (fares_after w o now (ds ++ record { target = target; text = last_of target thing.last } ∷ []) (ds ++ record { target = target; text = last_of target thing.last } ∷ []) (seen ++ move.first) move.second move.mid t
          (leaves_coap w (λ n before next. next ≡ with_emitted target before) move.mid t move.second move.other) mid.fares);
    }
  where
    by : Fares w o now ds ds seen s → Fares w o now ds (ds ++ record { target = target; text = last_of target thing.last } ∷ []) seen s
    by (stays none still) = stays none still
    by (is_told d first told) = is_told d (first_more w.target ds (record { target = target; text = last_of target thing.last } ∷ []) d first) told

pub deliveries_after : (from : List Wait) (now : ℕ) (w : Wait) (o : Owed) (thing : ThingState) (emissions : List Emission) (ds : List Delivery) (seen a : List Sighting) (s t : State)
    → After from now w o thing ds seen s → DeliversEach emissions s a t → After from now w o thing (ds ++ deliveries_of thing emissions) (seen ++ a) t
deliveries_after from now w o thing [] ds seen a s t after stays_so =
    subst (λ (l : List Delivery). After from now w o thing l (seen ++ a) t) (sym (append-nil ds)) (record {
      base = subst (Base from now) (sym stays_so.next) after.base;
      thing_is = ap (λ (x : State). x.thing) stays_so.next ∙ after.thing_is;
      fares = fares_here w o now ds ds seen (seen ++ a) s t stays_so.next (ap (λ (l : List Sighting). seen ++ l) stays_so.saw ∙ append-nil seen) after.fares;
    })
deliveries_after from now w o thing (e ∷ emissions) ds seen a s t after move =
    let one = delivers_after from now w o thing e.target ds seen move.first s move.mid after move.one in
    let rest = deliveries_after from now w o thing emissions (ds ++ delivery_of thing e ∷ []) (seen ++ move.first) move.second move.mid t one move.other in
    subst (λ (l : List Delivery). After from now w o thing l (seen ++ a) t) (append_assoc ds (delivery_of thing e ∷ []) (deliveries_of thing emissions))
    (subst (λ (l : List Sighting). After from now w o thing ((ds ++ delivery_of thing e ∷ []) ++ deliveries_of thing emissions) l t)
    (append_assoc seen move.first move.second ∙ ap (λ (l : List Sighting). seen ++ l) (sym move.whole)) rest)

-- ---- what has come is performed, answered and delivered

-- a wait so far, at a moment
pub record Far (from : List Wait) (now : ℕ) (w : Wait) (o : Owed) (ds : List Delivery) (seen : List Sighting) (u : State) : Type 0 where
  pub base : Base from now u
  pub fares : Fares w o now ds ds seen u

pub far_after : (from : List Wait) (now : ℕ) (w : Wait) (o : Owed) (ds : List Delivery) (seen a : List Sighting) (s t : State) → Leaves w s t a → Base from now t → Far from now w o ds seen s
    → Far from now w o ds (seen ++ a) t
far_after from now w o ds seen a s t leaves base far = record { base = base; fares = fares_after w o now ds ds seen a s t leaves far.fares }

pub far_here : (from : List Wait) (now : ℕ) (w : Wait) (o : Owed) (ds es : List Delivery) (seen shown : List Sighting) (t : State) → es ≡ ds → shown ≡ seen → Far from now w o ds seen t
    → Far from now w o es shown t
far_here from now w o ds es seen shown t is saw far =
    subst (λ (l : List Delivery). Far from now w o l shown t) (sym is) (subst (λ (l : List Sighting). Far from now w o ds l t) (sym saw) far)

-- emissions are delivered, from the state of the Things that there is
far_delivers : (from : List Wait) (now : ℕ) (w : Wait) (o : Owed) (thing : ThingState) (emissions : List Emission) (ds : List Delivery) (seen a : List Sighting) (s t : State)
    → s.thing ≡ thing → Far from now w o ds seen s → DeliversEach emissions s a t → Far from now w o (ds ++ deliveries_of thing emissions) (seen ++ a) t
far_delivers from now w o thing emissions ds seen a s t is far move =
    let after = deliveries_after from now w o thing emissions ds seen a s t (record { base = far.base; thing_is = is; fares = far.fares }) move in
    record { base = after.base; fares = after.fares }

-- one thing after another, and nothing is delivered before the second
three : (seen a b c d whole : List Sighting) → whole ≡ a ++ b → b ≡ c ++ d → seen ++ whole ≡ ((seen ++ a) ++ c) ++ d
three seen a b c d whole is rest =
    ap (λ (l : List Sighting). seen ++ l) (is ∙ ap (λ (l : List Sighting). a ++ l) rest) ∙ sym (append_assoc seen a (c ++ d)) ∙ sym (append_assoc (seen ++ a) c d)

two : (seen a b whole : List Sighting) → whole ≡ a ++ b → seen ++ whole ≡ (seen ++ a) ++ b
two seen a b whole is = ap (λ (l : List Sighting). seen ++ l) is ∙ sym (append_assoc seen a b)

-- ---- messages of another connection

performs_leaves : (w : Wait) (site : Site) (q : RequestSeen) (done : Done) (s t : State) (a : List Sighting) → PerformsByHttp site q done s a t → Leaves w s t a
performs_leaves w site q done s t a (inl (is, (d, acts, none, p))) = leaves_same w s t (record s { directory = d }) [] a refl p refl
performs_leaves w site q done s t a (inr (isnt, p)) = leaves_thing w (Acts site q done) s t a p

if_any_leaves : (w : Wait) (d : ℕ) (reply : Option HttpReply) (s t : State) (a : List Sighting) → (d == w.connection) ≡ false → SendsIfAny d reply s a t → Leaves w s t a
if_any_leaves w d None s t a isnt p = leaves_same w s t s [] a refl p refl
if_any_leaves w d (Some r) s t a isnt p = leaves_does w (acts_of_reply d r) s t a (reply_there w.connection d r (turned d w.connection isnt)) p

answers_leaves : (w : Wait) (d now : ℕ) (o : Outcome) (reply : Option HttpReply) (s t : State) (h : Streams) (a : List Sighting) → (d == w.connection) ≡ false → AnswersRequest d o now reply s.http h
    → Becomes (record s { http = h }) [] a t → Leaves w s t a
answers_leaves w d now o reply s t h a isnt (sends_reply bytes closes waits (x, owed, there, owes, closes_is, reply_is, after) is) p = leaves_cut w d (after_reply closes now x) s t h a isnt after p
answers_leaves w d now o reply s t h a isnt (lets_wait target is (x, owed, there, owes, after) none) p =
    let new : Wait = record { connection = d; target = target; since = now } in
    let same : t.http ≡ record s.http { waits = other_waits d s.http.waits ++ new ∷ [] } = ap (λ (y : State). y.http) p.next ∙ after in record {
      connection = ap (connection_at w.connection) same;
      still = λ among. subst (λ (k : Streams). IsAmong w k.waits) (sym same) (more_among w new (other_waits d s.http.waits) (others_among d w s.http.waits among isnt));
      none = λ none. ap (λ (k : Streams). is_waiting w.connection k.waits) same
          ∙ none_with w.connection new (other_waits d s.http.waits) (still_none w.connection d s.http.waits none) (turned d w.connection isnt);
      acts = ap (acts_on w.connection) p.saw;
    }

message_leaves : (w : Wait) (d : ℕ) (done : Done) (s t : State) (a : List Sighting) → (d == w.connection) ≡ false → AnswersMessage d done s a t → Leaves w s t a
message_leaves w d done s t a isnt (reply, move) =
    leaves_then w s move.mid t move.first move.second a move.whole
    (answers_leaves w d s.moment done.outcome reply s move.mid move.one.0 move.first isnt move.one.1 move.one.2) (if_any_leaves w d reply move.mid t move.second isnt move.other)

-- the Things stay
if_any_thing : (d : ℕ) (reply : Option HttpReply) (s t : State) (a : List Sighting) → SendsIfAny d reply s a t → t.thing ≡ s.thing
if_any_thing d None s t a p = ap (λ (x : State). x.thing) p.next
if_any_thing d (Some r) s t a p = ap (λ (x : State). x.thing) p.next

message_thing : (d : ℕ) (done : Done) (s t : State) (a : List Sighting) → AnswersMessage d done s a t → t.thing ≡ s.thing
message_thing d done s t a (reply, move) = if_any_thing d reply move.mid t move.second move.other ∙ ap (λ (x : State). x.thing) move.one.2.next

taken_far : (from : List Wait) (now : ℕ) (w : Wait) (o : Owed) (site : Site) (d : ℕ) (taken : Taken) (ds : List Delivery) (seen a : List Sighting) (s t : State) → (d == w.connection) ≡ false
    → Base from now t → (Far from now w o ds seen s) → (move : AnswersTaken site d taken s a t) → Far from now w o (ds ++ deliveries_of_taken site d taken s t a move) (seen ++ a) t
taken_far from now w o site d (asks q) ds seen a s t isnt base far (done, move) =
    let one = far_after from now w o ds seen move.first s move.mid (performs_leaves w site q done s move.mid move.first move.one)
    (base_performs from now site q done s move.mid move.first far.base move.one) far in
    let other = far_after from now w o ds (seen ++ move.first) move.other.first move.mid move.other.mid (message_leaves w d done move.mid move.other.mid move.other.first isnt move.other.one)
    (base_message from now d done move.mid move.other.mid move.other.first one.base move.other.one) one in
    far_here from now w o (ds ++ deliveries_of move.mid.thing done.emissions) (ds ++ deliveries_of move.mid.thing done.emissions) (((seen ++ move.first) ++ move.other.first) ++ move.other.second) (seen ++ a) t refl
    (three seen move.first move.second move.other.first move.other.second a move.whole move.other.whole)
    (far_delivers from now w o move.mid.thing done.emissions ds ((seen ++ move.first) ++ move.other.first) move.other.second move.other.mid t
    (message_thing d done move.mid move.other.mid move.other.first move.other.one) other move.other.other)
taken_far from now w o site d wants_continue ds seen a s t isnt base far (bytes, move) =
    far_here from now w o ds (ds ++ []) (seen ++ a) (seen ++ a) t (append-nil ds) refl
    (far_after from now w o ds seen a s t
    (leaves_then w s move.mid t move.first move.second a move.whole (leaves_same w s move.mid s [] move.first refl (record { next = move.one.2.next ∙ ap (λ (h : Streams). record s { http = h }) move.one.1.1; saw = move.one.2.saw }) refl)
    (leaves_does w (acts_of_reply d (record { bytes = bytes; closes = false })) move.mid t move.second (reply_there w.connection d (record { bytes = bytes; closes = false }) (turned d w.connection isnt)) move.other))
    base far)
taken_far from now w o site d (is_faulty status) ds seen a s t isnt base far (bytes, move) =
    far_here from now w o ds (ds ++ []) (seen ++ a) (seen ++ a) t (append-nil ds) refl
    (far_after from now w o ds seen a s t
    (leaves_then w s move.mid t move.first move.second a move.whole (leaves_cut w d None s move.mid move.one.0 move.first isnt move.one.1.1 move.one.2)
    (leaves_does w (acts_of_reply d (record { bytes = bytes; closes = true })) move.mid t move.second (reply_there w.connection d (record { bytes = bytes; closes = true }) (turned d w.connection isnt)) move.other))
    base far)
taken_far from now w o site d interrupts ds seen a s t isnt base far move =
    far_here from now w o ds (ds ++ []) (seen ++ a) (seen ++ a) t (append-nil ds) refl
    (far_after from now w o ds seen a s t (leaves_does w (act.Closed d ∷ []) s t a (close_there w.connection d (turned d w.connection isnt)) move) base far)

next_far : (from : List Wait) (now : ℕ) (w : Wait) (o : Owed) (site : Site) (d : ℕ) (ds : List Delivery) (seen a : List Sighting) (s t : State) → (d == w.connection) ≡ false
    → Far from now w o ds seen s → (move : TakesNextMessage site d s a t) → Far from now w o (ds ++ deliveries_of_taken site d move.0 move.1.mid t move.1.second move.1.other) (seen ++ a) t
next_far from now w o site d ds seen a s t isnt far (taken, move) =
    let one = far_after from now w o ds seen move.first s move.mid (leaves_cut w d move.one.1.1 s move.mid move.one.0 move.first isnt move.one.1.4 move.one.2)
    (base_http from now (λ n. Takes d taken) (λ h k. takes_changes now d taken h k) s move.mid move.first far.base move.one) far in
    far_here from now w o (ds ++ deliveries_of_taken site d taken move.mid t move.second move.other) (ds ++ deliveries_of_taken site d taken move.mid t move.second move.other) ((seen ++ move.first) ++ move.second) (seen ++ a) t refl
    (two seen move.first move.second a move.whole)
    (taken_far from now w o site d taken ds (seen ++ move.first) move.second move.mid t isnt (base_next from now site d s t a far.base (taken, move)) one move.other)

pub messages_far : (from : List Wait) (now : ℕ) (w : Wait) (o : Owed) (site : Site) (d : ℕ) (ds : List Delivery) (seen a : List Sighting) (s t : State) → (d == w.connection) ≡ false
    → Far from now w o ds seen s → (move : TakesEveryMessage site d s a t) → Far from now w o (ds ++ deliveries_of_messages site d s t a move) (seen ++ a) t
messages_far from now w o site d ds seen a s t isnt far (is_done s' a' t' done stays_so) =
    far_here from now w o ds (ds ++ []) seen (seen ++ a) t (append-nil ds) (ap (λ (l : List Sighting). seen ++ l) stays_so.saw ∙ append-nil seen)
    (subst (Far from now w o ds seen) (sym stays_so.next) far)
messages_far from now w o site d ds seen a s t isnt far (goes_on s' m t' a' first second one more whole) =
    far_here from now w o ((ds ++ deliveries_of_taken site d one.0 one.1.mid m one.1.second one.1.other) ++ deliveries_of_messages site d m t second more)
    (ds ++ (deliveries_of_taken site d one.0 one.1.mid m one.1.second one.1.other ++ deliveries_of_messages site d m t second more)) ((seen ++ first) ++ second) (seen ++ a) t
    (sym (append_assoc ds (deliveries_of_taken site d one.0 one.1.mid m one.1.second one.1.other) (deliveries_of_messages site d m t second more))) (two seen first second a whole)
    (messages_far from now w o site d (ds ++ deliveries_of_taken site d one.0 one.1.mid m one.1.second one.1.other) (seen ++ first) second m t isnt
    (next_far from now w o site d ds seen first s m isnt far one) more)

-- ---- datagrams

ask_leaves : (w : Wait) (site : Site) (to : Endpoint) (ask : AskSeen) (pending : PendingReply) (done : Done) (s t : State) (a : List Sighting) → AnswersAsk site to ask pending done s a t → Leaves w s t a
ask_leaves w site to ask pending done s t a (bytes, move) =
    leaves_then w s move.mid t move.first move.second a move.whole (leaves_coap w (λ now. Answers pending done.outcome (observed_target site s.thing ask) bytes) s move.mid move.first move.one)
    (leaves_does w (act.Datagram to bytes ∷ []) move.mid t move.second refl move.other)

ask_thing : (site : Site) (to : Endpoint) (ask : AskSeen) (pending : PendingReply) (done : Done) (s t : State) (a : List Sighting) → AnswersAsk site to ask pending done s a t → t.thing ≡ s.thing
ask_thing site to ask pending done s t a (bytes, move) = ap (λ (x : State). x.thing) move.other.next ∙ ap (λ (x : State). x.thing) move.one.2.next

answer_far : (from : List Wait) (now : ℕ) (w : Wait) (o : Owed) (site : Site) (to : Endpoint) (h : Heard) (ds : List Delivery) (seen a : List Sighting) (s t : State)
    → Far from now w o ds seen s → (move : AnswersDatagram site to h s a t) → Far from now w o (ds ++ deliveries_of_answer site to h s t a move) (seen ++ a) t
answer_far from now w o site to ignored ds seen a s t far move =
    far_here from now w o ds (ds ++ []) seen (seen ++ a) t (append-nil ds) (ap (λ (l : List Sighting). seen ++ l) move.saw ∙ append-nil seen) (subst (Far from now w o ds seen) (sym move.next) far)
answer_far from now w o site to (answered_at_once bytes) ds seen a s t far move =
    far_here from now w o ds (ds ++ []) (seen ++ a) (seen ++ a) t (append-nil ds) refl
    (far_after from now w o ds seen a s t (leaves_does w (act.Datagram to bytes ∷ []) s t a refl move) (subst (Base from now) (sym move.next) far.base) far)
answer_far from now w o site to (is_asked ask pending) ds seen a s t far (done, move) =
    let one = far_after from now w o ds seen move.first s move.mid (leaves_thing w (Acts site ask.request done) s move.mid move.first move.one)
    (base_thing from now (Acts site ask.request done) s move.mid move.first far.base move.one) far in
    let other = far_after from now w o ds (seen ++ move.first) move.other.first move.mid move.other.mid (ask_leaves w site to ask pending done move.mid move.other.mid move.other.first move.other.one)
    (base_ask from now site to ask pending done move.mid move.other.mid move.other.first one.base move.other.one) one in
    far_here from now w o (ds ++ deliveries_of move.mid.thing done.emissions) (ds ++ deliveries_of move.mid.thing done.emissions) (((seen ++ move.first) ++ move.other.first) ++ move.other.second) (seen ++ a) t refl
    (three seen move.first move.second move.other.first move.other.second a move.whole move.other.whole)
    (far_delivers from now w o move.mid.thing done.emissions ds ((seen ++ move.first) ++ move.other.first) move.other.second move.other.mid t
    (ask_thing site to ask pending done move.mid move.other.mid move.other.first move.other.one) other move.other.other)

pub datagram_far : (from : List Wait) (now : ℕ) (w : Wait) (o : Owed) (site : Site) (to : Endpoint) (bytes : List ℕ) (ds : List Delivery) (seen a : List Sighting) (s t : State)
    → Far from now w o ds seen s → (move : HearsDatagram site to bytes s a t) → Far from now w o (ds ++ deliveries_of_datagram site to bytes s t a move) (seen ++ a) t
datagram_far from now w o site to bytes ds seen a s t far (inl long) =
    far_here from now w o ds (ds ++ []) seen (seen ++ a) t (append-nil ds) (ap (λ (l : List Sighting). seen ++ l) long.1.saw ∙ append-nil seen) (subst (Far from now w o ds seen) (sym long.1.next) far)
datagram_far from now w o site to bytes ds seen a s t far (inr (short, (h, move))) =
    let one = far_after from now w o ds seen move.first s move.mid (leaves_coap w (λ n. Hears to bytes n h) s move.mid move.first move.one)
    (base_coap from now (λ n. Hears to bytes n h) s move.mid move.first far.base move.one) far in
    far_here from now w o (ds ++ deliveries_of_answer site to h move.mid t move.second move.other) (ds ++ deliveries_of_answer site to h move.mid t move.second move.other) ((seen ++ move.first) ++ move.second) (seen ++ a) t refl
    (two seen move.first move.second a move.whole) (answer_far from now w o site to h ds (seen ++ move.first) move.second move.mid t one move.other)

-- ---- polls

pub polls_far : (from : List Wait) (now : ℕ) (w : Wait) (o : Owed) (ps : List Placed) (ds : List Delivery) (seen a : List Sighting) (s t : State)
    → Far from now w o ds seen s → (move : Each PollsAndDelivers ps s a t) → Far from now w o (ds ++ deliveries_of_polls ps s t a move) (seen ++ a) t
polls_far from now w o [] ds seen a s t far stays_so =
    far_here from now w o ds (ds ++ []) seen (seen ++ a) t (append-nil ds) (ap (λ (l : List Sighting). seen ++ l) stays_so.saw ∙ append-nil seen) (subst (Far from now w o ds seen) (sym stays_so.next) far)
polls_far from now w o (p ∷ ps) ds seen a s t far move =
    let poll = move.one.1 in
    let polled = far_after from now w o ds seen poll.first s poll.mid (leaves_thing w (PollsEvent p move.one.0) s poll.mid poll.first poll.one)
    (base_thing from now (PollsEvent p move.one.0) s poll.mid poll.first far.base poll.one) far in
    let one = far_delivers from now w o poll.mid.thing move.one.0 ds (seen ++ poll.first) poll.second poll.mid move.mid refl polled poll.other in
    far_here from now w o ((ds ++ deliveries_of poll.mid.thing move.one.0) ++ deliveries_of_polls ps move.mid t move.second move.other)
    (ds ++ (deliveries_of poll.mid.thing move.one.0 ++ deliveries_of_polls ps move.mid t move.second move.other)) (((seen ++ poll.first) ++ poll.second) ++ move.second) (seen ++ a) t
    (sym (append_assoc ds (deliveries_of poll.mid.thing move.one.0) (deliveries_of_polls ps move.mid t move.second move.other)))
    (ap (λ (l : List Sighting). seen ++ l) (move.whole ∙ ap (λ (l : List Sighting). l ++ move.second) poll.whole) ∙ assoc_four seen poll.first poll.second move.second)
    (polls_far from now w o ps (ds ++ deliveries_of poll.mid.thing move.one.0) ((seen ++ poll.first) ++ poll.second) move.second move.mid t one move.other)
  where
    assoc_four : (x y z v : List Sighting) → x ++ ((y ++ z) ++ v) ≡ ((x ++ y) ++ z) ++ v
    assoc_four x y z v = sym (append_assoc x (y ++ z) v) ∙ ap (λ (l : List Sighting). l ++ v) (sym (append_assoc x y z))
