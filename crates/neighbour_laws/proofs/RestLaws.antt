-- A machine at rest stays so when a read comes.
use Rattle.std.proofs.Common.{◌≡◌, ◌∙◌, ℕ, Bool, true, false, cond, List, [], ◌∷◌, ◌++◌, map, find, max, inl, inr, refl, sym, ap, ap₂, subst}
use Rattle.std.specs.Prelude.{Option, Some, None, ◌==◌, All, option_map, option_and_then}
use Rattle.std.specs.List.{position, filter}
use Rattle.std.proofs.lemmas.List.Elements.{All-nil, All-cons, All-append}
use Rattle.servient_base.specs.Moves.{Each, Until, is_done, goes_on}
use Rattle.coap_msg.specs.declared.endpoint.Endpoint.{Endpoint}
use Rattle.coap_msg.specs.declared.constants.TheConstants.{GET}
use Rattle.coap_msg.specs.declared.message.RequestType.{RequestType}
use Rattle.coap_msg.specs.declared.message.RequestType.TheVariants.{Confirmable, NonConfirmable}
use Rattle.coap_msg.specs.Grammar.{CoapMessage}
use Rattle.coap_msg.specs.Requests.{request_type}
use Rattle.coap_msg.specs.Empty.{empty_reply, rejection_of}
use Rattle.coap_observe.specs.declared.observer.Observer.{Observer}
use Rattle.coap_observe.specs.declared.notice.Notice.{Notice}
use Rattle.coap_observe.specs.Watching.{Watching, is_due, is_sendable, given_up_endpoint, hopeless, GivesUp, nobody, endpoint, Sends, same, newer, first, nothing}
use Rattle.coap_opts.specs.Reading.{AskSeen, asked as what_is_asked}
use Rattle.coap_bind.specs.declared.observing.Observing.{Observing}
use Rattle.coap_bind.specs.declared.observing.Observing.TheVariants as observing
use Rattle.coap_bind.specs.declared.observing.Effect.{Effect}
use Rattle.coap_bind.specs.declared.observing.Effect.TheVariants as effect
use Rattle.coap_bind.specs.declared.pending.PendingReply.{PendingReply}
use Rattle.coap_bind.specs.declared.server.Server.{Server}
use Rattle.coap_bind.specs.Blocks.{bodies_after}
use Rattle.coap_bind.specs.Links.{observers_with_links}
use Rattle.coap_bind.specs.Observing.{observing_of, effect_of, Watches, leaves, cancels, registers}
use Rattle.coap_bind.specs.Server.{Heard, ignored, answered_at_once, asked, Hears, settled, admitted, malformed, no_request, duplicate, full, Reads, replied, bad_option_ignored, gives_links, asks, asks_whole, Answers, with_id_used, with_kept, with_parts, with_bodies, with_observers, links_given, observing_in, with_whole_body, pending_of, pending_joined, SendsNext}
use Rattle.thing_ops.specs.declared.outcome.Outcome.{Outcome}
use Rattle.thing_handler.specs.Turns.{HandlerCall}
use Rattle.thing_state.specs.State.{Emission}
use Rattle.http_bind.specs.declared.waits.Wait.{Wait}
use Rattle.http_bind.specs.Streams.{Streams, oldest_late, is_late, is_idle, NoneIdle}
use Rattle.servient_outside.specs.declared.net.What.{What}
use Rattle.servient_outside.specs.declared.net.What.TheVariants as what
use Rattle.servient_outside.specs.declared.net.EventWithBytes.{EventWithBytes}
use Rattle.servient_trace.specs.Trace.{Sighting, at_handler}
use Rattle.servient_core.specs.Machine.{Site, State, Move, start, AnswersDatagram, HearsDatagram, AnswersLateWait, ClosesIdle, SendsNotification, NothingIsDue, EndsEvent, Follows, Run, Delivers}
use Rattle.servient_ends.specs.Ends.{emitted_on, emitted_by_datagram, emitted_by}
use Rattle.servient_ends.proofs.StepParts.{targets_in}
use Rattle.neighbour_laws.specs.Resting.{IsOf, IsPlain, MovesNobody, ReadsMoveNobody}
use Rattle.neighbour_laws.proofs.EventParts.{event_ends}
use Rattle.neighbour_laws.proofs.HeardParts.{next_observers, same_pending, never_sent, never_repeated}
use Rattle.neighbour_laws.proofs.Lists.{never, none_of_part}

-- ---- at rest

-- Nothing is due at the machine's moment.
record AtRest (s : State) : Type 0 where
  due : find (is_due s.moment) s.coap.observers.list ≡ None
  free : find (is_sendable s.coap.observers.list) s.coap.observers.list ≡ None
  late : oldest_late s.moment s.http.waits ≡ None
  idle : NoneIdle s.moment s.http

rest_as : (s t : State) → t.moment ≡ s.moment → t.http ≡ s.http → t.coap.observers ≡ s.coap.observers → AtRest s → AtRest t
rest_as s t moment http observers r = record {
  due = ap₂ (λ (n : ℕ) (w : Watching). find (is_due n) w.list) moment observers ∙ r.due;
  free = ap (λ (w : Watching). find (is_sendable w.list) w.list) observers ∙ r.free;
  late = ap₂ (λ (n : ℕ) (h : Streams). oldest_late n h.waits) moment http ∙ r.late;
  idle = ap₂ (λ (n : ℕ) (h : Streams). position (is_idle n) h.places) moment http ∙ r.idle;
}

none_some : {X : Type 0} (o : Option X) (x : X) → o ≡ None → o ≡ Some x → ⊥
none_some o x none some = absurd (let e : None ≡ Some x = sym none ∙ some in cc)

until_done : (P : Move) (IsDone : State → Type 0) (s t : State) (seen : List Sighting) → Until P IsDone s seen t → IsDone t
until_done P IsDone s t seen (is_done s' seen' t' done stays) = subst IsDone (sym stays.next) done
until_done P IsDone s t seen (goes_on s' m t' seen' a b one more whole) = until_done P IsDone m t b more

-- no wait is late where some are taken away
still_none : (now : ℕ) (test : Wait → Bool) (waits : List Wait) → oldest_late now waits ≡ None → oldest_late now (filter test waits) ≡ None
still_none now test waits none = by (find (is_late now) waits) refl none
  where
    by : (o : Option Wait) → find (is_late now) waits ≡ o → option_map (λ (w : Wait). w.connection) o ≡ None → oldest_late now (filter test waits) ≡ None
    by None found e = ap (λ (o : Option Wait). option_map (λ (w : Wait). w.connection) o) (none_of_part (is_late now) test waits found)
    by (Some w) found e = absurd (let f : Some w.connection ≡ None = e in cc)

late_stays : (s t : State) (seen : List Sighting) → Until ClosesIdle (λ (x : State). NoneIdle x.moment x.http) s seen t → oldest_late s.moment s.http.waits ≡ None → oldest_late t.moment t.http.waits ≡ None
late_stays s t seen (is_done s' seen' t' done stays) none = subst (λ (x : State). oldest_late x.moment x.http.waits ≡ None) (sym stays.next) none
late_stays s t seen (goes_on s' m t' seen' a b one more whole) none =
    let on = one.1.one in
    let next : m ≡ record s { http = on.0 } = one.1.other.next ∙ on.2.next in
    let fewer : oldest_late s.moment on.0.waits ≡ None = ap (λ (h : Streams). oldest_late s.moment h.waits) on.1.1 ∙ still_none s.moment _ s.http.waits none in
    late_stays m t b more (subst (λ (x : State). oldest_late x.moment x.http.waits ≡ None) (sym next) fewer)

last_rests : (now id : ℕ) (ws us : List Observer) → Sends now id ws None us → (find (is_due now) us ≡ None) × (find (is_sendable us) us ≡ None)
last_rests now id ws us (nothing _ none free is) = (ap (find (is_due now)) is ∙ none, ap (λ (l : List Observer). find (is_sendable l) l) is ∙ free)

ends_rest : (s t : State) (seen : List Sighting) → EndsEvent s seen t → AtRest t
ends_rest s t seen w =
    let ends = event_ends s t seen w in
    let last = last_rests s.moment ends.between.next_id ends.last.notifies.left ends.last.observers.list ends.last.notifies.sends in
    let there : t.coap.observers ≡ ends.last.observers = next_observers s.moment None ends.between t.coap ends.last in
    record {
      due = ap₂ (λ (n : ℕ) (x : Watching). find (is_due n) x.list) ends.moment there ∙ last.0;
      free = ap (λ (x : Watching). find (is_sendable x.list) x.list) there ∙ last.1;
      late = late_stays w.other.mid t w.other.second w.other.other (until_done AnswersLateWait (λ (x : State). oldest_late x.moment x.http.waits ≡ None) w.mid w.other.mid w.other.first w.other.one);
      idle = until_done ClosesIdle (λ (x : State). NoneIdle x.moment x.http) w.other.mid t w.other.second w.other.other;
    }

run_rests : (site : Site) (took : List EventWithBytes) (s t : State) (seen : List Sighting) → Run site took s seen t → AtRest s → AtRest t
run_rests site [] s t seen stays r = subst AtRest (sym stays.next) r
run_rests site (e ∷ took) s t seen w r = run_rests site took w.mid t w.second w.other (ends_rest w.one.other.mid w.mid w.one.other.second w.one.other.other)

-- ---- the end of an event at rest

none_hopeless : (now : ℕ) (ws : List Observer) (from : Endpoint) → find (is_due now) ws ≡ None → hopeless now ws ≡ Some from → ⊥
none_hopeless now ws from none is = none_some (hopeless now ws) from (ap (λ (o : Option Observer). option_and_then given_up_endpoint o) none) is

stays_left : (now : ℕ) (ws us : List Observer) → GivesUp now ws us → find (is_due now) ws ≡ None → us ≡ ws
stays_left now ws us (nobody _ _ none is) due = is
stays_left now ws us (endpoint from _ _ at rest) due = absurd (none_hopeless now ws from due at)

none_sent : (now id : ℕ) (ws us : List Observer) (n : Notice) → find (is_due now) ws ≡ None → find (is_sendable ws) ws ≡ None → Sends now id ws (Some n) us → ⊥
none_sent now id ws us n due free (same w s _ _ found plain had notice is) = none_some (find (is_due now) ws) w due found
none_sent now id ws us n due free (newer w _ _ found marked_one notice is) = none_some (find (is_due now) ws) w due found
none_sent now id ws us n due free (first w _ _ none found notice is) = none_some (find (is_sendable ws) ws) w free found

next_never : (s : State) (c : Server) (n : Notice) → AtRest s → SendsNext s.moment (Some n) s.coap c → ⊥
next_never s c n r sends =
    let left = stays_left s.moment s.coap.observers.list sends.notifies.left sends.notifies.gives_up r.due in
    none_sent s.moment s.coap.next_id sends.notifies.left sends.observers.list n (ap (find (is_due s.moment)) left ∙ r.due) (ap (λ (l : List Observer). find (is_sendable l) l) left ∙ r.free) sends.notifies.sends

unsent_list : (now id : ℕ) (ws us : List Observer) → Sends now id ws None us → us ≡ ws
unsent_list now id ws us (nothing _ none free is) = is

same_watching : (a b : Watching) → a.capacity ≡ b.capacity → a.list ≡ b.list → a ≡ b
same_watching a b e f = ap₂ (λ (c : ℕ) (l : List Observer). record { capacity = c; list = l }) e f

next_stays : (s : State) (c : Server) → AtRest s → SendsNext s.moment None s.coap c → c ≡ s.coap
next_stays s c r sends =
    let left = stays_left s.moment s.coap.observers.list sends.notifies.left sends.notifies.gives_up r.due in
    let list : sends.observers.list ≡ s.coap.observers.list = unsent_list s.moment s.coap.next_id sends.notifies.left sends.observers.list sends.notifies.sends ∙ left in
    sends.after ∙ ap (λ (w : Watching). with_observers w s.coap) (same_watching sends.observers s.coap.observers sends.capacity list)

-- nothing is done
record Still (seen : List Sighting) (s t : State) : Type 0 where
  next : t ≡ s
  none : seen ≡ []

still_then : (a b seen : List Sighting) (s m t : State) → Still a s m → Still b m t → seen ≡ a ++ b → Still seen s t
still_then a b seen s m t one two whole = record { next = two.next ∙ one.next; none = whole ∙ ap₂ (λ (x y : List Sighting). x ++ y) one.none two.none }

notices_still : (s t : State) (seen : List Sighting) → AtRest s → Until SendsNotification NothingIsDue s seen t → Still seen s t
notices_still s t seen r (is_done s' seen' t' done stays) = record { next = stays.next; none = stays.saw }
notices_still s t seen r (goes_on s' m t' seen' a b one more whole) = absurd (next_never s one.1.one.0 one.0 r one.1.one.1)

late_still : (s t : State) (seen : List Sighting) → AtRest s → Until AnswersLateWait (λ (x : State). oldest_late x.moment x.http.waits ≡ None) s seen t → Still seen s t
late_still s t seen r (is_done s' seen' t' done stays) = record { next = stays.next; none = stays.saw }
late_still s t seen r (goes_on s' m t' seen' a b one more whole) = absurd (none_some (oldest_late s.moment s.http.waits) one.0 r.late one.1)

idle_still : (s t : State) (seen : List Sighting) → AtRest s → Until ClosesIdle (λ (x : State). NoneIdle x.moment x.http) s seen t → Still seen s t
idle_still s t seen r (is_done s' seen' t' done stays) = record { next = stays.next; none = stays.saw }
idle_still s t seen r (goes_on s' m t' seen' a b one more whole) = absurd (none_some (position (is_idle s.moment) s.http.places) one.0 r.idle one.1.one.1.0)

ends_still : (s t : State) (seen : List Sighting) → AtRest s → EndsEvent s seen t → Still seen s t
ends_still s t seen r w =
    let one = notices_still s w.one.mid w.one.first r w.one.one in
    let on = w.one.other in
    let at : AtRest w.one.mid = subst AtRest (sym one.next) r in
    let two : Still w.one.second w.one.mid w.mid = record { next = on.2.next ∙ ap (λ (c : Server). record w.one.mid { coap = c }) (next_stays w.one.mid on.0 at on.1); none = on.2.saw } in
    let rest : AtRest w.mid = subst AtRest (sym two.next) at in
    let three = late_still w.mid w.other.mid w.other.first rest w.other.one in
    let four = idle_still w.other.mid t w.other.second (subst AtRest (sym three.next) rest) w.other.other in
    still_then w.first w.second seen s w.mid t (still_then w.one.first w.one.second w.first s w.one.mid w.mid one two w.one.whole) (still_then w.other.first w.other.second w.second w.mid w.other.mid t three four w.other.whole) w.whole

-- ---- a plain request

record Same (s t : Server) : Type 0 where
  observers : t.observers ≡ s.observers
  next : t.next_id ≡ s.next_id

same_then : (s m t : Server) → Same s m → Same m t → Same s t
same_then s m t one two = record { observers = two.observers ∙ one.observers; next = two.next ∙ one.next }

same_server : (s t : Server) → t ≡ s → Same s t
same_server s t is = record { observers = ap (λ (x : Server). x.observers) is; next = ap (λ (x : Server). x.next_id) is }

kept_same : (k : RequestType) (slot : ℕ) (bytes : List ℕ) (s : Server) → k ≡ Confirmable → Same s (with_kept k slot bytes (with_id_used k s))
kept_same Confirmable slot bytes s is = record { observers = refl; next = refl }
kept_same NonConfirmable slot bytes s is = absurd (let e : NonConfirmable ≡ Confirmable = is in cc)

used_same : (k : RequestType) (s : Server) → k ≡ Confirmable → Same s (with_id_used k s)
used_same Confirmable s is = record { observers = refl; next = refl }
used_same NonConfirmable s is = absurd (let e : NonConfirmable ≡ Confirmable = is in cc)

unobserved : (code : ℕ) (o : Option ℕ) → o ≡ None → observing_of code o ≡ observing.Unchanged
unobserved code o is = ap (observing_of code) is ∙ by (code == GET)
  where
    by : (b : Bool) → cond b observing.Unchanged observing.Unchanged ≡ observing.Unchanged
    by true = refl
    by false = refl

read_same : (from : Endpoint) (now : ℕ) (m : CoapMessage) (slot : ℕ) (h : Heard) (s t : Server) → request_type m.kind ≡ Confirmable → observing_in m ≡ observing.Unchanged → Reads from now m slot h s t → Same s t
read_same from now m slot h s t con plain (replied r parts bytes why replies is) =
    let kept = kept_same (request_type m.kind) slot bytes (with_parts parts s) con in
    record { observers = ap (λ (x : Server). x.observers) replies.after ∙ kept.observers; next = ap (λ (x : Server). x.next_id) replies.after ∙ kept.next }
read_same from now m slot h s t con plain (bad_option_ignored number found non is after) = same_server s t after
read_same from now m slot h s t con plain (gives_links bytes none acts links get replies is) =
    let kept = kept_same (request_type m.kind) slot bytes (links_given from now m.token (observing_in m) (what_is_asked m) s) con in
    record {
      observers = ap (λ (x : Server). x.observers) replies.after ∙ (kept.observers ∙ ap (λ (o : Observing). observers_with_links o from m.token s.observers) plain);
      next = ap (λ (x : Server). x.next_id) replies.after ∙ kept.next;
    }
read_same from now m slot h s t con plain (asks none acts apart is after) = same_server s t after
read_same from now m slot h s t con plain (asks_whole b place parts whole none joins apart adds there is after) = record { observers = ap (λ (x : Server). x.observers) after; next = ap (λ (x : Server). x.next_id) after }

hears_same : (from : Endpoint) (bytes : List ℕ) (now : ℕ) (h : Heard) (s t : Server) → IsPlain bytes → Hears from bytes now h s t → Same s t
hears_same from bytes now h s t plain (settled (malformed f fault is after)) = same_server s t after
hears_same from bytes now h s t plain (settled (no_request m spells isnt is after)) = absurd (never _ (plain m spells).1 isnt)
hears_same from bytes now h s t plain (settled (duplicate m kept e met found is)) = record { observers = met.same_observers; next = met.same_id }
hears_same from bytes now h s t plain (settled (full m u met is after)) =
    same_then s u t (record { observers = met.same_observers; next = met.same_id })
    (subst (Same u) (sym after) (used_same (request_type m.kind) u (ap request_type (plain m met.spells).0)))
hears_same from bytes now h s t plain (admitted m slot u met reads) =
    let p = plain m met.spells in
    same_then s u t (record { observers = met.same_observers; next = met.same_id }) (read_same from now m slot h u t (ap request_type p.0) (unobserved m.code _ p.2) reads)

record IsPlainAsk (r : PendingReply) : Type 0 where
  kind : r.kind ≡ Confirmable
  observes : r.observing ≡ observing.Unchanged

read_plain : (from : Endpoint) (now : ℕ) (m : CoapMessage) (slot : ℕ) (ask : AskSeen) (r : PendingReply) (s t : Server) → request_type m.kind ≡ Confirmable → observing_in m ≡ observing.Unchanged → Reads from now m slot (asked ask r) s t
    → IsPlainAsk r
read_plain from now m slot ask r s t con plain (replied q parts bytes why replies is) = absurd (let e : asked ask r ≡ answered_at_once bytes = is in cc)
read_plain from now m slot ask r s t con plain (bad_option_ignored number found non is after) = absurd (let e : asked ask r ≡ ignored = is in cc)
read_plain from now m slot ask r s t con plain (gives_links bytes none acts links get replies is) = absurd (let e : asked ask r ≡ answered_at_once bytes = is in cc)
read_plain from now m slot ask r s t con plain (asks none acts apart is after) =
    let e = same_pending ask (what_is_asked m) r (pending_of from now m slot) is in
    record { kind = ap (λ (x : PendingReply). x.kind) e ∙ con; observes = ap (λ (x : PendingReply). x.observing) e ∙ plain }
read_plain from now m slot ask r s t con plain (asks_whole b place parts whole none joins apart adds there is after) =
    let e = same_pending ask (with_whole_body whole.bytes (what_is_asked m)) r (pending_joined from m slot b) is in
    record { kind = ap (λ (x : PendingReply). x.kind) e ∙ con; observes = ap (λ (x : PendingReply). x.observing) e ∙ plain }

plain_ask : (from : Endpoint) (bytes : List ℕ) (now : ℕ) (ask : AskSeen) (r : PendingReply) (s t : Server) → IsPlain bytes → Hears from bytes now (asked ask r) s t → IsPlainAsk r
plain_ask from bytes now ask r s t plain (settled (malformed f fault is after)) = absurd (never_sent (rejection_of bytes) ask r is)
plain_ask from bytes now ask r s t plain (settled (no_request m spells isnt is after)) = absurd (never_sent (empty_reply m.kind m.id false) ask r is)
plain_ask from bytes now ask r s t plain (settled (duplicate m kept e met found is)) = absurd (never_repeated (request_type m.kind) e.reply ask r is)
plain_ask from bytes now ask r s t plain (settled (full m u met is after)) = absurd (let e : asked ask r ≡ answered_at_once _ = is in cc)
plain_ask from bytes now ask r s t plain (admitted m slot u met reads) =
    let p = plain m met.spells in
    read_plain from now m slot ask r u t (ap request_type p.0) (unobserved m.code _ p.2) reads

watches_same : (does : Effect) (from : Endpoint) (token : List ℕ) (old : Watching) (o : Option ℕ) (new : Watching) → does ≡ effect.Nothing → Watches does from token old o new → new ≡ old
watches_same does from token old o new none (leaves is none_said stays) = stays
watches_same does from token old o new none (cancels is none_said gone) = absurd (let e : effect.Nothing ≡ effect.Cancels = sym none ∙ is in cc)
watches_same does from token old o new none (registers target r is at says) = absurd (let e : effect.Nothing ≡ effect.Registers target = sym none ∙ is in cc)

answers_same : (r : PendingReply) (o : Outcome) (target : Option ℕ) (reply : List ℕ) (u t : Server) → IsPlainAsk r → Answers r o target reply u t → Same u t
answers_same r o target reply u t plain a =
    let kept = kept_same r.kind r.slot reply (with_bodies (bodies_after r.blocks r.from o u.bodies) (with_observers a.observers u)) plain.kind in
    record {
      observers = ap (λ (x : Server). x.observers) a.replies.after ∙ (kept.observers ∙ watches_same (effect_of r.observing o target) r.from r.token u.observers a.observe a.observers (ap (λ (x : Observing). effect_of x o target) plain.observes) a.watches);
      next = ap (λ (x : Server). x.next_id) a.replies.after ∙ kept.next;
    }

-- ---- the datagram, and its event

calls_own : (from : Endpoint) (calls : List HandlerCall) → All (IsOf from) (map at_handler calls)
calls_own from [] = All-nil (IsOf from)
calls_own from (c ∷ calls) = All-cons (IsOf from) (at_handler c) (map at_handler calls) tt (calls_own from calls)

own_both : (from : Endpoint) (a b seen : List Sighting) → seen ≡ a ++ b → All (IsOf from) a → All (IsOf from) b → All (IsOf from) seen
own_both from a b seen whole one two = subst (All (IsOf from)) (sym whole) (All-append (IsOf from) a b one two)

none_own : (from : Endpoint) (seen : List Sighting) → seen ≡ [] → All (IsOf from) seen
none_own from seen none = subst (All (IsOf from)) (sym none) (All-nil (IsOf from))

stays_own : (from : Endpoint) (s t : State) (seen : List Sighting) (c : Server) → t ≡ record s { coap = c } → Same s.coap c → All (IsOf from) seen → MovesNobody from seen s t
stays_own from s t seen c is same_one own = record {
  moment = ap (λ (x : State). x.moment) is;
  http = ap (λ (x : State). x.http) is;
  observers = ap (λ (x : State). x.coap.observers) is ∙ same_one.observers;
  next = ap (λ (x : State). x.coap.next_id) is ∙ same_one.next;
  directory = ap (λ (x : State). x.directory) is;
  own = own;
}

answered_own : (site : Site) (from : Endpoint) (bytes : List ℕ) (h : Heard) (s : State) (c : Server) (m t : State) (seen : List Sighting) → IsPlain bytes → Hears from bytes s.moment h s.coap c → m ≡ record s { coap = c }
    → (r : AnswersDatagram site from h m seen t) → emitted_on site from h m seen t r ≡ [] → MovesNobody from seen s t
answered_own site from bytes ignored s c m t seen plain hears is r none = stays_own from s t seen c (r.next ∙ is) (hears_same from bytes s.moment ignored s.coap c plain hears) (none_own from seen r.saw)
answered_own site from bytes (answered_at_once reply) s c m t seen plain hears is r none =
    stays_own from s t seen c (r.next ∙ is) (hears_same from bytes s.moment (answered_at_once reply) s.coap c plain hears) (subst (All (IsOf from)) (sym r.saw) (All-cons (IsOf from) _ [] refl (All-nil (IsOf from))))
answered_own site from bytes (asked ask pending) s c m t seen plain hears is r none =
    let performed = r.1.one in
    let two = r.1.other in
    let three = two.one.1 in
    let answered = three.one in
    let rest : Each Delivers [] two.mid two.second t = subst (λ (es : List Emission). Each Delivers (targets_in es) two.mid two.second t) none two.other in
    let there : r.1.mid.coap ≡ c = ap (λ (x : State). x.coap) (performed.3.next ∙ ap (λ (x : State). record x { thing = performed.0 }) is) in
    let same_all : Same s.coap answered.0 = same_then s.coap c answered.0 (hears_same from bytes s.moment (asked ask pending) s.coap c plain hears)
    (subst (λ (x : Server). Same x answered.0) there (answers_same pending r.0.outcome _ two.one.0 r.1.mid.coap answered.0 (plain_ask from bytes s.moment ask pending s.coap c plain hears) answered.1)) in
    let after : t ≡ record s { coap = answered.0; thing = performed.0 } =
    rest.next ∙ (three.other.next ∙ (answered.2.next ∙ (ap (λ (x : State). record x { coap = answered.0 }) (performed.3.next ∙ ap (λ (x : State). record x { thing = performed.0 }) is)))) in
    record {
      moment = ap (λ (x : State). x.moment) after;
      http = ap (λ (x : State). x.http) after;
      observers = ap (λ (x : State). x.coap.observers) after ∙ same_all.observers;
      next = ap (λ (x : State). x.coap.next_id) after ∙ same_all.next;
      directory = ap (λ (x : State). x.directory) after;
      own = own_both from r.1.first r.1.second seen r.1.whole (subst (All (IsOf from)) (sym performed.3.saw) (calls_own from performed.1))
          (own_both from two.first two.second r.1.second two.whole (own_both from three.first three.second two.first three.whole (none_own from three.first answered.2.saw)
          (subst (All (IsOf from)) (sym three.other.saw) (All-cons (IsOf from) _ [] refl (All-nil (IsOf from))))) (none_own from two.second rest.saw));
    }

datagram_own : (site : Site) (from : Endpoint) (bytes : List ℕ) (s t : State) (seen : List Sighting) → IsPlain bytes → (r : HearsDatagram site from bytes s seen t) → emitted_by_datagram site from bytes s seen t r ≡ [] → MovesNobody from seen s t
datagram_own site from bytes s t seen plain (inl long) none = stays_own from s t seen s.coap long.1.next (record { observers = refl; next = refl }) (none_own from seen long.1.saw)
datagram_own site from bytes s t seen plain (inr h) none =
    let both = h.1.1 in
    let k = answered_own site from bytes h.1.0 s both.one.0 both.mid t both.second plain both.one.1 both.one.2.next both.other none in
    record { moment = k.moment; http = k.http; observers = k.observers; next = k.next; directory = k.directory; own = own_both from both.first both.second seen both.whole (none_own from both.first both.one.2.saw) k.own }

same_from : (x from : Endpoint) (n m : ℕ) → what.Datagram x n ≡ what.Datagram from m → x ≡ from
same_from x from n m e = cc

follows_own : (site : Site) (w : What) (bytes : List ℕ) (from : Endpoint) (size : ℕ) (s t : State) (seen : List Sighting) → w ≡ what.Datagram from size → IsPlain bytes → (f : Follows site w bytes s seen t)
    → emitted_by site w bytes s seen t f ≡ [] → MovesNobody from seen s t
follows_own site (what.Datagram x n) bytes from size s t seen is plain f none = subst (λ (y : Endpoint). MovesNobody y seen s t) (same_from x from n size is) (datagram_own site x bytes s t seen plain f none)
follows_own site (what.Opened c) bytes from size s t seen is plain f none = absurd (let e : what.Opened c ≡ what.Datagram from size = is in cc)
follows_own site (what.Bytes c n) bytes from size s t seen is plain f none = absurd (let e : what.Bytes c n ≡ what.Datagram from size = is in cc)
follows_own site (what.Ended c) bytes from size s t seen is plain f none = absurd (let e : what.Ended c ≡ what.Datagram from size = is in cc)
follows_own site what.Tick bytes from size s t seen is plain f none = absurd (let e : what.Tick ≡ what.Datagram from size = is in cc)
follows_own site what.Stop bytes from size s t seen is plain f none = absurd (let e : what.Stop ≡ what.Datagram from size = is in cc)

pub reads_move_nobody : ReadsMoveNobody
reads_move_nobody site exchanges epoch took before seen e from size s t run w is at plain none =
    let rest : AtRest s = run_rests site took (start site exchanges epoch) s before run (record { due = refl; free = refl; late = refl; idle = refl }) in
    let m : State = record w.mid { moment = max w.mid.moment e.event.moment } in
    let same_m : m ≡ s = ap (λ (x : State). record x { moment = max x.moment e.event.moment }) w.one.next ∙ ap (λ (n : ℕ). record s { moment = n }) at in
    let k = follows_own site e.event.what e.bytes from size m w.other.mid w.other.first is plain w.other.one none in
    let ended = ends_still w.other.mid t w.other.second (rest_as m w.other.mid k.moment k.http k.observers (subst AtRest (sym same_m) rest)) w.other.other in
    record {
      moment = ap (λ (x : State). x.moment) ended.next ∙ (k.moment ∙ ap (λ (x : State). x.moment) same_m);
      http = ap (λ (x : State). x.http) ended.next ∙ (k.http ∙ ap (λ (x : State). x.http) same_m);
      observers = ap (λ (x : State). x.coap.observers) ended.next ∙ (k.observers ∙ ap (λ (x : State). x.coap.observers) same_m);
      next = ap (λ (x : State). x.coap.next_id) ended.next ∙ (k.next ∙ ap (λ (x : State). x.coap.next_id) same_m);
      directory = ap (λ (x : State). x.directory) ended.next ∙ (k.directory ∙ ap (λ (x : State). x.directory) same_m);
      own = own_both from w.first w.second seen w.whole (subst (All (IsOf from)) (sym w.one.saw) (All-cons (IsOf from) _ [] tt (All-nil (IsOf from))))
          (own_both from w.other.first w.other.second w.second w.other.whole k.own (none_own from w.other.second ended.none));
    }
