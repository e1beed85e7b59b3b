-- Observers converge: event by event, over whole runs.
use Rattle.std.proofs.Common.{◌≡◌, ◌∙◌, ℕ, suc, Bool, true, false, not, cond, List, [], ◌∷◌, ◌++◌, map, find, max, refl, sym, ap, subst, arith, append_assoc}
use Rattle.std.specs.Prelude.{Option, Some, None, ◌&&◌, ◌||◌, All, Contains, is_some}
use Rattle.std.specs.List.{list_any}
use Rattle.std.proofs.lemmas.List.{append-nil}
use Rattle.std.proofs.lemmas.List.Elements.{All-nil, All-cons, All-head, All-tail, All-weaker, All-contains}
use Rattle.coap_msg.specs.declared.endpoint.Endpoint.{Endpoint}
use Rattle.coap_msg.specs.Endpoints.{is_same_endpoint}
use Rattle.coap_msg.proofs.SameEndpoints.{both, same_endpoint}
use Rattle.coap_observe.specs.declared.observer.Observer.{Observer}
use Rattle.coap_observe.specs.declared.notice.Notice.{Notice}
use Rattle.coap_observe.specs.declared.notice.Registered.TheVariants.{New, Replaced, Full}
use Rattle.coap_observe.specs.Sending.{Sent}
use Rattle.coap_observe.specs.Watching.{Watching, is_busy, is_due, is_sendable, newcomer, Sends, nothing}
use Rattle.coap_observe.specs.Laws.{Comes, begins, goes_on, registers as goes_registers, cancels as goes_cancels, emits as goes_emits, acknowledges as goes_acknowledges, rejects as goes_rejects, sends as goes_sends}
use Rattle.coap_observe.proofs.CallLaws.{one_pair}
use Rattle.thing_ops.specs.declared.outcome.Outcome.{Outcome}
use Rattle.thing_state.specs.State.{Emission, LastValue, last_after, renewed as last_renewed}
use Rattle.coap_bind.specs.declared.observing.Observing.{Observing}
use Rattle.coap_bind.specs.declared.observing.Observing.TheVariants as observing
use Rattle.coap_bind.specs.declared.observing.Effect.{Effect}
use Rattle.coap_bind.specs.declared.observing.Effect.TheVariants as effect
use Rattle.coap_bind.specs.declared.pending.PendingReply.{PendingReply}
use Rattle.coap_bind.specs.declared.server.Server.{Server}
use Rattle.coap_bind.specs.Blocks.{bodies_after, answer_reply}
use Rattle.coap_bind.specs.Observing.{may_notify, is_memory, registering, effect_of, Watches, leaves, cancels, registers as watches_registers}
use Rattle.coap_bind.specs.Writing.{head_in, observed, coap_reply}
use Rattle.coap_msg.specs.Grammar.{spelling}
use Rattle.coap_bind.specs.Server.{with_bodies, with_observers, with_emitted, SendsNext, Answers, asked}
use Rattle.servient_outside.specs.declared.net.What.{What}
use Rattle.servient_outside.specs.declared.net.What.TheVariants as what
use Rattle.servient_outside.specs.declared.net.EventWithBytes.{EventWithBytes}
use Rattle.servient_trace.specs.Trace.{Sighting}
use Rattle.servient_core.specs.declared.capacity.TheConstants.{MOST_WATCHERS}
use Rattle.servient_core.specs.Machine.{Site, State, start, EventAndStep, Run}
use Rattle.servient_ends.specs.Ends.{emitted_by, notifications_in}
use Rattle.servient_ends.proofs.StepParts.{with_targets, targets_in}
use Rattle.neighbour_laws.specs.Converging.{Deed, registers, emits, registered_by, registered_in, registrations_by, told, deeds_of_event, deeds_of, IsResponse, IsAwaited, HasConverged, ObserversConverge}
use Rattle.neighbour_laws.proofs.EventParts.{Hearing, is_passed, is_heard, is_answered, HearingOf, follows_course, SendsEach, event_ends}
use Rattle.neighbour_laws.proofs.HeardParts.{Told, leaves_all, acknowledges, rejects, cancels_one, hears_told, replied_observers, next_observers}
use Rattle.neighbour_laws.proofs.ToldLaws.{AreFine, IsFine, OnePair, heard_fine, registered_anew, registered_new, emitted_fine, sent_deeds, notified_fine, none_passes}
use Rattle.neighbour_laws.proofs.Lists.{never}

-- The observers came by calls alone, so that no two have one pair; and those that aren't marked were told the last.
record Fine (last : List LastValue) (deeds : List Deed) (w : Watching) : Type 0 where
  comes : Comes MOST_WATCHERS w
  told_last : AreFine last deeds w.list

one_of : (w : Watching) → Comes MOST_WATCHERS w → OnePair w.list
one_of w comes = λ from token. one_pair MOST_WATCHERS w comes from token

fine_same : (last : List LastValue) (deeds : List Deed) (w v : Watching) → v ≡ w → Fine last deeds w → Fine last deeds v
fine_same last deeds w v is f = subst (Fine last deeds) (sym is) f

no_deeds : (last : List LastValue) (deeds more : List Deed) (w : Watching) → more ≡ [] → Fine last deeds w → Fine last (deeds ++ more) w
no_deeds last deeds more w none f = subst (λ (l : List Deed). Fine last l w) (sym (ap (λ (l : List Deed). deeds ++ l) none ∙ append-nil deeds)) f

-- ---- a datagram

told_comes : (from : Endpoint) (old new : Watching) → Told from old new → Comes MOST_WATCHERS old → Comes MOST_WATCHERS new
told_comes from old new (leaves_all is) c = subst (Comes MOST_WATCHERS) (sym is) c
told_comes from old new (acknowledges id is) c = goes_on old new c (goes_acknowledges from id is)
told_comes from old new (rejects id is) c = goes_on old new c (goes_rejects from id is)
told_comes from old new (cancels_one token is) c = goes_on old new c (goes_cancels from token is)

told_fine : (from : Endpoint) (last : List LastValue) (deeds : List Deed) (old new : Watching) → Told from old new → Fine last deeds old → Fine last deeds new
told_fine from last deeds old new t f = record { comes = told_comes from old new t f.comes; told_last = heard_fine from last deeds old new t f.told_last }

-- the response of a registration says a value
says_value : (obs : Observing) (o : Outcome) (t : Option ℕ) (n : ℕ) → effect.Registers n ≡ effect_of obs o t → may_notify o ≡ true
says_value observing.Unchanged o t n is = absurd (let e : effect.Registers n ≡ effect.Nothing = is in cc)
says_value observing.Registers o t n is = by (may_notify o) is
  where
    by : (b : Bool) → effect.Registers n ≡ cond b (registering t) effect.Nothing → b ≡ true
    by true e = refl
    by false e = absurd (let f : effect.Registers n ≡ effect.Nothing = e in cc)
says_value observing.Deregisters o t n is = by (is_memory o) is
  where
    by : (b : Bool) → effect.Registers n ≡ cond b effect.Nothing effect.Cancels → may_notify o ≡ true
    by true e = absurd (let f : effect.Registers n ≡ effect.Nothing = e in cc)
    by false e = absurd (let f : effect.Registers n ≡ effect.Cancels = e in cc)

watched_fine : (does : Effect) (from : Endpoint) (token : List ℕ) (old : Watching) (observe : Option ℕ) (new : Watching) (o : Outcome) (bytes : List ℕ) (last : List LastValue) (deeds : List Deed)
    → (w : Watches does from token old observe new) → ((n : ℕ) → does ≡ effect.Registers n → (v : Observer) → v.token ≡ token → observe ≡ Some v.sequence → IsResponse v o bytes)
    → Fine last deeds old → Fine last (deeds ++ registered_by does from token old observe new w o bytes) new
watched_fine does from token old observe new o bytes last deeds (leaves is none stays) response f = no_deeds last deeds [] new refl (fine_same last deeds old new stays f)
watched_fine does from token old observe new o bytes last deeds (cancels is none gone) response f = no_deeds last deeds [] new refl (told_fine from last deeds old new (cancels_one token gone) f)
watched_fine does from token old observe new o bytes last deeds (watches_registers target (New n) is at says) response f = record {
  comes = goes_on old new f.comes (goes_registers from token target (New n) refl at);
  told_last = subst (λ (w : Watching). AreFine last (deeds ++ registers from token target o bytes ∷ []) w.list) (sym at.3)
      (registered_new from token target o bytes last deeds old.list at.0 (response target is (newcomer from token target) refl (says ∙ ap Some at.2)) f.told_last);
}
watched_fine does from token old observe new o bytes last deeds (watches_registers target (Replaced n) is at says) response f = record {
  comes = goes_on old new f.comes (goes_registers from token target (Replaced n) refl at);
  told_last = subst (λ (w : Watching). AreFine last (deeds ++ registers from token target o bytes ∷ []) w.list) (sym at.1)
      (registered_anew from token target n o bytes last deeds old.list (one_of old f.comes) at.0 (λ w token_is number. response target is w token_is (says ∙ ap Some (sym number))) f.told_last);
}
watched_fine does from token old observe new o bytes last deeds (watches_registers target Full is at says) response f = no_deeds last deeds [] new refl (fine_same last deeds old new at.2 f)

answered_fine : (r : PendingReply) (o : Outcome) (target : Option ℕ) (reply : List ℕ) (u t : Server) (a : Answers r o target reply u t) (last : List LastValue) (deeds : List Deed) → Fine last deeds u.observers
    → Fine last (deeds ++ registered_in r o target reply u t a) t.observers
answered_fine r o target reply u t a last deeds f =
    fine_same last (deeds ++ registered_in r o target reply u t a) a.observers t.observers
    (replied_observers r.kind r.slot reply (with_bodies (bodies_after r.blocks r.from o u.bodies) (with_observers a.observers u)) t a.replies.after)
    (watched_fine (effect_of r.observing o target) r.from r.token u.observers a.observe a.observers o reply last deeds a.watches
    (λ n does v token_is number. record {
      blocks = r.blocks;
      head = head_in r;
      id = u.next_id;
      spelled = a.replies.bytes_are ∙ ap (λ (x : Option ℕ). spelling (coap_reply (observed x (answer_reply r.blocks o)) (head_in r) u.next_id)) number;
      token = sym token_is;
      value = says_value r.observing o target n (sym does);
    }) f)

hearing_fine : (from : Endpoint) (bytes : List ℕ) (now : ℕ) (more : List Deed) (s t : Server) (last : List LastValue) (deeds : List Deed) → Hearing from bytes now more s t → Fine last deeds s.observers → Fine last (deeds ++ more) t.observers
hearing_fine from bytes now more s t last deeds (is_passed stays none) f = no_deeds last deeds more t.observers none (fine_same last deeds s.observers t.observers (ap (λ (x : Server). x.observers) stays) f)
hearing_fine from bytes now more s t last deeds (is_heard h hears none) f = no_deeds last deeds more t.observers none (told_fine from last deeds s.observers t.observers (hears_told from bytes now h s t hears) f)
hearing_fine from bytes now more s t last deeds (is_answered ask r o target reply u hears a is) f =
    subst (λ (l : List Deed). Fine last (deeds ++ l) t.observers) (sym is)
    (answered_fine r o target reply u t a last deeds (told_fine from last deeds s.observers u.observers (hears_told from bytes now (asked ask r) s u hears) f))

heard_of_fine : (w : What) (bytes : List ℕ) (now : ℕ) (more : List Deed) (s t : Server) (last : List LastValue) (deeds : List Deed) → HearingOf w bytes now more s t → Fine last deeds s.observers → Fine last (deeds ++ more) t.observers
heard_of_fine (what.Datagram from size) bytes now more s t last deeds h f = hearing_fine from bytes now more s t last deeds h f
heard_of_fine (what.Opened c) bytes now more s t last deeds h f = no_deeds last deeds more t.observers h.1 (fine_same last deeds s.observers t.observers (ap (λ (x : Server). x.observers) h.0) f)
heard_of_fine (what.Bytes c size) bytes now more s t last deeds h f = no_deeds last deeds more t.observers h.1 (fine_same last deeds s.observers t.observers (ap (λ (x : Server). x.observers) h.0) f)
heard_of_fine (what.Ended c) bytes now more s t last deeds h f = no_deeds last deeds more t.observers h.1 (fine_same last deeds s.observers t.observers (ap (λ (x : Server). x.observers) h.0) f)
heard_of_fine what.Tick bytes now more s t last deeds h f = no_deeds last deeds more t.observers h.1 (fine_same last deeds s.observers t.observers (ap (λ (x : Server). x.observers) h.0) f)
heard_of_fine what.Stop bytes now more s t last deeds h f = no_deeds last deeds more t.observers h.1 (fine_same last deeds s.observers t.observers (ap (λ (x : Server). x.observers) h.0) f)

-- ---- new values

values_fine : (es : List Emission) (last : List LastValue) (deeds : List Deed) (c : Server) → Fine last deeds c.observers → Fine (last_after es last) (deeds ++ map emits es) (with_targets (targets_in es) c).observers
values_fine [] last deeds c f = no_deeds last deeds [] c.observers refl f
values_fine (e ∷ es) last deeds c f =
    let one : Fine (map (last_renewed e) last) (deeds ++ emits e ∷ []) (with_emitted e.target c).observers = record {
      comes = goes_on c.observers (with_emitted e.target c).observers f.comes (goes_emits e.target refl);
      told_last = emitted_fine e last deeds c.observers.list f.told_last;
    } in
    subst (λ (l : List Deed). Fine (last_after es (map (last_renewed e) last)) l (with_targets (targets_in es) (with_emitted e.target c)).observers) (append_assoc deeds (emits e ∷ []) (map emits es))
    (values_fine es (map (last_renewed e) last) (deeds ++ emits e ∷ []) (with_emitted e.target c) one)

-- ---- notifications

next_fine : (now : ℕ) (n : Option Notice) (s t : Server) (last : List LastValue) (deeds : List Deed) → SendsNext now n s t → Fine last deeds s.observers → Fine last (deeds ++ sent_deeds last n) t.observers
next_fine now n s t last deeds sends f = fine_same last (deeds ++ sent_deeds last n) sends.observers t.observers (next_observers now n s t sends) (record {
  comes = goes_on s.observers sends.observers f.comes (goes_sends now s.next_id n sends.capacity sends.notifies);
  told_last = notified_fine now s.next_id last deeds s.observers.list sends.observers.list n sends.notifies (one_of s.observers f.comes) f.told_last;
})

each_fine : (now : ℕ) (ns : List Notice) (s t : Server) (last : List LastValue) (deeds : List Deed) → SendsEach now ns s t → Fine last deeds s.observers → Fine last (deeds ++ map (told last) ns) t.observers
each_fine now [] s t last deeds is f = no_deeds last deeds [] t.observers refl (fine_same last deeds s.observers t.observers (ap (λ (x : Server). x.observers) is) f)
each_fine now (n ∷ ns) s t last deeds (m, one, more) f =
    subst (λ (l : List Deed). Fine last l t.observers) (append_assoc deeds (told last n ∷ []) (map (told last) ns))
    (each_fine now ns m t last (deeds ++ told last n ∷ []) more (next_fine now (Some n) s m last deeds one f))

-- ---- those that are marked

-- one that passes is there
any_there : {X : Type 0} (p : X → Bool) (xs : List X) → list_any p xs ≡ true → (x : X) × Contains xs x × (p x ≡ true)
any_there p [] is = absurd (never false is refl)
any_there {X} p (x ∷ xs) is = by (p x) refl is (λ e. any_there p xs e)
  where
    by : (b : Bool) → p x ≡ b → (b || list_any p xs) ≡ true → (list_any p xs ≡ true → (y : X) × Contains xs y × (p y ≡ true)) → (y : X) × Contains (x ∷ xs) y × (p y ≡ true)
    by true t e rest = (x, (0, omega arith, refl), t)
    by false t e rest = let r = rest e in (r.0, (suc r.1.0, omega (arith, r.1.1), r.1.2), r.2)

await_there : (now : ℕ) (ws : List Observer) → find (is_due now) ws ≡ None → find (is_sendable ws) ws ≡ None → All (λ (w : Observer). w.is_marked ≡ true → IsAwaited w now ws) ws
await_there now ws due free = All-weaker (λ (w : Observer). is_sendable ws w ≡ false) (λ (w : Observer). w.is_marked ≡ true → IsAwaited w now ws) each ws (none_passes (is_sendable ws) ws free)
  where
    busy : (a b : Bool) → a ≡ true → (a && not b) ≡ false → b ≡ true
    busy true true is fails = refl
    busy true false is fails = absurd (never true refl fails)
    busy false b is fails = absurd (never false is refl)

    sent_of : (v : Observer) → is_some v.notification ≡ true → (n : Sent) × (v.notification ≡ Some n)
    sent_of v is = by v.notification refl is
      where
        by : (o : Option Sent) → v.notification ≡ o → is_some o ≡ true → (n : Sent) × (v.notification ≡ Some n)
        by None at e = absurd (never false e refl)
        by (Some n) at e = (n, at)

    each : (w : Observer) → is_sendable ws w ≡ false → w.is_marked ≡ true → IsAwaited w now ws
    each w fails is =
        let one = any_there (is_busy w.from) ws (busy w.is_marked (list_any (is_busy w.from) ws) is fails) in
        let it = both (is_some one.0.notification) (is_same_endpoint w.from one.0.from) one.2 in
        let sent = sent_of one.0 it.0 in
        record {
          one = one.0;
          there = one.1;
          from = sym (same_endpoint w.from one.0.from it.1);
          sent = sent.0;
          unacknowledged = sent.1;
          waits = All-contains (λ (v : Observer). is_due now v ≡ false) ws one.0 (none_passes (is_due now) ws due) one.1;
        }

abbrev AreAwaited : State → Type 0
AreAwaited s = All (λ (w : Observer). w.is_marked ≡ true → IsAwaited w s.moment s.coap.observers.list) s.coap.observers.list

last_awaits : (now id : ℕ) (ws us : List Observer) → Sends now id ws None us → All (λ (w : Observer). w.is_marked ≡ true → IsAwaited w now us) us
last_awaits now id ws us (nothing _ none free is) = subst (λ (l : List Observer). All (λ (w : Observer). w.is_marked ≡ true → IsAwaited w now l) l) (sym is) (await_there now ws none free)

-- ---- events and runs

record After (s : State) (deeds : List Deed) : Type 0 where
  fine : Fine s.thing.last deeds s.coap.observers
  awaited : AreAwaited s

event_fine : (site : Site) (e : EventWithBytes) (s t : State) (seen : List Sighting) (w : EventAndStep site e s seen t) (deeds : List Deed) → Fine s.thing.last deeds s.coap.observers → After t (deeds ++ deeds_of_event site e s seen t w)
event_fine site e s t seen w deeds f =
    let m : State = record w.mid { moment = max w.mid.moment e.event.moment } in
    let course = follows_course site e.event.what e.bytes m w.other.mid w.other.first w.other.one in
    let ends = event_ends w.other.mid t w.other.second w.other.other in
    let es : List Emission = emitted_by site e.event.what e.bytes m w.other.first w.other.mid w.other.one in
    let regs : List Deed = registrations_by site e.event.what e.bytes m w.other.first w.other.mid w.other.one in
    let ns : List Notice = notifications_in w.other.mid w.other.second t w.other.other in
    let last : t.thing.last ≡ last_after es m.thing.last = ap (λ x. x.last) ends.thing ∙ course.last in
    let begun : Fine m.thing.last deeds m.coap.observers = subst (λ (y : State). Fine y.thing.last deeds y.coap.observers) (sym w.one.next) f in
    let one : Fine m.thing.last (deeds ++ regs) course.after.observers = heard_of_fine e.event.what e.bytes m.moment regs m.coap course.after m.thing.last deeds course.hearing begun in
    let two : Fine t.thing.last ((deeds ++ regs) ++ map emits es) w.other.mid.coap.observers =
    subst (λ (l : List LastValue). Fine l ((deeds ++ regs) ++ map emits es) w.other.mid.coap.observers) (sym last)
    (fine_same (last_after es m.thing.last) ((deeds ++ regs) ++ map emits es) (with_targets (targets_in es) course.after).observers w.other.mid.coap.observers (ap (λ (c : Server). c.observers) course.coap)
    (values_fine es m.thing.last (deeds ++ regs) course.after one)) in
    let three : Fine t.thing.last (((deeds ++ regs) ++ map emits es) ++ map (told t.thing.last) ns) ends.between.observers =
    each_fine w.other.mid.moment ns w.other.mid.coap ends.between t.thing.last ((deeds ++ regs) ++ map emits es) ends.sends two in
    let four : Fine t.thing.last ((((deeds ++ regs) ++ map emits es) ++ map (told t.thing.last) ns) ++ []) t.coap.observers =
    next_fine w.other.mid.moment None ends.between t.coap t.thing.last (((deeds ++ regs) ++ map emits es) ++ map (told t.thing.last) ns) ends.last three in
    let whole : ((((deeds ++ regs) ++ map emits es) ++ map (told t.thing.last) ns) ++ []) ≡ deeds ++ (regs ++ (map emits es ++ map (told t.thing.last) ns)) =
    append-nil _ ∙ (ap (λ (l : List Deed). l ++ map (told t.thing.last) ns) (append_assoc deeds regs (map emits es))
    ∙ (append_assoc deeds (regs ++ map emits es) (map (told t.thing.last) ns) ∙ ap (λ (l : List Deed). deeds ++ l) (append_assoc regs (map emits es) (map (told t.thing.last) ns)))) in
    record {
      fine = subst (λ (l : List Deed). Fine t.thing.last l t.coap.observers) whole four;
      awaited = subst (λ (n : ℕ). All (λ (v : Observer). v.is_marked ≡ true → IsAwaited v n t.coap.observers.list) t.coap.observers.list) (sym ends.moment)
          (subst (λ (x : Watching). All (λ (v : Observer). v.is_marked ≡ true → IsAwaited v w.other.mid.moment x.list) x.list) (sym (next_observers w.other.mid.moment None ends.between t.coap ends.last))
          (last_awaits w.other.mid.moment ends.between.next_id ends.last.notifies.left ends.last.observers.list ends.last.notifies.sends));
    }

run_fine : (site : Site) (took : List EventWithBytes) (s t : State) (seen : List Sighting) (run : Run site took s seen t) (deeds : List Deed) → After s deeds → After t (deeds ++ deeds_of site took s seen t run)
run_fine site [] s t seen stays deeds a = subst (λ (l : List Deed). After t l) (sym (append-nil deeds)) (subst (λ (y : State). After y deeds) (sym stays.next) a)
run_fine site (e ∷ took) s t seen run deeds a =
    subst (λ (l : List Deed). After t l) (append_assoc deeds (deeds_of_event site e s run.first run.mid run.one) (deeds_of site took run.mid run.second t run.other))
    (run_fine site took run.mid t run.second run.other (deeds ++ deeds_of_event site e s run.first run.mid run.one) (event_fine site e s run.mid run.first run.one deeds a.fine))

pub observers_converge : ObserversConverge
observers_converge site exchanges epoch took seen s run =
    let first : State = start site exchanges epoch in
    let a = run_fine site took first s seen run [] (record {
      fine = record { comes = begins first.coap.observers refl; told_last = All-nil (IsFine first.thing.last []) };
      awaited = All-nil (λ (w : Observer). w.is_marked ≡ true → IsAwaited w first.moment first.coap.observers.list);
    }) in
    converged s (deeds_of site took first seen s run) s.coap.observers.list a.fine.told_last a.awaited
  where
    converged : (s : State) (deeds : List Deed) (ws : List Observer) → AreFine s.thing.last deeds ws → All (λ (w : Observer). w.is_marked ≡ true → IsAwaited w s.moment s.coap.observers.list) ws → All (HasConverged s deeds) ws
    converged s deeds [] fine awaited = All-nil (HasConverged s deeds)
    converged s deeds (w ∷ ws) fine awaited =
        All-cons (HasConverged s deeds) w ws
        (record { unmarked = All-head (IsFine s.thing.last deeds) w ws fine; marked = All-head (λ (v : Observer). v.is_marked ≡ true → IsAwaited v s.moment s.coap.observers.list) w ws awaited })
        (converged s deeds ws (All-tail (IsFine s.thing.last deeds) w ws fine) (All-tail (λ (v : Observer). v.is_marked ≡ true → IsAwaited v s.moment s.coap.observers.list) w ws awaited))
