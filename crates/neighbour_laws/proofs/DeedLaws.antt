-- The deeds of a run are datagrams of its trace, and its emissions are the last values.
use Rattle.std.proofs.Common.{◌≡◌, ◌∙◌, ℕ, List, [], ◌∷◌, ◌++◌, map, max, inl, inr, refl, sym, ap, ap₂, subst, arith}
use Rattle.std.specs.Prelude.{Option, All, Contains}
use Rattle.std.proofs.lemmas.List.{append-nil}
use Rattle.std.proofs.lemmas.List.Elements.{All-nil, All-cons, All-append, All-weaker, Contains-append_left, Contains-append_right}
use Rattle.coap_msg.specs.declared.endpoint.Endpoint.{Endpoint}
use Rattle.coap_observe.specs.declared.notice.Notice.{Notice}
use Rattle.coap_observe.specs.declared.notice.Registered.{Registered}
use Rattle.coap_observe.specs.declared.notice.Registered.TheVariants.{New, Replaced, Full}
use Rattle.coap_observe.specs.Watching.{Watching}
use Rattle.thing_ops.specs.declared.outcome.Outcome.{Outcome}
use Rattle.thing_state.specs.State.{State as ThingState, Emission, LastValue, last_after, renewed}
use Rattle.coap_bind.specs.declared.observing.Effect.{Effect}
use Rattle.coap_bind.specs.declared.server.Server.{Server}
use Rattle.coap_bind.specs.Observing.{Watches, leaves, cancels, registers as watches_registers, effect_of}
use Rattle.coap_bind.specs.Server.{Heard, ignored, answered_at_once, asked, Hears}
use Rattle.servient_outside.specs.declared.net.What.{What}
use Rattle.servient_outside.specs.declared.net.What.TheVariants as what
use Rattle.servient_outside.specs.declared.net.EventWithBytes.{EventWithBytes}
use Rattle.servient_trace.specs.Trace.{Sighting}
use Rattle.servient_core.specs.Machine.{Site, State, start, AnswersDatagram, HearsDatagram, EventAndStep, Run}
use Rattle.servient_ends.specs.Ends.{emitted_by, notifications_in, datagrams_in, event_at, sent_on, back_of}
use Rattle.servient_ends.proofs.SeenLaws.{seen_both, back_to, noticed, hearing_sends, doing_sends}
use Rattle.servient_ends.proofs.StepParts.{IsNoDatagram}
use Rattle.neighbour_laws.specs.Converging.{Deed, registers, emits, notifies, registered_as, registered_by, registered_on, registered_of, registrations_by, told, deeds_of_event, deeds_of, emissions_in, IsSent, AreSeen, DeedsAreSeen}
use Rattle.neighbour_laws.proofs.EventParts.{follows_course, event_ends}
use Rattle.neighbour_laws.proofs.HeardParts.{asked_from}

abbrev Sent : Type 0
Sent = List (Endpoint × List ℕ)

-- ---- emissions among deeds

emissions_both : (a b : List Deed) → emissions_in (a ++ b) ≡ emissions_in a ++ emissions_in b
emissions_both [] b = refl
emissions_both (registers from token target o bytes ∷ a) b = emissions_both a b
emissions_both (emits e ∷ a) b = ap (λ (l : List Emission). e ∷ l) (emissions_both a b)
emissions_both (notifies n text ∷ a) b = emissions_both a b

emitted_are : (es : List Emission) → emissions_in (map emits es) ≡ es
emitted_are [] = refl
emitted_are (e ∷ es) = ap (λ (l : List Emission). e ∷ l) (emitted_are es)

notices_emit : (last : List LastValue) (ns : List Notice) → emissions_in (map (told last) ns) ≡ []
notices_emit last [] = refl
notices_emit last (n ∷ ns) = notices_emit last ns

after_both : (a b : List Emission) (last : List LastValue) → last_after (a ++ b) last ≡ last_after b (last_after a last)
after_both [] b last = refl
after_both (e ∷ a) b last = after_both a b (map (renewed e) last)

-- ---- registrations

-- one that was made is answered in one of these datagrams, and emits nothing
record IsOneOf (sent : Sent) (deeds : List Deed) : Type 0 where
  all : All (IsSent sent) deeds
  none : emissions_in deeds ≡ []

no_deed : (sent : Sent) → IsOneOf sent []
no_deed sent = record { all = All-nil (IsSent sent); none = refl }

as_one : (r : Registered) (from : Endpoint) (token : List ℕ) (target : ℕ) (o : Outcome) (bytes : List ℕ) (sent : Sent) → Contains sent (from, bytes) → IsOneOf sent (registered_as r from token target o bytes)
as_one (New n) from token target o bytes sent there = record { all = All-cons (IsSent sent) (registers from token target o bytes) [] there (All-nil (IsSent sent)); none = refl }
as_one (Replaced n) from token target o bytes sent there = record { all = All-cons (IsSent sent) (registers from token target o bytes) [] there (All-nil (IsSent sent)); none = refl }
as_one Full from token target o bytes sent there = no_deed sent

by_one : (does : Effect) (from : Endpoint) (token : List ℕ) (old : Watching) (observe : Option ℕ) (new : Watching) (w : Watches does from token old observe new) (o : Outcome) (bytes : List ℕ) (sent : Sent)
    → Contains sent (from, bytes) → IsOneOf sent (registered_by does from token old observe new w o bytes)
by_one does from token old observe new (leaves is none stays) o bytes sent there = no_deed sent
by_one does from token old observe new (cancels is none gone) o bytes sent there = no_deed sent
by_one does from token old observe new (watches_registers target r is at says) o bytes sent there = as_one r from token target o bytes sent there

on_one : (site : Site) (from : Endpoint) (bytes : List ℕ) (now : ℕ) (h : Heard) (b c : Server) (s t : State) (seen : List Sighting) → Hears from bytes now h b c → (r : AnswersDatagram site from h s seen t)
    → IsOneOf (back_to from (sent_on site from h s seen t r)) (registered_on site from h s seen t r)
on_one site from bytes now ignored b c s t seen hears r = no_deed []
on_one site from bytes now (answered_at_once reply) b c s t seen hears r = no_deed (back_to from (reply ∷ []))
on_one site from bytes now (asked ask pending) b c s t seen hears r =
    let a = r.1.other.one.1.one in
    by_one (effect_of pending.observing r.0.outcome _) pending.from pending.token r.1.mid.coap.observers a.1.observe a.1.observers a.1.watches r.0.outcome r.1.other.one.0 (back_to from (r.1.other.one.0 ∷ []))
    (subst (λ (e : Endpoint). Contains (back_to from (r.1.other.one.0 ∷ [])) (e, r.1.other.one.0)) (sym (asked_from from bytes now ask pending b c hears)) (0, omega arith, refl))

of_one : (site : Site) (from : Endpoint) (bytes : List ℕ) (s t : State) (seen : List Sighting) (r : HearsDatagram site from bytes s seen t) → IsOneOf (back_to from (back_of site from bytes s seen t r)) (registered_of site from bytes s seen t r)
of_one site from bytes s t seen (inl long) = no_deed []
of_one site from bytes s t seen (inr h) =
    let both = h.1.1 in
    on_one site from bytes s.moment h.1.0 s.coap both.one.0 both.mid t both.second both.one.1 both.other

-- ---- an event

more_sent : (a b : Sent) (deeds : List Deed) → ((x : Endpoint × List ℕ) → Contains a x → Contains b x) → All (IsSent a) deeds → All (IsSent b) deeds
more_sent a b deeds more all = All-weaker (IsSent a) (IsSent b) each deeds all
  where
    each : (d : Deed) → IsSent a d → IsSent b d
    each (registers from token target o bytes) there = more (from, bytes) there
    each (emits e) there = tt
    each (notifies n text) there = more (n.to, _) there

notices_sent : (thing : ThingState) (ns : List Notice) → All (IsSent (noticed thing ns)) (map (told thing.last) ns)
notices_sent thing [] = All-nil (IsSent [])
notices_sent thing (n ∷ ns) =
    All-cons (IsSent (noticed thing (n ∷ ns))) (told thing.last n) (map (told thing.last) ns) (0, omega arith, refl)
    (more_sent (noticed thing ns) (noticed thing (n ∷ ns)) (map (told thing.last) ns) (λ x there. Contains-append_right (_ ∷ []) (noticed thing ns) x there) (notices_sent thing ns))

emissions_sent : (sent : Sent) (es : List Emission) → All (IsSent sent) (map emits es)
emissions_sent sent [] = All-nil (IsSent sent)
emissions_sent sent (e ∷ es) = All-cons (IsSent sent) (emits e) (map emits es) tt (emissions_sent sent es)

-- what an event registered is in what it sent back, before its notifications
record Told (seen : List Sighting) (back : Sent) (thing : ThingState) (regs : List Deed) (ns : List Notice) : Type 0 where
  sends : datagrams_in seen ≡ back ++ noticed thing ns
  one : IsOneOf back regs

told_seen : (seen : List Sighting) (back : Sent) (thing : ThingState) (regs : List Deed) (es : List Emission) (ns : List Notice) (last : List LastValue) → Told seen back thing regs ns → thing.last ≡ last_after es last
    → AreSeen last thing.last seen (regs ++ (map emits es ++ map (told thing.last) ns))
told_seen seen back thing regs es ns last t is = record {
  sent = subst (λ (l : Sent). All (IsSent l) (regs ++ (map emits es ++ map (told thing.last) ns))) (sym t.sends)
      (All-append (IsSent (back ++ noticed thing ns)) regs (map emits es ++ map (told thing.last) ns)
      (more_sent back (back ++ noticed thing ns) regs (λ x there. Contains-append_left back (noticed thing ns) x there) t.one.all)
      (All-append (IsSent (back ++ noticed thing ns)) (map emits es) (map (told thing.last) ns) (emissions_sent (back ++ noticed thing ns) es)
      (more_sent (noticed thing ns) (back ++ noticed thing ns) (map (told thing.last) ns) (λ x there. Contains-append_right back (noticed thing ns) x there) (notices_sent thing ns))));
  emitted = is ∙ ap (λ (l : List Emission). last_after l last) (sym (emissions_both regs (map emits es ++ map (told thing.last) ns)
      ∙ ap₂ (λ (a b : List Emission). a ++ b) t.one.none (emissions_both (map emits es) (map (told thing.last) ns) ∙ ap₂ (λ (a b : List Emission). a ++ b) (emitted_are es) (notices_emit thing.last ns) ∙ append-nil es)));
}

abbrev moved : EventWithBytes → State → State
moved e s = record s { moment = max s.moment e.event.moment }

datagram_told : (site : Site) (now : ℕ) (from : Endpoint) (size : ℕ) (bytes : List ℕ) (s t : State) (seen : List Sighting) (w : EventAndStep site (event_at now (what.Datagram from size) bytes) s seen t)
    → Told seen (back_to from (back_of site from bytes (record w.mid { moment = max w.mid.moment now }) w.other.first w.other.mid w.other.one)) t.thing
    (registered_of site from bytes (record w.mid { moment = max w.mid.moment now }) w.other.first w.other.mid w.other.one) (notifications_in w.other.mid w.other.second t w.other.other)
datagram_told site now from size bytes s t seen w = record {
  sends = hearing_sends site now from size bytes s t seen w;
  one = of_one site from bytes (record w.mid { moment = max w.mid.moment now }) w.other.mid w.other.first w.other.one;
}

other_told : (site : Site) (now : ℕ) (v : What) (bytes : List ℕ) (s t : State) (seen : List Sighting) → IsNoDatagram v → (w : EventAndStep site (event_at now v bytes) s seen t) → Told seen [] t.thing [] (notifications_in w.other.mid w.other.second t w.other.other)
other_told site now v bytes s t seen plain w = record { sends = doing_sends site now v bytes s t seen plain w; one = no_deed [] }

event_told : (site : Site) (now : ℕ) (v : What) (bytes : List ℕ) (s t : State) (seen : List Sighting) (w : EventAndStep site (event_at now v bytes) s seen t)
    → (back : Sent) × Told seen back t.thing (registrations_by site v bytes (record w.mid { moment = max w.mid.moment now }) w.other.first w.other.mid w.other.one) (notifications_in w.other.mid w.other.second t w.other.other)
event_told site now (what.Datagram from size) bytes s t seen w = (back_to from (back_of site from bytes (record w.mid { moment = max w.mid.moment now }) w.other.first w.other.mid w.other.one), datagram_told site now from size bytes s t seen w)
event_told site now (what.Opened c) bytes s t seen w = ([], other_told site now (what.Opened c) bytes s t seen tt w)
event_told site now (what.Bytes c size) bytes s t seen w = ([], other_told site now (what.Bytes c size) bytes s t seen tt w)
event_told site now (what.Ended c) bytes s t seen w = ([], other_told site now (what.Ended c) bytes s t seen tt w)
event_told site now what.Tick bytes s t seen w = ([], other_told site now what.Tick bytes s t seen tt w)
event_told site now what.Stop bytes s t seen w = ([], other_told site now what.Stop bytes s t seen tt w)

event_seen : (site : Site) (e : EventWithBytes) (s t : State) (seen : List Sighting) (w : EventAndStep site e s seen t) → AreSeen s.thing.last t.thing.last seen (deeds_of_event site e s seen t w)
event_seen site e s t seen w =
    let m : State = moved e w.mid in
    let course = follows_course site e.event.what e.bytes m w.other.mid w.other.first w.other.one in
    let ends = event_ends w.other.mid t w.other.second w.other.other in
    let back = event_told site e.event.moment e.event.what e.bytes s t seen w in
    let last : t.thing.last ≡ last_after (emitted_by site e.event.what e.bytes m w.other.first w.other.mid w.other.one) s.thing.last =
    ap (λ (x : ThingState). x.last) ends.thing ∙ (course.last ∙ ap (λ (x : State). last_after (emitted_by site e.event.what e.bytes m w.other.first w.other.mid w.other.one) x.thing.last) w.one.next) in
    told_seen seen back.0 t.thing (registrations_by site e.event.what e.bytes m w.other.first w.other.mid w.other.one) (emitted_by site e.event.what e.bytes m w.other.first w.other.mid w.other.one)
    (notifications_in w.other.mid w.other.second t w.other.other) s.thing.last back.1 last

run_seen : (site : Site) (took : List EventWithBytes) (s t : State) (seen : List Sighting) (run : Run site took s seen t) → AreSeen s.thing.last t.thing.last seen (deeds_of site took s seen t run)
run_seen site [] s t seen stays = record { sent = All-nil (IsSent (datagrams_in seen)); emitted = ap (λ (x : State). x.thing.last) stays.next }
run_seen site (e ∷ took) s t seen run =
    let one = event_seen site e s run.mid run.first run.one in
    let rest = run_seen site took run.mid t run.second run.other in
    let whole : datagrams_in seen ≡ datagrams_in run.first ++ datagrams_in run.second = ap datagrams_in run.whole ∙ seen_both run.first run.second in
    let a : List Deed = deeds_of_event site e s run.first run.mid run.one in
    let b : List Deed = deeds_of site took run.mid run.second t run.other in
    record {
      sent = subst (λ (l : Sent). All (IsSent l) (a ++ b)) (sym whole) (All-append (IsSent (datagrams_in run.first ++ datagrams_in run.second)) a b
          (more_sent (datagrams_in run.first) (datagrams_in run.first ++ datagrams_in run.second) a (λ x there. Contains-append_left (datagrams_in run.first) (datagrams_in run.second) x there) one.sent)
          (more_sent (datagrams_in run.second) (datagrams_in run.first ++ datagrams_in run.second) b (λ x there. Contains-append_right (datagrams_in run.first) (datagrams_in run.second) x there) rest.sent));
      emitted = rest.emitted ∙ (ap (last_after (emissions_in b)) one.emitted ∙ (sym (after_both (emissions_in a) (emissions_in b) s.thing.last) ∙ ap (λ (l : List Emission). last_after l s.thing.last) (sym (emissions_both a b))));
    }

pub deeds_are_seen : DeedsAreSeen
deeds_are_seen site exchanges epoch took seen s run = run_seen site took (start site exchanges epoch) s seen run
