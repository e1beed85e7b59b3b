-- One event, as the CoAP server and the last values of the Things see it: what it heard, what was emitted, and what its
-- end sent.
use Rattle.std.proofs.Common.{◌≡◌, ◌∙◌, ℕ, List, [], ◌∷◌, inl, inr, refl, sym, ap, subst}
use Rattle.std.specs.Prelude.{Option, Some, None}
use Rattle.servient_base.specs.Moves.{Each, Until, is_done, goes_on}
use Rattle.coap_msg.specs.declared.endpoint.Endpoint.{Endpoint}
use Rattle.thing_ops.specs.declared.outcome.Outcome.{Outcome}
use Rattle.thing_state.specs.State.{State as ThingState, Emission, last_of, last_after}
use Rattle.coap_observe.specs.declared.notice.Notice.{Notice}
use Rattle.coap_opts.specs.Reading.{AskSeen}
use Rattle.coap_bind.specs.declared.pending.PendingReply.{PendingReply}
use Rattle.coap_bind.specs.declared.server.Server.{Server}
use Rattle.coap_bind.specs.Server.{Heard, ignored, answered_at_once, asked, Hears, Answers, with_emitted, SendsNext}
use Rattle.http_bind.specs.Streams.{oldest_for}
use Rattle.servient_outside.specs.declared.net.What.{What}
use Rattle.servient_outside.specs.declared.net.What.TheVariants as what
use Rattle.servient_trace.specs.Trace.{Sighting}
use Rattle.servient_core.specs.Machine.{Site, State, RepliesToWait, AnswersWait, Delivers, AnswersDatagram, HearsDatagram, SendsNotification, NothingIsDue, EndsEvent, Follows}
use Rattle.servient_ends.specs.Ends.{along, emitted_on, emitted_by_datagram, emitted_by, notifications_in}
use Rattle.servient_ends.proofs.ThingLaws.{acts_emit}
use Rattle.servient_ends.proofs.StepParts.{Leaves, with_targets, targets_in, Happened, other_happened, late_leave, idle_leave}
use Rattle.neighbour_laws.specs.Converging.{Deed, registered_in, registered_on, registered_of, registrations_by}

-- ---- deliveries

pub record Delivered (targets : List ℕ) (s t : State) : Type 0 where
  pub moment : t.moment ≡ s.moment
  pub coap : t.coap ≡ with_targets targets s.coap
  pub thing : t.thing ≡ s.thing

same_state : (s t : State) → t ≡ s → Delivered [] s t
same_state s t e = record { moment = ap (λ (x : State). x.moment) e; coap = ap (λ (x : State). x.coap) e; thing = ap (λ (x : State). x.thing) e }

-- a reply to one that waits leaves these parts
wait_same : (c : ℕ) (text : Option (List ℕ)) (s t : State) (seen : List Sighting) → RepliesToWait c text s seen t → Delivered [] s t
wait_same c text s t seen r =
    let next = r.1.other.next ∙ r.1.one.2.next in
    record { moment = ap (λ (x : State). x.moment) next; coap = ap (λ (x : State). x.coap) next; thing = ap (λ (x : State). x.thing) next }

waits_same : (target : ℕ) (s t : State) (seen : List Sighting) → Until (AnswersWait target) (λ (x : State). oldest_for target x.http.waits ≡ None) s seen t → Delivered [] s t
waits_same target s t seen (is_done s' seen' t' done stays) = same_state s t stays.next
waits_same target s t seen (goes_on s' m t' seen' a b one more whole) =
    let first = wait_same one.0 (last_of target s.thing.last) s m a one.2 in
    let rest = waits_same target m t b more in
    record { moment = rest.moment ∙ first.moment; coap = rest.coap ∙ first.coap; thing = rest.thing ∙ first.thing }

delivered_each : (targets : List ℕ) (s t : State) (seen : List Sighting) → Each Delivers targets s seen t → Delivered targets s t
delivered_each [] s t seen stays = same_state s t stays.next
delivered_each (target ∷ targets) s t seen both =
    let waited = waits_same target s both.one.mid both.one.first both.one.one in
    let on = both.one.other in
    let rest = delivered_each targets both.mid t both.second both.other in
    record {
      moment = rest.moment ∙ (ap (λ (x : State). x.moment) on.2.next ∙ waited.moment);
      coap = rest.coap ∙ ap (λ (x : Server). with_targets targets x) (ap (λ (x : State). x.coap) on.2.next ∙ (on.1 ∙ ap (λ (x : Server). with_emitted target x) waited.coap));
      thing = rest.thing ∙ (ap (λ (x : State). x.thing) on.2.next ∙ waited.thing);
    }

-- ---- a datagram

-- The effect of a datagram on the CoAP server, before what it emitted is delivered, and the registration that it made.
pub data Hearing (from : Endpoint) (bytes : List ℕ) (now : ℕ) (deeds : List Deed) (s t : Server) : Type 0 where
  is_passed : t ≡ s → deeds ≡ [] → Hearing from bytes now deeds s t
  is_heard : (h : Heard) → Hears from bytes now h s t → deeds ≡ [] → Hearing from bytes now deeds s t
  is_answered : (ask : AskSeen) (pending : PendingReply) (o : Outcome) (target : Option ℕ) (reply : List ℕ) (u : Server) → Hears from bytes now (asked ask pending) s u
      → (a : Answers pending o target reply u t) → deeds ≡ registered_in pending o target reply u t a → Hearing from bytes now deeds s t

-- The course of an event up to its end.
pub record Course (Hearing : Server → Server → Type 0) (es : List Emission) (s t : State) : Type 0 where
  pub after : Server
  pub hearing : Hearing s.coap after
  pub coap : t.coap ≡ with_targets (targets_in es) after
  pub moment : t.moment ≡ s.moment
  pub last : t.thing.last ≡ last_after es s.thing.last

answered_course : (site : Site) (from : Endpoint) (bytes : List ℕ) (h : Heard) (s : State) (c : Server) (m t : State) (seen : List Sighting) → Hears from bytes s.moment h s.coap c
    → m ≡ record s { coap = c } → (r : AnswersDatagram site from h m seen t)
    → Course (Hearing from bytes s.moment (registered_on site from h m seen t r)) (emitted_on site from h m seen t r) s t
answered_course site from bytes ignored s c m t seen hears is r = record {
  after = c;
  hearing = is_heard ignored hears refl;
  coap = ap (λ (x : State). x.coap) (r.next ∙ is);
  moment = ap (λ (x : State). x.moment) (r.next ∙ is);
  last = ap (λ (x : State). x.thing.last) (r.next ∙ is);
}
answered_course site from bytes (answered_at_once reply) s c m t seen hears is r = record {
  after = c;
  hearing = is_heard (answered_at_once reply) hears refl;
  coap = ap (λ (x : State). x.coap) (r.next ∙ is);
  moment = ap (λ (x : State). x.moment) (r.next ∙ is);
  last = ap (λ (x : State). x.thing.last) (r.next ∙ is);
}
answered_course site from bytes (asked ask pending) s c m t seen hears is r =
    let performed = r.1.one in
    let two = r.1.other in
    let three = two.one.1 in
    let answered = three.one in
    let there : r.1.mid.coap ≡ c = ap (λ (x : State). x.coap) (performed.3.next ∙ ap (λ (x : State). record x { thing = performed.0 }) is) in
    let d = delivered_each (targets_in r.0.emissions) two.mid t two.second two.other in
    let after_two : two.mid ≡ record r.1.mid { coap = answered.0 } = three.other.next ∙ answered.2.next in
    record {
      after = answered.0;
      hearing = is_answered ask pending r.0.outcome _ two.one.0 r.1.mid.coap
          (subst (λ (x : Server). Hears from bytes s.moment (asked ask pending) s.coap x) (sym there) hears) answered.1 refl;
      coap = d.coap ∙ ap (λ (x : Server). with_targets (targets_in r.0.emissions) x) (ap (λ (x : State). x.coap) after_two);
      moment = d.moment ∙ (ap (λ (x : State). x.moment) after_two ∙ (ap (λ (x : State). x.moment) performed.3.next ∙ ap (λ (x : State). x.moment) is));
      last = ap (λ (x : ThingState). x.last) d.thing ∙ (ap (λ (x : State). x.thing.last) after_two ∙ (ap (λ (x : State). x.thing.last) performed.3.next
          ∙ ((acts_emit site ask.request r.0 m.thing performed.1 performed.0 performed.2).last ∙ ap (λ (x : State). last_after r.0.emissions x.thing.last) is)));
    }

datagram_course : (site : Site) (from : Endpoint) (bytes : List ℕ) (s t : State) (seen : List Sighting) → (r : HearsDatagram site from bytes s seen t)
    → Course (Hearing from bytes s.moment (registered_of site from bytes s seen t r)) (emitted_by_datagram site from bytes s seen t r) s t
datagram_course site from bytes s t seen (inl long) = record {
  after = s.coap;
  hearing = is_passed refl refl;
  coap = ap (λ (x : State). x.coap) long.1.next;
  moment = ap (λ (x : State). x.moment) long.1.next;
  last = ap (λ (x : State). x.thing.last) long.1.next;
}
datagram_course site from bytes s t seen (inr h) =
    let both = h.1.1 in
    answered_course site from bytes h.1.0 s both.one.0 both.mid t both.second both.one.1 both.one.2.next both.other

-- ---- any event

abbrev pub HearingOf : What → List ℕ → ℕ → List Deed → Server → Server → Type 0
HearingOf (what.Datagram from size) bytes now deeds s t = Hearing from bytes now deeds s t
HearingOf (what.Opened c) bytes now deeds s t = (t ≡ s) × (deeds ≡ [])
HearingOf (what.Bytes c size) bytes now deeds s t = (t ≡ s) × (deeds ≡ [])
HearingOf (what.Ended c) bytes now deeds s t = (t ≡ s) × (deeds ≡ [])
HearingOf what.Tick bytes now deeds s t = (t ≡ s) × (deeds ≡ [])
HearingOf what.Stop bytes now deeds s t = (t ≡ s) × (deeds ≡ [])

pub happened_course : (es : List Emission) (s t : State) → Happened es s t → Course (λ (a b : Server). (b ≡ a) × (◌≡◌ {A = List Deed} [] [])) es s t
happened_course es s t h = record { after = s.coap; hearing = (refl, refl); coap = h.coap; moment = h.moment; last = h.thing.last }

pub follows_course : (site : Site) (w : What) (bytes : List ℕ) (s t : State) (seen : List Sighting) → (f : Follows site w bytes s seen t)
    → Course (HearingOf w bytes s.moment (registrations_by site w bytes s seen t f)) (emitted_by site w bytes s seen t f) s t
follows_course site (what.Datagram from size) bytes s t seen f = datagram_course site from bytes s t seen f
follows_course site (what.Opened c) bytes s t seen f = happened_course _ s t (other_happened site (what.Opened c) bytes s t seen tt f)
follows_course site (what.Bytes c size) bytes s t seen f = happened_course _ s t (other_happened site (what.Bytes c size) bytes s t seen tt f)
follows_course site (what.Ended c) bytes s t seen f = happened_course _ s t (other_happened site (what.Ended c) bytes s t seen tt f)
follows_course site what.Tick bytes s t seen f = happened_course _ s t (other_happened site what.Tick bytes s t seen tt f)
follows_course site what.Stop bytes s t seen f = happened_course _ s t (other_happened site what.Stop bytes s t seen tt f)

-- ---- the end of an event

-- these notifications are sent, one after another
abbrev pub SendsEach : ℕ → List Notice → Server → Server → Type 0
SendsEach now [] s t = t ≡ s
SendsEach now (n ∷ ns) s t = (m : Server) × SendsNext now (Some n) s m × SendsEach now ns m t

pub record Ends (ns : List Notice) (s t : State) : Type 0 where
  pub between : Server
  pub sends : SendsEach s.moment ns s.coap between
  pub last : SendsNext s.moment None between t.coap
  pub moment : t.moment ≡ s.moment
  pub thing : t.thing ≡ s.thing

record Noticed (ns : List Notice) (s t : State) : Type 0 where
  sends : SendsEach s.moment ns s.coap t.coap
  moment : t.moment ≡ s.moment
  thing : t.thing ≡ s.thing

notices_sent : (s t : State) (seen : List Sighting) (u : Until SendsNotification NothingIsDue s seen t) → Noticed (along SendsNotification NothingIsDue (λ x shown y sends. sends.0 ∷ []) s seen t u) s t
notices_sent s t seen (is_done s' seen' t' done stays) =
    record { sends = ap (λ (x : State). x.coap) stays.next; moment = ap (λ (x : State). x.moment) stays.next; thing = ap (λ (x : State). x.thing) stays.next }
notices_sent s t seen (goes_on s' m t' seen' a b one more whole) =
    let on = one.1.one in
    let next : m ≡ record s { coap = on.0 } = one.1.other.next ∙ on.2.next in
    let rest = notices_sent m t b more in
    let moment : m.moment ≡ s.moment = ap (λ (x : State). x.moment) next in
    record {
      sends = (
        m.coap,
        subst (λ (x : Server). SendsNext s.moment (Some one.0) s.coap x) (sym (ap (λ (x : State). x.coap) next)) on.1,
        subst (λ (x : ℕ). SendsEach x (along SendsNotification NothingIsDue (λ x shown y sends. sends.0 ∷ []) m b t more) m.coap t.coap) moment rest.sends,
      );
      moment = rest.moment ∙ moment;
      thing = rest.thing ∙ ap (λ (x : State). x.thing) next;
    }

pub event_ends : (s t : State) (seen : List Sighting) (ends : EndsEvent s seen t) → Ends (notifications_in s seen t ends) s t
event_ends s t seen ends =
    let n = notices_sent s ends.one.mid ends.one.first ends.one.one in
    let on = ends.one.other in
    let left : Leaves ends.mid ends.other.mid = late_leave ends.mid ends.other.mid ends.other.first ends.other.one in
    let idle : Leaves ends.other.mid t = idle_leave ends.other.mid t ends.other.second ends.other.other in
    let coap : t.coap ≡ on.0 = idle.coap ∙ (left.coap ∙ ap (λ (y : State). y.coap) on.2.next) in
    record {
      between = ends.one.mid.coap;
      sends = n.sends;
      last = subst (λ (x : ℕ). SendsNext x None ends.one.mid.coap t.coap) n.moment (subst (λ (y : Server). SendsNext ends.one.mid.moment None ends.one.mid.coap y) (sym coap) on.1);
      moment = idle.moment ∙ (left.moment ∙ (ap (λ (y : State). y.moment) on.2.next ∙ n.moment));
      thing = idle.thing ∙ (left.thing ∙ (ap (λ (y : State). y.thing) on.2.next ∙ n.thing));
    }
