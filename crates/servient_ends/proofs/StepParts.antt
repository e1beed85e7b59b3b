-- The effect of each move of the machine on the parts of it that the world speaks of: the moment, the CoAP server and
-- the Things.
use Rattle.std.proofs.Common.{◌≡◌, ◌∙◌, ◌<◌, ◌≤◌, ◌^◌, ℕ, Bool, List, [], ◌∷◌, ◌++◌, map, length, inl, inr, refl, sym, ap, subst}
use Rattle.std.specs.Prelude.{Option, Some, None}
use Rattle.std.proofs.lemmas.Option.{same_Some}
use Rattle.std.proofs.lemmas.List.{map-append}
use Rattle.servient_base.specs.Moves.{Becomes, Each, Until, is_done, goes_on}
use Rattle.coap_msg.specs.declared.endpoint.Endpoint.{Endpoint}
use Rattle.thing_ops.specs.declared.outcome.Outcome.{Outcome}
use Rattle.thing_ops.specs.Requests.{RequestSeen}
use Rattle.coap_opts.specs.Reading.{AskSeen}
use Rattle.coap_bind.specs.declared.server.Server.{Server}
use Rattle.coap_bind.specs.Server.{Heard, ignored, answered_at_once, asked, Hears, Answers, with_emitted}
use Rattle.coap_bind.specs.Treating.{Acted, ignores, answers, acts}
use Rattle.http_bind.specs.Streams.{HttpReply, Streams, Taken, asks, wants_continue, is_faulty, interrupts, oldest_for, oldest_late, IsDry, NoneIdle}
use Rattle.thing_site.specs.Site.{Placed, events_of}
use Rattle.thing_state.specs.State.{State as ThingState, Emission, last_of}
use Rattle.thing_core.specs.Thing.{Done}
use Rattle.servient_outside.specs.declared.net.What.{What}
use Rattle.servient_outside.specs.declared.net.What.TheVariants as what
use Rattle.servient_core.specs.Keeping.{IsSendable, AnswersLateWaits, ClosesAllIdle}
use Rattle.servient_trace.specs.Trace.{Sighting}
use Rattle.servient_core.specs.Machine.{Site, State, Move, SendsIfAny, RepliesToWait, AnswersWait, AnswersLateWait, Delivers, DeliversEach, observed_target, PerformsByHttp, AnswersDatagram, HearsDatagram, AnswersTaken, TakesNextMessage, ClosesIdle, PollsAndDelivers, Follows}
use Rattle.servient_core.proofs.OutcomeLaws.{acts_sendable}
use Rattle.servient_core.proofs.PathLaws.{asked_short}
use Rattle.servient_world.specs.World.{Receives, too_long, treated}
use Rattle.servient_ends.specs.Ends.{along, act_on, sent_on, emitted_on, act_of, back_of, emitted_by_datagram, emitted_by_message, emitted_by_next, emitted_by_polls, emitted_by}
use Rattle.servient_ends.proofs.ThingLaws.{IsCounted, few_ids, Emitted, emitted_then, acts_emit, polls_emit}
use Rattle.servient_ends.proofs.TargetLaws.{observed_there}
use Rattle.servient_ends.proofs.KnownObservers.{ActsOnTarget}

-- ---- moves that leave these parts

pub record Leaves (s t : State) : Type 0 where
  pub moment : t.moment ≡ s.moment
  pub coap : t.coap ≡ s.coap
  pub thing : t.thing ≡ s.thing

leaves_then : (s m t : State) → Leaves s m → Leaves m t → Leaves s t
leaves_then s m t a b = record { moment = b.moment ∙ a.moment; coap = b.coap ∙ a.coap; thing = b.thing ∙ a.thing }

leaves_as : (s u t : State) (shown seen : List Sighting) → u.moment ≡ s.moment → u.coap ≡ s.coap → u.thing ≡ s.thing → Becomes u shown seen t → Leaves s t
leaves_as s u t shown seen moment coap thing b = record {
  moment = ap (λ (x : State). x.moment) b.next ∙ moment;
  coap = ap (λ (x : State). x.coap) b.next ∙ coap;
  thing = ap (λ (x : State). x.thing) b.next ∙ thing;
}

leaves_http : (s t : State) (h : Streams) (seen : List Sighting) → Becomes (record s { http = h }) [] seen t → Leaves s t
leaves_http s t h seen b = leaves_as s (record s { http = h }) t [] seen refl refl refl b

leaves_shown : (s t : State) (shown seen : List Sighting) → Becomes s shown seen t → Leaves s t
leaves_shown s t shown seen b = leaves_as s s t shown seen refl refl refl b

leaves_until : (P : Move) (IsDone : State → Type 0) → ((s t : State) (seen : List Sighting) → P s seen t → Leaves s t) → (s t : State) (seen : List Sighting) → Until P IsDone s seen t → Leaves s t
leaves_until P IsDone each s t seen (is_done s' seen' t' done stays) = leaves_shown s t [] seen stays
leaves_until P IsDone each s t seen (goes_on s' mid t' seen' first second one more whole) =
    leaves_then s mid t (each s mid first one) (leaves_until P IsDone each mid t second more)

wait_leaves : (c : ℕ) (text : Option (List ℕ)) (s t : State) (seen : List Sighting) → RepliesToWait c text s seen t → Leaves s t
wait_leaves c text s t seen is = leaves_then s is.1.mid t (leaves_http s is.1.mid is.1.one.0 is.1.first is.1.one.2) (leaves_shown is.1.mid t _ is.1.second is.1.other)

pub late_leave : (s t : State) (seen : List Sighting) → AnswersLateWaits s seen t → Leaves s t
late_leave s t seen is =
    leaves_until AnswersLateWait (λ (x : State). oldest_late x.moment x.http.waits ≡ None) (λ x y shown move. wait_leaves move.0 None x y shown move.2) s t seen is

closes_leave : (s t : State) (seen : List Sighting) → ClosesIdle s seen t → Leaves s t
closes_leave s t seen is = leaves_then s is.1.mid t (leaves_http s is.1.mid is.1.one.0 is.1.first is.1.one.2) (leaves_shown is.1.mid t _ is.1.second is.1.other)

pub idle_leave : (s t : State) (seen : List Sighting) → ClosesAllIdle s seen t → Leaves s t
idle_leave s t seen is = leaves_until ClosesIdle (λ (x : State). NoneIdle x.moment x.http) closes_leave s t seen is

-- ---- deliveries

-- the server after new values of these targets
abbrev pub with_targets : List ℕ → Server → Server
with_targets [] c = c
with_targets (target ∷ targets) c = with_targets targets (with_emitted target c)

pub targets_both : (a b : List ℕ) (c : Server) → with_targets (a ++ b) c ≡ with_targets b (with_targets a c)
targets_both [] b c = refl
targets_both (target ∷ a) b c = targets_both a b (with_emitted target c)

record Delivered (targets : List ℕ) (s t : State) : Type 0 where
  moment : t.moment ≡ s.moment
  coap : t.coap ≡ with_targets targets s.coap
  thing : t.thing ≡ s.thing

delivers_one : (target : ℕ) (s t : State) (seen : List Sighting) → Delivers target s seen t → Delivered (target ∷ []) s t
delivers_one target s t seen both =
    let waited = leaves_until (AnswersWait target) (λ (x : State). oldest_for target x.http.waits ≡ None)
    (λ x y shown move. wait_leaves move.0 (last_of target x.thing.last) x y shown move.2) s both.mid both.first both.one in
    let on = both.other in
    record {
      moment = ap (λ (x : State). x.moment) on.2.next ∙ waited.moment;
      coap = ap (λ (x : State). x.coap) on.2.next ∙ (on.1 ∙ ap (λ (x : Server). with_emitted target x) waited.coap);
      thing = ap (λ (x : State). x.thing) on.2.next ∙ waited.thing;
    }

delivers_each : (targets : List ℕ) (s t : State) (seen : List Sighting) → Each Delivers targets s seen t → Delivered targets s t
delivers_each [] s t seen stays = record { moment = ap (λ (x : State). x.moment) stays.next; coap = ap (λ (x : State). x.coap) stays.next; thing = ap (λ (x : State). x.thing) stays.next }
delivers_each (target ∷ targets) s t seen both =
    let one = delivers_one target s both.mid both.first both.one in
    let rest = delivers_each targets both.mid t both.second both.other in
    record {
      moment = rest.moment ∙ one.moment;
      coap = rest.coap ∙ ap (λ (x : Server). with_targets targets x) one.coap;
      thing = rest.thing ∙ one.thing;
    }

-- ---- what is emitted, and then delivered

abbrev pub targets_in : List Emission → List ℕ
targets_in es = map (λ e. e.target) es

-- These were emitted and delivered, and nothing else was done to these parts.
pub record Happened (es : List Emission) (s t : State) : Type 0 where
  pub moment : t.moment ≡ s.moment
  pub coap : t.coap ≡ with_targets (targets_in es) s.coap
  pub thing : Emitted es s.thing t.thing

happened_left : (s t : State) → Leaves s t → Happened [] s t
happened_left s t l = record { moment = l.moment; coap = l.coap; thing = record { last = ap (λ (x : ThingState). x.last) l.thing; counted = λ c. subst IsCounted (sym l.thing) c } }

happened_then : (a b : List Emission) (s m t : State) → Happened a s m → Happened b m t → Happened (a ++ b) s t
happened_then a b s m t one two = record {
  moment = two.moment ∙ one.moment;
  coap = two.coap ∙ (ap (λ (x : Server). with_targets (targets_in b) x) one.coap
      ∙ (sym (targets_both (targets_in a) (targets_in b) s.coap) ∙ ap (λ (ts : List ℕ). with_targets ts s.coap) (sym (map-append (λ (e : Emission). e.target) a b))));
  thing = emitted_then a b s.thing m.thing t.thing one.thing two.thing;
}

-- emitted by a first move, which leaves the CoAP server; then something is left, and then all is delivered
happened_delivered : (es : List Emission) (s m u t : State) (seen : List Sighting) → m.moment ≡ s.moment → m.coap ≡ s.coap → Emitted es s.thing m.thing → Leaves m u
    → DeliversEach es u seen t → Happened es s t
happened_delivered es s m u t seen moment coap emitted left delivers =
    let d = delivers_each (targets_in es) u t seen delivers in
    record {
      moment = d.moment ∙ (left.moment ∙ moment);
      coap = d.coap ∙ ap (λ (x : Server). with_targets (targets_in es) x) (left.coap ∙ coap);
      thing = subst (λ (x : ThingState). Emitted es s.thing x) (sym (d.thing ∙ left.thing)) emitted;
    }

-- ---- HTTP, polls and other events

any_leaves : (c : ℕ) (reply : Option HttpReply) (s t : State) (seen : List Sighting) → SendsIfAny c reply s seen t → Leaves s t
any_leaves c None s t seen stays = leaves_shown s t [] seen stays
any_leaves c (Some reply) s t seen does = leaves_shown s t _ seen does

-- the effect of a request by HTTP on these parts
record Performed (es : List Emission) (s t : State) : Type 0 where
  moment : t.moment ≡ s.moment
  coap : t.coap ≡ s.coap
  thing : Emitted es s.thing t.thing

performed_by_http : (site : Site) (q : RequestSeen) (done : Done) (s t : State) (seen : List Sighting) → PerformsByHttp site q done s seen t → Performed done.emissions s t
performed_by_http site q done s t seen (inl directory) =
    let next = directory.1.3.next in
    let left : Leaves s t = leaves_as s _ t [] seen refl refl refl directory.1.3 in
    subst (λ (es : List Emission). Performed es s t) (sym directory.1.2) (record { moment = left.moment; coap = left.coap; thing = (happened_left s t left).thing })
performed_by_http site q done s t seen (inr things) =
    let next = things.1.3.next in
    record {
      moment = ap (λ (x : State). x.moment) next;
      coap = ap (λ (x : State). x.coap) next;
      thing = subst (λ (x : ThingState). Emitted done.emissions s.thing x) (sym (ap (λ (x : State). x.thing) next)) (acts_emit site q done s.thing things.1.1 things.1.0 things.1.2);
    }

message_happened : (site : Site) (c : ℕ) (taken : Taken) (s t : State) (seen : List Sighting) (r : AnswersTaken site c taken s seen t) → Happened (emitted_by_message site c taken s seen t r) s t
message_happened site c (asks q) s t seen r =
    let one = r.1 in
    let performed = performed_by_http site q r.0 s one.mid one.first one.one in
    let two = one.other in
    let three = two.one.1 in
    happened_delivered r.0.emissions s one.mid two.mid t two.second performed.moment performed.coap performed.thing
    (leaves_then one.mid three.mid two.mid (leaves_http one.mid three.mid three.one.0 three.first three.one.2) (any_leaves c two.one.0 three.mid two.mid three.second three.other)) two.other
message_happened site c wants_continue s t seen r =
    happened_left s t (leaves_then s r.1.mid t (leaves_http s r.1.mid r.1.one.0 r.1.first r.1.one.2) (leaves_shown r.1.mid t _ r.1.second r.1.other))
message_happened site c (is_faulty status) s t seen r =
    happened_left s t (leaves_then s r.1.mid t (leaves_http s r.1.mid r.1.one.0 r.1.first r.1.one.2) (leaves_shown r.1.mid t _ r.1.second r.1.other))
message_happened site c interrupts s t seen r = happened_left s t (leaves_shown s t _ seen r)

next_happened : (site : Site) (c : ℕ) (s t : State) (seen : List Sighting) (r : TakesNextMessage site c s seen t) → Happened (emitted_by_next site c s seen t r) s t
next_happened site c s t seen r =
    happened_then [] (emitted_by_next site c s seen t r) s r.1.mid t (happened_left s r.1.mid (leaves_http s r.1.mid r.1.one.0 r.1.first r.1.one.2))
    (message_happened site c r.0 r.1.mid t r.1.second r.1.other)

messages_happened : (site : Site) (c : ℕ) (s t : State) (seen : List Sighting) (r : Until (TakesNextMessage site c) (λ x. IsDry c x.http) s seen t)
    → Happened (along (TakesNextMessage site c) (λ x. IsDry c x.http) (emitted_by_next site c) s seen t r) s t
messages_happened site c s t seen (is_done s' seen' t' done stays) = happened_left s t (leaves_shown s t [] seen stays)
messages_happened site c s t seen (goes_on s' mid t' seen' first second one more whole) =
    happened_then (emitted_by_next site c s first mid one) (along (TakesNextMessage site c) (λ x. IsDry c x.http) (emitted_by_next site c) mid second t more) s mid t
    (next_happened site c s mid first one) (messages_happened site c mid t second more)

poll_happened : (p : Placed) (s t : State) (seen : List Sighting) (r : PollsAndDelivers p s seen t) → Happened r.0 s t
poll_happened p s t seen r =
    let one = r.1.one in
    happened_delivered r.0 s r.1.mid r.1.mid t r.1.second (ap (λ (x : State). x.moment) one.3.next) (ap (λ (x : State). x.coap) one.3.next)
    (subst (λ (x : ThingState). Emitted r.0 s.thing x) (sym (ap (λ (x : State). x.thing) one.3.next)) (polls_emit p r.0 s.thing one.1 one.0 one.2))
    (record { moment = refl; coap = refl; thing = refl }) r.1.other

polls_happened : (events : List Placed) (s t : State) (seen : List Sighting) (r : Each PollsAndDelivers events s seen t) → Happened (emitted_by_polls events s seen t r) s t
polls_happened [] s t seen stays = happened_left s t (leaves_shown s t [] seen stays)
polls_happened (p ∷ events) s t seen r =
    happened_then r.one.0 (emitted_by_polls events r.mid r.second t r.other) s r.mid t (poll_happened p s r.mid r.first r.one) (polls_happened events r.mid t r.second r.other)

abbrev pub IsNoDatagram : What → Type 0
IsNoDatagram (what.Datagram from size) = ⊥
IsNoDatagram w = Unit {0}

-- An event that is no datagram leaves the CoAP server but for its emissions.
pub other_happened : (site : Site) (w : What) (bytes : List ℕ) (s t : State) (seen : List Sighting) → IsNoDatagram w → (f : Follows site w bytes s seen t)
    → Happened (emitted_by site w bytes s seen t f) s t
other_happened site (what.Opened c) bytes s t seen plain f = happened_left s t (leaves_http s t f.0 seen f.2)
other_happened site (what.Bytes c size) bytes s t seen plain f =
    happened_then [] _ s f.mid t (happened_left s f.mid (leaves_http s f.mid f.one.0 f.first f.one.2)) (messages_happened site c f.mid t f.second f.other)
other_happened site (what.Ended c) bytes s t seen plain f = happened_left s t (leaves_http s t f.0 seen f.2)
other_happened site (what.Datagram from size) bytes s t seen plain f = absurd plain
other_happened site what.Tick bytes s t seen plain f = polls_happened (events_of site.things) s t seen f
other_happened site what.Stop bytes s t seen plain f = happened_left s t (leaves_shown s t [] seen f)

-- ---- a datagram

-- A datagram had this effect: the server received it, with this act and this sent back, and then its emissions were
-- delivered.
pub record IsHeard (site : Site) (from : Endpoint) (bytes : List ℕ) (act : Option Acted) (back : List (List ℕ)) (es : List Emission) (s t : State) : Type 0 where
  pub after : Server
  pub receives : Receives from bytes s.moment act back s.coap after
  pub coap : t.coap ≡ with_targets (targets_in es) after
  pub moment : t.moment ≡ s.moment
  pub thing : Emitted es s.thing t.thing
  pub target : ActsOnTarget site act

nothing_emitted : (s t : State) → t.thing ≡ s.thing → Emitted [] s.thing t.thing
nothing_emitted s t same = record { last = ap (λ (x : ThingState). x.last) same; counted = λ c. subst IsCounted (sym same) c }

no_target : (site : Site) → ActsOnTarget site None
no_target site = λ a n none target. absurd (let apart : None ≡ Some a = none in cc)

one_target : (site : Site) (ask : AskSeen) (o : Outcome) (thing : ThingState) → ActsOnTarget site (Some (record { what = ask; outcome = o; target = observed_target site thing ask }))
one_target site ask o thing = λ a n is target.
    observed_there site thing ask n (ap (λ (x : Acted). x.target) (same_Some (record { what = ask; outcome = o; target = observed_target site thing ask }) a is) ∙ target)

on_heard : (site : Site) (from : Endpoint) (bytes : List ℕ) (h : Heard) (s : State) (c : Server) (m t : State) (seen : List Sighting) → length bytes ≤ 1280
    → Hears from bytes s.moment h s.coap c → m ≡ record s { coap = c } → IsCounted s.thing → (r : AnswersDatagram site from h m seen t)
    → IsHeard site from bytes (act_on site from h m seen t r) (sent_on site from h m seen t r) (emitted_on site from h m seen t r) s t
on_heard site from bytes ignored s c m t seen short hears is counted r = record {
  after = c;
  receives = treated short (ignores hears refl refl);
  coap = ap (λ (x : State). x.coap) r.next ∙ ap (λ (x : State). x.coap) is;
  moment = ap (λ (x : State). x.moment) r.next ∙ ap (λ (x : State). x.moment) is;
  thing = nothing_emitted s t (ap (λ (x : State). x.thing) r.next ∙ ap (λ (x : State). x.thing) is);
  target = no_target site;
}
on_heard site from bytes (answered_at_once reply) s c m t seen short hears is counted r = record {
  after = c;
  receives = treated short (answers reply hears refl refl);
  coap = ap (λ (x : State). x.coap) r.next ∙ ap (λ (x : State). x.coap) is;
  moment = ap (λ (x : State). x.moment) r.next ∙ ap (λ (x : State). x.moment) is;
  thing = nothing_emitted s t (ap (λ (x : State). x.thing) r.next ∙ ap (λ (x : State). x.thing) is);
  target = no_target site;
}
on_heard site from bytes (asked ask request) s c m t seen short hears is counted r =
    let one = r.1 in
    let performed = one.one in
    let two = one.other in
    let three = two.one.1 in
    let answered = three.one in
    let thing : m.thing ≡ s.thing = ap (λ (x : State). x.thing) is in
    let few : m.thing.next_invocation < 2 ^ 64 = few_ids m.thing (subst IsCounted (sym thing) counted) in
    let sendable : IsSendable r.0.outcome = acts_sendable site ask.request r.0 m.thing performed.1 performed.0
    (asked_short from bytes s.moment (asked ask request) s.coap c ask request hears refl) few performed.2 in
    let coap_performed : one.mid.coap ≡ c = ap (λ (x : State). x.coap) performed.3.next ∙ ap (λ (x : State). x.coap) is in
    let target : Option ℕ = observed_target site one.mid.thing ask in
    let answer : Answers request r.0.outcome target two.one.0 c answered.0
    = subst (λ (x : Server). Answers request r.0.outcome target two.one.0 x answered.0) coap_performed answered.1 in
    let made : Acted = record { what = ask; outcome = r.0.outcome; target = target } in
    let d = delivers_each (targets_in r.0.emissions) two.mid t two.second two.other in
    let coap_two : two.mid.coap ≡ answered.0 = ap (λ (x : State). x.coap) three.other.next ∙ ap (λ (x : State). x.coap) answered.2.next in
    let thing_two : two.mid.thing ≡ performed.0
    = ap (λ (x : State). x.thing) three.other.next ∙ (ap (λ (x : State). x.thing) answered.2.next ∙ ap (λ (x : State). x.thing) performed.3.next) in
    let moment_two : two.mid.moment ≡ s.moment
    = ap (λ (x : State). x.moment) three.other.next ∙ (ap (λ (x : State). x.moment) answered.2.next ∙ (ap (λ (x : State). x.moment) performed.3.next ∙ ap (λ (x : State). x.moment) is)) in
    record {
      after = answered.0;
      receives = treated short (acts made request two.one.0 c hears sendable.0 sendable.1 answer refl refl);
      coap = d.coap ∙ ap (λ (x : Server). with_targets (targets_in r.0.emissions) x) coap_two;
      moment = d.moment ∙ moment_two;
      thing = subst (λ (x : ThingState). Emitted r.0.emissions s.thing x) (sym (d.thing ∙ thing_two))
          (subst (λ (x : ThingState). Emitted r.0.emissions x performed.0) thing (acts_emit site ask.request r.0 m.thing performed.1 performed.0 performed.2));
      target = one_target site ask r.0.outcome one.mid.thing;
    }

-- A datagram is received by the CoAP server as the world says, and then what it emits is delivered.
pub datagram_heard : (site : Site) (from : Endpoint) (bytes : List ℕ) (s t : State) (seen : List Sighting) → IsCounted s.thing → (r : HearsDatagram site from bytes s seen t)
    → IsHeard site from bytes (act_of site from bytes s seen t r) (back_of site from bytes s seen t r) (emitted_by_datagram site from bytes s seen t r) s t
datagram_heard site from bytes s t seen counted (inl long) = record {
  after = s.coap;
  receives = too_long long.0 refl refl refl;
  coap = ap (λ (x : State). x.coap) long.1.next;
  moment = ap (λ (x : State). x.moment) long.1.next;
  thing = nothing_emitted s t (ap (λ (x : State). x.thing) long.1.next);
  target = no_target site;
}
datagram_heard site from bytes s t seen counted (inr h) =
    let both = h.1.1 in
    let on = both.one in
    on_heard site from bytes h.1.0 s on.0 both.mid t both.second h.0 on.1 on.2.next counted both.other
