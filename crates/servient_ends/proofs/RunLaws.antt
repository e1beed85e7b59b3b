-- Turns at the servient make a run of its machine, whose trace has the datagrams that the world notes as sent.
use Rattle.std.proofs.Common.{◌≡◌, ◌∙◌, ℕ, Bool, true, false, cond, List, [], ◌∷◌, ◌++◌, map, length, take, max, ◌+◌, refl, sym, ap, subst, append_assoc}
use Rattle.std.specs.Prelude.{Option, Some, None, slice_get, option_map}
use Rattle.std.specs.Option.{option_to_list}
use Rattle.std.proofs.lemmas.List.{append-nil}
use Rattle.coap_msg.specs.declared.endpoint.Endpoint.{Endpoint}
use Rattle.coap_msg.specs.Endpoints.{is_same_endpoint}
use Rattle.coap_client.specs.Asking.{Asking}
use Rattle.coap_observe.specs.declared.notice.Notice.{Notice}
use Rattle.thing_state.specs.State.{State as ThingState}
use Rattle.servient_outside.specs.declared.net.What.{What}
use Rattle.servient_outside.specs.declared.net.What.TheVariants as what
use Rattle.servient_outside.specs.declared.net.EventWithBytes.{EventWithBytes}
use Rattle.servient_trace.specs.Trace.{Sighting}
use Rattle.servient_core.specs.Machine.{Site, State, EventAndStep, Run}
use Rattle.servient_world.specs.World.{WorldState, Datagram, Purpose, client_place, server_place, other, copy_of, purpose_back, acts_for, id_used, latest, with_sent, sent_now, ClientAsks, sends_ask, refuses_ask, skips_ask, ClientDoesDue, retransmits, gives_up, waits, ClientTakes}
use Rattle.servient_ends.specs.Laws.{ServientRuns}
use Rattle.servient_ends.specs.Ends.{EndsState, act_of, back_of, emitted_by_datagram, emitted_by, notifications_in, with_emissions, notification_of, event_at, ServientHears, ServientDoes, Turn, asks_next, does_due, delivers, passes, happens, AtClient, Stays, too_late, to_client, to_servient, ArrivesIfSent, FromElsewhere, comes_from_elsewhere, is_of_an_end, Besides, Takes, TakesAll, datagrams_in, sent_by_servient}
use Rattle.servient_ends.proofs.StepParts.{IsNoDatagram}
use Rattle.servient_ends.proofs.SeenLaws.{seen_both, back_to, noticed, hearing_sends, doing_sends}

abbrev Sent : Type 0
Sent = List (Endpoint × List ℕ)

-- ---- what the servient sent

sent_both : (a b : List Datagram) → sent_by_servient (a ++ b) ≡ sent_by_servient a ++ sent_by_servient b
sent_both [] b = refl
sent_both (d ∷ a) b = by_test (is_same_endpoint d.from server_place) (sent_both a b)
  where
    by_test : (c : Bool) → sent_by_servient (a ++ b) ≡ sent_by_servient a ++ sent_by_servient b
        → cond c ((d.to, d.bytes) ∷ sent_by_servient (a ++ b)) (sent_by_servient (a ++ b)) ≡ cond c ((d.to, d.bytes) ∷ sent_by_servient a) (sent_by_servient a) ++ sent_by_servient b
    by_test true rest = ap (λ (l : Sent). (d.to, d.bytes) ∷ l) rest
    by_test false rest = rest

sent_back : (moment : ℕ) (from : Endpoint) (purpose : Purpose) (said : List (List ℕ)) → sent_by_servient (sent_now moment server_place from purpose said) ≡ back_to from said
sent_back moment from purpose [] = refl
sent_back moment from purpose (bytes ∷ said) = ap (λ (l : Sent). (from, bytes) ∷ l) (sent_back moment from purpose said)

sent_notifications : (w : WorldState) (thing : ThingState) (ns : List Notice) → sent_by_servient (map (notification_of w thing) ns) ≡ noticed thing ns
sent_notifications w thing [] = refl
sent_notifications w thing (n ∷ ns) = ap (λ (l : Sent). ((notification_of w thing n).to, (notification_of w thing n).bytes) ∷ l) (sent_notifications w thing ns)

sent_by_client : (moment : ℕ) (to : Endpoint) (purpose : Purpose) (said : List (List ℕ)) → sent_by_servient (sent_now moment client_place to purpose said) ≡ []
sent_by_client moment to purpose [] = refl
sent_by_client moment to purpose (bytes ∷ said) = sent_by_client moment to purpose said

-- ---- the client

record ClientSent (w v : WorldState) : Type 0 where
  more : List Datagram
  is : v.sent ≡ w.sent ++ more
  none : sent_by_servient more ≡ []

sent_nothing : (w v : WorldState) → v.sent ≡ w.sent → ClientSent w v
sent_nothing w v same = record { more = []; is = same ∙ sym (append-nil w.sent); none = refl }

asks_sent : (a : Asking) (w v : WorldState) → ClientAsks a w v → ClientSent w v
asks_sent a w v (sends_ask n old new t may asks next) = record {
  more = sent_now w.moment client_place server_place (copy_of (length w.asks)) (take n new ∷ []);
  is = ap (λ (x : WorldState). x.sent) next;
  none = sent_by_client w.moment server_place (copy_of (length w.asks)) (take n new ∷ []);
}
asks_sent a w v (refuses_ask f refused next) = sent_nothing w v (ap (λ (x : WorldState). x.sent) next)
asks_sent a w v (skips_ask not next) = sent_nothing w v (ap (λ (x : WorldState). x.sent) next)

due_sent : (w v : WorldState) → ClientDoesDue w v → ClientSent w v
due_sent w v (retransmits n old new t comes next) = record {
  more = sent_now w.moment client_place server_place (copy_of (latest w)) (take n new ∷ []);
  is = ap (λ (x : WorldState). x.sent) next;
  none = sent_by_client w.moment server_place (copy_of (latest w)) (take n new ∷ []);
}
due_sent w v (gives_up old new t comes next) = sent_nothing w v (ap (λ (x : WorldState). x.sent) next)
due_sent w v (waits old new t comes next) = sent_nothing w v (ap (λ (x : WorldState). x.sent) next)

takes_sent : (d : Datagram) (w v : WorldState) → ClientTakes d w v → ClientSent w v
takes_sent d w v takes = record {
  more = sent_now w.moment client_place d.from other (option_to_list (option_map (λ (n : ℕ). take n takes.new) takes.told.reply));
  is = ap (λ (x : WorldState). x.sent) takes.next;
  none = sent_by_client w.moment d.from other (option_to_list (option_map (λ (n : ℕ). take n takes.new) takes.told.reply));
}

-- ---- runs

record Ran (site : Site) (p q : EndsState) : Type 0 where
  events : List EventWithBytes
  seen : List Sighting
  run : Run site events p.servient seen q.servient
  sent : sent_by_servient q.world.sent ≡ sent_by_servient p.world.sent ++ datagrams_in seen

runs_both : (site : Site) (a b : List EventWithBytes) (s m t : State) (x y : List Sighting) → Run site a s x m → Run site b m y t → Run site (a ++ b) s (x ++ y) t
runs_both site [] b s m t x y one rest =
    subst (λ (l : List Sighting). Run site b s (l ++ y) t) (sym one.saw) (subst (λ (z : State). Run site b z y t) one.next rest)
runs_both site (e ∷ a) b s m t x y one rest = record {
  mid = one.mid;
  first = one.first;
  second = one.second ++ y;
  one = one.one;
  other = runs_both site a b one.mid m t one.second y one.other rest;
  whole = ap (λ (l : List Sighting). l ++ y) one.whole ∙ append_assoc one.first one.second y;
}

one_run : (site : Site) (e : EventWithBytes) (s t : State) (seen : List Sighting) → EventAndStep site e s seen t → Run site (e ∷ []) s seen t
one_run site e s t seen step = record { mid = t; first = seen; second = []; one = step; other = record { next = refl; saw = refl }; whole = sym (append-nil seen) }

client_ran : (site : Site) (p q : EndsState) → q.servient ≡ p.servient → ClientSent p.world q.world → Ran site p q
client_ran site p q same c = record {
  events = [];
  seen = [];
  run = record { next = same; saw = refl };
  sent = ap sent_by_servient c.is ∙ (sent_both p.world.sent c.more ∙ ap (λ (l : Sent). sent_by_servient p.world.sent ++ l) c.none);
}

stays_ran : (site : Site) (p q : EndsState) → AtClient Stays p q → Ran site p q
stays_ran site p q at = client_ran site p q at.same (sent_nothing p.world q.world (ap (λ (x : WorldState). x.sent) at.does))

-- the datagrams that were sent back, and the notifications
both_sent : (a b c : List Datagram) (x y all : Sent) → sent_by_servient b ≡ x → sent_by_servient c ≡ y → all ≡ x ++ y → sent_by_servient ((a ++ b) ++ c) ≡ sent_by_servient a ++ all
both_sent a b c x y all one two whole =
    sent_both (a ++ b) c ∙ (ap (λ (l : Sent). l ++ sent_by_servient c) (sent_both a b)
    ∙ (append_assoc (sent_by_servient a) (sent_by_servient b) (sent_by_servient c)
    ∙ (ap (λ (l : Sent). sent_by_servient a ++ (l ++ sent_by_servient c)) one ∙ (ap (λ (l : Sent). sent_by_servient a ++ (x ++ l)) two ∙ ap (λ (l : Sent). sent_by_servient a ++ l) (sym whole)))))

one_sent : (a c : List Datagram) (y all : Sent) → sent_by_servient c ≡ y → all ≡ y → sent_by_servient (a ++ c) ≡ sent_by_servient a ++ all
one_sent a c y all one whole = sent_both a c ∙ ap (λ (l : Sent). sent_by_servient a ++ l) (one ∙ sym whole)

hears_ran : (site : Site) (from : Endpoint) (size : ℕ) (bytes : List ℕ) (purpose : Purpose) (p q : EndsState) → ServientHears site from size bytes purpose p q → Ran site p q
hears_ran site from size bytes purpose p q it =
    let step = it.step.other in
    let s1 : State = record it.step.mid { moment = max it.step.mid.moment p.world.moment } in
    let back : List (List ℕ) = back_of site from bytes s1 step.first step.mid step.one in
    let ns : List Notice = notifications_in step.mid step.second q.servient step.other in
    let w : WorldState = with_emissions (emitted_by_datagram site from bytes s1 step.first step.mid step.one) (with_sent (record p.world {
      server = q.servient.coap;
      acts = p.world.acts ++ acts_for purpose (act_of site from bytes s1 step.first step.mid step.one);
      ids = p.world.ids + id_used p.servient.coap step.mid.coap;
    }) server_place from (purpose_back purpose) back) in
    record {
      events = event_at p.world.moment (what.Datagram from size) bytes ∷ [];
      seen = it.seen;
      run = one_run site (event_at p.world.moment (what.Datagram from size) bytes) p.servient q.servient it.seen it.step;
      sent = ap (λ (x : WorldState). sent_by_servient x.sent) it.next
          ∙ both_sent p.world.sent (sent_now p.world.moment server_place from (purpose_back purpose) back) (map (notification_of w q.servient.thing) ns) (back_to from back) (noticed q.servient.thing ns) (datagrams_in it.seen)
          (sent_back p.world.moment from (purpose_back purpose) back) (sent_notifications w q.servient.thing ns)
          (hearing_sends site p.world.moment from size bytes p.servient q.servient it.seen it.step);
    }

does_ran : (site : Site) (w : What) (bytes : List ℕ) (p q : EndsState) → IsNoDatagram w → ServientDoes site w bytes p q → Ran site p q
does_ran site w bytes p q plain it =
    let step = it.step.other in
    let s1 : State = record it.step.mid { moment = max it.step.mid.moment p.world.moment } in
    let ns : List Notice = notifications_in step.mid step.second q.servient step.other in
    let v : WorldState = with_emissions (emitted_by site w bytes s1 step.first step.mid step.one) (record p.world { server = q.servient.coap }) in
    record {
      events = event_at p.world.moment w bytes ∷ [];
      seen = it.seen;
      run = one_run site (event_at p.world.moment w bytes) p.servient q.servient it.seen it.step;
      sent = ap (λ (x : WorldState). sent_by_servient x.sent) it.next
          ∙ one_sent p.world.sent (map (notification_of v q.servient.thing) ns) (noticed q.servient.thing ns) (datagrams_in it.seen) (sent_notifications v q.servient.thing ns)
          (doing_sends site p.world.moment w bytes p.servient q.servient it.seen plain it.step);
    }

-- ---- turns

arrives_ran : (site : Site) (o : Option Datagram) (p q : EndsState) → ArrivesIfSent site o p q → Ran site p q
arrives_ran site None p q at = stays_ran site p q at
arrives_ran site (Some d) p q (too_late late at) = stays_ran site p q at
arrives_ran site (Some d) p q (to_client may to at) = client_ran site p q at.same (takes_sent d p.world q.world at.does)
arrives_ran site (Some d) p q (to_servient may to hears) = hears_ran site d.from (length d.bytes) d.bytes d.purpose p q hears

elsewhere_ran : (site : Site) (from : Endpoint) (size : ℕ) (bytes : List ℕ) (p q : EndsState) → FromElsewhere site from size bytes p q → Ran site p q
elsewhere_ran site from size bytes p q (comes_from_elsewhere apart hears) = hears_ran site from size bytes other p q hears
elsewhere_ran site from size bytes p q (is_of_an_end is at) = stays_ran site p q at

besides_ran : (site : Site) (w : What) (bytes : List ℕ) (p q : EndsState) → Besides site w bytes p q → Ran site p q
besides_ran site (what.Datagram from size) bytes p q b = elsewhere_ran site from size bytes p q b
besides_ran site (what.Opened c) bytes p q b = does_ran site (what.Opened c) bytes p q tt b
besides_ran site (what.Bytes c size) bytes p q b = does_ran site (what.Bytes c size) bytes p q tt b
besides_ran site (what.Ended c) bytes p q b = does_ran site (what.Ended c) bytes p q tt b
besides_ran site what.Tick bytes p q b = does_ran site what.Tick bytes p q tt b
besides_ran site what.Stop bytes p q b = does_ran site what.Stop bytes p q tt b

turn_ran : (site : Site) (m : Turn) (p q : EndsState) → Takes site m p q → Ran site p q
turn_ran site (asks_next a) p q at = client_ran site p q at.same (asks_sent a p.world q.world at.does)
turn_ran site does_due p q at = client_ran site p q at.same (due_sent p.world q.world at.does)
turn_ran site (delivers i) p q arrives = arrives_ran site (slice_get p.world.sent i) p q arrives
turn_ran site (passes n) p q at = client_ran site p q at.same (sent_nothing p.world q.world (ap (λ (x : WorldState). x.sent) at.does))
turn_ran site (happens w bytes) p q b = besides_ran site w bytes p q b

turns_ran : (site : Site) (turns : List Turn) (p q : EndsState) → TakesAll site turns p q → Ran site p q
turns_ran site [] p q same = record {
  events = [];
  seen = [];
  run = record { next = ap (λ (x : EndsState). x.servient) same; saw = refl };
  sent = ap (λ (x : EndsState). sent_by_servient x.world.sent) same ∙ sym (append-nil (sent_by_servient p.world.sent));
}
turns_ran site (m ∷ turns) p q all =
    let one = turn_ran site m p all.0 all.1 in
    let rest = turns_ran site turns all.0 q all.2 in
    record {
      events = one.events ++ rest.events;
      seen = one.seen ++ rest.seen;
      run = runs_both site one.events rest.events p.servient all.0.servient q.servient one.seen rest.seen one.run rest.run;
      sent = rest.sent
          ∙ (ap (λ (l : Sent). l ++ datagrams_in rest.seen) one.sent
          ∙ (append_assoc (sent_by_servient p.world.sent) (datagrams_in one.seen) (datagrams_in rest.seen)
          ∙ ap (λ (l : Sent). sent_by_servient p.world.sent ++ l) (sym (seen_both one.seen rest.seen))));
    }

pub servient_runs : ServientRuns
servient_runs site first_id exchanges turns p q is all =
    let r = turns_ran site turns p q all in (
      r.events,
      r.seen,
      subst (λ (s : State). Run site r.events s r.seen q.servient) is.servient r.run,
      r.sent ∙ ap (λ (l : List Datagram). sent_by_servient l ++ datagrams_in r.seen) is.world.sent,
    )
