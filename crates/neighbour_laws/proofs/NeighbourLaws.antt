-- Each event of a run leaves what is others'.
use Rattle.std.proofs.Common.{◌≡◌, ◌∙◌, ◌≤◌, ℕ, Bool, true, false, List, [], ◌∷◌, length, max, refl, sym, ap, subst, arith}
use Rattle.std.specs.Prelude.{Option, Some, None, if◌then◌else◌}
use Rattle.coap_msg.specs.declared.endpoint.Endpoint.{Endpoint}
use Rattle.coap_msg.specs.Endpoints.{is_same_endpoint}
use Rattle.coap_exchange.specs.Table.{Table, at_moment}
use Rattle.coap_observe.specs.declared.observer.Observer.{Observer}
use Rattle.coap_observe.specs.declared.notice.Notice.{Notice}
use Rattle.coap_observe.specs.Watching.{Watching}
use Rattle.coap_blocks.specs.Bodies.{Body, most_bodies}
use Rattle.coap_blocks.specs.Parts.{Part, living}
use Rattle.coap_bind.specs.declared.server.Server.{Server}
use Rattle.coap_bind.specs.Blocks.{bodies_after}
use Rattle.coap_bind.specs.Server.{with_next_id, with_bodies, with_observers, with_emitted, with_notification_sent, SendsNext, asked}
use Rattle.thing_state.specs.State.{Emission}
use Rattle.servient_outside.specs.declared.net.What.{What}
use Rattle.servient_outside.specs.declared.net.What.TheVariants as what
use Rattle.servient_outside.specs.declared.net.EventWithBytes.{EventWithBytes}
use Rattle.servient_trace.specs.Trace.{Sighting}
use Rattle.servient_core.specs.Machine.{Site, State, start, EventAndStep, Run}
use Rattle.servient_ends.specs.Ends.{emitted_by}
use Rattle.servient_ends.proofs.StepParts.{with_targets, targets_in}
use Rattle.neighbour_laws.specs.Converging.{Deed}
use Rattle.neighbour_laws.specs.Neighbours.{connection_of, endpoint_of, is_elsewhere, exchanges_of, observers_of, bodies_of, parts_of, with_new_values, DoesDue, KeepsBodies, all_stay, LeavesEndpoint, LeavesOthers, NeighboursDoNotMatter}
use Rattle.neighbour_laws.proofs.EventParts.{Hearing, is_passed, is_heard, is_answered as is_answered_here, HearingOf, follows_course, SendsEach, event_ends}
use Rattle.neighbour_laws.proofs.HeardParts.{hears_told, asked_from, replied_observers}
use Rattle.neighbour_laws.proofs.HearingLaws.{hearing_all}
use Rattle.neighbour_laws.proofs.ElsewhereLaws.{exchanges_left, few_bodies, bodies_left, parts_left}
use Rattle.neighbour_laws.proofs.DueLaws.{told_leaves, watches_leaves, values_of_part, due_of_part}
use Rattle.neighbour_laws.proofs.StreamLaws.{Passed}
use Rattle.neighbour_laws.proofs.StreamMoves.{Moved, follows_moved, ends_moved, moved_to_end}
use Rattle.neighbour_laws.proofs.Lists.{not_false}

-- ---- a datagram of another

hearing_leaves : (x from : Endpoint) (bytes : List ℕ) (now : ℕ) (deeds : List Deed) (s t : Server) → is_same_endpoint x from ≡ false → Hearing from bytes now deeds s t
    → observers_of x t.observers.list ≡ observers_of x s.observers.list
hearing_leaves x from bytes now deeds s t other (is_passed stays none) = ap (λ (c : Server). observers_of x c.observers.list) stays
hearing_leaves x from bytes now deeds s t other (is_heard h hears none) = told_leaves x from s.observers t.observers other (hears_told from bytes now h s t hears)
hearing_leaves x from bytes now deeds s t other (is_answered_here ask r o target reply u hears a none) =
    let apart : is_same_endpoint x r.from ≡ false = ap (is_same_endpoint x) (asked_from from bytes now ask r s u hears) ∙ other in
    ap (λ (w : Watching). observers_of x w.list) (replied_observers r.kind r.slot reply (with_bodies (bodies_after r.blocks r.from o u.bodies) (with_observers a.observers u)) t a.replies.after)
    ∙ (watches_leaves x _ r.from r.token u.observers a.observe a.observers apart a.watches ∙ told_leaves x from s.observers u.observers other (hears_told from bytes now (asked ask r) s u hears))

-- what an event leaves of an endpoint before new values are delivered
record LeftBefore (x : Endpoint) (now : ℕ) (s t : Server) : Type 0 where
  exchanges : exchanges_of x (at_moment now t.exchanges).exchanges ≡ exchanges_of x (at_moment now s.exchanges).exchanges
  observers : observers_of x t.observers.list ≡ observers_of x s.observers.list
  bodies : KeepsBodies x s.bodies t.bodies
  parts : parts_of x (living now t.parts) ≡ parts_of x (living now s.parts)

nothing_left_out : (x : Endpoint) (now : ℕ) (s t : Server) → t ≡ s → LeftBefore x now s t
nothing_left_out x now s t is = record {
  exchanges = ap (λ (c : Server). exchanges_of x (at_moment now c.exchanges).exchanges) is;
  observers = ap (λ (c : Server). observers_of x c.observers.list) is;
  bodies = all_stay (ap (λ (c : Server). bodies_of x c.bodies) is);
  parts = ap (λ (c : Server). parts_of x (living now c.parts)) is;
}

left_before : (x : Endpoint) (w : What) (bytes : List ℕ) (now : ℕ) (deeds : List Deed) (s t : Server) → is_elsewhere (endpoint_of w) x ≡ true → length s.bodies ≤ most_bodies → HearingOf w bytes now deeds s t → LeftBefore x now s t
left_before x (what.Datagram from size) bytes now deeds s t away few h =
    let other = not_false (is_same_endpoint x from) away in
    let all = hearing_all from bytes now deeds s t h in
    record {
      exchanges = exchanges_left x from now s.exchanges t.exchanges other all.exchanges;
      observers = hearing_leaves x from bytes now deeds s t other h;
      bodies = bodies_left x from s.bodies t.bodies other few all.bodies;
      parts = parts_left x from now s.parts t.parts other all.parts;
    }
left_before x (what.Opened c) bytes now deeds s t away few h = nothing_left_out x now s t h.0
left_before x (what.Bytes c size) bytes now deeds s t away few h = nothing_left_out x now s t h.0
left_before x (what.Ended c) bytes now deeds s t away few h = nothing_left_out x now s t h.0
left_before x what.Tick bytes now deeds s t away few h = nothing_left_out x now s t h.0
left_before x what.Stop bytes now deeds s t away few h = nothing_left_out x now s t h.0

-- ---- what else an event does to the server

-- the exchanges, the bodies and the parts stay
record SameTables (s t : Server) : Type 0 where
  exchanges : t.exchanges ≡ s.exchanges
  bodies : t.bodies ≡ s.bodies
  parts : t.parts ≡ s.parts

same_then : (s m t : Server) → SameTables s m → SameTables m t → SameTables s t
same_then s m t one two = record { exchanges = two.exchanges ∙ one.exchanges; bodies = two.bodies ∙ one.bodies; parts = two.parts ∙ one.parts }

values_same : (targets : List ℕ) (s : Server) → SameTables s (with_targets targets s)
values_same [] s = record { exchanges = refl; bodies = refl; parts = refl }
values_same (target ∷ targets) s =
    let rest = values_same targets (with_emitted target s) in
    record { exchanges = rest.exchanges; bodies = rest.bodies; parts = rest.parts }

sent_same : (n : Option Notice) (s : Server) → SameTables s (with_notification_sent n s)
sent_same None s = record { exchanges = refl; bodies = refl; parts = refl }
sent_same (Some n) s = by n.fresh
  where
    by : (b : Bool) → SameTables s (if b then with_next_id s else s)
    by true = record { exchanges = refl; bodies = refl; parts = refl }
    by false = record { exchanges = refl; bodies = refl; parts = refl }

next_same : (now : ℕ) (n : Option Notice) (s t : Server) → SendsNext now n s t → SameTables s t
next_same now n s t sends =
    let same = sent_same n (with_observers sends.observers s) in
    subst (SameTables s) (sym sends.after) (record { exchanges = same.exchanges; bodies = same.bodies; parts = same.parts })

each_same : (now : ℕ) (ns : List Notice) (s t : Server) → SendsEach now ns s t → SameTables s t
each_same now [] s t is = subst (SameTables s) (sym is) (record { exchanges = refl; bodies = refl; parts = refl })
each_same now (n ∷ ns) s t (m, one, more) = same_then s m t (next_same now (Some n) s m one) (each_same now ns m t more)

-- ---- an event

abbrev moved_now : (site : Site) (e : EventWithBytes) (s t : State) (seen : List Sighting) → EventAndStep site e s seen t → State
moved_now site e s t seen w = record w.mid { moment = max w.mid.moment e.event.moment }

endpoint_left : (site : Site) (e : EventWithBytes) (s t : State) (seen : List Sighting) (w : EventAndStep site e s seen t) (x : Endpoint) → length s.coap.bodies ≤ most_bodies → is_elsewhere (endpoint_of e.event.what) x ≡ true
    → LeavesEndpoint x t.moment (targets_in (emitted_by site e.event.what e.bytes (moved_now site e s t seen w) w.other.first w.other.mid w.other.one)) s.coap t.coap
endpoint_left site e s t seen w x few away =
    let m : State = moved_now site e s t seen w in
    let course = follows_course site e.event.what e.bytes m w.other.mid w.other.first w.other.one in
    let ends = event_ends w.other.mid t w.other.second w.other.other in
    let es : List Emission = emitted_by site e.event.what e.bytes m w.other.first w.other.mid w.other.one in
    let at : t.moment ≡ m.moment = ends.moment ∙ course.moment in
    let coap : m.coap ≡ s.coap = ap (λ (y : State). y.coap) w.one.next in
    let before : LeftBefore x m.moment s.coap course.after = subst (λ (c : Server). LeftBefore x m.moment c course.after) coap
    (left_before x e.event.what e.bytes m.moment _ m.coap course.after away (subst (λ (c : Server). length c.bodies ≤ most_bodies) (sym coap) few) course.hearing) in
    let same : SameTables course.after t.coap =
    same_then course.after w.other.mid.coap t.coap (subst (SameTables course.after) (sym course.coap) (values_same (targets_in es) course.after))
    (same_then w.other.mid.coap ends.between t.coap (each_same w.other.mid.moment _ w.other.mid.coap ends.between ends.sends) (next_same w.other.mid.moment None ends.between t.coap ends.last)) in
    let due : DoesDue w.other.mid.moment (observers_of x w.other.mid.coap.observers.list) (observers_of x t.coap.observers.list) =
    due_of_part x w.other.mid.moment _ w.other.mid.coap ends.between t.coap ends.sends ends.last in
    let values : observers_of x w.other.mid.coap.observers.list ≡ with_new_values (targets_in es) (observers_of x s.coap.observers.list) =
    ap (λ (c : Server). observers_of x c.observers.list) course.coap ∙ (values_of_part x (targets_in es) course.after ∙ ap (λ (l : List Observer). with_new_values (targets_in es) l) before.observers) in
    subst (λ (n : ℕ). LeavesEndpoint x n (targets_in es) s.coap t.coap) (sym at) (record {
      exchanges = ap (λ (u : Table). exchanges_of x (at_moment m.moment u).exchanges) same.exchanges ∙ before.exchanges;
      observers = subst (λ (n : ℕ). DoesDue n (with_new_values (targets_in es) (observers_of x s.coap.observers.list)) (observers_of x t.coap.observers.list)) course.moment
          (subst (λ (l : List Observer). DoesDue w.other.mid.moment l (observers_of x t.coap.observers.list)) values due);
      bodies = subst (KeepsBodies x s.coap.bodies) (sym same.bodies) before.bodies;
      parts = ap (λ (l : List Part). parts_of x (living m.moment l)) same.parts ∙ before.parts;
    })

others_left : (site : Site) (e : EventWithBytes) (s t : State) (seen : List Sighting) (w : EventAndStep site e s seen t) → length s.coap.bodies ≤ most_bodies
    → LeavesOthers e.event.what (targets_in (emitted_by site e.event.what e.bytes (moved_now site e s t seen w) w.other.first w.other.mid w.other.one)) s t
others_left site e s t seen w few =
    let m : State = moved_now site e s t seen w in
    let targets : List ℕ = targets_in (emitted_by site e.event.what e.bytes m w.other.first w.other.mid w.other.one) in
    let d : Option ℕ = connection_of e.event.what in
    let all : Moved d targets m t =
    moved_to_end d targets m w.other.mid t (follows_moved site e.event.what e.bytes m w.other.mid w.other.first w.other.one) (ends_moved d w.other.mid t w.other.second w.other.other) in
    let http : m.http ≡ s.http = ap (λ (y : State). y.http) w.one.next in
    let passed = subst (λ (n : ℕ). Passed d n targets s.http t.http) (sym all.moment)
    (subst (λ h. Passed d m.moment targets h t.http) http all.passed) in
    record { connections = passed.left; waits = passed.order; endpoints = λ x away. endpoint_left site e s t seen w x few away }

-- ---- runs: no more bodies are kept than may be

event_few : (site : Site) (e : EventWithBytes) (s t : State) (seen : List Sighting) → EventAndStep site e s seen t → length s.coap.bodies ≤ most_bodies → length t.coap.bodies ≤ most_bodies
event_few site e s t seen w few =
    let m : State = moved_now site e s t seen w in
    let course = follows_course site e.event.what e.bytes m w.other.mid w.other.first w.other.one in
    let ends = event_ends w.other.mid t w.other.second w.other.other in
    let same : SameTables course.after t.coap =
    same_then course.after w.other.mid.coap t.coap (subst (SameTables course.after) (sym course.coap) (values_same (targets_in (emitted_by site e.event.what e.bytes m w.other.first w.other.mid w.other.one)) course.after))
    (same_then w.other.mid.coap ends.between t.coap (each_same w.other.mid.moment _ w.other.mid.coap ends.between ends.sends) (next_same w.other.mid.moment None ends.between t.coap ends.last)) in
    subst (λ (l : List Body). length l ≤ most_bodies) (sym same.bodies)
    (by e.event.what e.bytes m.moment _ m.coap course.after (subst (λ (c : Server). length c.bodies ≤ most_bodies) (sym (ap (λ (y : State). y.coap) w.one.next)) few) course.hearing)
  where
    by : (v : What) (bytes : List ℕ) (now : ℕ) (deeds : List Deed) (a b : Server) → length a.bodies ≤ most_bodies → HearingOf v bytes now deeds a b → length b.bodies ≤ most_bodies
    by (what.Datagram from size) bytes now deeds a b less h = few_bodies from a.bodies b.bodies (hearing_all from bytes now deeds a b h).bodies less
    by (what.Opened c) bytes now deeds a b less h = subst (λ (x : Server). length x.bodies ≤ most_bodies) (sym h.0) less
    by (what.Bytes c size) bytes now deeds a b less h = subst (λ (x : Server). length x.bodies ≤ most_bodies) (sym h.0) less
    by (what.Ended c) bytes now deeds a b less h = subst (λ (x : Server). length x.bodies ≤ most_bodies) (sym h.0) less
    by what.Tick bytes now deeds a b less h = subst (λ (x : Server). length x.bodies ≤ most_bodies) (sym h.0) less
    by what.Stop bytes now deeds a b less h = subst (λ (x : Server). length x.bodies ≤ most_bodies) (sym h.0) less

run_few : (site : Site) (took : List EventWithBytes) (s t : State) (seen : List Sighting) → Run site took s seen t → length s.coap.bodies ≤ most_bodies → length t.coap.bodies ≤ most_bodies
run_few site [] s t seen stays few = subst (λ (x : State). length x.coap.bodies ≤ most_bodies) (sym stays.next) few
run_few site (e ∷ took) s t seen w few = run_few site took w.mid t w.second w.other (event_few site e s w.mid w.first w.one few)

pub neighbours_do_not_matter : NeighboursDoNotMatter
neighbours_do_not_matter site exchanges epoch took before seen e s t run w =
    others_left site e s t seen w (run_few site took (start site exchanges epoch) s before run (omega arith))
