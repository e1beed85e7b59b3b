-- Each turn is moves of the world.
use Rattle.std.proofs.Common.{◌≡◌, ◌∙◌, ◌+◌, ◌≤◌, ℕ, max, true, cond, List, [], ◌∷◌, ◌++◌, map, length, refl, sym, ap, subst, arith}
use Rattle.std.specs.Prelude.{Option, Some, None, slice_get, ◌==◌}
use Rattle.coap_msg.specs.declared.endpoint.Endpoint.{Endpoint}
use Rattle.coap_client.specs.Asking.{Asking}
use Rattle.coap_observe.specs.declared.notice.Notice.{Notice}
use Rattle.coap_bind.specs.declared.server.Server.{Server}
use Rattle.coap_bind.specs.Treating.{Acted}
use Rattle.thing_site.specs.Site.{emitters_of}
use Rattle.thing_state.specs.State.{State as ThingState, Emission as ThingEmission, LastValue}
use Rattle.servient_outside.specs.declared.net.What.{What}
use Rattle.servient_outside.specs.declared.net.What.TheVariants as what
use Rattle.servient_trace.specs.Trace.{Sighting}
use Rattle.servient_core.specs.Machine.{Site, State, start, EndsEvent}
use Rattle.servient_world.specs.World.{WorldState, WorldMove, ask, due, deliver, pass, elsewhere, emit, Datagram, Emission, server_place, purpose_back, acts_for, id_used, with_sent, Receives, ServerTakes, Comes, to_client, to_server, ComesIfSent, from_elsewhere, comes_elsewhere, ClientAsks, sends_ask, refuses_ask, skips_ask, ClientDoesDue, retransmits, gives_up, waits, ClientTakes, Plays, PlaysAll}
use Rattle.servient_ends.specs.Ends.{EndsState, IsBeginning, act_of, back_of, emitted_by_datagram, emitted_by, notifications_in, as_emission, with_emissions, with_notifications, ServientHears, ServientDoes, Turn, asks_next, does_due, delivers, passes, happens, AtClient, Stays, Arrives, ArrivesIfSent, FromElsewhere, comes_from_elsewhere, is_of_an_end, Besides, Takes, TakesAll}
use Rattle.servient_ends.specs.Ends.{too_late as comes_too_late, to_client as comes_to_client, to_servient as comes_to_servient}
use Rattle.servient_ends.proofs.ThingLaws.{IsCounted, Emitted}
use Rattle.servient_ends.proofs.LastValues.{has_target, last_has, SayTheLast, say_more, say_nothing}
use Rattle.servient_ends.proofs.TargetLaws.{IsTarget}
use Rattle.servient_ends.proofs.KnownObservers.{WatchesTargets, watches_at_start, watches_received}
use Rattle.servient_ends.proofs.StepParts.{with_targets, targets_in, Happened, IsNoDatagram, other_happened, datagram_heard}
use Rattle.servient_ends.proofs.EndOfEvent.{plays_both, after_emissions, emissions_play, watches_targets, targets_next, Stand, end_plays}

-- ---- what holds after each turn

-- of the machine, where this was emitted so far
record HoldsOf (site : Site) (emitted : List Emission) (s : State) : Type 0 where
  counted : IsCounted s.thing
  has : (target : ℕ) → IsTarget site target → has_target target s.thing.last ≡ true
  says : SayTheLast s.thing.last emitted
  watches : WatchesTargets site s.coap

record Holds (site : Site) (p : EndsState) : Type 0 where
  server : p.world.server ≡ p.servient.coap
  moment : p.servient.moment ≤ p.world.moment
  machine : HoldsOf site p.world.emitted p.servient

record Turned (site : Site) (p q : EndsState) : Type 0 where
  moves : List WorldMove
  plays : PlaysAll moves p.world q.world
  holds : Holds site q

-- ---- the end of an event

-- The emissions on an event and its end are moves of the world.
record Ended (site : Site) (es : List ThingEmission) (ns : List Notice) (w : WorldState) (t : State) : Type 0 where
  moves : List WorldMove
  plays : PlaysAll moves w (with_notifications t.thing ns (with_emissions es (record w { server = t.coap })))
  moment : t.moment ≡ w.moment
  machine : HoldsOf site (w.emitted ++ map as_emission es) t

ended : (site : Site) (es : List ThingEmission) (w : WorldState) (s m t : State) (seen : List Sighting) (after : Server) → w.server ≡ after
    → m.coap ≡ with_targets (targets_in es) after → m.moment ≡ w.moment → Emitted es s.thing m.thing → HoldsOf site w.emitted s → WatchesTargets site after
    → (ends : EndsEvent m seen t) → Ended site es (notifications_in m seen t ends) w t
ended site es w s m t seen after server coap moment emitted h watches ends =
    let middle : WorldState = after_emissions es w in
    let watches_m : WatchesTargets site m.coap = subst (WatchesTargets site) (sym coap) (watches_targets site (targets_in es) after watches) in
    let has_m : (target : ℕ) → IsTarget site target → has_target target m.thing.last ≡ true
    = λ target is. ap (λ (l : List LastValue). has_target target l) emitted.last ∙ (last_has target es s.thing.last ∙ h.has target is) in
    let says_m : SayTheLast m.thing.last (w.emitted ++ map as_emission es)
    = subst (λ (l : List LastValue). SayTheLast l (w.emitted ++ map as_emission es)) (sym emitted.last) (say_more es s.thing.last w.emitted h.says) in
    let stand : Stand site m.thing middle m = record {
      server = ap (λ (x : Server). with_targets (targets_in es) x) server ∙ sym coap;
      moment = sym moment;
      things = refl;
      has = has_m;
      says = says_m;
      watches = watches_m;
    } in
    let n = end_plays site m.thing m t seen ends middle stand in
    record {
      moves = map (λ e. emit (as_emission e)) es ++ n.moves;
      plays = subst (λ (x : ThingState). PlaysAll (map (λ e. emit (as_emission e)) es ++ n.moves) w (with_notifications x (notifications_in m seen t ends) (with_emissions es (record w { server = t.coap }))))
          (sym n.things) (plays_both (map (λ e. emit (as_emission e)) es) n.moves w middle _ (emissions_play es w) n.plays);
      moment = n.moment ∙ moment;
      machine = record {
        counted = subst IsCounted (sym n.things) (emitted.counted h.counted);
        has = λ target is. ap (λ (x : ThingState). has_target target x.last) n.things ∙ has_m target is;
        says = subst (λ (x : ThingState). SayTheLast x.last (w.emitted ++ map as_emission es)) (sym n.things) says_m;
        watches = n.watches;
      };
    }

-- the same machine at the moment of an event
at_event : (site : Site) (emitted : List Emission) (s u : State) (now : ℕ) → u ≡ s → HoldsOf site emitted s → HoldsOf site emitted (record u { moment = now })
at_event site emitted s u now same h =
    let moved : HoldsOf site emitted u = subst (HoldsOf site emitted) (sym same) h in
    record { counted = moved.counted; has = moved.has; says = moved.says; watches = moved.watches }

later : (a b c : ℕ) → a ≡ b → b ≤ c → max a c ≡ c
later a b c same early = omega arith

no_later : (a b c : ℕ) → a ≡ b → c ≡ b → a ≤ c
no_later a b c one two = omega arith

used_same : (a b c d : Server) → a.next_id ≡ c.next_id → b.next_id ≡ d.next_id → id_used a b ≡ id_used c d
used_same a b c d one two = ap (λ (n : ℕ). cond (b.next_id == n) 0 1) one ∙ ap (λ (n : ℕ). cond (n == c.next_id) 0 1) two

-- ---- a datagram at the servient

-- it comes as the move of the world that this is
hears_turn : (site : Site) (d : Datagram) (size : ℕ) (move : WorldMove) (p q : EndsState) → ((v : WorldState) → ServerTakes d p.world v → Plays move p.world v) → Holds site p
    → ServientHears site d.from size d.bytes d.purpose p q → Turned site p q
hears_turn site d size move p q as_move h it =
    let now : ℕ = p.world.moment in
    let step = it.step.other in
    let s0 : State = it.step.mid in
    let same0 : s0 ≡ p.servient = it.step.one.next in
    let s1 : State = record s0 { moment = max s0.moment now } in
    let at : s1.moment ≡ now = later s0.moment p.servient.moment now (ap (λ (x : State). x.moment) same0) h.moment in
    let h1 : HoldsOf site p.world.emitted s1 = at_event site p.world.emitted p.servient s0 (max s0.moment now) same0 h.machine in
    let mid : State = step.mid in
    let act : Option Acted = act_of site d.from d.bytes s1 step.first mid step.one in
    let back : List (List ℕ) = back_of site d.from d.bytes s1 step.first mid step.one in
    let es : List ThingEmission = emitted_by_datagram site d.from d.bytes s1 step.first mid step.one in
    let heard = datagram_heard site d.from d.bytes s1 mid step.first h1.counted step.one in
    let coap1 : s1.coap ≡ p.world.server = ap (λ (x : State). x.coap) same0 ∙ sym h.server in
    let receives : Receives d.from d.bytes now act back p.world.server heard.after
    = subst (λ (x : Server). Receives d.from d.bytes now act back x heard.after) coap1 (subst (λ (n : ℕ). Receives d.from d.bytes n act back s1.coap heard.after) at heard.receives) in
    let w1 : WorldState = with_sent (record p.world {
      server = heard.after;
      acts = p.world.acts ++ acts_for d.purpose act;
      ids = p.world.ids + id_used p.world.server heard.after;
    }) server_place d.from (purpose_back d.purpose) back in
    let watches : WatchesTargets site heard.after = watches_received site d.from d.bytes s1.moment act back s1.coap heard.after heard.receives heard.target h1.watches in
    let h2 : HoldsOf site w1.emitted s1 = h1 in
    let e = ended site es w1 s1 mid q.servient step.second heard.after refl heard.coap (heard.moment ∙ at) heard.thing h2 watches step.other in
    let ids : id_used p.servient.coap mid.coap ≡ id_used p.world.server heard.after
    = used_same p.servient.coap mid.coap p.world.server heard.after (ap (λ (x : Server). x.next_id) (sym h.server)) (ap (λ (x : Server). x.next_id) heard.coap ∙ targets_next (targets_in es) heard.after) in
    let next : q.world ≡ with_notifications q.servient.thing (notifications_in mid step.second q.servient step.other) (with_emissions es (record w1 { server = q.servient.coap }))
    = it.next ∙ ap (λ (n : ℕ). with_notifications q.servient.thing (notifications_in mid step.second q.servient step.other) (with_emissions es (with_sent (record p.world {
      server = q.servient.coap;
      acts = p.world.acts ++ acts_for d.purpose act;
      ids = p.world.ids + n;
    }) server_place d.from (purpose_back d.purpose) back))) ids in
    record {
      moves = move ∷ e.moves;
      plays = (w1, as_move w1 (record { act = act; back = back; after = heard.after; receives = receives; next = refl }), subst (PlaysAll e.moves w1) (sym next) e.plays);
      holds = record {
        server = ap (λ (x : WorldState). x.server) next;
        moment = no_later q.servient.moment now q.world.moment e.moment (ap (λ (x : WorldState). x.moment) next);
        machine = subst (λ (x : WorldState). HoldsOf site x.emitted q.servient) (sym next) e.machine;
      };
    }

-- ---- any other event

does_turn : (site : Site) (w : What) (bytes : List ℕ) (p q : EndsState) → IsNoDatagram w → Holds site p → ServientDoes site w bytes p q → Turned site p q
does_turn site w bytes p q plain h it =
    let now : ℕ = p.world.moment in
    let step = it.step.other in
    let s0 : State = it.step.mid in
    let same0 : s0 ≡ p.servient = it.step.one.next in
    let s1 : State = record s0 { moment = max s0.moment now } in
    let at : s1.moment ≡ now = later s0.moment p.servient.moment now (ap (λ (x : State). x.moment) same0) h.moment in
    let h1 : HoldsOf site p.world.emitted s1 = at_event site p.world.emitted p.servient s0 (max s0.moment now) same0 h.machine in
    let mid : State = step.mid in
    let es : List ThingEmission = emitted_by site w bytes s1 step.first mid step.one in
    let happened : Happened es s1 mid = other_happened site w bytes s1 mid step.first plain step.one in
    let coap1 : p.world.server ≡ s1.coap = h.server ∙ sym (ap (λ (x : State). x.coap) same0) in
    let e = ended site es p.world s1 mid q.servient step.second s1.coap coap1 happened.coap (happened.moment ∙ at) happened.thing h1 h1.watches step.other in
    record {
      moves = e.moves;
      plays = subst (PlaysAll e.moves p.world) (sym it.next) e.plays;
      holds = record {
        server = ap (λ (x : WorldState). x.server) it.next;
        moment = no_later q.servient.moment now q.world.moment e.moment (ap (λ (x : WorldState). x.moment) it.next);
        machine = subst (λ (x : WorldState). HoldsOf site x.emitted q.servient) (sym it.next) e.machine;
      };
    }

-- ---- the client

-- the client leaves what is said of the machine
record Keeps (w v : WorldState) : Type 0 where
  server : v.server ≡ w.server
  moment : w.moment ≤ v.moment
  emitted : v.emitted ≡ w.emitted

keeps_as : (w x v : WorldState) → v ≡ x → x.server ≡ w.server → w.moment ≤ x.moment → x.emitted ≡ w.emitted → Keeps w v
keeps_as w x v same server moment emitted = record {
  server = ap (λ (y : WorldState). y.server) same ∙ server;
  moment = subst (λ (y : WorldState). w.moment ≤ y.moment) (sym same) moment;
  emitted = ap (λ (y : WorldState). y.emitted) same ∙ emitted;
}

at_once : (n : ℕ) → n ≤ n
at_once n = omega arith

some_later : (n m : ℕ) → n ≤ n + m
some_later n m = omega arith

keeps_ask : (a : Asking) (w v : WorldState) → ClientAsks a w v → Keeps w v
keeps_ask a w v (sends_ask n old new t may asks next) = keeps_as w _ v next refl (at_once w.moment) refl
keeps_ask a w v (refuses_ask f refused next) = keeps_as w _ v next refl (at_once w.moment) refl
keeps_ask a w v (skips_ask not next) = keeps_as w w v next refl (at_once w.moment) refl

keeps_due : (w v : WorldState) → ClientDoesDue w v → Keeps w v
keeps_due w v (retransmits n old new t comes next) = keeps_as w _ v next refl (at_once w.moment) refl
keeps_due w v (gives_up old new t comes next) = keeps_as w _ v next refl (at_once w.moment) refl
keeps_due w v (waits old new t comes next) = keeps_as w _ v next refl (at_once w.moment) refl

keeps_takes : (d : Datagram) (w v : WorldState) → ClientTakes d w v → Keeps w v
keeps_takes d w v takes = keeps_as w _ v takes.next refl (at_once w.moment) refl

held : (site : Site) (p q : EndsState) → Holds site p → q.servient ≡ p.servient → Keeps p.world q.world → Holds site q
held site p q h same keeps = record {
  server = keeps.server ∙ (h.server ∙ sym (ap (λ (x : State). x.coap) same));
  moment = up_to q.servient.moment p.servient.moment p.world.moment q.world.moment (ap (λ (x : State). x.moment) same) h.moment keeps.moment;
  machine = subst (λ (es : List Emission). HoldsOf site es q.servient) (sym keeps.emitted) (subst (HoldsOf site p.world.emitted) (sym same) h.machine);
}
  where
    up_to : (a b c d : ℕ) → a ≡ b → b ≤ c → c ≤ d → a ≤ d
    up_to a b c d one two three = omega arith

client_turn : (site : Site) (move : WorldMove) (p q : EndsState) → Plays move p.world q.world → Keeps p.world q.world → q.servient ≡ p.servient → Holds site p → Turned site p q
client_turn site move p q plays keeps same h = record { moves = move ∷ []; plays = (q.world, plays, refl); holds = held site p q h same keeps }

stays_turn : (site : Site) (p q : EndsState) → AtClient Stays p q → Holds site p → Turned site p q
stays_turn site p q at h = record { moves = []; plays = at.does; holds = held site p q h at.same (keeps_as p.world p.world q.world at.does refl (at_once p.world.moment) refl) }

-- ---- all turns

delivered : (i : ℕ) (d : Datagram) (w v : WorldState) → slice_get w.sent i ≡ Some d → Comes d w v → Plays (deliver i) w v
delivered i d w v there comes = subst (λ (o : Option Datagram). ComesIfSent o w v) (sym there) comes

arrives_turn : (site : Site) (i : ℕ) (d : Datagram) (p q : EndsState) → slice_get p.world.sent i ≡ Some d → Arrives site d p q → Holds site p → Turned site p q
arrives_turn site i d p q there (comes_too_late late at) h = stays_turn site p q at h
arrives_turn site i d p q there (comes_to_client may to at) h =
    client_turn site (deliver i) p q (delivered i d p.world q.world there (to_client may to at.does)) (keeps_takes d p.world q.world at.does) at.same h
arrives_turn site i d p q there (comes_to_servient may to hears) h =
    hears_turn site d (length d.bytes) (deliver i) p q (λ v takes. delivered i d p.world v there (to_server may to takes)) h hears

if_sent_turn : (site : Site) (i : ℕ) (o : Option Datagram) (p q : EndsState) → slice_get p.world.sent i ≡ o → ArrivesIfSent site o p q → Holds site p → Turned site p q
if_sent_turn site i None p q there at h = stays_turn site p q at h
if_sent_turn site i (Some d) p q there arrives h = arrives_turn site i d p q there arrives h

elsewhere_turn : (site : Site) (from : Endpoint) (size : ℕ) (bytes : List ℕ) (p q : EndsState) → FromElsewhere site from size bytes p q → Holds site p → Turned site p q
elsewhere_turn site from size bytes p q (comes_from_elsewhere apart hears) h =
    hears_turn site (from_elsewhere p.world.moment from bytes) size (elsewhere from bytes) p q (λ v takes. comes_elsewhere apart takes) h hears
elsewhere_turn site from size bytes p q (is_of_an_end is at) h = stays_turn site p q at h

besides_turn : (site : Site) (w : What) (bytes : List ℕ) (p q : EndsState) → Besides site w bytes p q → Holds site p → Turned site p q
besides_turn site (what.Datagram from size) bytes p q b h = elsewhere_turn site from size bytes p q b h
besides_turn site (what.Opened c) bytes p q b h = does_turn site (what.Opened c) bytes p q tt h b
besides_turn site (what.Bytes c size) bytes p q b h = does_turn site (what.Bytes c size) bytes p q tt h b
besides_turn site (what.Ended c) bytes p q b h = does_turn site (what.Ended c) bytes p q tt h b
besides_turn site what.Tick bytes p q b h = does_turn site what.Tick bytes p q tt h b
besides_turn site what.Stop bytes p q b h = does_turn site what.Stop bytes p q tt h b

turn : (site : Site) (m : Turn) (p q : EndsState) → Takes site m p q → Holds site p → Turned site p q
turn site (asks_next a) p q at h = client_turn site (ask a) p q at.does (keeps_ask a p.world q.world at.does) at.same h
turn site does_due p q at h = client_turn site due p q at.does (keeps_due p.world q.world at.does) at.same h
turn site (delivers i) p q arrives h = if_sent_turn site i (slice_get p.world.sent i) p q refl arrives h
turn site (passes n) p q at h =
    client_turn site (pass n) p q at.does (keeps_as p.world _ q.world at.does refl (some_later p.world.moment n) refl) at.same h
turn site (happens w bytes) p q b h = besides_turn site w bytes p q b h

all_turns : (site : Site) (turns : List Turn) (p q : EndsState) → TakesAll site turns p q → Holds site p → Turned site p q
all_turns site [] p q same h = record { moves = []; plays = ap (λ (x : EndsState). x.world) same; holds = subst (Holds site) (sym same) h }
all_turns site (m ∷ turns) p q all h =
    let one = turn site m p all.0 all.1 h in
    let rest = all_turns site turns all.0 q all.2 one.holds in
    record { moves = one.moves ++ rest.moves; plays = plays_both one.moves rest.moves p.world all.0.world q.world one.plays rest.plays; holds = rest.holds }

holds_at_start : (site : Site) (exchanges : ℕ) (epoch : Option ℕ) (emitted : List Emission) (s : State) → emitted ≡ [] → s ≡ start site exchanges epoch → HoldsOf site emitted s
holds_at_start site exchanges epoch emitted s none same = subst (λ (es : List Emission). HoldsOf site es s) (sym none) (subst (HoldsOf site []) (sym same) (record {
  counted = record { ids = omega arith; turns = omega arith };
  has = λ target is. is;
  says = say_nothing (emitters_of site.things);
  watches = watches_at_start site exchanges epoch;
}))

begins : (site : Site) (first_id exchanges : ℕ) (p : EndsState) → IsBeginning site first_id exchanges p → Holds site p
begins site first_id exchanges p is = record {
  server = is.server;
  moment = early p.servient.moment p.world.moment (ap (λ (x : State). x.moment) is.servient);
  machine = holds_at_start site exchanges is.epoch p.world.emitted p.servient is.world.emitted is.servient;
}
  where
    early : (a b : ℕ) → a ≡ 0 → a ≤ b
    early a b none = omega arith

-- Turns from the beginning are moves of the world.
pub turns_play : (site : Site) (first_id exchanges : ℕ) (turns : List Turn) (p q : EndsState) → IsBeginning site first_id exchanges p → TakesAll site turns p q
    → (moves : List WorldMove) × PlaysAll moves p.world q.world
turns_play site first_id exchanges turns p q is all = let t = all_turns site turns p q all (begins site first_id exchanges p is) in (t.moves, t.plays)
