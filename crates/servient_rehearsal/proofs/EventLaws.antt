-- An event that the servient steps on is a turn of both ends.
use Rattle.std.proofs.Common.{◌≡◌, ◌∙◌, ℕ, ◌+◌, ◌<◌, ◌≤◌, max, Bool, true, false, cond, List, [], ◌++◌, take, length, min, inl, inr, refl, sym, ap, subst, arith}
use Rattle.std.specs.Prelude.{◌==◌, nat_lt, nat_le, Some, slice_get}
use Rattle.std.proofs.lemmas.Bool.Decides.{nat_tests}
use Rattle.std.proofs.lemmas.List.{append-nil}
use Rattle.coap_msg.proofs.SameEndpoints.{both}
use Rattle.coap_msg.specs.declared.endpoint.Endpoint.{Endpoint}
use Rattle.coap_client.specs.declared.state.State.{State as ClientState}
use Rattle.coap_observe.specs.declared.notice.Notice.{Notice}
use Rattle.thing_handler.specs.Handler.{Seen}
use Rattle.servient_outside.specs.declared.net.What.{What}
use Rattle.servient_outside.specs.declared.net.What.TheVariants as what
use Rattle.servient_outside.specs.declared.net.EventWithBytes.{EventWithBytes}
use Rattle.servient_outside.specs.Network.{byte_count, MayCome}
use Rattle.servient_trace.specs.Trace.{Sighting}
use Rattle.servient_core.specs.Machine.{Site, State, EventAndStep}
use Rattle.servient_core.specs.declared.layers.Layers.{Layers}
use Rattle.servient_world.specs.World.{WorldState, Datagram, Purpose, server_place, is_end, other, purpose_back, acts_for, id_used, with_sent, may_come}
use Rattle.servient_ends.specs.Ends.{EndsState, Turn, delivers, passes, happens, act_of, back_of, emitted_by_datagram, emitted_by, notifications_in, with_emissions, with_notifications, event_at, ServientHears, ServientDoes, to_servient, comes_from_elsewhere, is_of_an_end as is_of_one, datagrams_in}
use Rattle.servient_ends.proofs.StepParts.{IsNoDatagram}
use Rattle.servient_ends.proofs.SeenLaws.{hearing_sends, doing_sends}
use Rattle.servient_rehearsal.specs.declared.notes.Notes.{Notes}
use Rattle.servient_rehearsal.specs.declared.world.SentDatagram.{SentDatagram}
use Rattle.servient_rehearsal.specs.Moves.{is_possible, is_given, is_of_an_end, turn_besides}
use Rattle.servient_rehearsal.specs.Noted.{Noted, noted_of, with_datagrams, shown_datagram}
use Rattle.servient_rehearsal.specs.Turns.{Played, TakesTurn}
use Rattle.servient_rehearsal.specs.Playing.{kept, IsShown, AreNoted, PlaysTurn, PlaysTurnAtMost, StepsFrom, HearsAndNotes, HearsAtMost, may_come_now}
use Rattle.servient_rehearsal.proofs.NotedLaws.{event_shown, notifications_noted, shown_at}
use Rattle.servient_rehearsal.proofs.TurnLaws.{shows_none, arrives_turn, Turned, Turns, nothing_done}
use Rattle.servient_rehearsal.proofs.ClientLaws.{passed_turn}
use Rattle.servient_rehearsal.proofs.StepLaws.{StepsLike, uncut}

-- ---- a step as a turn

-- the world after a datagram came to the servient
abbrev heard_world : (site : Site) (from : Endpoint) (size : ℕ) (bytes : List ℕ) (purpose : Purpose) (p : EndsState) (t : State) (seen : List Sighting)
    → EventAndStep site (event_at p.world.moment (what.Datagram from size) bytes) p.servient seen t → WorldState
heard_world site from size bytes purpose p t seen step =
    with_notifications t.thing (notifications_in step.other.mid step.other.second t step.other.other)
    (with_emissions (emitted_by_datagram site from bytes (record step.mid { moment = max step.mid.moment p.world.moment }) step.other.first step.other.mid step.other.one)
    (with_sent (record p.world {
      server = t.coap;
      acts = p.world.acts ++ acts_for purpose (act_of site from bytes (record step.mid { moment = max step.mid.moment p.world.moment }) step.other.first step.other.mid step.other.one);
      ids = p.world.ids + id_used p.servient.coap step.other.mid.coap;
    }) server_place from (purpose_back purpose) (back_of site from bytes (record step.mid { moment = max step.mid.moment p.world.moment }) step.other.first step.other.mid step.other.one)))

-- and after anything else did
abbrev done_world : (site : Site) (w : What) (bytes : List ℕ) (p : EndsState) (t : State) (seen : List Sighting)
    → EventAndStep site (event_at p.world.moment w bytes) p.servient seen t → WorldState
done_world site w bytes p t seen step =
    with_notifications t.thing (notifications_in step.other.mid step.other.second t step.other.other)
    (with_emissions (emitted_by site w bytes (record step.mid { moment = max step.mid.moment p.world.moment }) step.other.first step.other.mid step.other.one)
    (record p.world { server = t.coap }))

-- whatever both ends were, a step on this event is this turn
abbrev pub StepsTurn : Site → Turn → EventWithBytes → Layers → Layers → ClientState → Notes → List Seen → List Seen → Type 0
StepsTurn site m e old new client notes before after =
    (p : Played) → AreNoted (kept old client notes) p → (steps : StepsFrom site e p.ends.servient new before after)
    → Turned site m p new client before after (with_datagrams (datagrams_in steps.seen) (noted_of notes.world)) notes.registered

pub steps_play : (site : Site) (m : Turn) (e : EventWithBytes) (old new : Layers) (client : ClientState) (notes after : Notes) (slots shown : List Seen) → StepsTurn site m e old new client notes slots shown
    → HearsAndNotes site e old new slots shown (noted_of notes.world) (noted_of after.world) → after.registered ≡ notes.registered
    → PlaysTurn site m (kept old client notes) (kept new client after) slots shown
steps_play site m e old new client notes after slots shown steps_turn hears registered = λ p are.
    let h = hears p.ends.servient are.left.servient in
    let t = steps_turn p are h.0 in (
      t.next,
      record {
        left = record { servient = t.stands; client = t.same_client };
        shown = subst (λ (n : Noted). IsShown n t.next) (sym h.1) t.shown;
        registered = registered ∙ t.registered;
      },
      record { seen = t.seen; move = t.turn; shows = t.shows },
    )

pub steps_at_most : (site : Site) (m : Turn) (e : EventWithBytes) (old new : Layers) (client : ClientState) (notes after : Notes) (slots shown : List Seen) → StepsTurn site m e old new client notes slots shown
    → HearsAtMost site e old new slots shown → PlaysTurnAtMost site m (kept old client notes) (kept new client after) slots shown
steps_at_most site m e old new client notes after slots shown steps_turn (inl hears) = λ p are.
    let t = steps_turn p are (hears p.ends.servient are.left.servient) in (
      t.next,
      record { servient = t.stands; client = t.same_client },
      record { seen = t.seen; move = inl t.turn; shows = t.shows },
    )
steps_at_most site m e old new client notes after slots shown steps_turn (inr none) = nothing_done site m old new client notes after slots shown none.0 none.1

-- a datagram, whatever it was sent for, and whichever turn that is
heard_turned : (site : Site) (m : Turn) (from : Endpoint) (size : ℕ) (bytes : List ℕ) (purpose : Purpose) (p : Played) (old new : Layers) (client : ClientState) (notes : Notes) (before after : List Seen)
    (said : List (Endpoint × List ℕ)) → AreNoted (kept old client notes) p
    → (steps : StepsFrom site (event_at p.ends.world.moment (what.Datagram from size) bytes) p.ends.servient new before after) → datagrams_in steps.seen ≡ said
    → ((q : Played) → q.values ≡ p.values → (hears : ServientHears site from size bytes purpose p.ends q.ends) → TakesTurn site m p hears.seen q)
    → Turned site m p new client before after (with_datagrams said (noted_of notes.world)) notes.registered
heard_turned site m from size bytes purpose p old new client notes before after said are steps same takes =
    let step = steps.step in
    let s1 : State = record step.mid { moment = max step.mid.moment p.ends.world.moment } in
    let back : List (List ℕ) = back_of site from bytes s1 step.other.first step.other.mid step.other.one in
    let ns : List Notice = notifications_in step.other.mid step.other.second steps.state step.other.other in
    let w : WorldState = with_emissions (emitted_by_datagram site from bytes s1 step.other.first step.other.mid step.other.one) (with_sent (record p.ends.world {
      server = steps.state.coap;
      acts = p.ends.world.acts ++ acts_for purpose (act_of site from bytes s1 step.other.first step.other.mid step.other.one);
      ids = p.ends.world.ids + id_used p.ends.servient.coap step.other.mid.coap;
    }) server_place from (purpose_back purpose) back) in
    let q : Played = record { ends = record { world = heard_world site from size bytes purpose p.ends steps.state steps.seen steps.step; servient = steps.state }; values = p.values } in
    record {
      next = q;
      stands = steps.stands;
      same_client = are.left.client;
      seen = steps.seen;
      turn = takes q refl (record { seen = steps.seen; step = steps.step; next = refl });
      shows = steps.rack;
      shown = record {
        moment = are.shown.moment;
        sent = event_shown notes.world.sent.items p.ends.world.sent notes.world.moment w from (purpose_back purpose) back steps.state.thing ns said are.shown.sent are.shown.moment
            (sym same ∙ hearing_sends site p.ends.world.moment from size bytes p.ends.servient steps.state steps.seen steps.step);
        asks = are.shown.asks;
        ends = are.shown.ends;
        taken = are.shown.taken;
      };
      registered = are.registered;
    }

-- anything else
done_turned : (site : Site) (m : Turn) (x : What) (bytes : List ℕ) (p : Played) (old new : Layers) (client : ClientState) (notes : Notes) (before after : List Seen)
    → IsNoDatagram x → AreNoted (kept old client notes) p
    → (steps : StepsFrom site (event_at p.ends.world.moment x bytes) p.ends.servient new before after)
    → ((q : Played) → q.values ≡ p.values → (does : ServientDoes site x bytes p.ends q.ends) → TakesTurn site m p does.seen q)
    → Turned site m p new client before after (with_datagrams (datagrams_in steps.seen) (noted_of notes.world)) notes.registered
done_turned site m x bytes p old new client notes before after plain are steps takes =
    let step = steps.step in
    let s1 : State = record step.mid { moment = max step.mid.moment p.ends.world.moment } in
    let ns : List Notice = notifications_in step.other.mid step.other.second steps.state step.other.other in
    let w : WorldState = with_emissions (emitted_by site x bytes s1 step.other.first step.other.mid step.other.one) (record p.ends.world { server = steps.state.coap }) in
    let q : Played = record { ends = record { world = done_world site x bytes p.ends steps.state steps.seen steps.step; servient = steps.state }; values = p.values } in
    record {
      next = q;
      stands = steps.stands;
      same_client = are.left.client;
      seen = steps.seen;
      turn = takes q refl (record { seen = steps.seen; step = steps.step; next = refl });
      shows = steps.rack;
      shown = record {
        moment = are.shown.moment;
        sent = notifications_noted notes.world.sent.items p.ends.world.sent notes.world.moment w steps.state.thing ns (datagrams_in steps.seen) are.shown.sent are.shown.moment
            (doing_sends site p.ends.world.moment x bytes p.ends.servient steps.state steps.seen plain steps.step);
        asks = are.shown.asks;
        ends = are.shown.ends;
        taken = are.shown.taken;
      };
      registered = are.registered;
    }

-- ---- a datagram that was sent

sent_turned : (site : Site) (i : ℕ) (e : SentDatagram) (n : ℕ) (given : List ℕ) (old new : Layers) (client : ClientState) (notes : Notes) (before after : List Seen) (p : Played) → AreNoted (kept old client notes) p
    → (steps : StepsFrom site (event_at p.ends.world.moment (what.Datagram e.from n) given) p.ends.servient new before after) → (d : Datagram) → slice_get p.ends.world.sent i ≡ Some d → shown_datagram d ≡ e
    → may_come p.ends.world.moment d ≡ true → d.to ≡ server_place → n ≡ min (length e.bytes) 2048 → given ≡ take n e.bytes
    → Turned site (delivers i) p new client before after (with_datagrams (datagrams_in steps.seen) (noted_of notes.world)) notes.registered
sent_turned site i e n given old new client notes before after p are steps d at is may to size cut =
    let Like : SentDatagram → Type 0 = λ x. StepsLike site (event_at p.ends.world.moment (what.Datagram x.from (length x.bytes)) x.bytes) p.ends.servient new before after (datagrams_in steps.seen) in
    let like : StepsLike site (event_at p.ends.world.moment (what.Datagram d.from (length d.bytes)) d.bytes) p.ends.servient new before after (datagrams_in steps.seen)
    = subst Like (sym is) (uncut site p.ends.world.moment e.from e.bytes p.ends.servient new before after n given size cut steps) in
    heard_turned site (delivers i) d.from (length d.bytes) d.bytes d.purpose p old new client notes before after (datagrams_in steps.seen) are like.steps like.same
    (λ q values hears. arrives_turn site i p hears.seen q (Some d) at (record { comes = to_servient may to hears; saw = refl; values = values ∙ sym (append-nil p.values) }))

-- a fact at the moment that is noted holds at that of the world
abbrev AtMoment : (site : Site) (w : What) (bytes : List ℕ) (new : Layers) (before after : List Seen) (p : Played) (m : Turn) (client : ClientState) (notes : Notes) (moment : ℕ) → Type 0
AtMoment site w bytes new before after p m client notes moment =
    (steps : StepsFrom site (event_at moment w bytes) p.ends.servient new before after) → Turned site m p new client before after (with_datagrams (datagrams_in steps.seen) (noted_of notes.world)) notes.registered

pub sent_turns : (site : Site) (i : ℕ) (e : SentDatagram) (n : ℕ) (given : List ℕ) (old new : Layers) (client : ClientState) (notes : Notes) (before after : List Seen)
    → slice_get notes.world.sent.items i ≡ Some e → may_come_now notes.world.moment e ≡ true → e.to ≡ server_place → n ≡ min (length e.bytes) 2048 → given ≡ take n e.bytes
    → StepsTurn site (delivers i) (event_at notes.world.moment (what.Datagram e.from n) given) old new client notes before after
sent_turns site i e n given old new client notes before after at may to size cut = λ p are.
    let there = shown_at p.ends.world.sent i e (ap (λ (l : List SentDatagram). slice_get l i) (sym are.shown.sent) ∙ at) in
    let may_now : may_come p.ends.world.moment there.0 ≡ true = subst (λ (m : ℕ). may_come_now m (shown_datagram there.0) ≡ true) are.shown.moment (subst (λ (x : SentDatagram). may_come_now notes.world.moment x ≡ true) (sym there.2) may) in
    let to_it : there.0.to ≡ server_place = ap (λ (x : SentDatagram). x.to) there.2 ∙ to in
    subst (AtMoment site (what.Datagram e.from n) given new before after p (delivers i) client notes) (sym are.shown.moment)
    (λ steps. sent_turned site i e n given old new client notes before after p are steps there.0 there.1 there.2 may_now to_it size cut)

-- ---- what comes besides

-- a datagram of elsewhere
elsewhere_turned : (site : Site) (from : Endpoint) (size : ℕ) (bytes : List ℕ) (old new : Layers) (client : ClientState) (notes : Notes) (before after : List Seen) (p : Played) → AreNoted (kept old client notes) p
    → is_end from ≡ false → (steps : StepsFrom site (event_at p.ends.world.moment (what.Datagram from size) bytes) p.ends.servient new before after)
    → Turned site (happens (what.Datagram from size) bytes) p new client before after (with_datagrams (datagrams_in steps.seen) (noted_of notes.world)) notes.registered
elsewhere_turned site from size bytes old new client notes before after p are apart steps =
    heard_turned site (happens (what.Datagram from size) bytes) from size bytes other p old new client notes before after (datagrams_in steps.seen) are steps refl
    (λ q values hears. record { takes = comes_from_elsewhere apart hears; saw = refl; values = values ∙ sym (append-nil p.values) })

besides_turned : (site : Site) (x : What) (bytes : List ℕ) (old new : Layers) (client : ClientState) (notes : Notes) (before after : List Seen) (p : Played) → AreNoted (kept old client notes) p
    → is_of_an_end x ≡ false → (steps : StepsFrom site (event_at p.ends.world.moment x bytes) p.ends.servient new before after)
    → Turned site (happens x bytes) p new client before after (with_datagrams (datagrams_in steps.seen) (noted_of notes.world)) notes.registered
besides_turned site (what.Datagram from size) bytes old new client notes before after p are apart steps = elsewhere_turned site from size bytes old new client notes before after p are apart steps
besides_turned site (what.Opened c) bytes old new client notes before after p are apart steps =
    done_turned site (happens (what.Opened c) bytes) (what.Opened c) bytes p old new client notes before after tt are steps
    (λ q values does. record { takes = does; saw = refl; values = values ∙ sym (append-nil p.values) })
besides_turned site (what.Bytes c size) bytes old new client notes before after p are apart steps =
    done_turned site (happens (what.Bytes c size) bytes) (what.Bytes c size) bytes p old new client notes before after tt are steps
    (λ q values does. record { takes = does; saw = refl; values = values ∙ sym (append-nil p.values) })
besides_turned site (what.Ended c) bytes old new client notes before after p are apart steps =
    done_turned site (happens (what.Ended c) bytes) (what.Ended c) bytes p old new client notes before after tt are steps
    (λ q values does. record { takes = does; saw = refl; values = values ∙ sym (append-nil p.values) })
besides_turned site what.Tick bytes old new client notes before after p are apart steps =
    done_turned site (happens what.Tick bytes) what.Tick bytes p old new client notes before after tt are steps
    (λ q values does. record { takes = does; saw = refl; values = values ∙ sym (append-nil p.values) })
besides_turned site what.Stop bytes old new client notes before after p are apart steps =
    done_turned site (happens what.Stop bytes) what.Stop bytes p old new client notes before after tt are steps
    (λ q values does. record { takes = does; saw = refl; values = values ∙ sym (append-nil p.values) })

given_turns : (site : Site) (b : Bool) (x : What) (bytes : List ℕ) (old new : Layers) (client : ClientState) (notes : Notes) (before after : List Seen) → b ≡ true → is_of_an_end x ≡ false
    → StepsTurn site (cond b (happens x bytes) (passes 0)) (event_at notes.world.moment x bytes) old new client notes before after
given_turns site true x bytes old new client notes before after given apart = λ p are.
    subst (AtMoment site x bytes new before after p (happens x bytes) client notes) (sym are.shown.moment)
    (λ steps. besides_turned site x bytes old new client notes before after p are apart steps)
given_turns site false x bytes old new client notes before after given apart = absurd (cc)

pub besides_turns : (site : Site) (x : What) (bytes : List ℕ) (old new : Layers) (client : ClientState) (notes : Notes) (before after : List Seen) → is_given x bytes ≡ true → is_of_an_end x ≡ false
    → StepsTurn site (turn_besides x bytes) (event_at notes.world.moment x bytes) old new client notes before after
besides_turns site x bytes old new client notes before after given apart = given_turns site (is_given x bytes) x bytes old new client notes before after given apart

-- where no network gives that, nothing happens
none_by : (site : Site) (b : Bool) (x : What) (bytes : List ℕ) (s : Layers) (client : ClientState) (notes : Notes) (slots : List Seen) → b ≡ false
    → Turns site (cond b (happens x bytes) (passes 0)) (kept s client notes) s client slots slots (noted_of notes.world) notes.registered
none_by site true x bytes s client notes slots not_given = absurd (cc)
none_by site false x bytes s client notes slots not_given =
    subst (λ (n : ℕ). Turns site (passes 0) (kept s client notes) s client slots slots (record (noted_of notes.world) { moment = n }) notes.registered) (none_later notes.world.moment)
    (passed_turn site s slots 0 client notes)
  where
    none_later : (n : ℕ) → n + 0 ≡ n
    none_later n = omega arith

pub not_given_turn : (site : Site) (x : What) (bytes : List ℕ) (s : Layers) (client : ClientState) (notes : Notes) (slots : List Seen) → is_given x bytes ≡ false
    → Turns site (turn_besides x bytes) (kept s client notes) s client slots slots (noted_of notes.world) notes.registered
not_given_turn site x bytes s client notes slots not_given = none_by site (is_given x bytes) x bytes s client notes slots not_given

-- nor where it is a datagram of an end
end_skips : (site : Site) (x : What) (bytes : List ℕ) (p : Played) → is_of_an_end x ≡ true → TakesTurn site (happens x bytes) p [] p
end_skips site (what.Datagram from size) bytes p is = record { takes = is_of_one is (record { does = refl; same = refl }); saw = refl; values = sym (append-nil p.values) }
end_skips site (what.Opened c) bytes p is = absurd (cc)
end_skips site (what.Bytes c size) bytes p is = absurd (cc)
end_skips site (what.Ended c) bytes p is = absurd (cc)
end_skips site what.Tick bytes p is = absurd (cc)
end_skips site what.Stop bytes p is = absurd (cc)

end_by_test : (site : Site) (b : Bool) (x : What) (bytes : List ℕ) (s : Layers) (client : ClientState) (notes : Notes) (slots : List Seen) → b ≡ true → is_of_an_end x ≡ true
    → Turns site (cond b (happens x bytes) (passes 0)) (kept s client notes) s client slots slots (noted_of notes.world) notes.registered
end_by_test site true x bytes s client notes slots given is = λ p are. record {
  next = p;
  stands = are.left.servient;
  same_client = are.left.client;
  seen = [];
  turn = end_skips site x bytes p is;
  shows = shows_none slots;
  shown = are.shown;
  registered = are.registered;
}
end_by_test site false x bytes s client notes slots given is = absurd (cc)

pub end_turn : (site : Site) (x : What) (bytes : List ℕ) (s : Layers) (client : ClientState) (notes : Notes) (slots : List Seen) → is_given x bytes ≡ true → is_of_an_end x ≡ true
    → Turns site (turn_besides x bytes) (kept s client notes) s client slots slots (noted_of notes.world) notes.registered
end_turn site x bytes s client notes slots given is = end_by_test site (is_given x bytes) x bytes s client notes slots given is

-- an event that may be given may come
possible : (x : What) → is_possible x ≡ true → MayCome x
possible (what.Opened c) e = grind (arith, nat_tests)
possible (what.Bytes c count) e = let first = both _ _ e in let second = both _ _ first.1 in (below c first.0, least count second.0, most count second.1)
  where
    below : (n : ℕ) → nat_lt n 64 ≡ true → n < 64
    below n e = grind (arith, nat_tests)

    least : (n : ℕ) → nat_le 1 n ≡ true → 1 ≤ n
    least n e = grind (arith, nat_tests)

    most : (n : ℕ) → nat_le n 4096 ≡ true → n ≤ 4096
    most n e = grind (arith, nat_tests)
possible (what.Ended c) e = grind (arith, nat_tests)
possible (what.Datagram from count) e = grind (arith, nat_tests)
possible what.Tick e = tt
possible what.Stop e = tt

pub given_may_come : (x : What) (bytes : List ℕ) → is_given x bytes ≡ true → MayCome x × (length bytes ≡ byte_count x)
given_may_come x bytes e =
    let first = both _ _ e in (possible x first.0, same (length bytes) (byte_count x) first.1)
  where
    same : (m n : ℕ) → (m == n) ≡ true → m ≡ n
    same m n e = grind (arith, nat_tests)
