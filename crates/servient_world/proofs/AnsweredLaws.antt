-- Each move keeps `Exact`, so an ask that was answered was told its effect.
use Rattle.std.proofs.Common.{◌≡◌, ℕ, ◌+◌, ◌≤◌, Bool, true, false, Option, Some, None, List, [], ◌∷◌, ◌++◌, take, length, inl, inr, refl, sym, ap, subst, arith}
use Rattle.std.specs.Prelude.{◌||◌, All, AllPairs, slice_get}
use Rattle.std.proofs.lemmas.List.Elements.{All-nil, All-push}
use Rattle.coap_msg.specs.declared.endpoint.Endpoint.{Endpoint}
use Rattle.coap_msg.specs.Endpoints.{is_same_endpoint}
use Rattle.coap_client.specs.declared.outstanding.Outstanding.{Outstanding}
use Rattle.coap_client.specs.Asking.{Asking}
use Rattle.coap_client.specs.Exchange.{at_moment, request_for}
use Rattle.coap_bind.specs.declared.server.Server.{Server}
use Rattle.coap_bind.specs.Server.{with_emitted}
use Rattle.coap_bind.specs.Laws.{emitted as server_emitted}
use Rattle.servient_world.specs.World.{Emission, client_place, server_place, other, Datagram, timed_out, AskEnd, WorldState, IsStart, WorldMove, ask, due, deliver, pass, elsewhere, emit, notify, latest, with_sent, ClientAsks, sends_ask, refuses_ask, skips_ask, ClientDoesDue, retransmits, gives_up, waits, ClientTakes, Receives, too_long, treated, id_used, with_new_value, Comes, too_late, to_client, to_server, ComesIfSent, is_end, ComesElsewhere, comes_elsewhere, skips_end, Plays}
use Rattle.servient_world.proofs.Places.{all_at}
use Rattle.servient_world.proofs.Holds.{Holds, IsSentFor, came_soon}
use Rattle.servient_world.proofs.OnceLaws.{holds_at_start}
use Rattle.servient_world.proofs.Ledger.{Entry, IsEntry, HasEntry}
use Rattle.servient_world.proofs.LedgerLaws.{ledger_later}
use Rattle.servient_world.proofs.Given.{given_at_start}
use Rattle.servient_world.proofs.Joins.{joins_at_start}
use Rattle.servient_world.proofs.WatchLaws.{Watched}
use Rattle.servient_world.proofs.Exact.{Exact, IsKept, IsSaid, IsEnd}
use Rattle.servient_world.proofs.ClientLaws.{exact_asked, exact_copied, exact_client, exact_same, for_client, exact_taken, exact_noticed}
use Rattle.servient_world.proofs.NotificationLaws.{not_place}
use Rattle.servient_world.proofs.ServedLaws.{exact_silent, exact_elsewhere, exact_received, exact_server, exact_noted}

-- ---- the moves

exact_ask : (a : Asking) (w v : WorldState) → ClientAsks a w v → Exact w → Exact v
exact_ask a w v (sends_ask n old new t may asks is) x = subst Exact (sym is) (exact_asked w t (request_for (at_moment w.moment w.client) server_place a asks.id) (take n new) refl x)
exact_ask a w v (refuses_ask f refused is) x = subst Exact (sym is) (exact_same w (at_moment w.moment w.client) x)
exact_ask a w v (skips_ask may_not is) x = subst Exact (sym is) x

exact_due : (w v : WorldState) → ClientDoesDue w v → Exact w → Exact v
exact_due w v (retransmits n old new t is_due is) x = subst Exact (sym is) (exact_copied w t (latest w) (take n new) x)
exact_due w v (gives_up old new t is_due is) x =
    let e : AskEnd = record { ask = latest w; end = timed_out } in
    subst Exact (sym is) (exact_client w t (e ∷ []) w.taken x (All-push (λ (z : AskEnd). IsEnd w.acts x.led z.ask z.end) [] e (All-nil (λ (z : AskEnd). IsEnd w.acts x.led z.ask z.end)) tt)
    (All-push (λ (z : AskEnd). z.ask ≡ latest w) [] e (All-nil (λ (z : AskEnd). z.ask ≡ latest w)) refl))
exact_due w v (waits old new t is_due is) x = subst Exact (sym is) (exact_same w t x)

exact_take : (capacity : ℕ) (d : Datagram) (w v : WorldState) → ClientTakes d w v → Holds capacity w → length w.asks ≤ 65536 → (x : Exact w) → IsSaid w.asks w.acts x.led d d.purpose → d.to ≡ client_place → Exact v
exact_take capacity d w v y h few x said to =
    let it = for_client w x.led d d.purpose said to in
    subst Exact (sym y.next) (elim it.1 [
      | inl reply ↦ exact_taken capacity d w y.told y.old y.new y.after h few x it.0 reply y.delivers
      | inr note ↦ exact_noticed capacity d w y.told y.old y.new y.after h few x it.0 note.0 note.1 y.delivers
    ])

exact_come : (capacity observers : ℕ) (d : Datagram) (w v : WorldState) → Comes d w v → Holds capacity w → Holds capacity v → length w.asks ≤ 65536 → Watched observers w → (x : Exact w)
    → IsSentFor w.asks d d.purpose → IsSaid w.asks w.acts x.led d d.purpose → d.moment ≤ w.moment → Exact v
exact_come capacity observers d w v (too_late late is) h h_after few y x sent said past = subst Exact (sym is) x
exact_come capacity observers d w v (to_client may to take_it) h h_after few y x sent said past = exact_take capacity d w v take_it h few x said to
exact_come capacity observers d w v (to_server may to serve) h h_after few y x sent said past =
    exact_received capacity observers d w v serve h h_after few y x sent said to past (came_soon w.moment d may)

exact_deliver : (capacity observers : ℕ) (w v : WorldState) (i : ℕ) (o : Option Datagram) → slice_get w.sent i ≡ o → ComesIfSent o w v → Holds capacity w → Holds capacity v → length w.asks ≤ 65536
    → Watched observers w → Exact w → Exact v
exact_deliver capacity observers w v i None e is h h_after few y x = subst Exact (sym is) x
exact_deliver capacity observers w v i (Some d) e is h h_after few y x =
    exact_come capacity observers d w v is h h_after few y x (all_at (λ (z : Datagram). IsSentFor w.asks z z.purpose) w.sent i d h.purposes e)
    (all_at (λ (z : Datagram). IsSaid w.asks w.acts x.led z z.purpose) w.sent i d x.said e) (all_at (λ (z : Datagram). z.moment ≤ w.moment) w.sent i d h.past e)

neither : (b c : Bool) → (b || c) ≡ false → (b ≡ false) × (c ≡ false)
neither true c e = absurd (cc)
neither false c e = (refl, e)

-- an endpoint that is no end is neither place
pub no_end_place : (from : Endpoint) → is_end from ≡ false → ((from ≡ client_place) → ⊥) × ((from ≡ server_place) → ⊥)
no_end_place from none =
    let h = neither (is_same_endpoint from client_place) (is_same_endpoint from server_place) none in
    (not_place from client_place h.0, not_place from server_place h.1)

exact_comes_elsewhere : (from : Endpoint) (bytes : List ℕ) (w v : WorldState) → ComesElsewhere from bytes w v → Exact w → Exact v
exact_comes_elsewhere from bytes w v (comes_elsewhere no_end s) x = subst Exact (sym s.next) (at s.receives)
  where
    at : Receives from bytes w.moment s.act s.back w.server s.after
        → Exact (with_sent (record w { server = s.after; acts = w.acts ++ []; ids = w.ids + id_used w.server s.after }) server_place from other s.back)
    at (too_long long none nothing same) = exact_silent w s.after [] (w.ids + id_used w.server s.after) from other s.back refl same nothing x
    at (treated short treats) =
        let places = no_end_place from no_end in
        exact_elsewhere w from bytes s.act s.back s.after (w.ids + id_used w.server s.after) x places.0 places.1 treats
exact_comes_elsewhere from bytes w v (skips_end is_one is) x = subst Exact (sym is) x

exact_later : (w : WorldState) (n : ℕ) → Exact w → Exact (record w { moment = w.moment + n })
exact_later w n x = record {
  led = x.led;
  ledger = ledger_later x.led w.asks w.acts w.server w.moment (w.moment + n) (omega arith) x.ledger;
  given = x.given;
  joins = x.joins;
  fed = x.fed;
  first = x.first;
  kept = x.kept;
  said = x.said;
  ended = x.ended;
}

exact_emitted : (w : WorldState) (e : Emission) → Exact w → Exact (with_new_value e w)
exact_emitted w e x =
    exact_server w (with_emitted e.target w.server) (w.emitted ++ e ∷ []) refl refl refl refl x
    (x.ledger.served.0, server_emitted x.ledger.history w.server (with_emitted e.target w.server) e.target x.ledger.served.1 refl)

pub exact_after : (capacity observers : ℕ) (m : WorldMove) (w v : WorldState) → Plays m w v → Holds capacity w → Holds capacity v → length w.asks ≤ 65536 → Watched observers w → Exact w → Exact v
exact_after capacity observers (ask a) w v plays h h_after few y x = exact_ask a w v plays x
exact_after capacity observers due w v plays h h_after few y x = exact_due w v plays x
exact_after capacity observers (deliver i) w v plays h h_after few y x = exact_deliver capacity observers w v i (slice_get w.sent i) refl plays h h_after few y x
exact_after capacity observers (pass n) w v plays h h_after few y x = subst Exact (sym plays) (exact_later w n x)
exact_after capacity observers (elsewhere from bytes) w v plays h h_after few y x = exact_comes_elsewhere from bytes w v plays x
exact_after capacity observers (emit e) w v plays h h_after few y x = subst Exact (sym plays) (exact_emitted w e x)
exact_after capacity observers notify w v plays h h_after few y x = subst Exact (sym plays.next) (exact_noted capacity observers w plays.after plays.notice h few y plays.sends x)

pub exact_at_start : (first_id exchanges observers : ℕ) (w : WorldState) → IsStart first_id exchanges observers w → Exact w
exact_at_start first_id exchanges observers w s =
    let h = holds_at_start first_id exchanges observers w s in
    record {
      led = [];
      ledger = record {
        capacity = exchanges;
        history = h.history;
        served = h.served;
        early = h.server_moment;
        admitted = All-nil (λ (x : Entry). _);
        once = λ i j d before within. absurd (omega arith);
        in_time = λ i j d before within. absurd (omega arith);
        past = subst (All (λ (a : Outstanding). a.first ≤ w.moment)) (sym s.asks) (All-nil (λ (a : Outstanding). a.first ≤ w.moment));
        rising = subst (AllPairs (λ (a b : Outstanding). a.first ≤ b.first)) (sym s.asks) (λ i j d before within. absurd (omega arith));
        entries = All-nil (IsEntry w.asks w.acts w.server.links);
        acts_have = subst (All (HasEntry [])) (sym s.acts) (All-nil (HasEntry []));
      };
      given = given_at_start w.server (ap (λ (z : Server). z.bodies) s.server);
      joins = joins_at_start w.server (ap (λ (z : Server). z.parts) s.server);
      fed = λ k d within. absurd (omega arith);
      first = λ i j d before within. absurd (omega arith);
      kept = subst (λ (y : Server). All (IsKept w.asks []) y.exchanges.exchanges) (sym s.server) (All-nil (IsKept w.asks []));
      said = subst (All (λ d. IsSaid w.asks w.acts [] d d.purpose)) (sym s.sent) (All-nil (λ (d : Datagram). IsSaid w.asks w.acts [] d d.purpose));
      ended = subst (All (λ e. IsEnd w.acts [] e.ask e.end)) (sym s.ends) (All-nil (λ (e : AskEnd). IsEnd w.acts [] e.ask e.end));
    }
