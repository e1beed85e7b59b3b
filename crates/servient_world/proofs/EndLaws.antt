-- The facts that all moves together keep, and the ends of asks.
use Rattle.std.proofs.Common.{◌≡◌, ◌⊎◌, ℕ, ◌≤◌, ◌∙◌, Option, Some, None, List, [], ◌∷◌, length, inl, inr, refl, sym, ap, subst, arith}
use Rattle.std.specs.Prelude.{Contains, slice_get}
use Rattle.std.proofs.lemmas.List.{length_push}
use Rattle.std.proofs.lemmas.List.Elements.{All-contains}
use Rattle.coap_msg.specs.declared.block.Block.{Block}
use Rattle.coap_client.specs.declared.outstanding.Outstanding.{Outstanding}
use Rattle.coap_client.specs.Answers.{block2_of}
use Rattle.coap_client.specs.Exchange.{at_moment, request_for}
use Rattle.coap_observe.specs.declared.notice.Notice.{Notice}
use Rattle.coap_bind.specs.Writing.{Reply, reply_options}
use Rattle.servient_world.specs.World.{server_place, Datagram, answered, observed, AskEnd, WorldState, IsStart, WorldMove, ask, due, deliver, pass, elsewhere, emit, notify, ClientAsks, sends_ask, refuses_ask, skips_ask, ClientDoesDue, retransmits, gives_up, waits, with_notification, too_late, to_client, to_server, ComesIfSent, ComesElsewhere, comes_elsewhere, skips_end, Plays, PlaysAll}
use Rattle.servient_world.specs.Laws.{said_of, AsksLinks, AsksOfBlocks, IsExcuse, IsAnsweredBy, AnsweredOnce, ObservedOnce}
use Rattle.servient_world.proofs.BlockReplies.{observed_block}
use Rattle.servient_world.proofs.Ledger.{Entry, IsEntry, entry_reply}
use Rattle.servient_world.proofs.Holds.{Holds}
use Rattle.servient_world.proofs.OnceLaws.{holds_after, holds_at_start}
use Rattle.servient_world.proofs.WatchLaws.{Watched}
use Rattle.servient_world.proofs.Exact.{Exact, IsEnd}
use Rattle.servient_world.proofs.AnsweredLaws.{exact_after, exact_at_start}
use Rattle.servient_world.proofs.WatchedLaws.{watched_after, watched_at_start}

-- ---- asks and ids are never forgotten

-- there are no fewer asks, and no fewer ids were used
pub record Grows (w v : WorldState) : Type 0 where
  pub asks : length w.asks ≤ length v.asks
  pub ids : w.ids ≤ v.ids

grows : (w v u : WorldState) → v ≡ u → length w.asks ≤ length u.asks → w.ids ≤ u.ids → Grows w v
grows w v u e asks ids = record {
  asks = subst (λ (y : WorldState). length w.asks ≤ length y.asks) (sym e) asks;
  ids = subst (λ (y : WorldState). w.ids ≤ y.ids) (sym e) ids;
}

grow_asked : (a : _) (w v : WorldState) → ClientAsks a w v → Grows w v
grow_asked a w v (sends_ask n old new t may asks is) =
    let o : Outstanding = request_for (at_moment w.moment w.client) server_place a asks.id in
    let more = length_push w.asks o in
    grows w v _ is (omega arith) (omega arith)
grow_asked a w v (refuses_ask f refused is) = grows w v _ is (omega arith) (omega arith)
grow_asked a w v (skips_ask may_not is) = grows w v w is (omega arith) (omega arith)

grow_due : (w v : WorldState) → ClientDoesDue w v → Grows w v
grow_due w v (retransmits n old new t is_due is) = grows w v _ is (omega arith) (omega arith)
grow_due w v (gives_up old new t is_due is) = grows w v _ is (omega arith) (omega arith)
grow_due w v (waits old new t is_due is) = grows w v _ is (omega arith) (omega arith)

grow_delivered : (w v : WorldState) (o : Option Datagram) → ComesIfSent o w v → Grows w v
grow_delivered w v None is = grows w v w is (omega arith) (omega arith)
grow_delivered w v (Some d) (too_late late is) = grows w v w is (omega arith) (omega arith)
grow_delivered w v (Some d) (to_client may to s) = grows w v _ s.next (omega arith) (omega arith)
grow_delivered w v (Some d) (to_server may to s) = grows w v _ s.next (omega arith) (omega arith)

grow_elsewhere : (from : _) (bytes : List ℕ) (w v : WorldState) → ComesElsewhere from bytes w v → Grows w v
grow_elsewhere from bytes w v (comes_elsewhere no_end s) = grows w v _ s.next (omega arith) (omega arith)
grow_elsewhere from bytes w v (skips_end is_one is) = grows w v w is (omega arith) (omega arith)

grow_noticed : (w u v : WorldState) (o : Option Notice) → u.asks ≡ w.asks → u.ids ≡ w.ids → v ≡ with_notification o u → Grows w v
grow_noticed w u v None asks ids is = grows w v u is (let e = ap length asks in omega arith) (omega arith)
grow_noticed w u v (Some n) asks ids is = grows w v _ is (let e = ap length asks in omega arith) (omega arith)

pub grows_by : (m : WorldMove) (w v : WorldState) → Plays m w v → Grows w v
grows_by (ask a) w v plays = grow_asked a w v plays
grows_by due w v plays = grow_due w v plays
grows_by (deliver i) w v plays = grow_delivered w v (slice_get w.sent i) plays
grows_by (pass n) w v plays = grows w v _ plays (omega arith) (omega arith)
grows_by (elsewhere from bytes) w v plays = grow_elsewhere from bytes w v plays
grows_by (emit e) w v plays = grows w v _ plays (omega arith) (omega arith)
grows_by notify w v plays = grow_noticed w (record w { server = plays.after }) v plays.notice refl refl plays.next

pub all_grow : (moves : List WorldMove) (w v : WorldState) → PlaysAll moves w v → Grows w v
all_grow [] w v is = grows w v w is (omega arith) (omega arith)
all_grow (m ∷ moves) w v plays =
    let one = grows_by m w plays.0 plays.1 in
    let more = all_grow moves plays.0 v plays.2 in
    let asks = more.asks in
    let ids = more.ids in
    let asks_now = one.asks in
    let ids_now = one.ids in
    record { asks = omega arith; ids = omega arith }

-- ---- all that holds

-- of a world with at most 65,536 asks
pub record Stands (exchanges observers : ℕ) (w : WorldState) : Type 0 where
  pub holds : Holds exchanges w
  pub exact : Exact w
  pub watched : Watched observers w

pub stands_after : (exchanges observers : ℕ) (m : WorldMove) (w v : WorldState) → Plays m w v → length w.asks ≤ 65536 → Stands exchanges observers w → Stands exchanges observers v
stands_after exchanges observers m w v plays few s =
    let after = holds_after exchanges m w v plays s.holds in
    record {
      holds = after;
      exact = exact_after exchanges observers m w v plays s.holds after few s.watched s.exact;
      watched = watched_after exchanges observers m w v plays s.holds after few s.exact s.watched;
    }

pub stands_at_start : (first_id exchanges observers : ℕ) (w : WorldState) → IsStart first_id exchanges observers w → Stands exchanges observers w
stands_at_start first_id exchanges observers w start = record {
  holds = holds_at_start first_id exchanges observers w start;
  exact = exact_at_start first_id exchanges observers w start;
  watched = watched_at_start first_id exchanges observers w start;
}

pub stands_after_all : (exchanges observers : ℕ) (moves : List WorldMove) (w v : WorldState) → PlaysAll moves w v → length v.asks ≤ 65536 → Stands exchanges observers w → Stands exchanges observers v
stands_after_all exchanges observers [] w v plays few s = subst (Stands exchanges observers) (sym plays) s
stands_after_all exchanges observers (m ∷ moves) w v plays few s =
    let one = (grows_by m w plays.0 plays.1).asks in
    let more = (all_grow moves plays.0 v plays.2).asks in
    stands_after_all exchanges observers moves plays.0 v plays.2 few (stands_after exchanges observers m w plays.0 plays.1 (omega arith) s)

-- ---- the ends of asks

pub observed_once : ObservedOnce
observed_once first_id exchanges observers moves w v k start plays few has =
    let s = stands_after_all exchanges observers moves w v plays few (stands_at_start first_id exchanges observers w start) in
    All-contains (λ (e : AskEnd). IsEnd v.acts s.exact.led e.ask e.end) v.ends (record { ask = k; end = observed }) s.exact.ended has

-- the answer to an ask that was admitted
answered_by : (v : WorldState) (x : Exact v) (k code : ℕ) (block : Option Block) (payload : List ℕ) (r : Reply) (e : Entry) → Contains x.led e → e.ask ≡ k → r ≡ e.reply
    → code ≡ r.code → block ≡ block2_of (reply_options r) → payload ≡ r.payload → ¬ (AsksLinks v.asks k) → ¬ (AsksOfBlocks v.asks k) → IsExcuse code payload ⊎ IsAnsweredBy v.acts k code block payload
answered_by v x k code block payload r e has same reply code_is block_is payload_is no_links no_blocks =
    elim (entry_reply v.asks v.acts v.server.links e (All-contains (IsEntry v.asks v.acts v.server.links) x.led e x.ledger.entries has)) [
      | inl act ↦ inr (record {
        act = act.act;
        made = act.made;
        for_it = act.for_it ∙ same;
        says_code = code_is ∙ ap (λ (y : Reply). y.code) (reply ∙ act.says);
        says_block = block_is ∙ (ap (λ (y : Reply). block2_of (reply_options y)) (reply ∙ act.says) ∙ observed_block act.seen (said_of act.act.acted));
        says_payload = payload_is ∙ ap (λ (y : Reply). y.payload) (reply ∙ act.says);
      })
      | inr rest ↦ elim rest.why [
        | inl none ↦ inl (code_is ∙ ap (λ (y : Reply). y.code) (reply ∙ none), inr (payload_is ∙ ap (λ (y : Reply). y.payload) (reply ∙ none)))
        | inr (inl links) ↦ absurd (no_links (subst (AsksLinks v.asks) same links))
        | inr (inr blocks) ↦ absurd (no_blocks (subst (AsksOfBlocks v.asks) same blocks))
      ]
    ]

pub answered_once : AnsweredOnce
answered_once first_id exchanges observers moves w v k code block payload start plays few no_links no_blocks has =
    let s = stands_after_all exchanges observers moves w v plays few (stands_at_start first_id exchanges observers w start) in
    let is = All-contains (λ (e : AskEnd). IsEnd v.acts s.exact.led e.ask e.end) v.ends (record { ask = k; end = answered code block payload }) s.exact.ended has in
    elim is.1 [
      | inl full ↦ inl (is.2 ∙ ap (λ (r : Reply). r.code) full, inl (is.4 ∙ ap (λ (r : Reply). r.payload) full))
      | inr e ↦ answered_by v s.exact k code block payload is.0 e.0 e.1 e.2 e.3 is.2 is.3 is.4 no_links no_blocks
    ]
