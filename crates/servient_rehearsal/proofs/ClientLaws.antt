-- An act of the client is a turn of both ends.
use Rattle.std.proofs.Common.{◌≡◌, ◌≢◌, ◌∙◌, ℕ, ◌+◌, ◌-◌, ◌^◌, ◌<◌, ◌≤◌, ◌&&◌, Bool, true, false, cond, not, List, [], ◌∷◌, ◌++◌, map, take, length, inl, inr, refl, sym, ap, subst, arith}
use Rattle.std.specs.Prelude.{All, IfSome, Option, Some, None, is_some, slice_get, option_map}
use Rattle.std.specs.Option.{option_to_list}
use Rattle.std.proofs.lemmas.List.{append-nil}
use Rattle.coap_msg.specs.declared.block.Block.{Block}
use Rattle.coap_msg.specs.declared.endpoint.Endpoint.{Endpoint}
use Rattle.coap_msg.specs.Blocks.{IsBlock}
use Rattle.coap_client.specs.declared.outstanding.Outstanding.{Outstanding}
use Rattle.coap_client.specs.declared.state.State.{State as ClientState}
use Rattle.coap_client.specs.declared.fault.ClientFault.{ClientFault}
use Rattle.coap_client.specs.declared.news.News.{News}
use Rattle.coap_client.specs.declared.news.News.TheVariants as news
use Rattle.coap_client.specs.declared.news.Delivered.{Delivered}
use Rattle.coap_client.specs.declared.due.Due.TheVariants as what
use Rattle.coap_client.specs.Asking.{Asking, MayAsk, message_for}
use Rattle.coap_client.specs.Exchange.{at_moment, Asks, IsRefused, is_registration, request_for, token_for, ComesDue, Delivers}
use Rattle.thing_handler.specs.Handler.{Seen}
use Rattle.servient_core.specs.Machine.{Site}
use Rattle.servient_core.specs.declared.layers.Layers.{Layers}
use Rattle.servient_world.specs.World.{WorldState, Datagram, AskEnd as AskEndInWorld, answered, observed, reset, timed_out, client_place, server_place, copy_of, other, latest, with_sent, sent_now, may_come, end_by, taken_by, ClientAsks, sends_ask, refuses_ask, skips_ask, ClientDoesDue, retransmits, gives_up, waits, ClientTakes}
use Rattle.servient_ends.specs.Ends.{Turn, asks_next, does_due, delivers, passes, to_client, too_late, Takes}
use Rattle.servient_rehearsal.specs.declared.notes.Notes.{Notes}
use Rattle.servient_rehearsal.specs.declared.world.SentDatagram.{SentDatagram}
use Rattle.servient_rehearsal.specs.declared.world.AskMade.{AskMade}
use Rattle.servient_rehearsal.specs.declared.world.AskEnd.{AskEnd}
use Rattle.servient_rehearsal.specs.declared.world.End.{End}
use Rattle.servient_rehearsal.specs.declared.world.End.TheVariants as end
use Rattle.servient_rehearsal.specs.declared.world.TakenValue.{TakenValue}
use Rattle.servient_rehearsal.specs.Noted.{Noted, noted_of, with_datagram, with_ask, with_end, with_end_if, with_news, number_after, shown_datagram, shown_asks, shown_end, shown_ends, last_registration}
use Rattle.servient_rehearsal.specs.Turns.{Played, TakesTurn, values_in}
use Rattle.servient_rehearsal.specs.Playing.{kept, AreNoted, ComesTooLate, may_come_now}
use Rattle.servient_rehearsal.proofs.NotedLaws.{ask_shown, registered_more, id_of_spelling, as_many_shown, end_shown, datagram_shown, shown_at, none_shown_at}
use Rattle.servient_rehearsal.proofs.TurnLaws.{shows_none, arrives_turn, Turns}

-- ---- the client as it is, at the moment of the world

abbrev pub with_world : Played → WorldState → Played
with_world p w = record p { ends = record p.ends { world = w } }

-- a fact of the client that is kept, at the moment that is noted, holds in the world
in_world : (P : ClientState → Type 0) (s : Layers) (client : ClientState) (notes : Notes) (p : Played) → AreNoted (kept s client notes) p
    → P (at_moment notes.world.moment client) → P (at_moment p.ends.world.moment p.ends.world.client)
in_world P s client notes p are holds =
    subst (λ (c : ClientState). P (at_moment p.ends.world.moment c)) (sym are.left.client) (subst (λ (m : ℕ). P (at_moment m client)) are.shown.moment holds)

-- ---- asking

-- a block with a number of 20 bits and one of the sizes there are can be said
pub can_be_said : (b : Block) → b.number < 2 ^ 20 → b.szx ≤ 6 → IsBlock b
can_be_said b number size = record { number = number; szx = size }

-- an ask of class 0 may be asked, with short segments and blocks that an option can say
pub may_be_asked : (a : Asking) → a.code ≢ 0 → a.code < 32 → IfSome a.block1 IsBlock → IfSome a.block2 IsBlock → All (λ segment. length segment ≤ 255) a.path → MayAsk a
may_be_asked a code class block1 block2 segments = record { code = code; class = class; segments = segments; block1 = block1; block2 = block2 }

pub asked_turn : (site : Site) (s : Layers) (slots : List Seen) (a : Asking) (client t : ClientState) (notes : Notes) (n : ℕ) (old new : List ℕ)
    → MayAsk a → Asks (at_moment notes.world.moment client) server_place a n old new t
    → Turns site (asks_next a) (kept s client notes) s t slots slots (with_ask (take n new) (noted_of notes.world)) (number_after (is_registration a.observe) (length notes.world.asks.items) notes.registered)
asked_turn site s slots a client t notes n old new may asks_kept = λ p are.
    let w : WorldState = p.ends.world in
    let asks : Asks (at_moment p.ends.world.moment p.ends.world.client) server_place a n old new t = in_world (λ (c : ClientState). Asks c server_place a n old new t) s client notes p are asks_kept in
    let o : Outstanding = request_for (at_moment p.ends.world.moment p.ends.world.client) server_place a asks.id in
    let v : WorldState = with_sent (record p.ends.world { client = t; asks = p.ends.world.asks ++ o ∷ [] }) client_place server_place (copy_of (length p.ends.world.asks)) (take n new ∷ []) in record {
      next = with_world p v;
      stands = are.left.servient;
      same_client = refl;
      seen = [];
      turn = record { takes = record { does = sends_ask n old new t may asks refl; same = refl }; saw = refl; values = sym (append-nil p.values) };
      shows = shows_none slots;
      shown = record {
        moment = are.shown.moment;
        sent = datagram_shown notes.world.sent.items p.ends.world.sent notes.world.moment p.ends.world.moment client_place server_place (copy_of (length p.ends.world.asks)) (take n new) are.shown.sent are.shown.moment;
        asks = ask_shown notes.world.asks.items p.ends.world.asks o _ notes.world.moment are.shown.asks
            (id_of_spelling (message_for a asks.id (token_for (at_moment p.ends.world.moment p.ends.world.client) server_place a.observe)) (take n new) asks.written.front) are.shown.moment;
        ends = are.shown.ends;
        taken = are.shown.taken;
      };
      registered = registered_more p.ends.world.asks o notes.world.asks.items notes.registered are.shown.asks are.registered;
    }

-- nothing that is noted changes
pub refused_turn : (site : Site) (s : Layers) (slots : List Seen) (a : Asking) (client t : ClientState) (notes : Notes) (f : ClientFault)
    → IsRefused (at_moment notes.world.moment client) server_place a f → t ≡ at_moment notes.world.moment client
    → Turns site (asks_next a) (kept s client notes) s t slots slots (noted_of notes.world) notes.registered
refused_turn site s slots a client t notes f refused is = λ p are.
    let here : t ≡ at_moment p.ends.world.moment p.ends.world.client = in_world (λ (c : ClientState). t ≡ c) s client notes p are is in record {
      next = with_world p (record p.ends.world { client = t });
      stands = are.left.servient;
      same_client = refl;
      seen = [];
      turn = record {
        takes = record {
          does = refuses_ask f (in_world (λ (c : ClientState). IsRefused c server_place a f) s client notes p are refused) (ap (λ (c : ClientState). record p.ends.world { client = c }) here);
          same = refl;
        };
        saw = refl;
        values = sym (append-nil p.values);
      };
      shows = shows_none slots;
      shown = record { moment = are.shown.moment; sent = are.shown.sent; asks = are.shown.asks; ends = are.shown.ends; taken = are.shown.taken };
      registered = are.registered;
    }

pub skipped_turn : (site : Site) (s : Layers) (slots : List Seen) (a : Asking) (client : ClientState) (notes : Notes) → ¬ (MayAsk a)
    → Turns site (asks_next a) (kept s client notes) s client slots slots (noted_of notes.world) notes.registered
skipped_turn site s slots a client notes may_not = λ p are. record {
  next = p;
  stands = are.left.servient;
  same_client = are.left.client;
  seen = [];
  turn = record { takes = record { does = skips_ask may_not refl; same = refl }; saw = refl; values = sym (append-nil p.values) };
  shows = shows_none slots;
  shown = are.shown;
  registered = are.registered;
}

-- ---- what is due

pub retransmitted_turn : (site : Site) (s : Layers) (slots : List Seen) (client t : ClientState) (notes : Notes) (n : ℕ) (old new : List ℕ)
    → ComesDue (at_moment notes.world.moment client) (what.Send n) old new t
    → Turns site does_due (kept s client notes) s t slots slots (with_datagram client_place server_place (take n new) (noted_of notes.world)) notes.registered
retransmitted_turn site s slots client t notes n old new comes = λ p are.
    let v : WorldState = with_sent (record p.ends.world { client = t }) client_place server_place (copy_of (latest p.ends.world)) (take n new ∷ []) in record {
      next = with_world p v;
      stands = are.left.servient;
      same_client = refl;
      seen = [];
      turn = record {
        takes = record { does = retransmits n old new t (in_world (λ (c : ClientState). ComesDue c (what.Send n) old new t) s client notes p are comes) refl; same = refl };
        saw = refl;
        values = sym (append-nil p.values);
      };
      shows = shows_none slots;
      shown = record {
        moment = are.shown.moment;
        sent = datagram_shown notes.world.sent.items p.ends.world.sent notes.world.moment p.ends.world.moment client_place server_place (copy_of (latest p.ends.world)) (take n new) are.shown.sent are.shown.moment;
        asks = are.shown.asks;
        ends = are.shown.ends;
        taken = are.shown.taken;
      };
      registered = are.registered;
    }

pub given_up_turn : (site : Site) (s : Layers) (slots : List Seen) (client t : ClientState) (notes : Notes) (old new : List ℕ)
    → ComesDue (at_moment notes.world.moment client) what.TimedOut old new t
    → Turns site does_due (kept s client notes) s t slots slots (with_end end.TimedOut (noted_of notes.world)) notes.registered
given_up_turn site s slots client t notes old new comes = λ p are.
    let v : WorldState = record p.ends.world { client = t; ends = p.ends.world.ends ++ record { ask = latest p.ends.world; end = timed_out } ∷ [] } in record {
      next = with_world p v;
      stands = are.left.servient;
      same_client = refl;
      seen = [];
      turn = record {
        takes = record { does = gives_up old new t (in_world (λ (c : ClientState). ComesDue c what.TimedOut old new t) s client notes p are comes) refl; same = refl };
        saw = refl;
        values = sym (append-nil p.values);
      };
      shows = shows_none slots;
      shown = record {
        moment = are.shown.moment;
        sent = are.shown.sent;
        asks = are.shown.asks;
        ends = end_shown notes.world.asks.items p.ends.world.asks notes.world.ends.items p.ends.world.ends timed_out are.shown.asks are.shown.ends;
        taken = are.shown.taken;
      };
      registered = are.registered;
    }

pub waited_turn : (site : Site) (s : Layers) (slots : List Seen) (client t : ClientState) (notes : Notes) (old new : List ℕ)
    → ComesDue (at_moment notes.world.moment client) what.Nothing old new t
    → Turns site does_due (kept s client notes) s t slots slots (noted_of notes.world) notes.registered
waited_turn site s slots client t notes old new comes = λ p are. record {
  next = with_world p (record p.ends.world { client = t });
  stands = are.left.servient;
  same_client = refl;
  seen = [];
  turn = record {
    takes = record { does = waits old new t (in_world (λ (c : ClientState). ComesDue c what.Nothing old new t) s client notes p are comes) refl; same = refl };
    saw = refl;
    values = sym (append-nil p.values);
  };
  shows = shows_none slots;
  shown = record { moment = are.shown.moment; sent = are.shown.sent; asks = are.shown.asks; ends = are.shown.ends; taken = are.shown.taken };
  registered = are.registered;
}

-- ---- a datagram comes

-- the end of an ask, as news say it
end_news : (ends : List AskEndInWorld) → shown_ends ends ≡ shown_ends (ends ++ [])
end_news ends = ap shown_ends (sym (append-nil ends))

news_end : (what_came : News) (x y : Option Outstanding) (k : ℕ) (n : Noted) (asks : List Outstanding) (ends : List AskEndInWorld) → n.asks ≡ shown_asks 0 asks → n.ends ≡ shown_ends ends
    → (with_news what_came (is_some x && not (is_some y)) k n).ends ≡ shown_ends (ends ++ end_by x y (length asks - 1) what_came)
news_end (news.Answered code block payload) None y k n asks ends same is = is ∙ end_news ends
news_end (news.Answered code block payload) (Some o) (Some u) k n asks ends same is = is ∙ end_news ends
news_end (news.Answered code block payload) (Some o) None k n asks ends same is = end_shown n.asks asks n.ends ends (answered code block payload.now) same is
news_end (news.Value payload) None y k n asks ends same is = is ∙ end_news ends
news_end (news.Value payload) (Some o) (Some u) k n asks ends same is = is ∙ end_news ends
news_end (news.Value payload) (Some o) None k n asks ends same is = end_shown n.asks asks n.ends ends observed same is
news_end news.Reset None y k n asks ends same is = is ∙ end_news ends
news_end news.Reset (Some o) (Some u) k n asks ends same is = is ∙ end_news ends
news_end news.Reset (Some o) None k n asks ends same is = end_shown n.asks asks n.ends ends reset same is
news_end news.Old None y k n asks ends same is = is ∙ end_news ends
news_end news.Old (Some o) (Some u) k n asks ends same is = is ∙ end_news ends
news_end news.Old (Some o) None k n asks ends same is = is ∙ end_news ends
news_end news.Nothing None y k n asks ends same is = is ∙ end_news ends
news_end news.Nothing (Some o) (Some u) k n asks ends same is = is ∙ end_news ends
news_end news.Nothing (Some o) None k n asks ends same is = is ∙ end_news ends

-- the notes that the end of an ask leaves
record LeavesAllBut (n m : Noted) : Type 0 where
  moment : m.moment ≡ n.moment
  sent : m.sent ≡ n.sent
  asks : m.asks ≡ n.asks

end_leaves : (b : Bool) (e : End) (n : Noted) → LeavesAllBut n (with_end_if b e n) × ((with_end_if b e n).taken ≡ n.taken)
end_leaves true e n = (record { moment = refl; sent = refl; asks = refl }, refl)
end_leaves false e n = (record { moment = refl; sent = refl; asks = refl }, refl)

news_leave : (what_came : News) (b : Bool) (k : ℕ) (n : Noted) → LeavesAllBut n (with_news what_came b k n)
news_leave (news.Answered code block payload) b k n = (end_leaves b (end.Answered code block payload.now) n).0
news_leave (news.Value payload) b k n = let l = (end_leaves b end.Observed n).0 in record { moment = l.moment; sent = l.sent; asks = l.asks }
news_leave news.Reset b k n = (end_leaves b end.Reset n).0
news_leave news.Old b k n = record { moment = refl; sent = refl; asks = refl }
news_leave news.Nothing b k n = record { moment = refl; sent = refl; asks = refl }

news_value : (what_came : News) (b : Bool) (k : ℕ) (n : Noted) → (with_news what_came b k n).taken ≡ n.taken ++ values_in k what_came
news_value (news.Answered code block payload) b k n = (end_leaves b (end.Answered code block payload.now) n).1 ∙ sym (append-nil n.taken)
news_value (news.Value payload) b k n = ap (λ (l : List TakenValue). l ++ record { ask = k; value = payload.now } ∷ []) (end_leaves b end.Observed n).1
news_value news.Reset b k n = (end_leaves b end.Reset n).1 ∙ sym (append-nil n.taken)
news_value news.Old b k n = sym (append-nil n.taken)
news_value news.Nothing b k n = sym (append-nil n.taken)

-- the reply is noted, if there is one
abbrev pub with_reply : Endpoint → Option (List ℕ) → Noted → Noted
with_reply to None n = n
with_reply to (Some bytes) n = with_datagram client_place to bytes n

reply_leaves : (to : Endpoint) (reply : Option (List ℕ)) (n : Noted)
    → ((with_reply to reply n).moment ≡ n.moment) × ((with_reply to reply n).asks ≡ n.asks) × ((with_reply to reply n).ends ≡ n.ends) × ((with_reply to reply n).taken ≡ n.taken)
reply_leaves to None n = (refl, refl, refl, refl)
reply_leaves to (Some bytes) n = (refl, refl, refl, refl)

reply_shown : (to : Endpoint) (reply : Option (List ℕ)) (n : Noted) (sent : List Datagram) (moment : ℕ) → n.sent ≡ map shown_datagram sent → n.moment ≡ moment
    → (with_reply to reply n).sent ≡ map shown_datagram (sent ++ sent_now moment client_place to other (option_to_list reply))
reply_shown to None n sent moment is same = is ∙ ap (map shown_datagram) (sym (append-nil sent))
reply_shown to (Some bytes) n sent moment is same = datagram_shown n.sent sent n.moment moment client_place to other bytes is same

pub taken_turn : (site : Site) (s : Layers) (slots : List Seen) (i : ℕ) (e : SentDatagram) (client t : ClientState) (notes : Notes) (told : Delivered) (old new : List ℕ)
    → slice_get notes.world.sent.items i ≡ Some e → may_come_now notes.world.moment e ≡ true → e.to ≡ client_place
    → Delivers (at_moment notes.world.moment client) e.from e.bytes told old new t
    → Turns site (delivers i) (kept s client notes) s t slots slots (with_reply e.from (option_map (λ (n : ℕ). take n new) told.reply) (with_news told.news (is_some client.outstanding && not (is_some t.outstanding)) notes.registered (noted_of notes.world))) notes.registered
taken_turn site s slots i e client t notes told old new at may to delivered = λ p are.
    let w : WorldState = p.ends.world in
    let there = shown_at p.ends.world.sent i e (ap (λ (l : List SentDatagram). slice_get l i) (sym are.shown.sent) ∙ at) in
    let d : Datagram = there.0 in
    let from : e.from ≡ d.from = ap (λ (x : SentDatagram). x.from) (sym there.2) in
    let bytes : e.bytes ≡ d.bytes = ap (λ (x : SentDatagram). x.bytes) (sym there.2) in
    let may_now : may_come p.ends.world.moment d ≡ true = subst (λ (m : ℕ). may_come_now m (shown_datagram d) ≡ true) are.shown.moment (subst (λ (x : SentDatagram). may_come_now notes.world.moment x ≡ true) (sym there.2) may) in
    let to_it : d.to ≡ client_place = ap (λ (x : SentDatagram). x.to) there.2 ∙ to in
    let comes : Delivers (at_moment p.ends.world.moment p.ends.world.client) d.from d.bytes told old new t =
    subst (λ (x : List ℕ). Delivers (at_moment p.ends.world.moment p.ends.world.client) d.from x told old new t) bytes
    (subst (λ (x : Endpoint). Delivers (at_moment p.ends.world.moment p.ends.world.client) x e.bytes told old new t) from
    (in_world (λ (c : ClientState). Delivers c e.from e.bytes told old new t) s client notes p are delivered)) in
    let reply : Option (List ℕ) = option_map (λ (n : ℕ). take n new) told.reply in
    let k : ℕ = notes.registered in
    let n : Noted = noted_of notes.world in
    let m : Noted = with_news told.news (is_some client.outstanding && not (is_some t.outstanding)) notes.registered (noted_of notes.world) in
    let leaves : LeavesAllBut n m = news_leave told.news (is_some client.outstanding && not (is_some t.outstanding)) notes.registered (noted_of notes.world) in
    let kept_by = reply_leaves e.from reply m in
    let u : WorldState = record p.ends.world {
      client = t;
      ends = p.ends.world.ends ++ end_by p.ends.world.client.outstanding t.outstanding (latest p.ends.world) told.news;
      taken = p.ends.world.taken ++ taken_by d.purpose told.news;
    } in
    let v : WorldState = with_sent u client_place d.from other (option_to_list reply) in
    let q : Played = record { ends = record { world = v; servient = p.ends.servient }; values = p.values ++ values_in (last_registration p.ends.world.asks) told.news } in
    let values : notes.world.taken.items ++ values_in notes.registered told.news ≡ p.values ++ values_in (last_registration p.ends.world.asks) told.news
    = λ j. are.shown.taken j ++ values_in (are.registered j) told.news in record {
      next = q;
      stands = are.left.servient;
      same_client = refl;
      seen = [];
      turn = arrives_turn site i p [] q (Some d) there.1 (record {
        comes = to_client may_now to_it (record {
          does = record { told = told; old = old; new = new; after = t; delivers = comes; next = refl };
          same = refl;
        });
        saw = refl;
        values = refl;
      });
      shows = shows_none slots;
      shown = record {
        moment = (kept_by.0 ∙ (leaves.moment ∙ are.shown.moment));
        sent = (reply_shown e.from reply m p.ends.world.sent p.ends.world.moment (leaves.sent ∙ are.shown.sent) (leaves.moment ∙ are.shown.moment)
            ∙ ap (λ (x : Endpoint). map shown_datagram (p.ends.world.sent ++ sent_now p.ends.world.moment client_place x other (option_to_list reply))) from);
        asks = (kept_by.1 ∙ (leaves.asks ∙ are.shown.asks));
        ends = (kept_by.2 ∙ (news_end told.news client.outstanding t.outstanding notes.registered n p.ends.world.asks p.ends.world.ends are.shown.asks are.shown.ends
            ∙ ap (λ (c : ClientState). shown_ends (p.ends.world.ends ++ end_by c.outstanding t.outstanding (latest p.ends.world) told.news)) (sym are.left.client)));
        taken = (kept_by.3 ∙ (news_value told.news (is_some client.outstanding && not (is_some t.outstanding)) notes.registered n
            ∙ values));
      };
      registered = are.registered;
    }

-- ---- nothing comes

-- no datagram comes, or it comes too late
nobody_by : (site : Site) (s : Layers) (slots : List Seen) (i : ℕ) (client : ClientState) (notes : Notes) (o : Option SentDatagram) → slice_get notes.world.sent.items i ≡ o → ComesTooLate o notes.world.moment
    → Turns site (delivers i) (kept s client notes) s client slots slots (noted_of notes.world) notes.registered
nobody_by site s slots i client notes None at late = λ p are. record {
  next = p;
  stands = are.left.servient;
  same_client = are.left.client;
  seen = [];
  turn = arrives_turn site i p [] p None (none_shown_at p.ends.world.sent i (ap (λ (l : List SentDatagram). slice_get l i) (sym are.shown.sent) ∙ at))
      (record { comes = record { does = refl; same = refl }; saw = refl; values = sym (append-nil p.values) });
  shows = shows_none slots;
  shown = are.shown;
  registered = are.registered;
}
nobody_by site s slots i client notes (Some e) at late = λ p are.
    let there = shown_at p.ends.world.sent i e (ap (λ (l : List SentDatagram). slice_get l i) (sym are.shown.sent) ∙ at) in
    let late_now : may_come p.ends.world.moment there.0 ≡ false = subst (λ (m : ℕ). may_come_now m (shown_datagram there.0) ≡ false) are.shown.moment (subst (λ (x : SentDatagram). may_come_now notes.world.moment x ≡ false) (sym there.2) late) in record {
      next = p;
      stands = are.left.servient;
      same_client = are.left.client;
      seen = [];
      turn = arrives_turn site i p [] p (Some there.0) there.1
          (record { comes = too_late late_now (record { does = refl; same = refl }); saw = refl; values = sym (append-nil p.values) });
      shows = shows_none slots;
      shown = are.shown;
      registered = are.registered;
    }

pub nobody_turn : (site : Site) (s : Layers) (slots : List Seen) (i : ℕ) (client : ClientState) (notes : Notes) → ComesTooLate (slice_get notes.world.sent.items i) notes.world.moment
    → Turns site (delivers i) (kept s client notes) s client slots slots (noted_of notes.world) notes.registered
nobody_turn site s slots i client notes late = nobody_by site s slots i client notes (slice_get notes.world.sent.items i) refl late

-- time passes
pub passed_turn : (site : Site) (s : Layers) (slots : List Seen) (time : ℕ) (client : ClientState) (notes : Notes)
    → Turns site (passes time) (kept s client notes) s client slots slots (record (noted_of notes.world) { moment = notes.world.moment + time }) notes.registered
passed_turn site s slots time client notes = λ p are. record {
  next = with_world p (record p.ends.world { moment = p.ends.world.moment + time });
  stands = are.left.servient;
  same_client = are.left.client;
  seen = [];
  turn = record { takes = record { does = refl; same = refl }; saw = refl; values = sym (append-nil p.values) };
  shows = shows_none slots;
  shown = record {
    moment = ap (λ (m : ℕ). m + time) are.shown.moment;
    sent = are.shown.sent;
    asks = are.shown.asks;
    ends = are.shown.ends;
    taken = are.shown.taken;
  };
  registered = are.registered;
}
