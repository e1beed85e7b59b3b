-- The replies of a server to duplicates of requests.
use Rattle.std.proofs.Common.{◌≡◌, ◌≤◌, ◌⊎◌, ◌∙◌, inl, inr, ℕ, Bool, true, false, Option, Some, None, List, [], ◌∷◌, refl, sym, ap, subst, arith}
use Rattle.std.specs.Prelude.{◌==◌, find}
use Rattle.std.specs.List.{remove}
use Rattle.std.specs.Option.{option_or}
use Rattle.std.proofs.lemmas.List.Folds.{find-append}
use Rattle.std.proofs.lemmas.Bool.{eqb-true}
use Rattle.coap_msg.specs.declared.endpoint.Endpoint.{Endpoint}
use Rattle.coap_msg.specs.declared.message.RequestType.{RequestType}
use Rattle.coap_msg.specs.declared.message.RequestType.TheVariants.{Confirmable, NonConfirmable}
use Rattle.coap_msg.specs.Grammar.{CoapMessage, Spells}
use Rattle.coap_msg.specs.Requests.{request_type}
use Rattle.coap_msg.proofs.Messages.{at_most_one_message}
use Rattle.coap_msg.proofs.FaultLaws.{no_fault_of_message}
use Rattle.coap_msg.proofs.SameEndpoints.{both}
use Rattle.coap_exchange.specs.Admission.{Arrival, lives, is_same_exchange, is_duplicate_of, admitted as is_admitted, duplicate as is_duplicate, refused as is_refused}
use Rattle.coap_exchange.specs.Table.{Exchange, Table, at_moment, exchange_in, duplicated_exchange, Meets}
use Rattle.coap_exchange.specs.declared.met.Met.{Met}
use Rattle.coap_exchange.specs.declared.met.Met.TheVariants.{Fresh, Repeat, Full}
use Rattle.coap_exchange.proofs.HistoryLaws.{lives_before}
use Rattle.coap_opts.specs.Reading.{asked as what_is_asked}
use Rattle.coap_bind.specs.declared.pending.PendingReply.{PendingReply}
use Rattle.coap_bind.specs.declared.server.Server.{Server}
use Rattle.thing_ops.specs.declared.outcome.Outcome.{Outcome}
use Rattle.coap_observe.specs.declared.notice.Notice.{Notice}
use Rattle.coap_observe.specs.Watching.{Watching}
use Rattle.coap_bind.specs.Blocks.{bodies_after}
use Rattle.coap_bind.specs.Writing.{Reply, ReplyHead, head_of, head_in}
use Rattle.coap_bind.specs.Server.{start, Heard, answered_at_once, with_id_used, with_kept, with_observers, with_emitted, with_links, with_notification_sent, with_report, Replies, Answers, is_request, duplicate_reply, arrival, IsMet, malformed, no_request, duplicate, full, with_parts, with_bodies, replied, bad_option_ignored, gives_links, links_given, observing_in, asks, asks_whole, Reads, settled, admitted, Hears}
use Rattle.coap_bind.specs.Laws.{IsOpen, DidFrom, Did, nothing, heard_of, answered, emitted, sent, linked}
use Rattle.coap_bind.specs.Duplicates.{may_keep, OnlyConfirmableAreKept, OnlyTimePassed, DuplicatesChangeNothing, IsRepliedTo, at_once, afterwards, repeated, DuplicatesGetTheFirstReply}
use Rattle.coap_bind.proofs.HistoryLaws.{sent_stays, met_as_duplicate}
use Rattle.coap_bind.proofs.OpenLaws.{fresh_is_there}
use Rattle.coap_bind.proofs.MomentLaws.{moment_of, never_falls, replies_moment}
use Rattle.coap_bind.proofs.TidyLaws.{Distinct, KeptWell, distinct_filter, kept_filter, distinct_push, kept_push, before_new, distinct_answered, kept_answered, in_slot_filter, other_slot, this_slot, duplicated_in}

-- ---- tidy tables

pub record Tidy (t : Table) : Type 0 where
  pub distinct : Distinct t.exchanges
  pub kept : KeptWell t.exchanges

pub tidy_moment : (now : ℕ) (t : Table) → Tidy t → Tidy (at_moment now t)
tidy_moment now t h = record {
  distinct = distinct_filter (λ e. lives now e.arrival) t.exchanges h.distinct;
  kept = kept_filter (λ e. lives now e.arrival) t.exchanges h.kept;
}

may_keep_none : (kind : RequestType) → may_keep kind None ≡ true
may_keep_none Confirmable = refl
may_keep_none NonConfirmable = refl

pub tidy_meets : (now : ℕ) (t u : Table) (a : Arrival) (met : Met) → now ≡ a.moment → Meets (at_moment now t) a met u → Tidy t → Tidy u
tidy_meets now t u a (Fresh slot) at is h =
    let e : Exchange = record { arrival = a; slot = slot; reply = None } in
    let before = tidy_moment now t h in
    subst Tidy (sym is.1.2) (record {
      distinct = distinct_push (at_moment now t).exchanges e before.distinct (before_new now t.exchanges e at is.0 is.1.1);
      kept = kept_push (at_moment now t).exchanges e before.kept (may_keep_none a.kind);
    })
tidy_meets now t u a (Repeat kept) at is h = subst Tidy (sym is.1) (tidy_moment now t h)
tidy_meets now t u a Full at is h = subst Tidy (sym is.1.1) (tidy_moment now t h)

tidy_kept : (kind : RequestType) (slot : ℕ) (bytes : List ℕ) (s : Server) (e : Exchange) → exchange_in slot s.exchanges ≡ Some e → kind ≡ e.arrival.kind
    → Tidy s.exchanges → Tidy (with_kept kind slot bytes (with_id_used kind s)).exchanges
tidy_kept Confirmable slot bytes s e there is h = record {
  distinct = distinct_answered slot bytes s.exchanges.exchanges h.distinct;
  kept = kept_answered slot bytes s.exchanges.exchanges e h.distinct h.kept there (sym is);
}
tidy_kept NonConfirmable slot bytes s e there is h = h

tidy_replies : (r : Reply) (head : ReplyHead) (slot : ℕ) (bytes : List ℕ) (s t : Server) (e : Exchange) → Replies r head slot bytes s t
    → exchange_in slot s.exchanges ≡ Some e → head.kind ≡ e.arrival.kind → Tidy s.exchanges → Tidy t.exchanges
tidy_replies r head slot bytes s t e replies there is h =
    subst (λ (x : Server). Tidy x.exchanges) (sym replies.after) (tidy_kept head.kind slot bytes s e there is h)

tidy_same : (s t : Server) → t ≡ s → Tidy s.exchanges → Tidy t.exchanges
tidy_same s t is h = subst (λ (x : Server). Tidy x.exchanges) (sym is) h

tidy_reads : (from : Endpoint) (now : ℕ) (m : CoapMessage) (slot : ℕ) (heard : Heard) (s t : Server) (e : Exchange) → Reads from now m slot heard s t
    → exchange_in slot s.exchanges ≡ Some e → request_type m.kind ≡ e.arrival.kind → Tidy s.exchanges → Tidy t.exchanges
tidy_reads from now m slot heard s t e (replied r parts bytes why replies is) there kind h = tidy_replies r (head_of m) slot bytes (with_parts parts s) t e replies there kind h
tidy_reads from now m slot heard s t e (bad_option_ignored number fault non is same) there kind h = tidy_same s t same h
tidy_reads from now m slot heard s t e (gives_links bytes none act links get replies is) there kind h =
    tidy_replies _ (head_of m) slot bytes (links_given from now m.token (observing_in m) (what_is_asked m) s) t e replies there kind h
tidy_reads from now m slot heard s t e (asks none act apart is same) there kind h = tidy_same s t same h
tidy_reads from now m slot heard s t e (asks_whole b place parts whole none joining apart adds found is same) there kind h = tidy_same (with_parts (remove parts place) s) t same h

pub used_stays : (kind : RequestType) (s : Server) → (with_id_used kind s).exchanges ≡ s.exchanges
used_stays Confirmable s = refl
used_stays NonConfirmable s = refl

tidy_hears : (from : Endpoint) (bytes : List ℕ) (now : ℕ) (heard : Heard) (s t : Server) → Hears from bytes now heard s t → Tidy s.exchanges → Tidy t.exchanges
tidy_hears from bytes now heard s t (settled (malformed f fault is same)) h = tidy_same s t same h
tidy_hears from bytes now heard s t (settled (no_request m spells isnt is same)) h = tidy_same (with_report from m s) t same h
tidy_hears from bytes now heard s t (settled (duplicate m kept e met found is)) h = tidy_meets now s.exchanges t.exchanges (arrival from now m) (Repeat kept) refl met.meets h
tidy_hears from bytes now heard s t (settled (full m u met is same)) h =
    subst Tidy (sym (ap (λ (x : Server). x.exchanges) same ∙ used_stays (request_type m.kind) u)) (tidy_meets now s.exchanges u.exchanges (arrival from now m) Full refl met.meets h)
tidy_hears from bytes now heard s t (admitted m slot u met reads) h =
    tidy_reads from now m slot heard u t (record { arrival = arrival from now m; slot = slot; reply = None }) reads (fresh_is_there from bytes now m slot s u met) refl
    (tidy_meets now s.exchanges u.exchanges (arrival from now m) (Fresh slot) refl met.meets h)

-- a server that is to reply to a request
abbrev pub ready : PendingReply → Outcome → Watching → Server → Server
ready ask o observers s = with_bodies (bodies_after ask.blocks ask.from o s.bodies) (with_observers observers s)

tidy_answers : (ask : PendingReply) (o : Outcome) (target : Option ℕ) (bytes : List ℕ) (s t : Server) → IsOpen ask s → Answers ask o target bytes s t → Tidy s.exchanges → Tidy t.exchanges
tidy_answers ask o target bytes s t waiting answers h =
    tidy_replies _ (head_in ask) ask.slot bytes (ready ask o answers.observers s) t waiting.exchange answers.replies waiting.there waiting.kind h

pub sent_exchanges : (n : Option Notice) (s t : Server) → t ≡ with_notification_sent n s → t.exchanges ≡ s.exchanges
sent_exchanges n s t is = ap (λ (x : Server). x.exchanges) is ∙ sent_stays n s

pub tidy_from : (before : Server) (history : List Arrival) (s : Server) → DidFrom before history s → Tidy before.exchanges → Tidy s.exchanges
tidy_from before history s nothing h = h
tidy_from before history s (heard_of past new r t from bytes now heard did later hears are) h = tidy_hears from bytes now heard r t hears (tidy_from before past r did h)
tidy_from before history s (answered past r t ask o target bytes did waiting answers) h = tidy_answers ask o target bytes r t waiting answers (tidy_from before past r did h)
tidy_from before history s (emitted past r t target did is) h = tidy_same (with_emitted target r) t is (tidy_from before past r did h)
tidy_from before history s (sent past r t now n did sends) h =
    subst Tidy (sym (sent_exchanges n (with_observers sends.observers r) t sends.after)) (tidy_from before past r did h)
tidy_from before history s (linked past r t text did is) h = tidy_same (with_links text r) t is (tidy_from before past r did h)

pub tidy : (capacity : ℕ) (history : List Arrival) (s : Server) → Did capacity history s → Tidy s.exchanges
tidy capacity history s did = tidy_from (start capacity did.0) history s did.1 (record { distinct = tt; kept = tt })

pub only_confirmable_are_kept : OnlyConfirmableAreKept
only_confirmable_are_kept capacity history s did = (tidy capacity history s did).kept

-- ---- a request and its reply

-- the exchange of a request is in a slot, with this reply
record Keeps (slot : ℕ) (request : Arrival) (reply : Option (List ℕ)) (t : Table) : Type 0 where
  exchange : Exchange
  there : exchange_in slot t ≡ Some exchange
  arrival_is : exchange.arrival ≡ request
  reply_is : exchange.reply ≡ reply

-- the reply that is kept, where these bytes were sent
abbrev kept_reply : RequestType → List ℕ → Option (List ℕ)
kept_reply Confirmable bytes = Some bytes
kept_reply NonConfirmable bytes = None

keeps_moment : (now slot : ℕ) (request : Arrival) (reply : Option (List ℕ)) (t : Table) → lives now request ≡ true → Keeps slot request reply t → Keeps slot request reply (at_moment now t)
keeps_moment now slot request reply t alive k = record {
  exchange = k.exchange;
  there = in_slot_filter (λ e. lives now e.arrival) t.exchanges slot k.exchange k.there (ap (lives now) k.arrival_is ∙ alive);
  arrival_is = k.arrival_is;
  reply_is = k.reply_is;
}

keeps_meets : (now slot : ℕ) (request : Arrival) (reply : Option (List ℕ)) (t u : Table) (a : Arrival) (met : Met) → Meets (at_moment now t) a met u → lives now request ≡ true
    → Keeps slot request reply t → Keeps slot request reply u
keeps_meets now slot request reply t u a (Fresh other) is alive k =
    let there = keeps_moment now slot request reply t alive k in
    let e : Exchange = record { arrival = a; slot = other; reply = None } in
    subst (Keeps slot request reply) (sym is.1.2) (record {
      exchange = there.exchange;
      there = find-append (λ x. x.slot == slot) (at_moment now t).exchanges (e ∷ []) ∙ ap (λ (o : Option Exchange). option_or o (find (λ x. x.slot == slot) (e ∷ []))) there.there;
      arrival_is = there.arrival_is;
      reply_is = there.reply_is;
    })
keeps_meets now slot request reply t u a (Repeat kept) is alive k = subst (Keeps slot request reply) (sym is.1) (keeps_moment now slot request reply t alive k)
keeps_meets now slot request reply t u a Full is alive k = subst (Keeps slot request reply) (sym is.1.1) (keeps_moment now slot request reply t alive k)

pub same_exchange : (e f : Exchange) → Some e ≡ Some f → e ≡ f
same_exchange e f is = cc

-- a reply to an exchange that waits for it leaves another one
apart_at : (other : ℕ) (bytes : List ℕ) (s : Server) (e : Exchange) (slot : ℕ) (request : Arrival) (reply : List ℕ) (b : Bool) → (slot == other) ≡ b → exchange_in other s.exchanges ≡ Some e
    → e.reply ≡ None → Confirmable ≡ e.arrival.kind → Keeps slot request (kept_reply request.kind reply) s.exchanges
    → Keeps slot request (kept_reply request.kind reply) (with_kept Confirmable other bytes s).exchanges
apart_at other bytes s e slot request reply true t there waits is k =
    let one : slot ≡ other = eqb-true slot other t in
    let same : k.exchange ≡ e = same_exchange k.exchange e (sym k.there ∙ ap (λ n. exchange_in n s.exchanges) one ∙ there) in
    let kind : Confirmable ≡ request.kind = is ∙ ap (λ (x : Exchange). x.arrival.kind) (sym same) ∙ ap (λ (a : Arrival). a.kind) k.arrival_is in
    let none : Some reply ≡ None = ap (λ q. kept_reply q reply) kind ∙ sym k.reply_is ∙ ap (λ (x : Exchange). x.reply) same ∙ waits in
    absurd (differ none)
  where
    differ : Some reply ≡ None → ⊥
    differ e' = cc
apart_at other bytes s e slot request reply false t there waits is k = record {
  exchange = k.exchange;
  there = other_slot slot other bytes s.exchanges.exchanges k.exchange t k.there;
  arrival_is = k.arrival_is;
  reply_is = k.reply_is;
}

keeps_kept : (kind : RequestType) (other : ℕ) (bytes : List ℕ) (s : Server) (e : Exchange) (slot : ℕ) (request : Arrival) (reply : List ℕ) → exchange_in other s.exchanges ≡ Some e
    → e.reply ≡ None → kind ≡ e.arrival.kind → Keeps slot request (kept_reply request.kind reply) s.exchanges
    → Keeps slot request (kept_reply request.kind reply) (with_kept kind other bytes (with_id_used kind s)).exchanges
keeps_kept Confirmable other bytes s e slot request reply there waits is k = apart_at other bytes s e slot request reply (slot == other) refl there waits is k
keeps_kept NonConfirmable other bytes s e slot request reply there waits is k = k

keeps_replies : (r : Reply) (head : ReplyHead) (at : ℕ) (bytes : List ℕ) (s t : Server) (e : Exchange) (slot : ℕ) (request : Arrival) (reply : List ℕ) → Replies r head at bytes s t
    → exchange_in at s.exchanges ≡ Some e → e.reply ≡ None → head.kind ≡ e.arrival.kind
    → Keeps slot request (kept_reply request.kind reply) s.exchanges → Keeps slot request (kept_reply request.kind reply) t.exchanges
keeps_replies r head at bytes s t e slot request reply replies there waits is k =
    subst (λ (x : Server). Keeps slot request (kept_reply request.kind reply) x.exchanges) (sym replies.after)
    (keeps_kept head.kind at bytes s e slot request reply there waits is k)

keeps_same : (slot : ℕ) (request : Arrival) (reply : Option (List ℕ)) (t u : Table) → u ≡ t → Keeps slot request reply t → Keeps slot request reply u
keeps_same slot request reply t u is k = subst (Keeps slot request reply) (sym is) k

keeps_reads : (from : Endpoint) (now : ℕ) (m : CoapMessage) (other : ℕ) (heard : Heard) (s t : Server) (e : Exchange) (slot : ℕ) (request : Arrival) (reply : List ℕ) → Reads from now m other heard s t
    → exchange_in other s.exchanges ≡ Some e → e.reply ≡ None → request_type m.kind ≡ e.arrival.kind
    → Keeps slot request (kept_reply request.kind reply) s.exchanges → Keeps slot request (kept_reply request.kind reply) t.exchanges
keeps_reads from now m other heard s t e slot request reply (replied r parts bytes why replies is) there waits kind k =
    keeps_replies r (head_of m) other bytes (with_parts parts s) t e slot request reply replies there waits kind k
keeps_reads from now m other heard s t e slot request reply (bad_option_ignored number fault non is same) there waits kind k = keeps_same slot request _ s.exchanges t.exchanges (ap (λ (x : Server). x.exchanges) same) k
keeps_reads from now m other heard s t e slot request reply (gives_links bytes none act links get replies is) there waits kind k =
    keeps_replies _ (head_of m) other bytes (links_given from now m.token (observing_in m) (what_is_asked m) s) t e slot request reply replies there waits kind k
keeps_reads from now m other heard s t e slot request reply (asks none act apart is same) there waits kind k = keeps_same slot request _ s.exchanges t.exchanges (ap (λ (x : Server). x.exchanges) same) k
keeps_reads from now m other heard s t e slot request reply (asks_whole b place parts whole none joining apart adds found is same) there waits kind k =
    keeps_same slot request _ s.exchanges t.exchanges (ap (λ (x : Server). x.exchanges) same) k

keeps_hears : (from : Endpoint) (bytes : List ℕ) (now : ℕ) (heard : Heard) (s t : Server) (slot : ℕ) (request : Arrival) (reply : List ℕ) → Hears from bytes now heard s t
    → lives now request ≡ true
    → Keeps slot request (kept_reply request.kind reply) s.exchanges → Keeps slot request (kept_reply request.kind reply) t.exchanges
keeps_hears from bytes now heard s t slot request reply (settled (malformed f fault is same)) alive k = keeps_same slot request _ s.exchanges t.exchanges (ap (λ (x : Server). x.exchanges) same) k
keeps_hears from bytes now heard s t slot request reply (settled (no_request m spells isnt is same)) alive k = keeps_same slot request _ s.exchanges t.exchanges (ap (λ (x : Server). x.exchanges) same) k
keeps_hears from bytes now heard s t slot request reply (settled (duplicate m kept e met found is)) alive k = keeps_meets now slot request _ s.exchanges t.exchanges (arrival from now m) (Repeat kept) met.meets alive k
keeps_hears from bytes now heard s t slot request reply (settled (full m u met is same)) alive k =
    keeps_same slot request _ u.exchanges t.exchanges (ap (λ (x : Server). x.exchanges) same ∙ used_stays (request_type m.kind) u)
    (keeps_meets now slot request _ s.exchanges u.exchanges (arrival from now m) Full met.meets alive k)
keeps_hears from bytes now heard s t slot request reply (admitted m other u met reads) alive k =
    keeps_reads from now m other heard u t (record { arrival = arrival from now m; slot = other; reply = None }) slot request reply reads (fresh_is_there from bytes now m other s u met) refl refl
    (keeps_meets now slot request _ s.exchanges u.exchanges (arrival from now m) (Fresh other) met.meets alive k)

-- the datagram is no later than this moment, or changes no exchange
keeps_heard : (from : Endpoint) (bytes : List ℕ) (n now : ℕ) (heard : Heard) (s t : Server) (slot : ℕ) (request : Arrival) (reply : List ℕ) → Hears from bytes n heard s t
    → (t.exchanges.moment ≡ n) ⊎ (t.exchanges ≡ s.exchanges) → t.exchanges.moment ≤ now → lives now request ≡ true
    → Keeps slot request (kept_reply request.kind reply) s.exchanges → Keeps slot request (kept_reply request.kind reply) t.exchanges
keeps_heard from bytes n now heard s t slot request reply hears (inl is) early alive k =
    keeps_hears from bytes n heard s t slot request reply hears (lives_before n now request (omega arith) alive) k
keeps_heard from bytes n now heard s t slot request reply hears (inr same) early alive k = keeps_same slot request _ s.exchanges t.exchanges same k

moment_same : (s t : Table) (now : ℕ) → t ≡ s → t.moment ≤ now → s.moment ≤ now
moment_same s t now is early = subst (λ (x : Table). x.moment ≤ now) is early

keeps_from : (before : Server) (history : List Arrival) (s : Server) (now slot : ℕ) (request : Arrival) (reply : List ℕ) → DidFrom before history s → s.exchanges.moment ≤ now
    → lives now request ≡ true
    → Keeps slot request (kept_reply request.kind reply) before.exchanges → Keeps slot request (kept_reply request.kind reply) s.exchanges
keeps_from before history s now slot request reply nothing early alive k = k
keeps_from before history s now slot request reply (heard_of past new r t from bytes n heard did later hears are) early alive k =
    keeps_heard from bytes n now heard r t slot request reply hears (moment_of from bytes n heard r t hears) early alive
    (keeps_from before past r now slot request reply did (omega (arith, never_falls from bytes n heard r t hears later, early)) alive k)
keeps_from before history s now slot request reply (answered past r t ask o target bytes did waiting answers) early alive k =
    keeps_replies _ (head_in ask) ask.slot bytes (ready ask o answers.observers r) t waiting.exchange slot request reply answers.replies waiting.there waiting.waits waiting.kind
    (keeps_from before past r now slot request reply did (omega (arith, replies_moment _ (head_in ask) ask.slot bytes (ready ask o answers.observers r) t answers.replies, early)) alive k)
keeps_from before history s now slot request reply (emitted past r t target did is) early alive k =
    let same : t.exchanges ≡ r.exchanges = ap (λ (x : Server). x.exchanges) is in
    keeps_same slot request _ r.exchanges t.exchanges same (keeps_from before past r now slot request reply did (moment_same r.exchanges t.exchanges now same early) alive k)
keeps_from before history s now slot request reply (sent past r t m n did sends) early alive k =
    let same : t.exchanges ≡ r.exchanges = sent_exchanges n (with_observers sends.observers r) t sends.after in
    keeps_same slot request _ r.exchanges t.exchanges same (keeps_from before past r now slot request reply did (moment_same r.exchanges t.exchanges now same early) alive k)
keeps_from before history s now slot request reply (linked past r t text did is) early alive k =
    let same : t.exchanges ≡ r.exchanges = ap (λ (x : Server). x.exchanges) is in
    keeps_same slot request _ r.exchanges t.exchanges same (keeps_from before past r now slot request reply did (moment_same r.exchanges t.exchanges now same early) alive k)

-- ---- the first reply

keeps_replied : (kind : RequestType) (slot : ℕ) (bytes : List ℕ) (s : Server) (e : Exchange) → exchange_in slot s.exchanges ≡ Some e → e.reply ≡ None → kind ≡ e.arrival.kind
    → Keeps slot e.arrival (kept_reply e.arrival.kind bytes) (with_kept kind slot bytes (with_id_used kind s)).exchanges
keeps_replied Confirmable slot bytes s e there waits is = record {
  exchange = record e { reply = Some bytes };
  there = this_slot slot bytes s.exchanges.exchanges e there;
  arrival_is = refl;
  reply_is = ap (λ q. kept_reply q bytes) is;
}
keeps_replied NonConfirmable slot bytes s e there waits is = record { exchange = e; there = there; arrival_is = refl; reply_is = waits ∙ ap (λ q. kept_reply q bytes) is }

keeps_first : (r : Reply) (head : ReplyHead) (at : ℕ) (bytes : List ℕ) (s t : Server) (e : Exchange) → Replies r head at bytes s t
    → exchange_in at s.exchanges ≡ Some e → e.reply ≡ None → head.kind ≡ e.arrival.kind
    → Keeps at e.arrival (kept_reply e.arrival.kind bytes) t.exchanges
keeps_first r head at bytes s t e replies there waits is =
    subst (λ (x : Server). Keeps at e.arrival (kept_reply e.arrival.kind bytes) x.exchanges) (sym replies.after)
    (keeps_replied head.kind at bytes s e there waits is)

same_bytes : (a b : List ℕ) → answered_at_once a ≡ answered_at_once b → b ≡ a
same_bytes a b is = cc

keeps_first_read : (from : Endpoint) (now : ℕ) (m : CoapMessage) (slot : ℕ) (reply : List ℕ) (s t : Server) (e : Exchange) → Reads from now m slot (answered_at_once reply) s t
    → exchange_in slot s.exchanges ≡ Some e → e.reply ≡ None → request_type m.kind ≡ e.arrival.kind → Keeps slot e.arrival (kept_reply e.arrival.kind reply) t.exchanges
keeps_first_read from now m slot reply s t e (replied r parts bytes why replies is) there waits kind =
    subst (λ b. Keeps slot e.arrival (kept_reply e.arrival.kind b) t.exchanges) (same_bytes reply bytes is) (keeps_first r (head_of m) slot bytes (with_parts parts s) t e replies there waits kind)
keeps_first_read from now m slot reply s t e (bad_option_ignored number fault non is same) there waits kind = cc
keeps_first_read from now m slot reply s t e (gives_links bytes none act links get replies is) there waits kind =
    subst (λ b. Keeps slot e.arrival (kept_reply e.arrival.kind b) t.exchanges) (same_bytes reply bytes is)
    (keeps_first _ (head_of m) slot bytes (links_given from now m.token (observing_in m) (what_is_asked m) s) t e replies there waits kind)
keeps_first_read from now m slot reply s t e (asks none act apart is same) there waits kind = cc
keeps_first_read from now m slot reply s t e (asks_whole b place parts whole none joining apart adds found is same) there waits kind = cc

replied_keeps : (request : Arrival) (reply : List ℕ) (s t : Server) → IsRepliedTo request reply s t → (slot : ℕ) × Keeps slot request (kept_reply request.kind reply) t.exchanges
replied_keeps request reply s t (at_once from bytes now m slot u later met reads is) = (
  slot,
  subst (λ a. Keeps slot a (kept_reply a.kind reply) t.exchanges) (sym is)
      (keeps_first_read from now m slot reply u t (record { arrival = arrival from now m; slot = slot; reply = None }) reads (fresh_is_there from bytes now m slot s u met) refl refl),
)
replied_keeps request reply s t (afterwards ask o target waiting answers is) = (
  ask.slot,
  subst (λ a. Keeps ask.slot a (kept_reply a.kind reply) t.exchanges) (sym is)
      (keeps_first _ (head_in ask) ask.slot reply (ready ask o answers.observers s) t waiting.exchange answers.replies waiting.there waiting.waits waiting.kind),
)

tidy_replied : (request : Arrival) (reply : List ℕ) (s t : Server) → IsRepliedTo request reply s t → Tidy s.exchanges → Tidy t.exchanges
tidy_replied request reply s t (at_once from bytes now m slot u later met reads is) h = tidy_hears from bytes now (answered_at_once reply) s t (admitted m slot u met reads) h
tidy_replied request reply s t (afterwards ask o target waiting answers is) h = tidy_answers ask o target reply s t waiting answers h

-- ---- duplicates

only_time_passed : (from : Endpoint) (bytes : List ℕ) (now : ℕ) (m : CoapMessage) (kept : Option ℕ) (s t : Server) → IsMet from bytes now m (Repeat kept) s t → OnlyTimePassed now s t
only_time_passed from bytes now m kept s t met = record {
  exchanges = met.meets.1;
  observers = met.same_observers;
  next_id = met.same_id;
  bodies = met.same_bodies;
  parts = met.same_parts;
  links = met.same_links;
}

-- a duplicate of an exchange gets its reply
pub gets_reply_of : (from : Endpoint) (bytes : List ℕ) (now : ℕ) (m : CoapMessage) (heard : Heard) (u v : Server) (e : Exchange) → Spells m bytes → is_request m ≡ true
    → duplicated_exchange (arrival from now m) (at_moment now u.exchanges) ≡ Some e → Hears from bytes now heard u v
    → (heard ≡ duplicate_reply (request_type m.kind) e.reply) × OnlyTimePassed now u v
gets_reply_of from bytes now m heard u v e spells request there (settled (malformed f fault is same)) = absurd (no_fault_of_message f m bytes spells fault)
gets_reply_of from bytes now m heard u v e spells request there (settled (no_request n of_n isnt is same)) =
    absurd (differ (subst (λ (x : CoapMessage). is_request x ≡ false) (at_most_one_message n m bytes of_n spells) isnt))
  where
    differ : is_request m ≡ false → ⊥
    differ isnt' = cc
gets_reply_of from bytes now m heard u v e spells request there (settled (duplicate n kept f met found is)) =
    let same : n ≡ m = at_most_one_message n m bytes met.spells spells in
    let one : f ≡ e = same_exchange f e (sym (subst (λ (x : CoapMessage). duplicated_exchange (arrival from now x) (at_moment now u.exchanges) ≡ Some f) same found) ∙ there) in (
      is ∙ ap (λ (x : CoapMessage). duplicate_reply (request_type x.kind) f.reply) same ∙ ap (λ (x : Exchange). duplicate_reply (request_type m.kind) x.reply) one,
      only_time_passed from bytes now n kept u v met,
    )
gets_reply_of from bytes now m heard u v e spells request there (settled (full n w met is same)) =
    absurd (differ (subst (λ (x : CoapMessage). duplicated_exchange (arrival from now x) (at_moment now u.exchanges) ≡ None) (at_most_one_message n m bytes met.spells spells) met.meets.0))
  where
    differ : duplicated_exchange (arrival from now m) (at_moment now u.exchanges) ≡ None → ⊥
    differ none = cc
gets_reply_of from bytes now m heard u v e spells request there (admitted n slot w met reads) =
    absurd (differ (subst (λ (x : CoapMessage). duplicated_exchange (arrival from now x) (at_moment now u.exchanges) ≡ None) (at_most_one_message n m bytes met.spells spells) met.meets.0))
  where
    differ : duplicated_exchange (arrival from now m) (at_moment now u.exchanges) ≡ None → ⊥
    differ none = cc

repeats : (kind other : RequestType) (reply : List ℕ) → duplicate_reply kind (kept_reply other reply) ≡ repeated kind other reply
repeats Confirmable Confirmable reply = refl
repeats Confirmable NonConfirmable reply = refl
repeats NonConfirmable other reply = refl

pub duplicates_get_the_first_reply : DuplicatesGetTheFirstReply
duplicates_get_the_first_reply capacity history later s t u v request reply from bytes now m heard did was since early spells of_m again hears =
    let alive : lives now request ≡ true = (both (lives now request) (is_same_exchange (arrival from now m) request) again).0 in
    let first = replied_keeps request reply s t was in
    let kept = keeps_moment now first.0 request (kept_reply request.kind reply) u.exchanges alive (keeps_from t later u now first.0 request reply since early alive first.1) in
    let order = tidy_moment now u.exchanges (tidy_from t later u since (tidy_replied request reply s t was (tidy capacity history s did))) in
    let there = duplicated_in (arrival from now m) (at_moment now u.exchanges).exchanges first.0 kept.exchange order.distinct kept.there
    (ap (is_duplicate_of (arrival from now m)) kept.arrival_is ∙ again) in
    let gets = gets_reply_of from bytes now m heard u v kept.exchange spells of_m there hears in
    (gets.0 ∙ ap (duplicate_reply (request_type m.kind)) kept.reply_is ∙ repeats (request_type m.kind) request.kind reply, gets.1)

pub duplicates_change_nothing : DuplicatesChangeNothing
duplicates_change_nothing capacity history s t from bytes now m heard earlier did later spells request has again (settled (malformed f fault is same)) = absurd (no_fault_of_message f m bytes spells fault)
duplicates_change_nothing capacity history s t from bytes now m heard earlier did later spells request has again (settled (no_request n of_n isnt is same)) =
    absurd (differ (subst (λ (x : CoapMessage). is_request x ≡ false) (at_most_one_message n m bytes of_n spells) isnt))
  where
    differ : is_request m ≡ false → ⊥
    differ isnt' = cc
duplicates_change_nothing capacity history s t from bytes now m heard earlier did later spells request has again (settled (duplicate n kept e met found is)) = only_time_passed from bytes now n kept s t met
duplicates_change_nothing capacity history s t from bytes now m heard earlier did later spells request has again (settled (full n u met is same)) =
    let of_n : is_duplicate_of (arrival from now n) earlier ≡ true = subst (λ (x : CoapMessage). is_duplicate_of (arrival from now x) earlier ≡ true) (sym (at_most_one_message n m bytes met.spells spells)) again in
    absurd (differ (met_as_duplicate capacity history s u.exchanges (arrival from now n) earlier Full did later has of_n met.meets))
  where
    differ : is_duplicate ≡ is_refused → ⊥
    differ w = cc
duplicates_change_nothing capacity history s t from bytes now m heard earlier did later spells request has again (admitted n slot u met reads) =
    let of_n : is_duplicate_of (arrival from now n) earlier ≡ true = subst (λ (x : CoapMessage). is_duplicate_of (arrival from now x) earlier ≡ true) (sym (at_most_one_message n m bytes met.spells spells)) again in
    absurd (differ (met_as_duplicate capacity history s u.exchanges (arrival from now n) earlier (Fresh slot) did later has of_n met.meets))
  where
    differ : is_duplicate ≡ is_admitted → ⊥
    differ w = cc
