-- Laws of the server, over all that it did from its beginning.
use Rattle.std.proofs.Common.{◌≡◌, ◌≤◌, ◌∙◌, ℕ, Bool, true, false, Option, Some, None, List, [], ◌∷◌, ◌++◌, map, refl, sym, ap, subst}
use Rattle.std.specs.Prelude.{◌==◌, if◌then◌else◌, Contains}
use Rattle.std.specs.List.{list_any, remove}
use Rattle.std.proofs.lemmas.List.{append-nil}
use Rattle.std.proofs.lemmas.List.Folds.{list_any_at}
use Rattle.coap_msg.specs.declared.endpoint.Endpoint.{Endpoint}
use Rattle.coap_msg.specs.declared.message.MsgFault.{MsgFault}
use Rattle.coap_msg.specs.declared.message.RequestType.{RequestType}
use Rattle.coap_msg.specs.declared.message.RequestType.TheVariants.{Confirmable, NonConfirmable}
use Rattle.coap_msg.specs.Grammar.{CoapMessage, Spells}
use Rattle.coap_msg.specs.Requests.{request_type}
use Rattle.coap_msg.specs.Faults.{HasMsgFault}
use Rattle.coap_msg.proofs.Messages.{at_most_one_message}
use Rattle.coap_msg.proofs.FaultLaws.{no_fault_of_message}
use Rattle.coap_exchange.specs.Admission.{Arrival, is_duplicate_of, Verdict, admitted as is_admitted, duplicate as is_duplicate, admitted_among}
use Rattle.coap_exchange.specs.Laws.{IsVerdict}
use Rattle.coap_exchange.specs.Table.{Exchange, Table, at_moment, answered as with_answer, with_reply, Meets, StandsFor}
use Rattle.coap_exchange.specs.declared.met.Met.{Met}
use Rattle.coap_exchange.specs.declared.met.Met.TheVariants.{Fresh, Repeat, Full}
use Rattle.coap_exchange.proofs.HistoryLaws.{tables_follow_the_history}
use Rattle.coap_observe.specs.declared.notice.Notice.{Notice}
use Rattle.coap_opts.specs.Reading.{AskSeen, asked as what_is_asked}
use Rattle.coap_bind.specs.declared.pending.PendingReply.{PendingReply}
use Rattle.coap_bind.specs.declared.server.Server.{Server}
use Rattle.coap_bind.specs.Blocks.{bodies_after}
use Rattle.coap_bind.specs.Writing.{Reply, ReplyHead, head_of, head_in}
use Rattle.coap_bind.specs.Server.{start, Heard, asked, with_next_id, with_id_used, with_kept, with_observers, with_emitted, with_links, with_notification_sent, with_report, Replies, is_request, replied_at_once, duplicate_reply, arrival, IsMet, malformed, no_request, duplicate, full, with_parts, with_bodies, replied, bad_option_ignored, gives_links, links_given, observing_in, asks, asks_whole, Reads, settled, admitted, Hears}
use Rattle.coap_bind.specs.Laws.{AreArrivals, DidFrom, Did, nothing, heard_of, answered, emitted, sent, linked, ExchangesAreOfTheHistory, DuplicatesAskNothing}

-- ---- replies change no arrival

answered_at : (slot : ℕ) (bytes : List ℕ) (e : Exchange) (b : Bool) → (if b then record e { reply = Some bytes } else e).arrival ≡ e.arrival
answered_at slot bytes e true = refl
answered_at slot bytes e false = refl

arrivals_stay : (slot : ℕ) (bytes : List ℕ) (es : List Exchange) → map (λ e. e.arrival) (map (with_answer slot bytes) es) ≡ map (λ e. e.arrival) es
arrivals_stay slot bytes [] = refl
arrivals_stay slot bytes (e ∷ es) =
    ap (λ (a : Arrival). a ∷ map (λ x. x.arrival) (map (with_answer slot bytes) es)) (answered_at slot bytes e (e.slot == slot))
    ∙ ap (λ (l : List Arrival). e.arrival ∷ l) (arrivals_stay slot bytes es)

-- the exchanges of a server are those of a history, and n may live
record Follows (capacity : ℕ) (history : List Arrival) (t : Table) : Type 0 where
  stands : StandsFor t history
  same : t.capacity ≡ capacity

follows_reply : (capacity : ℕ) (history : List Arrival) (slot : ℕ) (bytes : List ℕ) (t : Table) → Follows capacity history t
    → Follows capacity history (with_reply slot bytes t)
follows_reply capacity history slot bytes t f = record { stands = arrivals_stay slot bytes t.exchanges ∙ f.stands; same = f.same }

follows_id : (capacity : ℕ) (history : List Arrival) (kind : RequestType) (s : Server) → Follows capacity history s.exchanges
    → Follows capacity history (with_id_used kind s).exchanges
follows_id capacity history Confirmable s f = f
follows_id capacity history NonConfirmable s f = f

follows_kept : (capacity : ℕ) (history : List Arrival) (kind : RequestType) (slot : ℕ) (bytes : List ℕ) (s : Server) → Follows capacity history s.exchanges
    → Follows capacity history (with_kept kind slot bytes s).exchanges
follows_kept capacity history Confirmable slot bytes s f = follows_reply capacity history slot bytes s.exchanges f
follows_kept capacity history NonConfirmable slot bytes s f = f

follows_same : (capacity : ℕ) (history : List Arrival) (s t : Server) → t ≡ s → Follows capacity history s.exchanges → Follows capacity history t.exchanges
follows_same capacity history s t is f = subst (λ (x : Server). Follows capacity history x.exchanges) (sym is) f

follows_replies : (capacity : ℕ) (history : List Arrival) (r : Reply) (head : ReplyHead) (slot : ℕ) (bytes : List ℕ) (s t : Server) → Replies r head slot bytes s t
    → Follows capacity history s.exchanges → Follows capacity history t.exchanges
follows_replies capacity history r head slot bytes s t h f =
    follows_same capacity history _ t h.after
    (follows_kept capacity history head.kind slot bytes (with_id_used head.kind s) (follows_id capacity history head.kind s f))

fresh_stays : (s : Server) (b : Bool) → (if b then with_next_id s else s).exchanges ≡ s.exchanges
fresh_stays s true = refl
fresh_stays s false = refl

pub sent_stays : (n : Option Notice) (s : Server) → (with_notification_sent n s).exchanges ≡ s.exchanges
sent_stays None s = refl
sent_stays (Some n) s = fresh_stays s n.fresh

follows_sent : (capacity : ℕ) (history : List Arrival) (n : Option Notice) (s : Server) → Follows capacity history s.exchanges
    → Follows capacity history (with_notification_sent n s).exchanges
follows_sent capacity history n s f = subst (λ (t : Table). Follows capacity history t) (sym (sent_stays n s)) f

follows_reads : (capacity : ℕ) (history : List Arrival) (from : Endpoint) (now : ℕ) (m : CoapMessage) (slot : ℕ) (heard : Heard) (s t : Server) → Reads from now m slot heard s t
    → Follows capacity history s.exchanges → Follows capacity history t.exchanges
follows_reads capacity history from now m slot heard s t (replied r parts bytes why replies h) f =
    follows_replies capacity history r (head_of m) slot bytes (with_parts parts s) t replies f
follows_reads capacity history from now m slot heard s t (bad_option_ignored number fault non h is) f = follows_same capacity history s t is f
follows_reads capacity history from now m slot heard s t (gives_links bytes none act links get replies h) f =
    follows_replies capacity history _ (head_of m) slot bytes (links_given from now m.token (observing_in m) (what_is_asked m) s) t replies f
follows_reads capacity history from now m slot heard s t (asks none act apart h is) f = follows_same capacity history s t is f
follows_reads capacity history from now m slot heard s t (asks_whole b place parts whole none joining apart adds there h is) f =
    follows_same capacity history (with_parts (remove parts place) s) t is f

-- ---- the requests of a datagram

no_more : (history : List Arrival) (capacity : ℕ) (t : Table) → Follows capacity history t → Follows capacity (history ++ []) t
no_more history capacity t f = subst (λ (h : List Arrival). Follows capacity h t) (sym (append-nil history)) f

-- bytes that spell no message are no request
after_malformed : (capacity : ℕ) (history new : List Arrival) (f : MsgFault) (from : Endpoint) (bytes : List ℕ) (now : ℕ) (t : Table)
    → HasMsgFault f bytes → AreArrivals from bytes now new → Follows capacity history t → Follows capacity (history ++ new) t
after_malformed capacity history [] f from bytes now t fault are follows = no_more history capacity t follows
after_malformed capacity history (a ∷ []) f from bytes now t fault are follows = absurd (no_fault_of_message f are.0 bytes are.1 fault)
after_malformed capacity history (a ∷ b ∷ more) f from bytes now t fault are follows = absurd are

-- a message that is no request is none
after_no_request : (capacity : ℕ) (history new : List Arrival) (m : CoapMessage) (from : Endpoint) (bytes : List ℕ) (now : ℕ) (t : Table)
    → Spells m bytes → is_request m ≡ false → AreArrivals from bytes now new → Follows capacity history t → Follows capacity (history ++ new) t
after_no_request capacity history [] m from bytes now t spells none are follows = no_more history capacity t follows
after_no_request capacity history (a ∷ []) m from bytes now t spells none are follows =
    let same : are.0 ≡ m = at_most_one_message are.0 m bytes are.1 spells in
    let request : is_request m ≡ true = subst (λ x. is_request x ≡ true) same are.2 in
    cc
after_no_request capacity history (a ∷ b ∷ more) m from bytes now t spells none are follows = absurd are

capacity_stays : (t : Table) (a : Arrival) (met : Met) (u : Table) → Meets t a met u → u.capacity ≡ t.capacity
capacity_stays t a (Fresh slot) u h = ap (λ (w : Table). w.capacity) h.1.2
capacity_stays t a (Repeat kept) u h = ap (λ (w : Table). w.capacity) h.1
capacity_stays t a Full u h = ap (λ (w : Table). w.capacity) h.1.1

-- a request is one arrival, which met the verdict of the history
after_request : (capacity : ℕ) (history new : List Arrival) (from : Endpoint) (bytes : List ℕ) (now : ℕ) (m : CoapMessage) (met : Met) (s u : Server)
    → IsMet from bytes now m met s u → s.exchanges.moment ≤ now → AreArrivals from bytes now new → Follows capacity history s.exchanges
    → Follows capacity (history ++ new) u.exchanges
after_request capacity history [] from bytes now m met s u is later are f = absurd (let none = are m is.spells in let one = is.request in cc)
after_request capacity history (a ∷ []) from bytes now m met s u is later are f =
    let same : are.0 ≡ m = at_most_one_message are.0 m bytes are.1 is.spells in
    let which : arrival from now m ≡ a = ap (arrival from now) (sym same) ∙ sym are.3 in
    let next = tables_follow_the_history s.exchanges u.exchanges history (arrival from now m) met f.stands later is.meets in
    record {
      stands = subst (λ (x : Arrival). StandsFor u.exchanges (history ++ x ∷ [])) which next.1;
      same = capacity_stays (at_moment now s.exchanges) (arrival from now m) met u.exchanges is.meets ∙ f.same;
    }
after_request capacity history (a ∷ b ∷ more) from bytes now m met s u is later are f = absurd are

-- ---- all that a server did

follows_hears : (capacity : ℕ) (history new : List Arrival) (s t : Server) (from : Endpoint) (bytes : List ℕ) (now : ℕ) (heard : Heard)
    → Hears from bytes now heard s t → s.exchanges.moment ≤ now → AreArrivals from bytes now new → Follows capacity history s.exchanges
    → Follows capacity (history ++ new) t.exchanges
follows_hears capacity history new s t from bytes now heard (settled (malformed f fault h is)) later are x =
    follows_same capacity (history ++ new) s t is (after_malformed capacity history new f from bytes now s.exchanges fault are x)
follows_hears capacity history new s t from bytes now heard (settled (no_request m spells none h is)) later are x =
    follows_same capacity (history ++ new) (with_report from m s) t is (after_no_request capacity history new m from bytes now s.exchanges spells none are x)
follows_hears capacity history new s t from bytes now heard (settled (duplicate m kept e met found h)) later are x =
    after_request capacity history new from bytes now m (Repeat kept) s t met later are x
follows_hears capacity history new s t from bytes now heard (settled (full m u met h is)) later are x =
    follows_same capacity (history ++ new) _ t is
    (follows_id capacity (history ++ new) (request_type m.kind) u (after_request capacity history new from bytes now m Full s u met later are x))
follows_hears capacity history new s t from bytes now heard (admitted m slot u met reads) later are x =
    follows_reads capacity (history ++ new) from now m slot heard u t reads (after_request capacity history new from bytes now m (Fresh slot) s u met later are x)

follows_from : (capacity observers : ℕ) (history : List Arrival) (s : Server) → DidFrom (start capacity observers) history s → Follows capacity history s.exchanges
follows_from capacity observers history s nothing = record { stands = refl; same = refl }
follows_from capacity observers history s (heard_of before new r t from bytes now heard did later hears are) =
    follows_hears capacity before new r t from bytes now heard hears later are (follows_from capacity observers before r did)
follows_from capacity observers history s (answered before r t ask o target bytes did open_ask answers) =
    follows_replies capacity before _ (head_in ask) ask.slot bytes (with_bodies (bodies_after ask.blocks ask.from o r.bodies) (with_observers answers.observers r)) t answers.replies
    (follows_from capacity observers before r did)
follows_from capacity observers history s (emitted before r t target did is) =
    follows_same capacity before (with_emitted target r) t is (follows_from capacity observers before r did)
follows_from capacity observers history s (sent before r t now n did sends) =
    follows_same capacity before (with_notification_sent n (with_observers sends.observers r)) t sends.after
    (follows_sent capacity before n (with_observers sends.observers r) (follows_from capacity observers before r did))
follows_from capacity observers history s (linked before r t text did is) =
    follows_same capacity before (with_links text r) t is (follows_from capacity observers before r did)

follows : (capacity : ℕ) (history : List Arrival) (s : Server) → Did capacity history s → Follows capacity history s.exchanges
follows capacity history s did = follows_from capacity did.0 history s did.1

pub exchanges_are_of_the_history : ExchangesAreOfTheHistory
exchanges_are_of_the_history capacity history s did = let f = follows capacity history s did in (f.stands, f.same)

-- ---- duplicates ask nothing

pub not_replied : (what : AskSeen) (ask : PendingReply) (reply : Option CoapMessage) → asked what ask ≡ replied_at_once reply → ⊥
not_replied what ask None e = cc
not_replied what ask (Some m) e = cc

pub not_duplicate : (what : AskSeen) (ask : PendingReply) (kind : RequestType) (kept : Option (List ℕ)) → asked what ask ≡ duplicate_reply kind kept → ⊥
not_duplicate what ask Confirmable (Some bytes) e = cc
not_duplicate what ask Confirmable None e = cc
not_duplicate what ask NonConfirmable kept e = cc

verdict_at : (b : Bool) (v : Verdict) → b ≡ true → (if b then is_duplicate else v) ≡ is_duplicate
verdict_at true v e = refl
verdict_at false v e = cc

-- the verdict on a duplicate of a request that was admitted and lives
pub met_as_duplicate : (capacity : ℕ) (history : List Arrival) (s : Server) (u : Table) (a earlier : Arrival) (met : Met) → Did capacity history s → s.exchanges.moment ≤ a.moment
    → Contains (admitted_among capacity history) earlier → is_duplicate_of a earlier ≡ true → Meets (at_moment a.moment s.exchanges) a met u → IsVerdict met is_duplicate
met_as_duplicate capacity history s u a earlier met did later has again meets =
    let f = follows capacity history s did in
    let next = tables_follow_the_history s.exchanges u history a met f.stands later meets in
    let there : Contains (admitted_among s.exchanges.capacity history) earlier = subst (λ k. Contains (admitted_among k history) earlier) (sym f.same) has in
    let any : list_any (is_duplicate_of a) (admitted_among s.exchanges.capacity history) ≡ true
    = list_any_at (is_duplicate_of a) (admitted_among s.exchanges.capacity history) there.0 earlier there.1 (ap (is_duplicate_of a) there.2 ∙ again) in
    subst (IsVerdict met) (verdict_at (list_any (is_duplicate_of a) (admitted_among s.exchanges.capacity history)) _ any) next.0

pub duplicates_ask_nothing : DuplicatesAskNothing
duplicates_ask_nothing capacity history s t from bytes now m earlier did later spells has again what ask (settled (malformed f fault h is)) = not_replied what ask _ h
duplicates_ask_nothing capacity history s t from bytes now m earlier did later spells has again what ask (settled (no_request n of_n none h is)) = not_replied what ask _ h
duplicates_ask_nothing capacity history s t from bytes now m earlier did later spells has again what ask (settled (duplicate n kept e met found h)) = not_duplicate what ask (request_type n.kind) e.reply h
duplicates_ask_nothing capacity history s t from bytes now m earlier did later spells has again what ask (settled (full n u met h is)) = cc
duplicates_ask_nothing capacity history s t from bytes now m earlier did later spells has again what ask (admitted n slot u met reads) =
    let same : n ≡ m = at_most_one_message n m bytes met.spells spells in
    let one : is_duplicate_of (arrival from now n) earlier ≡ true = subst (λ x. is_duplicate_of (arrival from now x) earlier ≡ true) (sym same) again in
    let w : is_duplicate ≡ is_admitted = met_as_duplicate capacity history s u.exchanges (arrival from now n) earlier (Fresh slot) did later has one met.meets in
    cc
