-- A duplicate is only answered by the bytes that were sent first in reply to its request.
use Rattle.std.proofs.Common.{◌≡◌, ◌≤◌, ◌⊎◌, ◌∙◌, cond, inl, inr, ℕ, Bool, true, false, Option, Some, None, List, [], ◌∷◌, ◌++◌, refl, sym, ap, subst}
use Rattle.std.specs.Prelude.{◌==◌, find}
use Rattle.std.specs.Option.{option_or}
use Rattle.std.proofs.lemmas.List.Folds.{find-append}
use Rattle.std.proofs.lemmas.Bool.{eqb-true}
use Rattle.coap_msg.specs.declared.endpoint.Endpoint.{Endpoint}
use Rattle.coap_msg.specs.declared.message.RequestType.{RequestType}
use Rattle.coap_msg.specs.declared.message.RequestType.TheVariants.{Confirmable, NonConfirmable}
use Rattle.coap_msg.specs.Grammar.{CoapMessage}
use Rattle.coap_msg.specs.Requests.{request_type}
use Rattle.coap_msg.proofs.Messages.{at_most_one_message}
use Rattle.coap_msg.proofs.FaultLaws.{no_fault_of_message}
use Rattle.coap_exchange.specs.Admission.{Arrival, lives, is_duplicate_of, admitted as is_admitted, duplicate as is_duplicate, refused as is_refused}
use Rattle.coap_exchange.specs.Table.{Exchange, Table, at_moment, exchange_in}
use Rattle.coap_exchange.specs.declared.met.Met.TheVariants.{Fresh, Full}
use Rattle.coap_opts.specs.Reading.{asked as what_is_asked}
use Rattle.coap_bind.specs.declared.server.Server.{Server}
use Rattle.coap_bind.specs.Writing.{Reply, ReplyHead, head_of, head_in}
use Rattle.coap_bind.specs.Server.{start, Heard, ignored, answered_at_once, with_id_used, with_kept, with_observers, Replies, Answers, is_request, duplicate_reply, arrival, IsMet, malformed, no_request, duplicate, full, with_parts, replied, bad_option_ignored, gives_links, links_given, observing_in, asks, asks_whole, Reads, settled, admitted, Hears}
use Rattle.thing_ops.specs.declared.outcome.Outcome.{Outcome}
use Rattle.coap_bind.specs.declared.pending.PendingReply.{PendingReply}
use Rattle.coap_bind.specs.Laws.{AreArrivals, IsOpen, DidFrom, nothing, heard_of, answered, emitted, sent, linked}
use Rattle.coap_bind.specs.Duplicates.{may_keep, IsRepliedTo, at_once, afterwards, WasRepliedTo, OnlyTheFirstReplyIsRepeated}
use Rattle.coap_bind.proofs.HistoryLaws.{met_as_duplicate}
use Rattle.coap_bind.proofs.OpenLaws.{fresh_is_there}
use Rattle.coap_observe.proofs.Counts.{found_passes}
use Rattle.coap_bind.proofs.TidyLaws.{in_slot_unfilter, was_in, WasIn, well_in_slot}
use Rattle.coap_bind.proofs.DuplicateLaws.{Tidy, tidy_from, tidy, ready, used_stays, sent_exchanges, same_exchange}

-- ---- where an exchange with a reply comes from

-- it was there before, or this is its reply
abbrev WasThere : ℕ → List ℕ → Arrival → List ℕ → Table → Exchange → Type 0
WasThere slot bytes a reply t e = (exchange_in slot t ≡ Some e) ⊎ ((e.arrival ≡ a) × (bytes ≡ reply))

same_reply : (a b : List ℕ) → Some a ≡ Some b → a ≡ b
same_reply a b is = cc

was_kept : (other slot : ℕ) (bytes reply : List ℕ) (t : Table) (e f : Exchange) → exchange_in other t ≡ Some f → e.reply ≡ Some reply → WasIn slot other bytes t.exchanges e
    → WasThere slot bytes f.arrival reply t e
was_kept other slot bytes reply t e f there has (inl found) = inl found
was_kept other slot bytes reply t e f there has (inr h) =
    let one : slot ≡ other = eqb-true slot other h.2 in
    let same : h.0 ≡ f = same_exchange h.0 f (sym h.1 ∙ ap (λ n. exchange_in n t) one ∙ there) in
    inr (ap (λ (x : Exchange). x.arrival) h.3 ∙ ap (λ (x : Exchange). x.arrival) same, same_reply bytes reply (sym (ap (λ (x : Exchange). x.reply) h.3) ∙ has))

kept_back : (kind : RequestType) (other slot : ℕ) (bytes reply : List ℕ) (s : Server) (e f : Exchange) → exchange_in other s.exchanges ≡ Some f → e.reply ≡ Some reply
    → exchange_in slot (with_kept kind other bytes (with_id_used kind s)).exchanges ≡ Some e → WasThere slot bytes f.arrival reply s.exchanges e
kept_back Confirmable other slot bytes reply s e f there has found = was_kept other slot bytes reply s.exchanges e f there has (was_in slot other bytes s.exchanges.exchanges e found)
kept_back NonConfirmable other slot bytes reply s e f there has found = inl found

replies_back : (r : Reply) (head : ReplyHead) (at : ℕ) (bytes : List ℕ) (s t : Server) (slot : ℕ) (reply : List ℕ) (e f : Exchange) → Replies r head at bytes s t
    → exchange_in at s.exchanges ≡ Some f → e.reply ≡ Some reply → exchange_in slot t.exchanges ≡ Some e → WasThere slot bytes f.arrival reply s.exchanges e
replies_back r head at bytes s t slot reply e f replies there has found =
    kept_back head.kind at slot bytes reply s e f there has (subst (λ (x : Server). exchange_in slot x.exchanges ≡ Some e) replies.after found)

-- it was there before, or this request was replied to at once
abbrev WasAnswered : ℕ → Heard → Arrival → List ℕ → Table → Exchange → Type 0
WasAnswered slot heard a reply t e = (exchange_in slot t ≡ Some e) ⊎ ((e.arrival ≡ a) × (heard ≡ answered_at_once reply))

told : (slot : ℕ) (heard : Heard) (bytes : List ℕ) (a : Arrival) (reply : List ℕ) (t : Table) (e : Exchange) → heard ≡ answered_at_once bytes → WasThere slot bytes a reply t e → WasAnswered slot heard a reply t e
told slot heard bytes a reply t e is (inl found) = inl found
told slot heard bytes a reply t e is (inr h) = inr (h.0, is ∙ ap answered_at_once h.1)

same_back : (slot : ℕ) (e : Exchange) (s t : Table) → t ≡ s → exchange_in slot t ≡ Some e → exchange_in slot s ≡ Some e
same_back slot e s t is found = subst (λ (x : Table). exchange_in slot x ≡ Some e) is found

reads_back : (from : Endpoint) (now : ℕ) (m : CoapMessage) (other : ℕ) (heard : Heard) (s t : Server) (slot : ℕ) (reply : List ℕ) (e f : Exchange) → Reads from now m other heard s t
    → exchange_in other s.exchanges ≡ Some f → e.reply ≡ Some reply → exchange_in slot t.exchanges ≡ Some e → WasAnswered slot heard f.arrival reply s.exchanges e
reads_back from now m other heard s t slot reply e f (replied r parts bytes why replies is) there has found =
    told slot heard bytes f.arrival reply s.exchanges e is (replies_back r (head_of m) other bytes (with_parts parts s) t slot reply e f replies there has found)
reads_back from now m other heard s t slot reply e f (bad_option_ignored number fault non is same) there has found = inl (same_back slot e s.exchanges t.exchanges (ap (λ (x : Server). x.exchanges) same) found)
reads_back from now m other heard s t slot reply e f (gives_links bytes none act links get replies is) there has found =
    told slot heard bytes f.arrival reply s.exchanges e is
    (replies_back _ (head_of m) other bytes (links_given from now m.token (observing_in m) (what_is_asked m) s) t slot reply e f replies there has found)
reads_back from now m other heard s t slot reply e f (asks none act apart is same) there has found = inl (same_back slot e s.exchanges t.exchanges (ap (λ (x : Server). x.exchanges) same) found)
reads_back from now m other heard s t slot reply e f (asks_whole b place parts whole none joining apart adds at is same) there has found =
    inl (same_back slot e s.exchanges t.exchanges (ap (λ (x : Server). x.exchanges) same) found)

moment_back : (now slot : ℕ) (t : Table) (e : Exchange) → Tidy t → exchange_in slot (at_moment now t) ≡ Some e → exchange_in slot t ≡ Some e
moment_back now slot t e h found = in_slot_unfilter (λ x. lives now x.arrival) t.exchanges slot e h.distinct found

-- a new exchange has no reply
pushed_at : (slot : ℕ) (x e : Exchange) (reply : List ℕ) (found : Option Exchange) (b : Bool) → x.reply ≡ None → e.reply ≡ Some reply
    → option_or found (cond b (Some x) None) ≡ Some e → found ≡ Some e
pushed_at slot x e reply (Some y) b none has is = is
pushed_at slot x e reply None true none has is = absurd (differ (sym none ∙ ap (λ (z : Exchange). z.reply) (same_exchange x e is) ∙ has))
  where
    differ : None ≡ Some reply → ⊥
    differ e' = cc
pushed_at slot x e reply None false none has is = is

pushed_back : (slot : ℕ) (es : List Exchange) (x e : Exchange) (reply : List ℕ) → x.reply ≡ None → e.reply ≡ Some reply
    → find (λ z. z.slot == slot) (es ++ x ∷ []) ≡ Some e → find (λ z. z.slot == slot) es ≡ Some e
pushed_back slot es x e reply none has found =
    pushed_at slot x e reply (find (λ z. z.slot == slot) es) (x.slot == slot) none has (sym (find-append (λ z. z.slot == slot) es (x ∷ [])) ∙ found)

-- it was there before the datagram, or the datagram was the request and was replied to at once
abbrev WasHeard : ℕ → Exchange → List ℕ → Server → Server → Type 0
WasHeard slot e reply s t = (exchange_in slot s.exchanges ≡ Some e) ⊎ IsRepliedTo e.arrival reply s t

heard_back : (from : Endpoint) (bytes : List ℕ) (now : ℕ) (heard : Heard) (s u t : Server) (m : CoapMessage) (other slot : ℕ) (reply : List ℕ) (e : Exchange) → s.exchanges.moment ≤ now
    → (met : IsMet from bytes now m (Fresh other) s u) → Reads from now m other heard u t → Tidy s.exchanges → e.reply ≡ Some reply
    → WasAnswered slot heard (arrival from now m) reply u.exchanges e → WasHeard slot e reply s t
heard_back from bytes now heard s u t m other slot reply e later met reads h has (inl found) =
    let x : Exchange = record { arrival = arrival from now m; slot = other; reply = None } in
    let in_u = subst (λ (w : Table). exchange_in slot w ≡ Some e) met.meets.1.2 found in
    inl (moment_back now slot s.exchanges e h (pushed_back slot (at_moment now s.exchanges).exchanges x e reply refl has in_u))
heard_back from bytes now heard s u t m other slot reply e later met reads h has (inr a) =
    inr (at_once from bytes now m other u later met (subst (λ x. Reads from now m other x u t) a.1 reads) a.0)

hears_back : (from : Endpoint) (bytes : List ℕ) (now : ℕ) (heard : Heard) (s t : Server) (slot : ℕ) (reply : List ℕ) (e : Exchange) → Hears from bytes now heard s t → s.exchanges.moment ≤ now
    → Tidy s.exchanges → e.reply ≡ Some reply → exchange_in slot t.exchanges ≡ Some e → WasHeard slot e reply s t
hears_back from bytes now heard s t slot reply e (settled (malformed f fault is same)) later h has found = inl (same_back slot e s.exchanges t.exchanges (ap (λ (x : Server). x.exchanges) same) found)
hears_back from bytes now heard s t slot reply e (settled (no_request m spells isnt is same)) later h has found = inl (same_back slot e s.exchanges t.exchanges (ap (λ (x : Server). x.exchanges) same) found)
hears_back from bytes now heard s t slot reply e (settled (duplicate m kept f met there is)) later h has found =
    inl (moment_back now slot s.exchanges e h (same_back slot e (at_moment now s.exchanges) t.exchanges met.meets.1 found))
hears_back from bytes now heard s t slot reply e (settled (full m u met is same)) later h has found =
    inl (moment_back now slot s.exchanges e h
    (same_back slot e (at_moment now s.exchanges) t.exchanges (ap (λ (x : Server). x.exchanges) same ∙ used_stays (request_type m.kind) u ∙ met.meets.1.1) found))
hears_back from bytes now heard s t slot reply e (admitted m other u met reads) later h has found =
    heard_back from bytes now heard s u t m other slot reply e later met reads h has
    (reads_back from now m other heard u t slot reply e (record { arrival = arrival from now m; slot = other; reply = None }) reads (fresh_is_there from bytes now m other s u met) has found)

-- ---- over all that a server did

-- nothing is kept yet
abbrev KeepsNone : Table → Type 0
KeepsNone t = (slot : ℕ) (e : Exchange) (reply : List ℕ) → exchange_in slot t ≡ Some e → e.reply ≡ Some reply → ⊥

-- it was replied to at this step
now_replied : (before : Server) (history : List Arrival) (request : Arrival) (reply : List ℕ) (s t : Server) → DidFrom before history s → IsRepliedTo request reply s t → WasRepliedTo before request reply t
now_replied before history request reply s t did was = record { history = history; later = []; s = s; t = t; did = did; replied = was; since = nothing }

heard_was : (before : Server) (past new : List Arrival) (r t : Server) (from : Endpoint) (bytes : List ℕ) (now : ℕ) (heard : Heard) (slot : ℕ) (reply : List ℕ) (e : Exchange) → DidFrom before past r
    → r.exchanges.moment ≤ now → Hears from bytes now heard r t → AreArrivals from bytes now new → WasHeard slot e reply r t
    → (exchange_in slot r.exchanges ≡ Some e → WasRepliedTo before e.arrival reply r) → WasRepliedTo before e.arrival reply t
heard_was before past new r t from bytes now heard slot reply e did later hears are (inl found) rest =
    let w = rest found in
    record { history = w.history; later = w.later ++ new; s = w.s; t = w.t; did = w.did; replied = w.replied; since = heard_of w.later new r t from bytes now heard w.since later hears are }
heard_was before past new r t from bytes now heard slot reply e did later hears are (inr was) rest = now_replied before past e.arrival reply r t did was

answered_was : (before : Server) (past : List Arrival) (r t : Server) (ask : PendingReply) (o : Outcome) (target : Option ℕ) (bytes : List ℕ) (slot : ℕ) (reply : List ℕ) (e : Exchange) → DidFrom before past r
    → (waiting : IsOpen ask r) → Answers ask o target bytes r t → WasThere slot bytes waiting.exchange.arrival reply r.exchanges e
    → (exchange_in slot r.exchanges ≡ Some e → WasRepliedTo before e.arrival reply r) → WasRepliedTo before e.arrival reply t
answered_was before past r t ask o target bytes slot reply e did waiting answers (inl found) rest =
    let w = rest found in
    record { history = w.history; later = w.later; s = w.s; t = w.t; did = w.did; replied = w.replied; since = answered w.later r t ask o target bytes w.since waiting answers }
answered_was before past r t ask o target bytes slot reply e did waiting answers (inr h) rest =
    now_replied before past e.arrival reply r t did (afterwards ask o target waiting (subst (λ b. Answers ask o target b r t) h.1 answers) h.0)

was_replied : (before : Server) (history : List Arrival) (t : Server) (slot : ℕ) (reply : List ℕ) (e : Exchange) → DidFrom before history t → Tidy before.exchanges → KeepsNone before.exchanges
    → exchange_in slot t.exchanges ≡ Some e → e.reply ≡ Some reply → WasRepliedTo before e.arrival reply t
was_replied before history t slot reply e nothing h none found has = absurd (none slot e reply found has)
was_replied before history t slot reply e (heard_of past new r u from bytes now heard did later hears are) h none found has =
    heard_was before past new r u from bytes now heard slot reply e did later hears are (hears_back from bytes now heard r u slot reply e hears later (tidy_from before past r did h) has found)
    (λ there. was_replied before past r slot reply e did h none there has)
was_replied before history t slot reply e (answered past r u ask o target bytes did waiting answers) h none found has =
    answered_was before past r u ask o target bytes slot reply e did waiting answers
    (replies_back _ (head_in ask) ask.slot bytes (ready ask o answers.observers r) u slot reply e waiting.exchange answers.replies waiting.there has found)
    (λ there. was_replied before past r slot reply e did h none there has)
was_replied before history t slot reply e (emitted past r u target did is) h none found has =
    let w = was_replied before past r slot reply e did h none (same_back slot e r.exchanges u.exchanges (ap (λ (x : Server). x.exchanges) is) found) has in
    record { history = w.history; later = w.later; s = w.s; t = w.t; did = w.did; replied = w.replied; since = emitted w.later r u target w.since is }
was_replied before history t slot reply e (sent past r u now n did sends) h none found has =
    let w = was_replied before past r slot reply e did h none (same_back slot e r.exchanges u.exchanges (sent_exchanges n (with_observers sends.observers r) u sends.after) found) has in
    record { history = w.history; later = w.later; s = w.s; t = w.t; did = w.did; replied = w.replied; since = sent w.later r u now n w.since sends }
was_replied before history t slot reply e (linked past r u text did is) h none found has =
    let w = was_replied before past r slot reply e did h none (same_back slot e r.exchanges u.exchanges (ap (λ (x : Server). x.exchanges) is) found) has in
    record { history = w.history; later = w.later; s = w.s; t = w.t; did = w.did; replied = w.replied; since = linked w.later r u text w.since is }

nothing_kept : (t : Table) → t.exchanges ≡ [] → KeepsNone t
nothing_kept t empty slot e reply found has = absurd (none (sym (ap (find (λ z. z.slot == slot)) empty) ∙ found))
  where
    none : None ≡ Some e → ⊥
    none e' = cc

-- ---- the answer to a duplicate

-- it is answered by the reply that is kept
abbrev IsKept : RequestType → Option (List ℕ) → Heard → Type 0
IsKept kind kept heard = (heard ≡ ignored) ⊎ ((reply : List ℕ) × (heard ≡ answered_at_once reply) × (kind ≡ Confirmable) × (kept ≡ Some reply))

is_kept : (kind : RequestType) (kept : Option (List ℕ)) (heard : Heard) → heard ≡ duplicate_reply kind kept → IsKept kind kept heard
is_kept Confirmable (Some bytes) heard is = inr (bytes, is, refl, refl)
is_kept Confirmable None heard is = inl is
is_kept NonConfirmable kept heard is = inl is

confirmable_of : (kind : RequestType) (kept : Option (List ℕ)) (reply : List ℕ) → kept ≡ Some reply → may_keep kind kept ≡ true → kind ≡ Confirmable
confirmable_of Confirmable kept reply is well = refl
confirmable_of NonConfirmable (Some bytes) reply is well = cc
confirmable_of NonConfirmable None reply is well = cc

-- the bytes that a duplicate of this exchange is answered were sent first in reply to a request
abbrev Repeats : ℕ → ℕ → Heard → RequestType → Arrival → Server → Type 0
Repeats capacity observers heard kind a u =
    (heard ≡ ignored)
    ⊎ ((request : Arrival) × (reply : List ℕ) × (heard ≡ answered_at_once reply) × (is_duplicate_of a request ≡ true)
    × (kind ≡ Confirmable) × (request.kind ≡ Confirmable) × WasRepliedTo (start capacity observers) request reply u)

repeats_kept : (capacity observers : ℕ) (history : List Arrival) (u : Server) (now slot : ℕ) (heard : Heard) (kind : RequestType) (a : Arrival) (e : Exchange) → DidFrom (start capacity observers) history u
    → exchange_in slot (at_moment now u.exchanges) ≡ Some e → is_duplicate_of a e.arrival ≡ true → IsKept kind e.reply heard → Repeats capacity observers heard kind a u
repeats_kept capacity observers history u now slot heard kind a e did there again (inl is) = inl is
repeats_kept capacity observers history u now slot heard kind a e did there again (inr h) =
    let order = tidy capacity history u (observers, did) in
    let here = moment_back now slot u.exchanges e order there in
    inr (
      e.arrival,
      h.0,
      h.1,
      again,
      h.2,
      confirmable_of e.arrival.kind e.reply h.0 h.3 (well_in_slot u.exchanges.exchanges slot e order.kept here),
      was_replied (start capacity observers) history u slot h.0 e did (record { distinct = tt; kept = tt }) (nothing_kept (start capacity observers).exchanges refl) here h.3,
    )

pub only_the_first_reply_is_repeated : OnlyTheFirstReplyIsRepeated
only_the_first_reply_is_repeated capacity observers history u v from bytes now m heard earlier did later spells request has again (settled (malformed f fault is same)) = absurd (no_fault_of_message f m bytes spells fault)
only_the_first_reply_is_repeated capacity observers history u v from bytes now m heard earlier did later spells request has again (settled (no_request n of_n isnt is same)) =
    absurd (differ (subst (λ (x : CoapMessage). is_request x ≡ false) (at_most_one_message n m bytes of_n spells) isnt))
  where
    differ : is_request m ≡ false → ⊥
    differ isnt' = cc
only_the_first_reply_is_repeated capacity observers history u v from bytes now m heard earlier did later spells request has again (settled (duplicate n kept e met found is)) =
    let same : n ≡ m = at_most_one_message n m bytes met.spells spells in
    let d = met.meets.0 in
    let one : d.0 ≡ e = same_exchange d.0 e (sym d.1 ∙ found) in
    let there : exchange_in d.0.slot (at_moment now u.exchanges) ≡ Some e = d.2 ∙ ap Some one in
    let passes : is_duplicate_of (arrival from now n) e.arrival ≡ true
    = found_passes (λ (x : Exchange). is_duplicate_of (arrival from now n) x.arrival) (at_moment now u.exchanges).exchanges e found in
    repeats_kept capacity observers history u now d.0.slot heard (request_type m.kind) (arrival from now m) e did there
    (subst (λ (x : CoapMessage). is_duplicate_of (arrival from now x) e.arrival ≡ true) same passes)
    (is_kept (request_type m.kind) e.reply heard (is ∙ ap (λ (x : CoapMessage). duplicate_reply (request_type x.kind) e.reply) same))
only_the_first_reply_is_repeated capacity observers history u v from bytes now m heard earlier did later spells request has again (settled (full n w met is same)) =
    let of_n : is_duplicate_of (arrival from now n) earlier ≡ true = subst (λ (x : CoapMessage). is_duplicate_of (arrival from now x) earlier ≡ true) (sym (at_most_one_message n m bytes met.spells spells)) again in
    absurd (differ (met_as_duplicate capacity history u w.exchanges (arrival from now n) earlier Full (observers, did) later has of_n met.meets))
  where
    differ : is_duplicate ≡ is_refused → ⊥
    differ x = cc
only_the_first_reply_is_repeated capacity observers history u v from bytes now m heard earlier did later spells request has again (admitted n slot w met reads) =
    let of_n : is_duplicate_of (arrival from now n) earlier ≡ true = subst (λ (x : CoapMessage). is_duplicate_of (arrival from now x) earlier ≡ true) (sym (at_most_one_message n m bytes met.spells spells)) again in
    absurd (differ (met_as_duplicate capacity history u w.exchanges (arrival from now n) earlier (Fresh slot) (observers, did) later has of_n met.meets))
  where
    differ : is_duplicate ≡ is_admitted → ⊥
    differ x = cc
