-- The treatment of a datagram, case by case.
use Rattle.std.proofs.Common.{◌≡◌, ◌≢◌, ◌⊎◌, inl, inr, ℕ, ◌∙◌, Bool, true, false, cond, Option, Some, None, List, [], ◌∷◌, ◌++◌, map, refl, sym, ap, subst, rules}
use Rattle.std.specs.Prelude.{◌==◌, slice_get}
use Rattle.std.specs.List.{find, remove}
use Rattle.coap_msg.specs.declared.block.Block.{Block}
use Rattle.std.proofs.lemmas.List.{map-append}
use Rattle.coap_msg.specs.declared.endpoint.Endpoint.{Endpoint}
use Rattle.coap_msg.specs.declared.message.Type4.{Type4}
use Rattle.coap_msg.specs.declared.message.Type4.TheVariants.{Con, Non, Ack, Rst}
use Rattle.coap_msg.specs.declared.message.RequestType.{RequestType}
use Rattle.coap_msg.specs.declared.message.RequestType.TheVariants.{Confirmable, NonConfirmable}
use Rattle.coap_msg.specs.Grammar.{CoapMessage, spelling}
use Rattle.coap_msg.specs.Empty.{empty_reply}
use Rattle.coap_msg.specs.Requests.{request_type}
use Rattle.coap_msg.proofs.Messages.{at_most_one_message}
use Rattle.coap_msg.proofs.FaultLaws.{no_fault_of_message}
use Rattle.coap_exchange.specs.declared.met.Met.TheVariants.{Fresh}
use Rattle.coap_exchange.specs.Admission.{Arrival}
use Rattle.coap_exchange.specs.Table.{Exchange, Table, at_moment, exchange_in, with_exchange, with_reply, answered as with_answer}
use Rattle.coap_observe.specs.Watching.{Watching}
use Rattle.coap_opts.specs.Reading.{AskSeen, faults_of, asked as what_is_asked}
use Rattle.coap_opts.specs.declared.fault.AskFault.{AskFault}
use Rattle.thing_ops.specs.Outcomes.{HasCode}
use Rattle.coap_bind.specs.declared.pending.PendingReply.{PendingReply}
use Rattle.coap_bind.specs.declared.server.Server.{Server}
use Rattle.coap_blocks.specs.Parts.{Part}
use Rattle.coap_bind.specs.declared.blocks.BlockWish.TheVariants as wanted
use Rattle.coap_bind.specs.Blocks.{answer_reply}
use Rattle.coap_bind.specs.Links.{links_reply, size_asked, observers_with_links}
use Rattle.coap_bind.specs.Observing.{effect_of, Watches}
use Rattle.coap_bind.proofs.DuplicateLaws.{ready}
use Rattle.coap_bind.specs.Writing.{Reply, observed, ReplyHead, head_of, head_in, coap_reply}
use Rattle.coap_bind.specs.Server.{Heard, ignored, answered_at_once, asked, with_id_used, with_kept, replied_at_once, Replies, is_request, arrival, IsMet, malformed, no_request as is_no_request, duplicate, full, IsAnsweredAtOnce, bad_option, bad_block, for_proxy, no_memory, later_block, joined, takes_no_other_verb, takes_no_body, replied, bad_option_ignored, gives_links, links_given, observing_in, asks, asks_whole, wanted_in, with_parts, with_whole_body, pending_of, pending_joined, settled, admitted, Hears, Answers}
use Rattle.coap_bind.specs.Laws.{HasShortPlace}
use Rattle.coap_bind.specs.Treating.{Acted, ignores, answers, acts, IsReplied, faulty, memory, of_blocks, of_links, no_method, acted, acted_on_whole, kept_for, sent_back, IsTreated, no_request, is_duplicate, finds_full, is_answered, is_ignored, AllAreTreated}
use Rattle.coap_bind.proofs.HistoryLaws.{not_replied, not_duplicate}

-- ---- the table

at_none : {X : Type 0} (x : X) (o : Option X) (t : Bool) → cond t (Some x) o ≡ None → (t ≡ false) × (o ≡ None)
at_none x o true e = absurd (cc)
at_none x o false e = (refl, e)

unanswered_at : (slot : ℕ) (reply : List ℕ) (e : Exchange) (b : Bool) → b ≡ false → cond b (record e { reply = Some reply }) e ≡ e
unanswered_at slot reply e true h = absurd (cc)
unanswered_at slot reply e false h = refl

none_answered : (slot : ℕ) (reply : List ℕ) (es : List Exchange) → find (λ e. e.slot == slot) es ≡ None → map (with_answer slot reply) es ≡ es
none_answered slot reply [] none = refl
none_answered slot reply (e ∷ es) none =
    let both = at_none e (find (λ x. x.slot == slot) es) (e.slot == slot) none in
    ap (λ (x : Exchange). x ∷ map (with_answer slot reply) es) (unanswered_at slot reply e (e.slot == slot) both.0)
    ∙ ap (λ (l : List Exchange). e ∷ l) (none_answered slot reply es both.1)

abbrev exchange : Arrival → ℕ → Option (List ℕ) → Exchange
exchange a slot kept = record { arrival = a; slot = slot; reply = kept }

new_answered : (slot : ℕ) (reply : List ℕ) (a : Arrival) (b : Bool) → b ≡ true → cond b (exchange a slot (Some reply)) (exchange a slot None) ≡ exchange a slot (Some reply)
new_answered slot reply a true h = refl
new_answered slot reply a false h = absurd (cc)

same_slot : (n : ℕ) → (n == n) ≡ true
same_slot n = search rules

with_reply_is : (slot : ℕ) (reply : List ℕ) (a : Arrival) (t : Table) → exchange_in slot t ≡ None
    → (with_reply slot reply (with_exchange a slot t)).exchanges ≡ t.exchanges ++ record { arrival = a; slot = slot; reply = Some reply } ∷ []
with_reply_is slot reply a t none =
    let new : Exchange = record { arrival = a; slot = slot; reply = None } in
    map-append (with_answer slot reply) t.exchanges (new ∷ [])
    ∙ (ap (λ (l : List Exchange). l ++ with_answer slot reply new ∷ []) (none_answered slot reply t.exchanges none)
    ∙ ap (λ (x : Exchange). t.exchanges ++ x ∷ []) (new_answered slot reply a (slot == slot) (same_slot slot)))

kept_exchanges : (kind : RequestType) (slot : ℕ) (reply : List ℕ) (u : Server) (a : Arrival) (t : Table) → u.exchanges ≡ with_exchange a slot t → exchange_in slot t ≡ None
    → (with_kept kind slot reply (with_id_used kind u)).exchanges.exchanges ≡ t.exchanges ++ record { arrival = a; slot = slot; reply = kept_for kind reply } ∷ []
kept_exchanges Confirmable slot reply u a t is none = ap (λ (x : Table). (with_reply slot reply x).exchanges) is ∙ with_reply_is slot reply a t none
kept_exchanges NonConfirmable slot reply u a t is none = ap (λ (x : Table). x.exchanges) is

kept_observers : (kind : RequestType) (slot : ℕ) (reply : List ℕ) (u : Server) → (with_kept kind slot reply (with_id_used kind u)).observers ≡ u.observers
kept_observers Confirmable slot reply u = refl
kept_observers NonConfirmable slot reply u = refl

used_exchanges : (kind : RequestType) (u : Server) → (with_id_used kind u).exchanges ≡ u.exchanges
used_exchanges Confirmable u = refl
used_exchanges NonConfirmable u = refl

used_observers : (kind : RequestType) (u : Server) → (with_id_used kind u).observers ≡ u.observers
used_observers Confirmable u = refl
used_observers NonConfirmable u = refl

-- ---- the datagram that was heard

some_fault : (m : CoapMessage) (f : AskFault) → slice_get (faults_of m.options) 0 ≡ Some f → faults_of m.options ≢ []
some_fault m f e none = let no_fault : slice_get (faults_of m.options) 0 ≡ None = ap (λ l. slice_get l 0) none in absurd (cc)

abbrev what_in : AskSeen → Heard → AskSeen
what_in w ignored = w
what_in w (answered_at_once bytes) = w
what_in w (asked what ask) = what

abbrev ask_in : PendingReply → Heard → PendingReply
ask_in a ignored = a
ask_in a (answered_at_once bytes) = a
ask_in a (asked what ask) = ask

-- ---- the cases

-- a request that was admitted, and answered at once by a server that has changed, with these observers
treated_at_once : (from : Endpoint) (bytes : List ℕ) (now : ℕ) (act : Option Acted) (back : List (List ℕ)) (s v u t : Server) (m : CoapMessage) (slot : ℕ) (r : Reply) (reply : List ℕ) (w : Watching)
    → IsMet from bytes now m (Fresh slot) s u → v.observers ≡ w → v.exchanges ≡ u.exchanges → Replies r (head_of m) slot reply v t
    → (v.next_id ≡ u.next_id) → (t.observers ≡ w → IsReplied from now m act r s.observers t.observers)
    → back ≡ reply ∷ [] → IsTreated from bytes now act back s t
treated_at_once from bytes now act back s v u t m slot r reply w met observers exchanges replies id why is =
    is_answered m slot r reply met.spells met.request met.meets.1.1
    (why (ap (λ (x : Server). x.observers) replies.after ∙ (kept_observers (request_type m.kind) slot reply v ∙ observers)))
    (replies.bytes_are ∙ ap (λ (n : ℕ). spelling (coap_reply r (head_of m) n)) (id ∙ met.same_id)) is
    (ap (λ (x : Server). x.exchanges.exchanges) replies.after
    ∙ kept_exchanges (request_type m.kind) slot reply v (arrival from now m) (at_moment now s.exchanges) (exchanges ∙ met.meets.1.2) met.meets.1.1)

-- the cause for which a request was answered at once
joining_is_no_act : (m : CoapMessage) (b : Block) → wanted_in m ≡ wanted.Joining b → wanted_in m ≢ wanted.Act
joining_is_no_act m b is act = cc

later_is_no_act : (m : CoapMessage) (b : Block) → wanted_in m ≡ wanted.LaterBlock b → wanted_in m ≢ wanted.Act
later_is_no_act m b is act = cc

why_replied : (from : Endpoint) (now : ℕ) (m : CoapMessage) (act : Option Acted) (r : Reply) (s : Server) (parts : List Part) {old new : Watching} → act ≡ None → IsAnsweredAtOnce from now m r s parts → new ≡ old
    → IsReplied from now m act r old new
why_replied from now m act r s parts none (bad_option number fault con is same) w = faulty (some_fault m _ fault) none w
why_replied from now m act r s parts none (bad_block fault is same) w = faulty (some_fault m _ fault) none w
why_replied from now m act r s parts none (for_proxy fault is same) w = faulty (some_fault m _ fault) none w
why_replied from now m act r s parts none (no_memory faultless is same) w = memory is none w
why_replied from now m act r s parts none (later_block b faultless wants is same) w = of_blocks (later_is_no_act m b wants) none w
why_replied from now m act r s parts none (joined b added faultless wants adds is) w = of_blocks (joining_is_no_act m b wants) none w
why_replied from now m act r s parts none (takes_no_other_verb faultless wants links other is same) w = no_method links none w is
why_replied from now m act r s parts none (takes_no_body b place whole faultless wants links adds is same) w = no_method links none w is

-- a datagram that is settled, and not asked for
treated_settled : (from : Endpoint) (bytes : List ℕ) (now : ℕ) (h : Heard) (act : Option Acted) (back : List (List ℕ)) (s t : Server) → act ≡ None → back ≡ sent_back h
    → Hears from bytes now h s t → ((what : AskSeen) (ask : PendingReply) → h ≡ asked what ask → ⊥) → IsTreated from bytes now act back s t
treated_settled from bytes now h act back s t none is (settled (malformed f fault e same)) unasked =
    no_request (λ m spells request. no_fault_of_message f m bytes spells fault) (λ m spells kind. absurd (no_fault_of_message f m bytes spells fault)) none
    (ap (λ (x : Server). x.exchanges) same) (inl (ap (λ (x : Server). x.observers) same))
treated_settled from bytes now h act back s t none is (settled (is_no_request n spells isnt e same)) unasked =
    no_request (λ m other request.
    let one : is_request m ≡ false = subst (λ (x : CoapMessage). is_request x ≡ false) (at_most_one_message n m bytes spells other) isnt in
    absurd (cc)) (λ m other kind. is ∙ (ap sent_back e ∙ silent n m (at_most_one_message n m bytes spells other) kind)) none
    (ap (λ (x : Server). x.exchanges) same) (inr (n, spells, ap (λ (x : Server). x.observers) same))
  where
    silent_at : (k : Type4) (id : ℕ) → (k ≡ Ack) ⊎ (k ≡ Rst) → sent_back (replied_at_once (empty_reply k id false)) ≡ []
    silent_at Con id (inl e) = absurd (cc)
    silent_at Con id (inr e) = absurd (cc)
    silent_at Non id e = refl
    silent_at Ack id e = refl
    silent_at Rst id e = refl

    silent : (n m : CoapMessage) → n ≡ m → (m.kind ≡ Ack) ⊎ (m.kind ≡ Rst) → sent_back (replied_at_once (empty_reply n.kind n.id false)) ≡ []
    silent n m e kind = ap (λ (x : CoapMessage). sent_back (replied_at_once (empty_reply x.kind x.id false))) e ∙ silent_at m.kind m.id kind
treated_settled from bytes now h act back s t none is (settled (duplicate m kept x met found e)) unasked =
    is_duplicate m x met.spells met.request found none (is ∙ ap sent_back e) met.meets.1 met.same_observers
treated_settled from bytes now h act back s t none is (settled (full m u met e same)) unasked =
    finds_full m met.spells met.request none (is ∙ ap sent_back e)
    (ap (λ (x : Server). x.exchanges) same ∙ (used_exchanges (request_type m.kind) u ∙ met.meets.1.1))
    (ap (λ (x : Server). x.observers) same ∙ (used_observers (request_type m.kind) u ∙ met.same_observers))
treated_settled from bytes now h act back s t none is (admitted m slot u met (replied r parts b why replies e)) unasked =
    treated_at_once from bytes now act back s (with_parts parts u) u t m slot r b s.observers met met.same_observers refl replies refl (λ w. why_replied from now m act r u parts none why w) (is ∙ ap sent_back e)
treated_settled from bytes now h act back s t none is (admitted m slot u met (gives_links b faultless wants links get replies e)) unasked =
    treated_at_once from bytes now act back s (links_given from now m.token (observing_in m) (what_is_asked m) u) u t m slot
    (links_reply (size_asked (observing_in m) (what_is_asked m)) u.links) b (observers_with_links (observing_in m) from m.token s.observers) met
    (ap (observers_with_links (observing_in m) from m.token) met.same_observers) refl replies refl (λ w. of_links u.links links none w refl) (is ∙ ap sent_back e)
treated_settled from bytes now h act back s t none is (admitted m slot u met (bad_option_ignored number fault non e same)) unasked =
    is_ignored m slot met.spells met.request (some_fault m _ fault) none (is ∙ ap sent_back e)
    (ap (λ (x : Server). x.exchanges.exchanges) same ∙ ap (λ (x : Table). x.exchanges) met.meets.1.2)
    (ap (λ (x : Server). x.observers) same ∙ met.same_observers)
treated_settled from bytes now h act back s t none is (admitted m slot u met (asks faultless wants apart e same)) unasked = absurd (unasked _ _ e)
treated_settled from bytes now h act back s t none is (admitted m slot u met (asks_whole b place parts whole faultless wants apart adds there e same)) unasked = absurd (unasked _ _ e)

-- a request that was asked, and answered
treated_answered : (from : Endpoint) (bytes : List ℕ) (now : ℕ) (act : Option Acted) (back : List (List ℕ)) (s v u t : Server) (a : Acted) (m : CoapMessage) (slot : ℕ) (ask : PendingReply) (reply : List ℕ)
    → IsMet from bytes now m (Fresh slot) s u → v.observers ≡ u.observers → v.exchanges ≡ u.exchanges → v.next_id ≡ u.next_id → head_in ask ≡ head_of m → ask.slot ≡ slot
    → Answers ask a.outcome a.target reply v t
    → ((observe : Option ℕ) → Watches (effect_of ask.observing a.outcome a.target) ask.from m.token s.observers observe t.observers
    → IsReplied from now m act (observed observe (answer_reply ask.blocks a.outcome)) s.observers t.observers)
    → back ≡ reply ∷ [] → IsTreated from bytes now act back s t
treated_answered from bytes now act back s v u t a m slot ask reply met observers exchanges id head at answer why is =
    let r : Reply = observed answer.observe (answer_reply ask.blocks a.outcome) in
    let x : Server = ready ask a.outcome answer.observers v in
    let replies : Replies r (head_of m) slot reply x t =
    subst (λ (h : ReplyHead). Replies r h slot reply x t) head (subst (λ (k : ℕ). Replies r (head_in ask) k reply x t) at answer.replies) in
    let after_is : t.observers ≡ answer.observers = ap (λ (y : Server). y.observers) replies.after ∙ kept_observers (request_type m.kind) slot reply x in
    let W : List ℕ → Watching → Watching → Type 0 = λ token old new. Watches (effect_of ask.observing a.outcome a.target) ask.from token old answer.observe new in
    let watches : W m.token s.observers t.observers =
    subst (W m.token s.observers) (sym after_is)
    (subst (λ (y : Watching). W m.token y answer.observers) (observers ∙ met.same_observers)
    (subst (λ (y : ReplyHead). W y.token v.observers answer.observers) head answer.watches)) in
    is_answered m slot r reply met.spells met.request met.meets.1.1
    (why answer.observe watches)
    (replies.bytes_are ∙ ap (λ (n : ℕ). spelling (coap_reply r (head_of m) n)) (id ∙ met.same_id)) is
    (ap (λ (y : Server). y.exchanges.exchanges) replies.after
    ∙ kept_exchanges (request_type m.kind) slot reply x (arrival from now m) (at_moment now s.exchanges) (exchanges ∙ met.meets.1.2) met.meets.1.1)

-- a request that is asked, and the reply that waits for its outcome
answered_ask : (from : Endpoint) (bytes : List ℕ) (now : ℕ) (act : Option Acted) (back : List (List ℕ)) (s u v t : Server) (a : Acted) (m : CoapMessage) (slot : ℕ) (reply : List ℕ)
    → IsMet from bytes now m (Fresh slot) s u → wanted_in m ≡ wanted.Act → a.what ≡ what_is_asked m → HasCode a.outcome → HasShortPlace a.outcome → v ≡ u
    → Answers (pending_of from now m slot) a.outcome a.target reply v t → act ≡ Some a → back ≡ reply ∷ [] → IsTreated from bytes now act back s t
answered_ask from bytes now act back s u v t a m slot reply met wants what code place same answer acted_is is =
    treated_answered from bytes now act back s v u t a m slot (pending_of from now m slot) reply met
    (ap (λ (x : Server). x.observers) same) (ap (λ (x : Server). x.exchanges) same) (ap (λ (x : Server). x.next_id) same) refl refl answer
    (λ observe watches. acted a observe acted_is wants what code place watches refl) is

answered_whole : (from : Endpoint) (bytes : List ℕ) (now : ℕ) (act : Option Acted) (back : List (List ℕ)) (s u v t : Server) (a : Acted) (m : CoapMessage) (slot : ℕ) (b : Block) (body reply : List ℕ) (parts : List Part)
    → IsMet from bytes now m (Fresh slot) s u → wanted_in m ≡ wanted.Joining b → a.what ≡ with_whole_body body (what_is_asked m) → HasCode a.outcome → HasShortPlace a.outcome → v ≡ with_parts parts u
    → Answers (pending_joined from m slot b) a.outcome a.target reply v t → act ≡ Some a → back ≡ reply ∷ [] → IsTreated from bytes now act back s t
answered_whole from bytes now act back s u v t a m slot b body reply parts met wants what code place same answer acted_is is =
    treated_answered from bytes now act back s v u t a m slot (pending_joined from m slot b) reply met
    (ap (λ (x : Server). x.observers) same) (ap (λ (x : Server). x.exchanges) same) (ap (λ (x : Server). x.next_id) same) refl refl answer
    (λ observe watches. acted_on_whole a observe b body acted_is wants what code place watches refl) is

treated_asked : (from : Endpoint) (bytes : List ℕ) (now : ℕ) (act : Option Acted) (back : List (List ℕ)) (s v t : Server) (a : Acted) (ask : PendingReply) (reply : List ℕ)
    → Hears from bytes now (asked a.what ask) s v → HasCode a.outcome → HasShortPlace a.outcome
    → Answers ask a.outcome a.target reply v t → act ≡ Some a → back ≡ reply ∷ [] → IsTreated from bytes now act back s t
treated_asked from bytes now act back s v t a ask reply (settled (malformed f fault h same)) code place answer acted_is is = absurd (not_replied a.what ask _ h)
treated_asked from bytes now act back s v t a ask reply (settled (is_no_request n spells isnt h same)) code place answer acted_is is = absurd (not_replied a.what ask _ h)
treated_asked from bytes now act back s v t a ask reply (settled (duplicate m kept e met found h)) code place answer acted_is is =
    absurd (not_duplicate a.what ask (request_type m.kind) e.reply h)
treated_asked from bytes now act back s v t a ask reply (settled (full m u met h same)) code place answer acted_is is = absurd (cc)
treated_asked from bytes now act back s v t a ask reply (admitted m slot u met (replied r parts b why replies h)) code place answer acted_is is = absurd (cc)
treated_asked from bytes now act back s v t a ask reply (admitted m slot u met (bad_option_ignored number fault non h same)) code place answer acted_is is = absurd (cc)
treated_asked from bytes now act back s v t a ask reply (admitted m slot u met (gives_links b faultless wants links get replies h)) code place answer acted_is is = absurd (cc)
treated_asked from bytes now act back s v t a ask reply (admitted m slot u met (asks faultless wants apart h same)) code place answer acted_is is =
    let which : ask ≡ pending_of from now m slot = ap (ask_in ask) h in
    answered_ask from bytes now act back s u v t a m slot reply met wants (ap (what_in a.what) h) code place same
    (subst (λ (x : PendingReply). Answers x a.outcome a.target reply v t) which answer) acted_is is
treated_asked from bytes now act back s v t a ask reply (admitted m slot u met (asks_whole b at parts whole faultless wants apart adds there h same)) code place answer acted_is is =
    let which : ask ≡ pending_joined from m slot b = ap (ask_in ask) h in
    answered_whole from bytes now act back s u v t a m slot b whole.bytes reply (remove parts at) met wants (ap (what_in a.what) h) code place same
    (subst (λ (x : PendingReply). Answers x a.outcome a.target reply v t) which answer) acted_is is

pub all_are_treated : AllAreTreated
all_are_treated from bytes now act back s t (ignores hears none is) = treated_settled from bytes now ignored act back s t none is hears (λ what ask e. cc)
all_are_treated from bytes now act back s t (answers reply hears none is) = treated_settled from bytes now (answered_at_once reply) act back s t none is hears (λ what ask e. cc)
all_are_treated from bytes now act back s t (acts a ask reply u hears code place answer acted_is is) =
    treated_asked from bytes now act back s u t a ask reply hears code place answer acted_is is
