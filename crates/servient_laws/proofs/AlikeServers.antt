-- Two CoAP servers that differ in slots alone hear one datagram alike, unless memory is wanting for its request.
use Rattle.std.proofs.Common.{◌≡◌, ℕ, Bool, true, false, List, [], Option, Some, option_map, remove, refl, sym, ap, ap₂, subst, ◌∙◌, inl, inr}
use Rattle.std.specs.Prelude.{◌⊎◌}
use Rattle.std.proofs.lemmas.Option.{same_Some}
use Rattle.coap_msg.specs.declared.block.Block.{Block}
use Rattle.coap_msg.specs.declared.endpoint.Endpoint.{Endpoint}
use Rattle.coap_msg.specs.declared.message.MsgFault.{MsgFault}
use Rattle.coap_msg.specs.declared.message.RequestType.TheVariants.{Confirmable}
use Rattle.coap_msg.specs.Grammar.{CoapMessage, Spells, spelling}
use Rattle.coap_msg.specs.Faults.{HasMsgFault}
use Rattle.coap_msg.specs.Requests.{request_type}
use Rattle.coap_msg.specs.Empty.{empty_reply, rejection_of}
use Rattle.coap_msg.proofs.Messages.{at_most_one_message}
use Rattle.coap_msg.proofs.FaultLaws.{no_fault_of_message}
use Rattle.coap_exchange.specs.Table.{Exchange, at_moment, duplicated_exchange}
use Rattle.coap_exchange.specs.declared.met.Met.{Met}
use Rattle.coap_exchange.specs.declared.met.Met.TheVariants.{Fresh, Repeat, Full}
use Rattle.coap_observe.specs.Watching.{Watching}
use Rattle.coap_blocks.specs.Bodies.{Body, body_for}
use Rattle.coap_blocks.specs.Parts.{Part}
use Rattle.coap_blocks.specs.declared.added.Added.TheVariants as added
use Rattle.coap_opts.specs.Reading.{AskSeen, faults_of, asked as what_is_asked}
use Rattle.coap_opts.specs.declared.fault.AskFault.TheVariants.{BadOption}
use Rattle.thing_ops.specs.declared.outcome.Outcome.TheVariants.{Memory}
use Rattle.coap_bind.specs.declared.pending.PendingReply.{PendingReply}
use Rattle.coap_bind.specs.declared.server.Server.{Server}
use Rattle.coap_bind.specs.declared.blocks.BlockUse.TheVariants as blocks
use Rattle.coap_bind.specs.declared.blocks.BlockWish.TheVariants.{Act, Joining}
use Rattle.coap_bind.specs.Blocks.{block_reply}
use Rattle.coap_bind.specs.Links.{size_asked, links_reply, method_reply, observers_with_links, bodies_with_links}
use Rattle.coap_bind.specs.Writing.{Reply, full_reply, proxy_reply, option_reply, reply_of, head_of, coap_reply, ReplyHead}
use Rattle.coap_bind.specs.Server.{Heard, ignored, answered_at_once, asked, with_id_used, Replies, told_by, with_report, replied_at_once, is_request, duplicate_reply, arrival, IsMet, malformed, no_request, duplicate, full, observing_in, pending_of, pending_joined, with_whole_body, wanted_in, Adds, with_parts, asks_links, IsAnsweredAtOnce, bad_option, bad_block, for_proxy, no_memory, later_block, joined, takes_no_other_verb, takes_no_body, links_given, Reads, replied, bad_option_ignored, gives_links, asks, asks_whole, Hears, settled, admitted}
use Rattle.servient_laws.specs.Determined.{SameTable, SameServer}
use Rattle.servient_laws.proofs.MemoryReplies.{SaysOther, other_code, later_says, added_says, links_say}
use Rattle.servient_laws.proofs.AlikeTables.{same_at_moment, same_reply, IsLast, MetAlike, met_alike}
use Rattle.servient_laws.proofs.AlikeAnswers.{same_id_used, moved, same_replies, SameAsk, SameHeard, heard_as, sent_back, repeated, first_fault, AtOnce, both_of, answered_by, at_once_alike, not_ignored, not_asked, asked_silent, given_silent, not_whole, same_whole}

-- two that are asked
asked_alike : (h k : Heard) (one other : AskSeen) (request ask : PendingReply) (u v : Server) → h ≡ asked one request → k ≡ asked other ask → one ≡ other → SameAsk request ask u v
    → SameHeard h k u v
asked_alike h k one other request ask u v is is' same slots =
    subst (λ (x : Heard). SameHeard h x u v) (sym is') (subst (λ (x : Heard). SameHeard x (asked other ask) u v) (sym is) (same, slots))

-- a request that was admitted wasn't replied to at once that memory was wanting
abbrev WasAmple : {from : Endpoint} {now : ℕ} {m : CoapMessage} {slot : ℕ} {h : Heard} {s t : Server} → Reads from now m slot h s t → Type 0
WasAmple (replied r parts bytes why replies is) = r ≡ reply_of Memory → ⊥
WasAmple (bad_option_ignored number first non is after) = Unit {0}
WasAmple (gives_links bytes none acts links get replies is) = Unit {0}
WasAmple (asks none acts apart is after) = Unit {0}
WasAmple (asks_whole b place parts whole none joins apart adds there is after) = Unit {0}

same_joined : (a b : Block) → Joining a ≡ Joining b → a ≡ b
same_joined a b e = cc

both_paths : (m : CoapMessage) → asks_links m ≡ true → asks_links m ≡ false → ⊥
both_paths m is isnt = cc

same_reads : (from : Endpoint) (now : ℕ) (m : CoapMessage) (slot other : ℕ) (h k : Heard) (s t u v : Server) → SameServer s t → IsLast slot s.exchanges → IsLast other t.exchanges
    → (p : Reads from now m slot h s u) → (q : Reads from now m other k t v) → WasAmple p → WasAmple q → SameHeard h k u v × SameServer u v
same_reads from now m slot other h k s t u v same l n (replied r parts a why replies is) (replied q rest b why' replies' is') on_h on_k =
    let one = answered_by from now m r s parts on_h why in
    let two = answered_by from now m q t rest on_k why' in
    let said : both_of r parts ≡ both_of q rest = same_Some (both_of r parts) (both_of q rest) (sym one ∙ at_once_alike from now m s t same ∙ two) in
    let reply : q ≡ r = sym (ap (λ (x : AtOnce). x.0) said) in
    let servers : SameServer (with_parts parts s) (with_parts rest t)
    = record { table = same.table; observers = same.observers; next = same.next; bodies = same.bodies; parts = ap (λ (x : AtOnce). x.1) said; links = same.links } in
    let both = same_replies r (head_of m) slot (head_of m) other a b (with_parts parts s) (with_parts rest t) u v servers refl l n replies
    (subst (λ (x : Reply). Replies x (head_of m) other b (with_parts rest t) v) reply replies') in
    (heard_as (answered_at_once b) h k u v tt (is ∙ ap answered_at_once both.0) is', both.1)
same_reads from now m slot other h k s t u v same l n (replied r parts a why replies is) (bad_option_ignored number first non is' after') on_h on_k =
    absurd (not_ignored from now m r s parts number why first non)
same_reads from now m slot other h k s t u v same l n (replied r parts a why replies is) (asks none acts apart is' after') on_h on_k =
    absurd (not_asked from now m r s parts on_h why none acts (asked_silent m s.parts apart))
same_reads from now m slot other h k s t u v same l n (replied r parts a why replies is) (asks_whole b place rest whole none joins apart adds there is' after') on_h on_k =
    absurd (not_whole from now m r s parts rest b place on_h why none joins apart
    (subst (λ (ps : List Part). Adds from now m b (with_parts ps s) (added.Complete place) rest) (sym same.parts) adds))
same_reads from now m slot other h k s t u v same l n (bad_option_ignored number first non is after) (replied q rest b why' replies' is') on_h on_k =
    absurd (not_ignored from now m q t rest number why' first non)
same_reads from now m slot other h k s t u v same l n (bad_option_ignored number first non is after) (bad_option_ignored number' first' non' is' after') on_h on_k =
    (heard_as ignored h k u v tt is is', moved s t u v after after' same)
same_reads from now m slot other h k s t u v same l n (bad_option_ignored number first non is after) (asks none acts apart is' after') on_h on_k =
    absurd (first_fault (faults_of m.options) (BadOption number) first none)
same_reads from now m slot other h k s t u v same l n (bad_option_ignored number first non is after) (asks_whole b place rest whole none joins apart adds there is' after') on_h on_k =
    absurd (first_fault (faults_of m.options) (BadOption number) first none)
same_reads from now m slot other h k s t u v same l n (asks none acts apart is after) (replied q rest b why' replies' is') on_h on_k =
    absurd (not_asked from now m q t rest on_k why' none acts (asked_silent m t.parts apart))
same_reads from now m slot other h k s t u v same l n (asks none acts apart is after) (bad_option_ignored number' first' non' is' after') on_h on_k =
    absurd (first_fault (faults_of m.options) (BadOption number') first' none)
same_reads from now m slot other h k s t u v same l n (asks none acts apart is after) (asks none' acts' apart' is' after') on_h on_k = (
  asked_alike h k (what_is_asked m) (what_is_asked m) (pending_of from now m slot) (pending_of from now m other) u v is is' refl (record {
    head = refl;
    from = refl;
    observing = refl;
    blocks = refl;
    last = subst (λ (x : Server). IsLast slot x.exchanges) (sym after) l;
    last_too = subst (λ (x : Server). IsLast other x.exchanges) (sym after') n;
  }),
  moved s t u v after after' same,
)
same_reads from now m slot other h k s t u v same l n (asks none acts apart is after) (asks_whole b place rest whole none' joins apart' adds there is' after') on_h on_k =
    absurd (let apart : Act ≡ Joining b = sym acts ∙ joins in cc)
same_reads from now m slot other h k s t u v same l n (asks_whole b place parts whole none joins apart adds there is after) (replied q rest c why' replies' is') on_h on_k =
    absurd (not_whole from now m q t rest parts b place on_k why' none joins apart
    (subst (λ (ps : List Part). Adds from now m b (with_parts ps t) (added.Complete place) parts) same.parts adds))
same_reads from now m slot other h k s t u v same l n (asks_whole b place parts whole none joins apart adds there is after) (bad_option_ignored number' first' non' is' after') on_h on_k =
    absurd (first_fault (faults_of m.options) (BadOption number') first' none)
same_reads from now m slot other h k s t u v same l n (asks_whole b place parts whole none joins apart adds there is after) (asks none' acts' apart' is' after') on_h on_k =
    absurd (let apart : Act ≡ Joining b = sym acts' ∙ joins in cc)
same_reads from now m slot other h k s t u v same l n (asks_whole b place parts whole none joins apart adds there is after) (asks_whole b' place' rest body none' joins' apart' adds' there' is' after') on_h on_k =
    let one : b' ≡ b = same_joined b' b (sym joins' ∙ joins) in
    let both = same_whole from now m b s t place place' parts rest whole body same adds there
    (subst (λ (x : Block). Adds from now m x t (added.Complete place') rest) one adds') there' in (
      asked_alike h k (with_whole_body whole.bytes (what_is_asked m)) (with_whole_body body.bytes (what_is_asked m)) (pending_joined from m slot b) (pending_joined from m other b') u v is is'
          (ap (λ (p : Part). with_whole_body p.bytes (what_is_asked m)) both.0) (record {
            head = refl;
            from = refl;
            observing = refl;
            blocks = ap (λ (x : Block). blocks.Joined x) (sym one);
            last = subst (λ (x : Server). IsLast slot x.exchanges) (sym after) l;
            last_too = subst (λ (x : Server). IsLast other x.exchanges) (sym after') n;
          }),
      moved (with_parts (remove parts place) s) (with_parts (remove rest place') t) u v after after'
          (record { table = same.table; observers = same.observers; next = same.next; bodies = same.bodies; parts = both.1; links = same.links }),
    )
same_reads from now m slot other h k s t u v same l n (gives_links a none acts links get replies is) (gives_links b none' acts' links' get' replies' is') on_h on_k =
    let size = size_asked (observing_in m) (what_is_asked m) in
    let servers : SameServer (links_given from now m.token (observing_in m) (what_is_asked m) s) (links_given from now m.token (observing_in m) (what_is_asked m) t)
    = record {
      table = same.table;
      observers = ap (observers_with_links (observing_in m) from m.token) same.observers;
      next = same.next;
      bodies = ap₂ (λ (x : List ℕ) (y : List Body). bodies_with_links from (what_is_asked m).request.path now size x y) same.links same.bodies;
      parts = same.parts;
      links = same.links;
    } in
    let both = same_replies (links_reply size s.links) (head_of m) slot (head_of m) other a b (links_given from now m.token (observing_in m) (what_is_asked m) s)
    (links_given from now m.token (observing_in m) (what_is_asked m) t) u v servers refl l n replies
    (subst (λ (x : List ℕ). Replies (links_reply size x) (head_of m) other b (links_given from now m.token (observing_in m) (what_is_asked m) t) v) (sym same.links) replies') in
    (heard_as (answered_at_once b) h k u v tt (is ∙ ap answered_at_once both.0) is', both.1)
same_reads from now m slot other h k s t u v same l n (gives_links a none acts links get replies is) (replied q rest b why' replies' is') on_h on_k =
    absurd (not_asked from now m q t rest on_k why' none acts (given_silent m t.parts links get))
same_reads from now m slot other h k s t u v same l n (gives_links a none acts links get replies is) (bad_option_ignored number' first' non' is' after') on_h on_k =
    absurd (first_fault (faults_of m.options) (BadOption number') first' none)
same_reads from now m slot other h k s t u v same l n (gives_links a none acts links get replies is) (asks none' acts' apart' is' after') on_h on_k =
    absurd (both_paths m links apart')
same_reads from now m slot other h k s t u v same l n (gives_links a none acts links get replies is) (asks_whole b place rest whole none' joins apart' adds there is' after') on_h on_k =
    absurd (both_paths m links apart')
same_reads from now m slot other h k s t u v same l n (replied r parts a why replies is) (gives_links b none acts links get replies' is') on_h on_k =
    absurd (not_asked from now m r s parts on_h why none acts (given_silent m s.parts links get))
same_reads from now m slot other h k s t u v same l n (bad_option_ignored number first non is after) (gives_links b none acts links get replies' is') on_h on_k =
    absurd (first_fault (faults_of m.options) (BadOption number) first none)
same_reads from now m slot other h k s t u v same l n (asks none acts apart is after) (gives_links b none' acts' links get replies' is') on_h on_k = absurd (both_paths m links apart)
same_reads from now m slot other h k s t u v same l n (asks_whole b place parts whole none joins apart adds there is after) (gives_links c none' acts links get replies' is') on_h on_k =
    absurd (both_paths m links apart)

-- ---- replies for want of memory

-- it says something else than that
isnt_memory : (r : Reply) → SaysOther r → r ≡ reply_of Memory → ⊥
isnt_memory r other is =
    let head : ReplyHead = record { kind = Confirmable; id = 0; token = [] } in
    other head 0 (ap (λ (x : Reply). spelling (coap_reply x head 0)) is)

-- a request that is answered at once is so for want of memory, or with another reply
of_memory_or_not : (from : Endpoint) (now : ℕ) (m : CoapMessage) (r : Reply) (s : Server) (parts : List Part) → IsAnsweredAtOnce from now m r s parts
    → ((faults_of m.options ≡ []) × (r ≡ reply_of Memory) × (parts ≡ s.parts)) ⊎ SaysOther r
of_memory_or_not from now m r s parts (bad_option number first con is same) = inr (subst SaysOther (sym is) (other_code (option_reply number) refl))
of_memory_or_not from now m r s parts (bad_block first is same) = inr (subst SaysOther (sym is) (other_code block_reply refl))
of_memory_or_not from now m r s parts (for_proxy first is same) = inr (subst SaysOther (sym is) (other_code proxy_reply refl))
of_memory_or_not from now m r s parts (no_memory none is same) = inl (none, is, same)
of_memory_or_not from now m r s parts (later_block b none wants is same) = inr (subst SaysOther (sym is) (later_says b (option_map (λ x. x.content) (body_for from (what_is_asked m).request.path now s.bodies))))
of_memory_or_not from now m r s parts (joined b added none wants adds is) = inr (added_says b added r is)
of_memory_or_not from now m r s parts (takes_no_other_verb none wants links other is same) = inr (subst SaysOther (sym is) (other_code method_reply refl))
of_memory_or_not from now m r s parts (takes_no_body b place whole none wants links adds is same) = inr (subst SaysOther (sym is) (other_code method_reply refl))

-- a request is replied to at once that memory was wanting
pub record OutAtOnce (m : CoapMessage) (slot : ℕ) (h : Heard) (s u : Server) : Type 0 where
  pub none : faults_of m.options ≡ []
  pub parts : List Part
  pub stay : parts ≡ s.parts
  pub bytes : List ℕ
  pub replies : Replies (reply_of Memory) (head_of m) slot bytes (with_parts parts s) u
  pub is : h ≡ answered_at_once bytes

-- a request without faults is treated otherwise
pub data AnsweredElse (from : Endpoint) (now : ℕ) (m : CoapMessage) (slot : ℕ) (h : Heard) (s u : Server) : Type 0 where
  else_replied : (bytes : List ℕ) → h ≡ answered_at_once bytes → (bytes ≡ spelling (coap_reply (reply_of Memory) (head_of m) s.next_id) → ⊥) → AnsweredElse from now m slot h s u
  else_asked : h ≡ asked (what_is_asked m) (pending_of from now m slot) → u ≡ s → AnsweredElse from now m slot h s u
  else_joined : (b : Block) (ask : AskSeen) → wanted_in m ≡ Joining b → h ≡ asked ask (pending_joined from m slot b) → u.next_id ≡ s.next_id → AnsweredElse from now m slot h s u

out_or_ample : (from : Endpoint) (now : ℕ) (m : CoapMessage) (slot : ℕ) (h : Heard) (s u : Server) → (p : Reads from now m slot h s u) → OutAtOnce m slot h s u ⊎ WasAmple p
out_or_ample from now m slot h s u (replied r parts bytes why replies is) = by (of_memory_or_not from now m r s parts why)
  where
    by : ((faults_of m.options ≡ []) × (r ≡ reply_of Memory) × (parts ≡ s.parts)) ⊎ SaysOther r → OutAtOnce m slot h s u ⊎ (r ≡ reply_of Memory → ⊥)
    by (inl (none, memory, stay)) =
        inl (record { none = none; parts = parts; stay = stay; bytes = bytes; replies = subst (λ (x : Reply). Replies x (head_of m) slot bytes (with_parts parts s) u) memory replies; is = is })
    by (inr other) = inr (isnt_memory r other)
out_or_ample from now m slot h s u (bad_option_ignored number first non is after) = inr tt
out_or_ample from now m slot h s u (gives_links bytes none acts links get replies is) = inr tt
out_or_ample from now m slot h s u (asks none acts apart is after) = inr tt
out_or_ample from now m slot h s u (asks_whole b place parts whole none joins apart adds there is after) = inr tt

else_of : (from : Endpoint) (now : ℕ) (m : CoapMessage) (slot : ℕ) (h : Heard) (s u : Server) → (p : Reads from now m slot h s u) → WasAmple p → faults_of m.options ≡ [] → AnsweredElse from now m slot h s u
else_of from now m slot h s u (replied r parts bytes why replies is) ample none = by (of_memory_or_not from now m r s parts why)
  where
    by : ((faults_of m.options ≡ []) × (r ≡ reply_of Memory) × (parts ≡ s.parts)) ⊎ SaysOther r → AnsweredElse from now m slot h s u
    by (inl (clear, memory, stay)) = absurd (ample memory)
    by (inr other) = else_replied bytes is (λ same. other (head_of m) s.next_id (sym replies.bytes_are ∙ same))
else_of from now m slot h s u (bad_option_ignored number first non is after) ample none = absurd (first_fault (faults_of m.options) (BadOption number) first none)
else_of from now m slot h s u (gives_links bytes clear acts links get replies is) ample none =
    else_replied bytes is (λ same. links_say (size_asked (observing_in m) (what_is_asked m)) s.links (head_of m) s.next_id (sym replies.bytes_are ∙ same))
else_of from now m slot h s u (asks clear acts apart is after) ample none = else_asked is after
else_of from now m slot h s u (asks_whole b place parts whole clear joins apart adds there is after) ample none =
    else_joined b (with_whole_body whole.bytes (what_is_asked m)) joins is (ap (λ (x : Server). x.next_id) after)

-- The treatment of one request that was admitted by two servers: it is the same; or one replies that memory was wanting,
-- and the other doesn't.
pub data ReadAlike (from : Endpoint) (now : ℕ) (m : CoapMessage) (slot other : ℕ) (h k : Heard) (s t u v : Server) : Type 0 where
  treats_alike : SameHeard h k u v → SameServer u v → ReadAlike from now m slot other h k s t u v
  first_is_out : OutAtOnce m slot h s u → AnsweredElse from now m other k t v → ReadAlike from now m slot other h k s t u v
  second_is_out : OutAtOnce m other k t v → AnsweredElse from now m slot h s u → ReadAlike from now m slot other h k s t u v

read_alike : (from : Endpoint) (now : ℕ) (m : CoapMessage) (slot other : ℕ) (h k : Heard) (s t u v : Server) → SameServer s t → IsLast slot s.exchanges → IsLast other t.exchanges
    → Reads from now m slot h s u → Reads from now m other k t v → ReadAlike from now m slot other h k s t u v
read_alike from now m slot other h k s t u v same l n p q = by (out_or_ample from now m slot h s u p) (out_or_ample from now m other k t v q)
  where
    by : OutAtOnce m slot h s u ⊎ WasAmple p → OutAtOnce m other k t v ⊎ WasAmple q → ReadAlike from now m slot other h k s t u v
    by (inl a) (inl b) =
        let servers : SameServer (with_parts a.parts s) (with_parts b.parts t)
        = record { table = same.table; observers = same.observers; next = same.next; bodies = same.bodies; parts = a.stay ∙ same.parts ∙ sym b.stay; links = same.links } in
        let both = same_replies (reply_of Memory) (head_of m) slot (head_of m) other a.bytes b.bytes (with_parts a.parts s) (with_parts b.parts t) u v servers refl l n a.replies b.replies in
        treats_alike (heard_as (answered_at_once b.bytes) h k u v tt (a.is ∙ ap answered_at_once both.0) b.is) both.1
    by (inl a) (inr on_k) = first_is_out a (else_of from now m other k t v q on_k a.none)
    by (inr on_h) (inl b) = second_is_out b (else_of from now m slot h s u p on_h b.none)
    by (inr on_h) (inr on_k) =
        let both = same_reads from now m slot other h k s t u v same l n p q on_h on_k in
        treats_alike both.0 both.1

-- ---- by what a datagram is

-- it is no message; or it is one and no request; or it is a request that meets something
abbrev IsMalformed : List ℕ → Heard → Server → Server → Type 0
IsMalformed bytes h s u = (f : MsgFault) × HasMsgFault f bytes × (h ≡ replied_at_once (rejection_of bytes)) × (u ≡ s)

abbrev IsNoRequest : Endpoint → List ℕ → Heard → Server → Server → Type 0
IsNoRequest from bytes h s u = (m : CoapMessage) × Spells m bytes × (is_request m ≡ false) × (h ≡ replied_at_once (empty_reply m.kind m.id false)) × (u ≡ with_report from m s)

-- the effect of a message that met this
abbrev Follows : Endpoint → ℕ → CoapMessage → Heard → Server → Server → Server → Met → Type 0
Follows from now m h s w u (Repeat kept) =
    (e : Exchange) × (duplicated_exchange (arrival from now m) (at_moment now s.exchanges) ≡ Some e) × (h ≡ duplicate_reply (request_type m.kind) e.reply) × (u ≡ w)
Follows from now m h s w u (Fresh slot) = Reads from now m slot h w u
Follows from now m h s w u Full = (h ≡ answered_at_once (spelling (coap_reply full_reply (head_of m) s.next_id))) × (u ≡ with_id_used (request_type m.kind) w)

record IsRequest (from : Endpoint) (bytes : List ℕ) (now : ℕ) (h : Heard) (s u : Server) : Type 0 where
  message : CoapMessage
  met : Met
  between : Server
  is_met : IsMet from bytes now message met s between
  follows : Follows from now message h s between u met

kind_of : (from : Endpoint) (bytes : List ℕ) (now : ℕ) (h : Heard) (s u : Server) → Hears from bytes now h s u → IsMalformed bytes h s u ⊎ (IsNoRequest from bytes h s u ⊎ IsRequest from bytes now h s u)
kind_of from bytes now h s u (settled (malformed f fault is after)) = inl (f, fault, is, after)
kind_of from bytes now h s u (settled (no_request m spells isnt is after)) = inr (inl (m, spells, isnt, is, after))
kind_of from bytes now h s u (settled (duplicate m kept e met found is)) = inr (inr (record { message = m; met = Repeat kept; between = u; is_met = met; follows = (e, found, is, refl) }))
kind_of from bytes now h s u (settled (full m w met is after)) = inr (inr (record { message = m; met = Full; between = w; is_met = met; follows = (is, after) }))
kind_of from bytes now h s u (admitted m slot w met reads) = inr (inr (record { message = m; met = Fresh slot; between = w; is_met = met; follows = reads }))

never : (b : Bool) → b ≡ true → b ≡ false → ⊥
never true is isnt = absurd cc
never false is isnt = absurd cc

-- the table and the rest of the server after what was met
between_same : (from : Endpoint) (bytes : List ℕ) (now : ℕ) (m : CoapMessage) (one other : Met) (s t u v : Server) → SameServer s t → IsMet from bytes now m one s u → IsMet from bytes now m other t v
    → SameTable u.exchanges v.exchanges → SameServer u v
between_same from bytes now m one other s t u v same a b table = record {
  table = table;
  observers = a.same_observers ∙ same.observers ∙ sym b.same_observers;
  next = a.same_id ∙ same.next ∙ sym b.same_id;
  bodies = a.same_bodies ∙ same.bodies ∙ sym b.same_bodies;
  parts = a.same_parts ∙ same.parts ∙ sym b.same_parts;
  links = a.same_links ∙ same.links ∙ sym b.same_links;
}

-- The treatment of one datagram by two servers: it is the same, or one replies that memory was wanting to a request that
-- was admitted, and the other doesn't.
pub data HearAlike (from : Endpoint) (bytes : List ℕ) (now : ℕ) (h k : Heard) (u v : Server) : Type 0 where
  hears_alike : SameHeard h k u v → SameServer u v → HearAlike from bytes now h k u v
  first_refuses : (m : CoapMessage) (slot other : ℕ) (s t : Server) → Spells m bytes → SameServer s t → IsLast slot s.exchanges → IsLast other t.exchanges → OutAtOnce m slot h s u
      → AnsweredElse from now m other k t v → HearAlike from bytes now h k u v
  second_refuses : (m : CoapMessage) (slot other : ℕ) (s t : Server) → Spells m bytes → SameServer s t → IsLast slot s.exchanges → IsLast other t.exchanges → OutAtOnce m other k t v
      → AnsweredElse from now m slot h s u → HearAlike from bytes now h k u v

heard_by_reading : (from : Endpoint) (bytes : List ℕ) (now : ℕ) (m : CoapMessage) (slot other : ℕ) (h k : Heard) (s t u v : Server) → Spells m bytes → SameServer s t → IsLast slot s.exchanges
    → IsLast other t.exchanges → ReadAlike from now m slot other h k s t u v → HearAlike from bytes now h k u v
heard_by_reading from bytes now m slot other h k s t u v spells same l n (treats_alike heard servers) = hears_alike heard servers
heard_by_reading from bytes now m slot other h k s t u v spells same l n (first_is_out out otherwise) = first_refuses m slot other s t spells same l n out otherwise
heard_by_reading from bytes now m slot other h k s t u v spells same l n (second_is_out out otherwise) = second_refuses m slot other s t spells same l n out otherwise

same_requests : (from : Endpoint) (bytes : List ℕ) (now : ℕ) (h k : Heard) (s t u v : Server) → SameServer s t
    → (p : IsRequest from bytes now h s u) → (w x : Server) (m n : Met)
    → IsMet from bytes now p.message m s w → IsMet from bytes now p.message n t x → Follows from now p.message h s w u m → Follows from now p.message k t x v n
    → MetAlike m n w.exchanges x.exchanges → HearAlike from bytes now h k u v
same_requests from bytes now h k s t u v same p w x (Repeat kept) (Repeat other) a b f g alike =
    let reply = same_reply (arrival from now p.message) (at_moment now s.exchanges) (at_moment now t.exchanges) f.0 g.0 (same_at_moment now s.exchanges t.exchanges same.table) f.1 g.1 in
    hears_alike
    (heard_as (duplicate_reply (request_type p.message.kind) g.0.reply) h k u v (repeated (request_type p.message.kind) g.0.reply)
    (f.2 ∙ ap (λ (o : Option (List ℕ)). duplicate_reply (request_type p.message.kind) o) reply) g.2)
    (moved w x u v f.3 g.3 (between_same from bytes now p.message (Repeat kept) (Repeat other) s t w x same a b alike))
same_requests from bytes now h k s t u v same p w x (Fresh slot) (Fresh other) a b f g alike =
    let between = between_same from bytes now p.message (Fresh slot) (Fresh other) s t w x same a b alike.0 in
    heard_by_reading from bytes now p.message slot other h k w x u v a.spells between alike.1 alike.2 (read_alike from now p.message slot other h k w x u v between alike.1 alike.2 f g)
same_requests from bytes now h k s t u v same p w x Full Full a b f g alike =
    hears_alike
    (heard_as (answered_at_once (spelling (coap_reply full_reply (head_of p.message) t.next_id))) h k u v tt
    (f.0 ∙ ap (λ (n : ℕ). answered_at_once (spelling (coap_reply full_reply (head_of p.message) n))) same.next) g.0)
    (moved (with_id_used (request_type p.message.kind) w) (with_id_used (request_type p.message.kind) x) u v f.1 g.1
    (same_id_used (request_type p.message.kind) w x (between_same from bytes now p.message Full Full s t w x same a b alike)))
same_requests from bytes now h k s t u v same p w x (Repeat kept) (Fresh slot) a b f g alike = absurd alike
same_requests from bytes now h k s t u v same p w x (Repeat kept) Full a b f g alike = absurd alike
same_requests from bytes now h k s t u v same p w x (Fresh slot) (Repeat kept) a b f g alike = absurd alike
same_requests from bytes now h k s t u v same p w x (Fresh slot) Full a b f g alike = absurd alike
same_requests from bytes now h k s t u v same p w x Full (Repeat kept) a b f g alike = absurd alike
same_requests from bytes now h k s t u v same p w x Full (Fresh slot) a b f g alike = absurd alike

same_reported : (from : Endpoint) (m : CoapMessage) (s t : Server) → SameServer s t → SameServer (with_report from m s) (with_report from m t)
same_reported from m s t same = record { table = same.table; observers = ap (λ (w : Watching). told_by from m w) same.observers; next = same.next; bodies = same.bodies; parts = same.parts; links = same.links }

pub same_hearing : (from : Endpoint) (bytes : List ℕ) (now : ℕ) (h k : Heard) (s t u v : Server) → SameServer s t → Hears from bytes now h s u → Hears from bytes now k t v → HearAlike from bytes now h k u v
same_hearing from bytes now h k s t u v same one other = by (kind_of from bytes now h s u one) (kind_of from bytes now k t v other)
  where
    by : IsMalformed bytes h s u ⊎ (IsNoRequest from bytes h s u ⊎ IsRequest from bytes now h s u) → IsMalformed bytes k t v ⊎ (IsNoRequest from bytes k t v ⊎ IsRequest from bytes now k t v)
        → HearAlike from bytes now h k u v
    by (inl p) (inl q) = hears_alike (heard_as (replied_at_once (rejection_of bytes)) h k u v (sent_back (rejection_of bytes)) p.2 q.2) (moved s t u v p.3 q.3 same)
    by (inl p) (inr (inl q)) = absurd (no_fault_of_message p.0 q.0 bytes q.1 p.1)
    by (inl p) (inr (inr q)) = absurd (no_fault_of_message p.0 q.message bytes q.is_met.spells p.1)
    by (inr (inl p)) (inl q) = absurd (no_fault_of_message q.0 p.0 bytes p.1 q.1)
    by (inr (inl p)) (inr (inl q)) =
        let one_message : q.0 ≡ p.0 = at_most_one_message q.0 p.0 bytes q.1 p.1 in
        hears_alike
        (heard_as (replied_at_once (empty_reply p.0.kind p.0.id false)) h k u v (sent_back (empty_reply p.0.kind p.0.id false)) p.3
        (q.3 ∙ ap (λ (m : CoapMessage). replied_at_once (empty_reply m.kind m.id false)) one_message))
        (moved (with_report from p.0 s) (with_report from p.0 t) u v p.4 (q.4 ∙ ap (λ (m : CoapMessage). with_report from m t) one_message) (same_reported from p.0 s t same))
    by (inr (inl p)) (inr (inr q)) =
        absurd (never (is_request p.0) (subst (λ (m : CoapMessage). is_request m ≡ true) (at_most_one_message q.message p.0 bytes q.is_met.spells p.1) q.is_met.request) p.2)
    by (inr (inr p)) (inl q) = absurd (no_fault_of_message q.0 p.message bytes p.is_met.spells q.1)
    by (inr (inr p)) (inr (inl q)) =
        absurd (never (is_request q.0) (subst (λ (m : CoapMessage). is_request m ≡ true) (at_most_one_message p.message q.0 bytes p.is_met.spells q.1) p.is_met.request) q.2)
    by (inr (inr p)) (inr (inr q)) =
        let one_message : q.message ≡ p.message = at_most_one_message q.message p.message bytes q.is_met.spells p.is_met.spells in
        let met : IsMet from bytes now p.message q.met t q.between = subst (λ (m : CoapMessage). IsMet from bytes now m q.met t q.between) one_message q.is_met in
        let follows : Follows from now p.message k t q.between v q.met = subst (λ (m : CoapMessage). Follows from now m k t q.between v q.met) one_message q.follows in
        same_requests from bytes now h k s t u v same p p.between q.between p.met q.met p.is_met met p.follows follows
        (met_alike (arrival from now p.message) p.met q.met (at_moment now s.exchanges) (at_moment now t.exchanges) p.between.exchanges q.between.exchanges
        (same_at_moment now s.exchanges t.exchanges same.table) p.is_met.meets met.meets)
