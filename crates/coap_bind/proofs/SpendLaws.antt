-- The fate of the parts, over all that a server does.
use Rattle.std.proofs.Common.{◌≡◌, ◌∙◌, inl, inr, ℕ, Bool, true, false, Option, Some, None, List, [], ◌∷◌, ◌++◌, refl, sym, ap, subst, remove, slice_get}
use Rattle.std.specs.Prelude.{◌==◌, ◌||◌, if◌then◌else◌}
use Rattle.coap_msg.specs.declared.block.Block.{Block}
use Rattle.coap_msg.specs.declared.constants.TheConstants.{GET, POST, PUT}
use Rattle.coap_msg.specs.declared.endpoint.Endpoint.{Endpoint}
use Rattle.coap_msg.specs.declared.message.RequestType.{RequestType}
use Rattle.coap_msg.specs.declared.message.RequestType.TheVariants.{Confirmable, NonConfirmable}
use Rattle.coap_msg.specs.Grammar.{CoapMessage}
use Rattle.coap_msg.specs.Requests.{request_type}
use Rattle.coap_exchange.specs.Admission.{Arrival}
use Rattle.coap_blocks.specs.Laws.{Call, adds, clears, after_call, parts_after}
use Rattle.coap_blocks.specs.Parts.{Part}
use Rattle.coap_blocks.specs.declared.added.Added.{Added}
use Rattle.coap_blocks.specs.declared.added.Added.TheVariants as answer
use Rattle.coap_observe.specs.declared.notice.Notice.{Notice}
use Rattle.coap_opts.specs.Reading.{AskSeen, asked as what_is_asked}
use Rattle.coap_opts.specs.declared.fault.AskFault.{AskFault}
use Rattle.coap_bind.specs.declared.blocks.BlockWish.TheVariants as wanted
use Rattle.coap_bind.specs.declared.observing.Observing.{Observing}
use Rattle.coap_bind.specs.declared.observing.Observing.TheVariants as observing
use Rattle.coap_bind.specs.declared.server.Server.{Server}
use Rattle.coap_bind.specs.Blocks.{added_reply, bodies_after, block2_of, wanted_by_get, wanted_by_body, wanted_of}
use Rattle.coap_bind.specs.Laws.{DidFrom, nothing, heard_of, answered, emitted, sent, linked}
use Rattle.coap_bind.specs.Server.{start, Heard, with_next_id, with_id_used, with_kept, with_observers, with_bodies, with_parts, with_notification_sent, Replies, observing_in, wanted_in, block_arrival, Adds, IsAnsweredAtOnce, bad_option, bad_block, for_proxy, no_memory, later_block, joined, takes_no_other_verb, takes_no_body, Reads, replied, bad_option_ignored, asks_links, gives_links, links_given, asks, asks_whole, malformed, no_request, duplicate, full, settled, admitted, Hears}
use Rattle.coap_bind.specs.Transfers.{NamesNoBlock, RequestsWithoutBlocksAct, AnswersLeaveTheParts, Spends, no_call, goes_on, spends, NoWholeBodyStays}
use Rattle.thing_ops.specs.declared.outcome.Outcome.TheVariants.{Memory}
use Rattle.coap_bind.specs.Writing.{Reply, reply_of, ReplyHead, head_of, head_in}

-- ---- the parts that stay the same

used_parts : (kind : RequestType) (s : Server) → (with_id_used kind s).parts ≡ s.parts
used_parts Confirmable s = refl
used_parts NonConfirmable s = refl

kept_parts : (kind : RequestType) (slot : ℕ) (bytes : List ℕ) (s : Server) → (with_kept kind slot bytes (with_id_used kind s)).parts ≡ s.parts
kept_parts Confirmable slot bytes s = refl
kept_parts NonConfirmable slot bytes s = refl

replies_parts : (r : Reply) (head : ReplyHead) (slot : ℕ) (bytes : List ℕ) (s t : Server) → Replies r head slot bytes s t → t.parts ≡ s.parts
replies_parts r head slot bytes s t h = ap (λ (x : Server). x.parts) h.after ∙ kept_parts head.kind slot bytes s

fresh_parts : (s : Server) (b : Bool) → (if b then with_next_id s else s).parts ≡ s.parts
fresh_parts s true = refl
fresh_parts s false = refl

sent_parts : (n : Option Notice) (s : Server) → (with_notification_sent n s).parts ≡ s.parts
sent_parts None s = refl
sent_parts (Some n) s = fresh_parts s n.fresh

pub answers_leave_the_parts : AnswersLeaveTheParts
answers_leave_the_parts ask o target bytes s t h = replies_parts _ (head_in ask) ask.slot bytes (with_bodies (bodies_after ask.blocks ask.from o s.bodies) (with_observers h.observers s)) t h.replies

-- ---- requests without blocks

act_at : (code : ℕ) (o : Observing) (a : AskSeen) → a.block1 ≡ None → a.block2 ≡ None → wanted_of code o a ≡ wanted.Act
act_at code o a one two = by_tests (code == GET) (code == POST || code == PUT)
  where
    no_block : (x : Observing) → block2_of x a ≡ None
    no_block observing.Registers = refl
    no_block observing.Unchanged = two
    no_block observing.Deregisters = two

    by_tests : (get body : Bool) → (if get then wanted_by_get (block2_of o a) else if body then wanted_by_body a.block1 else wanted.Act) ≡ wanted.Act
    by_tests true body = ap wanted_by_get (no_block o)
    by_tests false true = ap wanted_by_body one
    by_tests false false = refl

pub no_block_wants : (m : CoapMessage) → NamesNoBlock m → wanted_in m ≡ wanted.Act
no_block_wants m none = act_at m.code (observing_in m) (what_is_asked m) none.block1 none.block2

faultless_fault : (faults : List AskFault) (f : AskFault) → faults ≡ [] → slice_get faults 0 ≡ Some f → ⊥
faultless_fault faults f none is = let no : slice_get faults 0 ≡ None = ap (λ l. slice_get l 0) none in cc

both_paths : (m : CoapMessage) → asks_links m ≡ true → asks_links m ≡ false → ⊥
both_paths m is isnt = cc

pub requests_without_blocks_act : RequestsWithoutBlocksAct
requests_without_blocks_act from now m slot heard s t none faultless apart (replied r parts bytes (bad_option number fault con is same) replies h) = absurd (faultless_fault _ _ faultless fault)
requests_without_blocks_act from now m slot heard s t none faultless apart (replied r parts bytes (bad_block fault is same) replies h) = absurd (faultless_fault _ _ faultless fault)
requests_without_blocks_act from now m slot heard s t none faultless apart (replied r parts bytes (for_proxy fault is same) replies h) = absurd (faultless_fault _ _ faultless fault)
requests_without_blocks_act from now m slot heard s t none faultless apart (replied r parts bytes (no_memory fine is same) replies h) =
    inr (
      bytes,
      h,
      subst (λ (ps : List Part). Replies (reply_of Memory) (head_of m) slot bytes (with_parts ps s) t) same (subst (λ (x : Reply). Replies x (head_of m) slot bytes (with_parts parts s) t) is replies),
    )
requests_without_blocks_act from now m slot heard s t none faultless apart (replied r parts bytes (later_block b fine wants is same) replies h) =
    absurd (let act = no_block_wants m none in cc)
requests_without_blocks_act from now m slot heard s t none faultless apart (replied r parts bytes (joined b added fine wants adding is) replies h) =
    absurd (let act = no_block_wants m none in cc)
requests_without_blocks_act from now m slot heard s t none faultless apart (replied r parts bytes (takes_no_other_verb fine wants links other is same) replies h) =
    absurd (both_paths m links apart)
requests_without_blocks_act from now m slot heard s t none faultless apart (replied r parts bytes (takes_no_body b place whole fine wants links adding is same) replies h) =
    absurd (both_paths m links apart)
requests_without_blocks_act from now m slot heard s t none faultless apart (bad_option_ignored number fault non is same) = absurd (faultless_fault _ _ faultless fault)
requests_without_blocks_act from now m slot heard s t none faultless apart (gives_links bytes fine act links get replies h) = absurd (both_paths m links apart)
requests_without_blocks_act from now m slot heard s t none faultless apart (asks fine act not_links h same) = inl (h, same)
requests_without_blocks_act from now m slot heard s t none faultless apart (asks_whole b place parts whole fine wants not_links adding there h same) = absurd (let act = no_block_wants m none in cc)

-- ---- parts

-- parts that calls lead to, in which each body that was whole is gone
abbrev AreSpent : List Part → Type 0
AreSpent parts = (calls : List Call) × Spends [] calls parts

spent_same : (a b : List Part) → b ≡ a → AreSpent a → AreSpent b
spent_same a b same h = subst AreSpent (sym same) h

not_whole : (b : Block) (added : Added) (place : ℕ) (r : Reply) → added_reply b added ≡ Some r → added ≡ answer.Complete place → ⊥
not_whole b added place r is whole = let none : added_reply b added ≡ None = ap (added_reply b) whole in cc

-- a block that came
spent_joined : (from : Endpoint) (now : ℕ) (m : CoapMessage) (b : Block) (s : Server) (added : Added) (parts : List Part) (r : Reply) → Adds from now m b s added parts → added_reply b added ≡ Some r
    → AreSpent s.parts → AreSpent parts
spent_joined from now m b s added parts r adding is h =
    spent_same (after_call (adds (block_arrival from now m b)) s.parts) parts adding.parts_are
    (_, goes_on (block_arrival from now m b) h.0 s.parts h.1 (λ place whole. not_whole b added place r is (adding.answer_is ∙ whole)))

spent_whole : (from : Endpoint) (now : ℕ) (m : CoapMessage) (b : Block) (s : Server) (place : ℕ) (parts : List Part) → Adds from now m b s (answer.Complete place) parts
    → AreSpent s.parts → AreSpent (remove parts place)
spent_whole from now m b s place parts adding h =
    spent_same (remove (after_call (adds (block_arrival from now m b)) s.parts) place) (remove parts place) (ap (λ (ps : List Part). remove ps place) adding.parts_are)
    (_, spends (block_arrival from now m b) place h.0 s.parts h.1 (sym adding.answer_is))

spent_at_once : (from : Endpoint) (now : ℕ) (m : CoapMessage) (r : Reply) (s : Server) (parts : List Part) → IsAnsweredAtOnce from now m r s parts → AreSpent s.parts → AreSpent parts
spent_at_once from now m r s parts (bad_option number fault con is same) h = spent_same s.parts parts same h
spent_at_once from now m r s parts (bad_block fault is same) h = spent_same s.parts parts same h
spent_at_once from now m r s parts (for_proxy fault is same) h = spent_same s.parts parts same h
spent_at_once from now m r s parts (no_memory fine is same) h = spent_same s.parts parts same h
spent_at_once from now m r s parts (later_block b fine wants is same) h = spent_same s.parts parts same h
spent_at_once from now m r s parts (joined b added fine wants adding is) h = spent_joined from now m b s added parts r adding is h
spent_at_once from now m r s parts (takes_no_other_verb fine wants links other is same) h = spent_same s.parts parts same h
spent_at_once from now m r s parts (takes_no_body b place whole fine wants links adding is same) h =
    spent_same (remove whole place) parts same (spent_whole from now m b s place whole adding h)

spent_reads : (from : Endpoint) (now : ℕ) (m : CoapMessage) (slot : ℕ) (heard : Heard) (s t : Server) → Reads from now m slot heard s t → AreSpent s.parts → AreSpent t.parts
spent_reads from now m slot heard s t (replied r parts bytes why replies is) h =
    spent_same parts t.parts (replies_parts r (head_of m) slot bytes (with_parts parts s) t replies) (spent_at_once from now m r s parts why h)
spent_reads from now m slot heard s t (bad_option_ignored number fault non is same) h = spent_same s.parts t.parts (ap (λ (x : Server). x.parts) same) h
spent_reads from now m slot heard s t (gives_links bytes fine act links get replies is) h =
    spent_same s.parts t.parts (replies_parts _ (head_of m) slot bytes (links_given from now m.token (observing_in m) (what_is_asked m) s) t replies) h
spent_reads from now m slot heard s t (asks fine act apart is same) h = spent_same s.parts t.parts (ap (λ (x : Server). x.parts) same) h
spent_reads from now m slot heard s t (asks_whole b place parts whole fine wants apart adding there is same) h =
    spent_same (remove parts place) t.parts (ap (λ (x : Server). x.parts) same) (spent_whole from now m b s place parts adding h)

spent_hears : (from : Endpoint) (bytes : List ℕ) (now : ℕ) (heard : Heard) (s t : Server) → Hears from bytes now heard s t → AreSpent s.parts → AreSpent t.parts
spent_hears from bytes now heard s t (settled (malformed f fault is same)) h = spent_same s.parts t.parts (ap (λ (x : Server). x.parts) same) h
spent_hears from bytes now heard s t (settled (no_request m spells isnt is same)) h = spent_same s.parts t.parts (ap (λ (x : Server). x.parts) same) h
spent_hears from bytes now heard s t (settled (duplicate m kept e met found is)) h = spent_same s.parts t.parts met.same_parts h
spent_hears from bytes now heard s t (settled (full m u met is same)) h =
    spent_same s.parts t.parts (ap (λ (x : Server). x.parts) same ∙ (used_parts (request_type m.kind) u ∙ met.same_parts)) h
spent_hears from bytes now heard s t (admitted m slot u met reads) h = spent_reads from now m slot heard u t reads (spent_same s.parts u.parts met.same_parts h)

spent_from : (capacity observers : ℕ) (history : List Arrival) (s : Server) → DidFrom (start capacity observers) history s → AreSpent s.parts
spent_from capacity observers history s nothing = ([], no_call)
spent_from capacity observers history s (heard_of past new r t from bytes now heard did later hears are) = spent_hears from bytes now heard r t hears (spent_from capacity observers past r did)
spent_from capacity observers history s (answered past r t ask o target bytes did waiting answers) =
    spent_same r.parts t.parts (answers_leave_the_parts ask o target bytes r t answers) (spent_from capacity observers past r did)
spent_from capacity observers history s (emitted past r t target did is) = spent_same r.parts t.parts (ap (λ (x : Server). x.parts) is) (spent_from capacity observers past r did)
spent_from capacity observers history s (sent past r t now n did sends) =
    spent_same r.parts t.parts (ap (λ (x : Server). x.parts) sends.after ∙ sent_parts n (with_observers sends.observers r)) (spent_from capacity observers past r did)
spent_from capacity observers history s (linked past r t text did is) = spent_same r.parts t.parts (ap (λ (x : Server). x.parts) is) (spent_from capacity observers past r did)

-- calls one after another
calls_append : (parts : List Part) (calls more : List Call) → parts_after parts (calls ++ more) ≡ parts_after (parts_after parts calls) more
calls_append parts [] more = refl
calls_append parts (c ∷ calls) more = calls_append (after_call c parts) calls more

lead_to : (calls : List Call) (parts : List Part) → Spends [] calls parts → parts ≡ parts_after [] calls
lead_to calls parts no_call = refl
lead_to calls parts (goes_on a past before h leaves) =
    ap (after_call (adds a)) (lead_to past before h) ∙ sym (calls_append [] past (adds a ∷ []))
lead_to calls parts (spends a place past before h whole) =
    ap (λ (ps : List Part). after_call (clears place) (after_call (adds a) ps)) (lead_to past before h) ∙ sym (calls_append [] past (adds a ∷ clears place ∷ []))

pub no_whole_body_stays : NoWholeBodyStays
no_whole_body_stays capacity history s did =
    let h = spent_from capacity did.0 history s did.1 in
    (h.0, h.1, lead_to h.0 s.parts h.1)
