-- Two CoAP servers that differ in slots alone answer alike the request that they admitted last.
use Rattle.std.proofs.Common.{◌≡◌, ◌+◌, ◌%◌, ℕ, Bool, true, false, List, [], Option, Some, None, option_map, remove, refl, sym, ap, ap₂, subst, ◌∙◌, arith}
use Rattle.std.specs.Prelude.{◌≢◌, ◌==◌, slice_get}
use Rattle.std.proofs.lemmas.Bool.Decides.{nat_tests}
use Rattle.std.proofs.lemmas.Option.{same_Some}
use Rattle.coap_msg.specs.declared.block.Block.{Block}
use Rattle.coap_msg.specs.declared.constants.TheConstants.{GET}
use Rattle.coap_msg.specs.declared.endpoint.Endpoint.{Endpoint}
use Rattle.coap_msg.specs.declared.message.RequestType.{RequestType}
use Rattle.coap_msg.specs.declared.message.RequestType.TheVariants.{Confirmable, NonConfirmable}
use Rattle.coap_msg.specs.Grammar.{CoapMessage, spelling}
use Rattle.coap_msg.specs.Requests.{request_type}
use Rattle.coap_blocks.specs.Bodies.{Body, body_for}
use Rattle.coap_blocks.specs.Parts.{Part, living, after_block}
use Rattle.coap_blocks.specs.declared.added.Added.{Added}
use Rattle.coap_blocks.specs.declared.added.Added.TheVariants as added
use Rattle.coap_opts.specs.Reading.{faults_of, asked as what_is_asked}
use Rattle.coap_opts.specs.declared.fault.AskFault.{AskFault}
use Rattle.coap_opts.specs.declared.fault.AskFault.TheVariants.{BadOption, Proxy}
use Rattle.coap_opts.specs.declared.fault.AskFault.TheVariants as fault
use Rattle.thing_ops.specs.declared.outcome.Outcome.TheVariants.{Memory}
use Rattle.coap_bind.specs.declared.pending.PendingReply.{PendingReply}
use Rattle.coap_bind.specs.declared.server.Server.{Server}
use Rattle.coap_bind.specs.declared.blocks.BlockWish.{BlockWish}
use Rattle.coap_bind.specs.declared.blocks.BlockWish.TheVariants.{Act, LaterBlock, Joining}
use Rattle.coap_bind.specs.Blocks.{block_reply, later_reply, added_reply}
use Rattle.coap_bind.specs.Links.{method_reply}
use Rattle.coap_bind.specs.Writing.{Reply, proxy_reply, option_reply, reply_of, coap_reply, ReplyHead, head_in}
use Rattle.coap_bind.specs.Server.{Heard, ignored, answered_at_once, asked, with_id_used, with_kept, Replies, replied_at_once, duplicate_reply, wanted_in, block_arrival, Adds, IsAnsweredAtOnce, bad_option, bad_block, for_proxy, no_memory, later_block, joined, takes_no_other_verb, takes_no_body, asks_links}
use Rattle.servient_laws.specs.Determined.{SameServer}
use Rattle.servient_laws.proofs.AlikeTables.{IsLast, same_with_reply}

-- ---- replies to what was admitted last

pub same_id_used : (kind : RequestType) (s t : Server) → SameServer s t → SameServer (with_id_used kind s) (with_id_used kind t)
same_id_used Confirmable s t same = same
same_id_used NonConfirmable s t same = record { table = same.table; observers = same.observers; next = ap (λ (n : ℕ). (n + 1) % 65536) same.next; bodies = same.bodies; parts = same.parts; links = same.links }

pub moved : (s t u v : Server) → u ≡ s → v ≡ t → SameServer s t → SameServer u v
moved s t u v one other same = subst (λ (x : Server). SameServer u x) (sym other) (subst (λ (x : Server). SameServer x t) (sym one) same)

same_kept : (kind : RequestType) (slot other : ℕ) (bytes : List ℕ) (s t : Server) → SameServer s t → IsLast slot s.exchanges → IsLast other t.exchanges
    → SameServer (with_kept kind slot bytes (with_id_used kind s)) (with_kept kind other bytes (with_id_used kind t))
same_kept Confirmable slot other bytes s t same l k = record {
  table = same_with_reply slot other bytes s.exchanges t.exchanges same.table l k;
  observers = same.observers;
  next = same.next;
  bodies = same.bodies;
  parts = same.parts;
  links = same.links;
}
same_kept NonConfirmable slot other bytes s t same l k = same_id_used NonConfirmable s t same

pub same_replies : (r : Reply) (p : ReplyHead) (slot : ℕ) (q : ReplyHead) (other : ℕ) (a b : List ℕ) (s t u v : Server) → SameServer s t → p ≡ q → IsLast slot s.exchanges → IsLast other t.exchanges
    → Replies r p slot a s u → Replies r q other b t v → (a ≡ b) × SameServer u v
same_replies r p slot q other a b s t u v same head l k one two =
    let bytes : a ≡ b = one.bytes_are ∙ ap₂ (λ (h : ReplyHead) (n : ℕ). spelling (coap_reply r h n)) head same.next ∙ sym two.bytes_are in
    let after : v ≡ with_kept p.kind other a (with_id_used p.kind t) =
    two.after ∙ ap₂ (λ (h : ReplyHead) (x : List ℕ). with_kept h.kind other x (with_id_used h.kind t)) (sym head) (sym bytes) in
    (bytes, moved (with_kept p.kind slot a (with_id_used p.kind s)) (with_kept p.kind other a (with_id_used p.kind t)) u v one.after after (same_kept p.kind slot other a s t same l k))

-- ---- what is heard

-- two requests that are to be answered, but for their slots, which are those of the exchanges admitted last
pub record SameAsk (one other : PendingReply) (s t : Server) : Type 0 where
  pub head : head_in one ≡ head_in other
  pub from : one.from ≡ other.from
  pub observing : one.observing ≡ other.observing
  pub blocks : one.blocks ≡ other.blocks
  pub last : IsLast one.slot s.exchanges
  pub last_too : IsLast other.slot t.exchanges

abbrev pub SameHeard : Heard → Heard → Server → Server → Type 0
SameHeard ignored ignored s t = Unit {0}
SameHeard (answered_at_once a) (answered_at_once b) s t = a ≡ b
SameHeard (asked one request) (asked other ask) s t = (one ≡ other) × SameAsk request ask s t
SameHeard h k s t = ⊥

-- nothing is to be answered
abbrev IsSettled : Heard → Type 0
IsSettled ignored = Unit {0}
IsSettled (answered_at_once bytes) = Unit {0}
IsSettled (asked ask request) = ⊥

pub heard_as : (x h k : Heard) (s t : Server) → IsSettled x → h ≡ x → k ≡ x → SameHeard h k s t
heard_as x h k s t plain one other = subst (λ (y : Heard). SameHeard h y s t) (sym other) (subst (λ (y : Heard). SameHeard y x s t) (sym one) (itself x plain))
  where
    itself : (y : Heard) → IsSettled y → SameHeard y y s t
    itself ignored p = tt
    itself (answered_at_once bytes) p = refl
    itself (asked ask request) p = absurd p

pub sent_back : (o : Option CoapMessage) → IsSettled (replied_at_once o)
sent_back None = tt
sent_back (Some m) = tt

pub repeated : (kind : RequestType) (o : Option (List ℕ)) → IsSettled (duplicate_reply kind o)
repeated Confirmable (Some bytes) = tt
repeated Confirmable None = tt
repeated NonConfirmable o = tt

pub first_fault : (fs : List AskFault) (f : AskFault) → slice_get fs 0 ≡ Some f → fs ≡ [] → ⊥
first_fault fs f is none = not_first (subst (λ (x : List AskFault). slice_get x 0 ≡ Some f) none is)
  where
    not_first : slice_get {X = AskFault} [] 0 ≡ Some f → ⊥
    not_first e = cc

-- ---- what is done with a request that was admitted

-- the reply at once, and the parts then
abbrev pub AtOnce : Type 0
AtOnce = Reply × List Part

abbrev pub both_of : Reply → List Part → AtOnce
both_of r parts = (r, parts)

-- the answer to a block of a request, unless the body is whole
abbrev added_at : Block → Added × List Part → Option AtOnce
added_at b x = option_map (λ r. both_of r x.1) (added_reply b x.0)

-- the answer to a request that wants an act: that it can't be, where it is for the links and no GET
abbrev act_at : Bool → Bool → List Part → Option AtOnce
act_at true true parts = None
act_at true false parts = Some (both_of method_reply parts)
act_at false get parts = None

-- the answer to a block of a request for the links: that it can't be, where the body is whole
abbrev refused_whole : Block → Added → List Part → Option AtOnce
refused_whole b (added.Complete place) parts = Some (both_of method_reply (remove parts place))
refused_whole b added.Continue parts = added_at b (added.Continue, parts)
refused_whole b added.BadBlock parts = added_at b (added.BadBlock, parts)
refused_whole b added.Incomplete parts = added_at b (added.Incomplete, parts)
refused_whole b added.TooLarge parts = added_at b (added.TooLarge, parts)
refused_whole b added.Full parts = added_at b (added.Full, parts)

abbrev join_at : Bool → Block → Added × List Part → Option AtOnce
join_at true b x = refused_whole b x.0 x.1
join_at false b x = added_at b x

refused_some : (b : Block) (a : Added) (parts : List Part) (r : Reply) → added_reply b a ≡ Some r → refused_whole b a parts ≡ Some (both_of r parts)
refused_some b (added.Complete place) parts r is = absurd cc
refused_some b added.Continue parts r is = ap (option_map (λ (q : Reply). both_of q parts)) is
refused_some b added.BadBlock parts r is = ap (option_map (λ (q : Reply). both_of q parts)) is
refused_some b added.Incomplete parts r is = ap (option_map (λ (q : Reply). both_of q parts)) is
refused_some b added.TooLarge parts r is = ap (option_map (λ (q : Reply). both_of q parts)) is
refused_some b added.Full parts r is = ap (option_map (λ (q : Reply). both_of q parts)) is

join_some : (links : Bool) (b : Block) (x : Added × List Part) (r : Reply) → added_reply b x.0 ≡ Some r → join_at links b x ≡ Some (both_of r x.1)
join_some true b x r is = refused_some b x.0 x.1 r is
join_some false b x r is = ap (option_map (λ (q : Reply). both_of q x.1)) is

join_whole : (links : Bool) (b : Block) (x : Added × List Part) (place : ℕ) → links ≡ true → x.0 ≡ added.Complete place → join_at links b x ≡ Some (both_of method_reply (remove x.1 place))
join_whole links b x place is whole = ap (λ (l : Bool). join_at l b x) is ∙ ap (λ (a : Added). refused_whole b a x.1) whole

not_get : (code : ℕ) → code ≢ GET → (code == GET) ≡ false
not_get code other = grind (arith, nat_tests)

is_get : (code : ℕ) → code ≡ GET → (code == GET) ≡ true
is_get code get = grind (arith, nat_tests)

-- it follows from the first fault and from what the request wants
abbrev at_once : Endpoint → ℕ → CoapMessage → List Body → List Part → Option AskFault → BlockWish → Option AtOnce
at_once from now m bodies parts (Some (BadOption number)) wants = Some (option_reply number, parts)
at_once from now m bodies parts (Some fault.Block) wants = Some (block_reply, parts)
at_once from now m bodies parts (Some Proxy) wants = Some (proxy_reply, parts)
at_once from now m bodies parts (Some fault.NoMemory) wants = None
at_once from now m bodies parts None Act = act_at (asks_links m) (m.code == GET) parts
at_once from now m bodies parts None (LaterBlock b) = Some (later_reply b (option_map (λ x. x.content) (body_for from (what_is_asked m).request.path now bodies)), parts)
at_once from now m bodies parts None (Joining b) = join_at (asks_links m) b (after_block (block_arrival from now m b) (living now parts))

-- of a server, with what the message has
abbrev at_once_by : Endpoint → ℕ → CoapMessage → Server → Option AtOnce
at_once_by from now m s = at_once from now m s.bodies s.parts (slice_get (faults_of m.options) 0) (wanted_in m)

no_fault : (m : CoapMessage) → faults_of m.options ≡ [] → slice_get (faults_of m.options) 0 ≡ None
no_fault m none = ap (λ (fs : List AskFault). slice_get fs 0) none

some_pair : (r q : Reply) (ps qs : List Part) → r ≡ q → ps ≡ qs → Some (both_of r ps) ≡ Some (both_of q qs)
some_pair r q ps qs e f = ap₂ (λ (x : Reply) (y : List Part). Some (both_of x y)) e f

pub answered_by : (from : Endpoint) (now : ℕ) (m : CoapMessage) (r : Reply) (s : Server) (parts : List Part) → (r ≡ reply_of Memory → ⊥) → IsAnsweredAtOnce from now m r s parts
    → at_once_by from now m s ≡ Some (both_of r parts)
answered_by from now m r s parts ample (bad_option number first con is same) =
    ap (λ (f : Option AskFault). at_once from now m s.bodies s.parts f (wanted_in m)) first ∙ some_pair (option_reply number) r s.parts parts (sym is) (sym same)
answered_by from now m r s parts ample (bad_block first is same) =
    ap (λ (f : Option AskFault). at_once from now m s.bodies s.parts f (wanted_in m)) first ∙ some_pair block_reply r s.parts parts (sym is) (sym same)
answered_by from now m r s parts ample (for_proxy first is same) =
    ap (λ (f : Option AskFault). at_once from now m s.bodies s.parts f (wanted_in m)) first ∙ some_pair proxy_reply r s.parts parts (sym is) (sym same)
answered_by from now m r s parts ample (no_memory none is same) = absurd (ample is)
answered_by from now m r s parts ample (later_block b none wants is same) =
    ap₂ (λ (f : Option AskFault) (w : BlockWish). at_once from now m s.bodies s.parts f w) (no_fault m none) wants
    ∙ some_pair (later_reply b (option_map (λ x. x.content) (body_for from (what_is_asked m).request.path now s.bodies))) r s.parts parts (sym is) (sym same)
answered_by from now m r s parts ample (joined b added none wants adds is) =
    let x : Added × List Part = after_block (block_arrival from now m b) (living now s.parts) in
    let said : added_reply b x.0 ≡ Some r = ap (added_reply b) (sym adds.answer_is) ∙ is in
    ap₂ (λ (f : Option AskFault) (w : BlockWish). at_once from now m s.bodies s.parts f w) (no_fault m none) wants
    ∙ join_some (asks_links m) b x r said
    ∙ some_pair r r x.1 parts refl (sym adds.parts_are)
answered_by from now m r s parts ample (takes_no_other_verb none wants links other is same) =
    ap₂ (λ (f : Option AskFault) (w : BlockWish). at_once from now m s.bodies s.parts f w) (no_fault m none) wants
    ∙ ap₂ (λ (l g : Bool). act_at l g s.parts) links (not_get m.code other)
    ∙ some_pair method_reply r s.parts parts (sym is) (sym same)
answered_by from now m r s parts ample (takes_no_body b place whole none wants links adds is same) =
    let x : Added × List Part = after_block (block_arrival from now m b) (living now s.parts) in
    ap₂ (λ (f : Option AskFault) (w : BlockWish). at_once from now m s.bodies s.parts f w) (no_fault m none) wants
    ∙ join_whole (asks_links m) b x place links (sym adds.answer_is)
    ∙ some_pair method_reply r (remove x.1 place) parts (sym is) (ap (λ (ps : List Part). remove ps place) (sym adds.parts_are) ∙ sym same)

pub at_once_alike : (from : Endpoint) (now : ℕ) (m : CoapMessage) (s t : Server) → SameServer s t → at_once_by from now m s ≡ at_once_by from now m t
at_once_alike from now m s t same =
    ap₂ (λ (bodies : List Body) (parts : List Part). at_once from now m bodies parts (slice_get (faults_of m.options) 0) (wanted_in m)) same.bodies same.parts

-- a message that was answered at once wasn't ignored
pub not_ignored : (from : Endpoint) (now : ℕ) (m : CoapMessage) (r : Reply) (s : Server) (parts : List Part) (number : ℕ) → IsAnsweredAtOnce from now m r s parts
    → slice_get (faults_of m.options) 0 ≡ Some (BadOption number) → request_type m.kind ≡ NonConfirmable → ⊥
not_ignored from now m r s parts number (bad_option other first con is same) found non = let apart : Confirmable ≡ NonConfirmable = sym con ∙ non in cc
not_ignored from now m r s parts number (bad_block first is same) found non = let apart : Some fault.Block ≡ Some (BadOption number) = sym first ∙ found in cc
not_ignored from now m r s parts number (for_proxy first is same) found non = let apart : Some Proxy ≡ Some (BadOption number) = sym first ∙ found in cc
not_ignored from now m r s parts number (no_memory none is same) found non = first_fault (faults_of m.options) (BadOption number) found none
not_ignored from now m r s parts number (later_block b none wants is same) found non = first_fault (faults_of m.options) (BadOption number) found none
not_ignored from now m r s parts number (joined b added none wants adds is) found non = first_fault (faults_of m.options) (BadOption number) found none
not_ignored from now m r s parts number (takes_no_other_verb none wants links other is same) found non = first_fault (faults_of m.options) (BadOption number) found none
not_ignored from now m r s parts number (takes_no_body b place whole none wants links adds is same) found non = first_fault (faults_of m.options) (BadOption number) found none

-- nor asked, as it is or with a body that was joined
pub not_asked : (from : Endpoint) (now : ℕ) (m : CoapMessage) (r : Reply) (s : Server) (parts : List Part) → (r ≡ reply_of Memory → ⊥) → IsAnsweredAtOnce from now m r s parts
    → faults_of m.options ≡ [] → wanted_in m ≡ Act → act_at (asks_links m) (m.code == GET) s.parts ≡ None → ⊥
not_asked from now m r s parts ample why none acts silent =
    let is = answered_by from now m r s parts ample why in
    let isnt : at_once_by from now m s ≡ None = ap₂ (λ (f : Option AskFault) (w : BlockWish). at_once from now m s.bodies s.parts f w) (no_fault m none) acts ∙ silent in
    cc

-- a request that is asked, and one that the links are given to
pub asked_silent : (m : CoapMessage) (parts : List Part) → asks_links m ≡ false → act_at (asks_links m) (m.code == GET) parts ≡ None
asked_silent m parts apart = ap (λ (l : Bool). act_at l (m.code == GET) parts) apart

pub given_silent : (m : CoapMessage) (parts : List Part) → asks_links m ≡ true → m.code ≡ GET → act_at (asks_links m) (m.code == GET) parts ≡ None
given_silent m parts links get = ap₂ (λ (l g : Bool). act_at l g parts) links (is_get m.code get)

pub not_whole : (from : Endpoint) (now : ℕ) (m : CoapMessage) (r : Reply) (s : Server) (parts rest : List Part) (b : Block) (place : ℕ) → (r ≡ reply_of Memory → ⊥)
    → IsAnsweredAtOnce from now m r s parts → faults_of m.options ≡ [] → wanted_in m ≡ Joining b → asks_links m ≡ false
    → Adds from now m b s (added.Complete place) rest → ⊥
not_whole from now m r s parts rest b place ample why none joins apart adds =
    let is = answered_by from now m r s parts ample why in
    let x : Added × List Part = after_block (block_arrival from now m b) (living now s.parts) in
    let silent : added_reply b x.0 ≡ None = ap (added_reply b) (sym adds.answer_is) in
    let isnt : at_once_by from now m s ≡ None
    = ap₂ (λ (f : Option AskFault) (w : BlockWish). at_once from now m s.bodies s.parts f w) (no_fault m none) joins
    ∙ ap (λ (l : Bool). join_at l b x) apart
    ∙ ap (λ (o : Option Reply). option_map (λ (q : Reply). both_of q x.1) o) silent in
    cc

-- the body that is whole then, and the parts without it
record AsWhole : Type 0 where
  whole : Part
  left : List Part

abbrev as_whole : Part → List Part → AsWhole
as_whole whole left = record { whole = whole; left = left }

abbrev whole_in : Added → List Part → Option AsWhole
whole_in (added.Complete place) parts = option_map (λ p. as_whole p (remove parts place)) (slice_get parts place)
whole_in added.Continue parts = None
whole_in added.BadBlock parts = None
whole_in added.Incomplete parts = None
whole_in added.TooLarge parts = None
whole_in added.Full parts = None

whole_is : (from : Endpoint) (now : ℕ) (m : CoapMessage) (b : Block) (s : Server) (place : ℕ) (parts : List Part) (whole : Part) → Adds from now m b s (added.Complete place) parts
    → slice_get parts place ≡ Some whole
    → whole_in (after_block (block_arrival from now m b) (living now s.parts)).0 (after_block (block_arrival from now m b) (living now s.parts)).1 ≡ Some (as_whole whole (remove parts place))
whole_is from now m b s place parts whole adds there =
    ap₂ whole_in (sym adds.answer_is) (sym adds.parts_are) ∙ ap (option_map (λ p. as_whole p (remove parts place))) there

pub same_whole : (from : Endpoint) (now : ℕ) (m : CoapMessage) (b : Block) (s t : Server) (place other : ℕ) (parts rest : List Part) (whole body : Part) → SameServer s t
    → Adds from now m b s (added.Complete place) parts → slice_get parts place ≡ Some whole → Adds from now m b t (added.Complete other) rest → slice_get rest other ≡ Some body
    → (whole ≡ body) × (remove parts place ≡ remove rest other)
same_whole from now m b s t place other parts rest whole body same adds there adds' there' =
    let one = whole_is from now m b s place parts whole adds there in
    let two = whole_is from now m b t other rest body adds' there' in
    let between = ap (λ (ps : List Part). whole_in (after_block (block_arrival from now m b) (living now ps)).0 (after_block (block_arrival from now m b) (living now ps)).1) same.parts in
    let is : as_whole whole (remove parts place) ≡ as_whole body (remove rest other) =
    same_Some (as_whole whole (remove parts place)) (as_whole body (remove rest other)) (sym one ∙ between ∙ two) in
    (ap (λ (x : AsWhole). x.whole) is, ap (λ (x : AsWhole). x.left) is)
