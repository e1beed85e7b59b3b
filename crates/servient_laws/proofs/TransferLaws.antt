-- The outcome of a request that was admitted: of one that wants an act, of one for a later block, and of a block of a
-- body.
use Rattle.std.proofs.Common.{◌≡◌, ◌≤◌, ◌+◌, ℕ, length, List, [], ◌∷◌, ◌++◌, max, refl, sym, ap, subst, ◌∙◌, arith, inl, inr, true, false, slice_get, Option, Some, None, Bool, cond, remove}
use Rattle.std.specs.Prelude.{◌⊎◌, ◌&&◌, IfSome, All, nat_lt, option_map, if◌then◌else◌}
use Rattle.std.specs.List.{find}
use Rattle.std.proofs.lemmas.List.Elements.{All-head, All-tail}
use Rattle.std.proofs.lemmas.Bool.Decides.{nat_tests}
use Rattle.coap_msg.specs.declared.block.Block.{Block}
use Rattle.coap_msg.specs.declared.endpoint.Endpoint.{Endpoint}
use Rattle.coap_msg.specs.Blocks.{block_start}
use Rattle.coap_msg.specs.Grammar.{CoapMessage, Spells, spelling}
use Rattle.coap_msg.proofs.Messages.{at_most_one_message}
use Rattle.coap_msg.proofs.FaultLaws.{no_fault_of_message}
use Rattle.coap_msg.proofs.SameEndpoints.{both}
use Rattle.coap_exchange.specs.Admission.{Arrival, Verdict, duplicate, refused, admitted as is_admitted, verdict, admitted_among}
use Rattle.coap_exchange.specs.declared.met.Met.TheVariants.{Fresh, Repeat, Full}
use Rattle.coap_blocks.specs.Bodies.{Body, is_body_of, body_for}
use Rattle.coap_blocks.specs.Laws.{blocks_among, parts_after, joined_payloads, IsRowFrom}
use Rattle.coap_blocks.specs.Parts.{Origin, Arrival as BlockArrival, Part, living, after_block}
use Rattle.coap_blocks.specs.Paths.{lives}
use Rattle.coap_blocks.specs.declared.added.Added.{Added}
use Rattle.coap_blocks.specs.declared.added.Added.TheVariants.{Complete}
use Rattle.coap_blocks.proofs.BodyLaws.{own_is}
use Rattle.coap_blocks.proofs.PartLaws.{whole_bodies_are_rows}
use Rattle.coap_opts.specs.Reading.{AskSeen, asked as what_is_asked}
use Rattle.coap_opts.specs.declared.fault.AskFault.{AskFault}
use Rattle.coap_bind.specs.declared.blocks.BlockWish.{BlockWish}
use Rattle.coap_bind.specs.declared.blocks.BlockWish.TheVariants as wanted
use Rattle.coap_bind.specs.declared.pending.PendingReply.{PendingReply}
use Rattle.coap_bind.specs.declared.server.Server.{Server}
use Rattle.coap_bind.specs.Blocks.{use_of, portion_at, content_reply, block_reply, later_reply, added_reply}
use Rattle.coap_bind.specs.Laws.{Did}
use Rattle.coap_bind.specs.Server.{Heard, answered_at_once, asked, is_request, arrival, IsMet, malformed, no_request, duplicate as settles_duplicate, full, Hears, settled, admitted, observing_in, wanted_in, with_parts, Replies, pending_of, pending_joined, with_whole_body, block_arrival, Adds, bad_option, bad_block, for_proxy, no_memory, later_block, joined, takes_no_other_verb, takes_no_body, Reads, replied, bad_option_ignored, asks_links, gives_links, asks, asks_whole}
use Rattle.coap_bind.specs.Writing.{Reply, reply_of, head_of, coap_reply}
use Rattle.thing_ops.specs.declared.outcome.Outcome.TheVariants as outcome
use Rattle.thing_core.specs.Thing.{Done}
use Rattle.servient_outside.specs.declared.net.EventWithBytes.{EventWithBytes}
use Rattle.servient_outside.specs.Network.{heard}
use Rattle.servient_trace.specs.Trace.{Sighting, at_network, calls_in}
use Rattle.servient_core.specs.Machine.{Site, State, AnswersDatagram}
use Rattle.servient_core.specs.Meaning.{by_coap}
use Rattle.servient_laws.specs.Payloads.{SaysByCoap}
use Rattle.servient_laws.specs.Requests.{moment_of, ComesTo, ActsOnNothing, sends_back}
use Rattle.servient_laws.specs.Transfers as laws
use Rattle.servient_laws.specs.Transfers.{ActsOnce, IsRepliedTo, WasGiven, IsLaterBlock, AreBlocksFrom, ComesOfBlock, RequestsActOnce, LaterBlocksAreOfOneAct, JoinedBodiesActOnce}
use Rattle.servient_laws.proofs.HeardBlocks.{asked_is_answered, replies_blocks}
use Rattle.servient_laws.proofs.KeptBlocks.{ends_same}
use Rattle.servient_laws.proofs.PayloadLaws.{by_ask, whole_says}
use Rattle.servient_laws.proofs.RequestLaws.{Parts, parts_of, nothing_done, known, met_by}
use Rattle.servient_laws.proofs.RunBlocks.{Past, past_of, acts_once, row_left}

-- ---- what was admitted is read

-- the request was met as a fresh one, and read
record IsRead (from : Endpoint) (bytes : List ℕ) (now : ℕ) (m : CoapMessage) (h : Heard) (s t : Server) : Type 0 where
  slot : ℕ
  server : Server
  met : IsMet from bytes now m (Fresh slot) s server
  reads : Reads from now m slot h server t

-- another verdict
differs : (exchanges : ℕ) (history : List Arrival) (from : Endpoint) (bytes : List ℕ) (now : ℕ) (m n : CoapMessage) (v : Verdict) → Spells m bytes → Spells n bytes
    → verdict exchanges (admitted_among exchanges history) (arrival from now m) ≡ is_admitted → verdict exchanges (admitted_among exchanges history) (arrival from now n) ≡ v → v ≡ is_admitted
differs exchanges history from bytes now m n v one other is was =
    sym was ∙ ap (λ (x : CoapMessage). verdict exchanges (admitted_among exchanges history) (arrival from now x)) (at_most_one_message n m bytes other one) ∙ is

is_read : (exchanges : ℕ) (history : List Arrival) (from : Endpoint) (bytes : List ℕ) (now : ℕ) (h : Heard) (s t : Server) (m : CoapMessage) → Did exchanges history s
    → s.exchanges.moment ≤ now → Spells m bytes → is_request m ≡ true → verdict exchanges (admitted_among exchanges history) (arrival from now m) ≡ is_admitted
    → Hears from bytes now h s t → IsRead from bytes now m h s t
is_read exchanges history from bytes now h s t m did past spells request is (settled (malformed f fault was same)) = absurd (no_fault_of_message f m bytes spells fault)
is_read exchanges history from bytes now h s t m did past spells request is (settled (no_request n of_n isnt was same)) =
    absurd (differ (subst (λ (x : CoapMessage). is_request x ≡ false) (at_most_one_message n m bytes of_n spells) isnt))
  where
    differ : is_request m ≡ false → ⊥
    differ isnt' = cc
is_read exchanges history from bytes now h s t m did past spells request is (settled (settles_duplicate n kept e met found was)) =
    absurd (differ (differs exchanges history from bytes now m n duplicate spells met.spells is (met_by exchanges history from bytes now n (Repeat kept) s t did past met)))
  where
    differ : duplicate ≡ is_admitted → ⊥
    differ e = cc
is_read exchanges history from bytes now h s t m did past spells request is (settled (full n u met was after)) =
    absurd (differ (differs exchanges history from bytes now m n refused spells met.spells is (met_by exchanges history from bytes now n Full s u did past met)))
  where
    differ : refused ≡ is_admitted → ⊥
    differ e = cc
is_read exchanges history from bytes now h s t m did past spells request is (admitted n slot u met reads) =
    let same : n ≡ m = at_most_one_message n m bytes met.spells spells in record {
      slot = slot;
      server = u;
      met = subst (λ (x : CoapMessage). IsMet from bytes now x (Fresh slot) s u) same met;
      reads = subst (λ (x : CoapMessage). Reads from now x slot h u t) same reads;
    }

-- the parts of the event that brings it
record Admits (site : Site) (exchanges : ℕ) (from : Endpoint) (m : CoapMessage) (s : State) (e : EventWithBytes) (seen : List Sighting) (t : State) : Type 0 where
  parts : Parts site from e.bytes e s seen t
  read : IsRead from e.bytes (moment_of s e) m parts.what s.coap parts.server

admits : (site : Site) (exchanges : ℕ) (epoch : Option ℕ) (from : Endpoint) (m : CoapMessage) (s t : State) (e : EventWithBytes) (seen : List Sighting)
    → ComesTo is_admitted site exchanges epoch from m s e seen t → Admits site exchanges from m s e seen t
admits site exchanges epoch from m s t e seen comes =
    let k = known is_admitted site exchanges epoch from m s t e seen comes in
    let b = comes.brings in
    let past : s.coap.exchanges.moment ≤ max s.moment e.event.moment = omega (arith, k.moment) in
    let p = parts_of site from b.size e s t seen b.datagram b.short comes.step in
    record {
      parts = p;
      read = is_read exchanges comes.history from e.bytes (moment_of s e) p.what s.coap p.server m k.did past b.spells b.request comes.verdict_is p.hears;
    }

-- ---- what is replied to at once

fault_free : (faults : List AskFault) (f : AskFault) → faults ≡ [] → slice_get faults 0 ≡ Some f → ⊥
fault_free faults f none is = let no : slice_get faults 0 ≡ None = ap (λ l. slice_get l 0) none in cc

-- no act is made, and the parts are those that the reply leaves
record AtOnce (r : Reply) (from : Endpoint) (m : CoapMessage) (parts : List Part) (s : State) (e : EventWithBytes) (seen : List Sighting) (t : State) : Type 0 where
  replied_to : IsRepliedTo r from m s e seen t
  left : t.coap.parts ≡ parts

at_once : (site : Site) (from : Endpoint) (m : CoapMessage) (s t : State) (e : EventWithBytes) (seen : List Sighting) (p : Parts site from e.bytes e s seen t) (slot : ℕ) (u : Server)
    (r : Reply) (parts : List Part) (bytes : List ℕ) → u.next_id ≡ s.coap.next_id → Replies r (head_of m) slot bytes (with_parts parts u) p.server → p.what ≡ answered_at_once bytes
    → AtOnce r from m parts s e seen t
at_once site from m s t e seen p slot u r parts bytes same replies is =
    let does = subst (λ (x : Heard). AnswersDatagram site from x (record s { moment = moment_of s e; coap = p.server }) p.answer p.middle) is p.answers in
    let bytes_are : bytes ≡ spelling (coap_reply r (head_of m) s.coap.next_id) = replies.bytes_are ∙ ap (λ (n : ℕ). spelling (coap_reply r (head_of m) n)) same in
    let sent : p.answer ≡ sends_back from (spelling (coap_reply r (head_of m) s.coap.next_id)) = does.saw ∙ ap (sends_back from) bytes_are in
    record {
      replied_to = record {
        middle = p.middle;
        nothing = subst (λ (a : List Sighting). ActsOnNothing e s a p.middle seen t) sent
            (nothing_done e s p.middle t p.answer p.rest seen p.whole p.ends (ap calls_in does.saw) (ap (λ (x : State). x.thing) does.next) (ap (λ (x : State). x.directory) does.next));
      };
      left = (ends_same p.middle t p.rest p.ends).parts ∙ (ap (λ (x : State). x.coap.parts) does.next ∙ (replies_blocks r (head_of m) slot bytes (with_parts parts u) p.server replies).0);
    }

-- ---- what is asked

-- one act is made, what it gives is said, and the parts are as they were
record ActsAndSays (site : Site) (from : Endpoint) (what : AskSeen) (ask : PendingReply) (server : Server) (s : State) (seen : List Sighting) (t : State) : Type 0 where
  done : Done
  once : ActsOnce site what.request done s seen t
  says : SaysByCoap from ask.blocks done.outcome seen
  left : t.coap.parts ≡ server.parts

acts_and_says : (site : Site) (from : Endpoint) (s t : State) (e : EventWithBytes) (seen : List Sighting) (p : Parts site from e.bytes e s seen t) (what : AskSeen) (ask : PendingReply)
    → p.what ≡ asked what ask → ActsAndSays site from what ask p.server s seen t
acts_and_says site from s t e seen p what ask is =
    let u = record s { moment = moment_of s e; coap = p.server } in
    let answers = subst (λ (x : Heard). AnswersDatagram site from x u p.answer p.middle) is p.answers in
    let a = asked_is_answered site from what ask u p.middle p.answer answers in
    let w = answers.1 in
    let in_answer = whole_says (by_coap from what ask) answers.0.outcome u w.first w.other.first w.other.second p.answer (w.whole ∙ ap (λ (x : List Sighting). w.first ++ x) w.other.whole)
    (by_ask site from what ask answers.0 w.mid w.other.mid w.other.first w.other.one) in
    record {
      done = answers.0;
      once = acts_once site what ask e u p.middle t p.answer p.rest seen answers.0 a p.whole p.ends;
      says = whole_says (by_coap from what ask) answers.0.outcome u (at_network (heard e) ∷ []) p.answer p.rest seen p.whole in_answer;
      left = (ends_same p.middle t p.rest p.ends).parts ∙ a.parts;
    }

-- ---- a request that wants an act

both_paths : (m : CoapMessage) → asks_links m ≡ true → asks_links m ≡ false → ⊥
both_paths m is isnt = cc

clash : (a b : BlockWish) (m : CoapMessage) → wanted_in m ≡ a → wanted_in m ≡ b → a ≡ b
clash a b m one other = sym one ∙ other

pub requests_act_once : RequestsActOnce
requests_act_once site exchanges epoch from m s t e seen comes fine wants other_path =
    let a = admits site exchanges epoch from m s t e seen comes in by a.parts a.read.slot a.read.server a.read.met a.read.reads
  where
    by : (p : Parts site from e.bytes e s seen t) (slot : ℕ) (u : Server) → IsMet from e.bytes (moment_of s e) m (Fresh slot) s.coap u → Reads from (moment_of s e) m slot p.what u p.server
        → IsRepliedTo (reply_of outcome.Memory) from m s e seen t
        ⊎ ((done : Done) × ActsOnce site (what_is_asked m).request done s seen t × SaysByCoap from (use_of (moment_of s e) m.code (observing_in m) (what_is_asked m)) done.outcome seen)
    by p slot u met (replied r parts bytes (bad_option number fault con is same) replies h) = absurd (fault_free _ _ fine fault)
    by p slot u met (replied r parts bytes (bad_block fault is same) replies h) = absurd (fault_free _ _ fine fault)
    by p slot u met (replied r parts bytes (for_proxy fault is same) replies h) = absurd (fault_free _ _ fine fault)
    by p slot u met (replied r parts bytes (no_memory none is same) replies h) =
        inl (subst (λ (x : Reply). IsRepliedTo x from m s e seen t) is (at_once site from m s t e seen p slot u r parts bytes met.same_id replies h).replied_to)
    by p slot u met (replied r parts bytes (later_block b none wants' is same) replies h) = absurd (let no = clash wanted.Act (wanted.LaterBlock b) m wants wants' in cc)
    by p slot u met (replied r parts bytes (joined b added none wants' adding is) replies h) = absurd (let no = clash wanted.Act (wanted.Joining b) m wants wants' in cc)
    by p slot u met (replied r parts bytes (takes_no_other_verb none wants' links other is same) replies h) = absurd (both_paths m links other_path)
    by p slot u met (replied r parts bytes (takes_no_body b place whole none wants' links adding is same) replies h) = absurd (both_paths m links other_path)
    by p slot u met (bad_option_ignored number fault non h same) = absurd (fault_free _ _ fine fault)
    by p slot u met (gives_links bytes none wants' links get replies h) = absurd (both_paths m links other_path)
    by p slot u met (asks none wants' apart h same) =
        let a = acts_and_says site from s t e seen p (what_is_asked m) (pending_of from (moment_of s e) m slot) h in inr (a.done, a.once, a.says)
    by p slot u met (asks_whole b place parts whole none wants' apart adding there h same) = absurd (let no = clash wanted.Act (wanted.Joining b) m wants wants' in cc)

-- ---- a later block

-- an element that is found passes, and a fact of all holds of it
found_in : (P : Body → Type 0) (test : Body → Bool) (xs : List Body) (b : Body) → All P xs → find test xs ≡ Some b → (test b ≡ true) × P b
found_in P test [] b all e = absurd cc
found_in P test (x ∷ xs) b all e = by (found_in P test xs b (All-tail P x xs all)) (test x) refl e
  where
    by : (find test xs ≡ Some b → (test b ≡ true) × P b) → (t : Bool) → test x ≡ t → cond t (Some x) (find test xs) ≡ Some b → (test b ≡ true) × P b
    by rest true is h = let same : x ≡ b = cc in (subst (λ (y : Body). test y ≡ true) same is, subst P same (All-head P x xs all))
    by rest false is h = rest h

not_before : (n start : ℕ) → nat_lt start n ≡ false → n ≤ start
not_before n start is = grind (arith, nat_tests)

later_is : (site : Site) (exchanges : ℕ) (epoch : Option ℕ) (took : List EventWithBytes) (before : List Sighting) (from : Endpoint) (path : List (List ℕ)) (now : ℕ) (b : Block) (s : State)
    → Past site exchanges epoch took before s → (r : Reply) → r ≡ later_reply b (option_map (λ x. x.content) (body_for from path now s.coap.bodies))
    → IsLaterBlock site exchanges epoch took before from path now b s r
later_is site exchanges epoch took before from path now b s past r is = by (body_for from path now s.coap.bodies) refl is
  where
    -- the body ends before the block, or it doesn't
    by_end : (x : Body) → body_for from path now s.coap.bodies ≡ Some x → (there : Bool) → nat_lt (block_start b) (length x.content.bytes) ≡ there
        → r ≡ (if there then content_reply (portion_at b x.content.bytes) x.content else block_reply) → IsLaterBlock site exchanges epoch took before from path now b s r
    by_end x found true at is' =
        let it = found_in (WasGiven site exchanges epoch took before) (λ (y : Body). is_body_of from path y && lives now y.moment) s.coap.bodies x past.bodies found in
        let own = both (is_body_of from path x) (lives now x.moment) it.0 in
        let whose = own_is from path x own.0 in
        laws.part x it.1 whose.0 whose.1 own.1 is'
    by_end x found false at is' =
        laws.none (subst (λ (o : Option Body). IfSome o (λ y. length y.content.bytes ≤ block_start b)) (sym found) (not_before (length x.content.bytes) (block_start b) at)) is'

    by : (o : Option Body) → body_for from path now s.coap.bodies ≡ o → r ≡ later_reply b (option_map (λ x. x.content) o) → IsLaterBlock site exchanges epoch took before from path now b s r
    by None found is' = laws.none (subst (λ (o : Option Body). IfSome o (λ y. length y.content.bytes ≤ block_start b)) (sym found) tt) is'
    by (Some x) found is' = by_end x found (nat_lt (block_start b) (length x.content.bytes)) refl is'

pub later_blocks_are_of_one_act : LaterBlocksAreOfOneAct
later_blocks_are_of_one_act site exchanges epoch from m b s t e seen comes fine wants =
    let a = admits site exchanges epoch from m s t e seen comes in by a.parts a.read.slot a.read.server a.read.met a.read.reads
  where
    past : Past site exchanges epoch comes.took comes.before s
    past = past_of site exchanges epoch comes.took comes.before s comes.run

    by : (p : Parts site from e.bytes e s seen t) (slot : ℕ) (u : Server) → IsMet from e.bytes (moment_of s e) m (Fresh slot) s.coap u → Reads from (moment_of s e) m slot p.what u p.server
        → (r : Reply) × IsRepliedTo r from m s e seen t
        × IsLaterBlock site exchanges epoch comes.took comes.before from (what_is_asked m).request.path (moment_of s e) b s r
    by p slot u met (replied r parts bytes (bad_option number fault con is same) replies h) = absurd (fault_free _ _ fine fault)
    by p slot u met (replied r parts bytes (bad_block fault is same) replies h) = absurd (fault_free _ _ fine fault)
    by p slot u met (replied r parts bytes (for_proxy fault is same) replies h) = absurd (fault_free _ _ fine fault)
    by p slot u met (replied r parts bytes (no_memory none is same) replies h) =
        (r, (at_once site from m s t e seen p slot u r parts bytes met.same_id replies h).replied_to, laws.no_memory is)
    by p slot u met (replied r parts bytes (later_block c none wants' is same) replies h) =
        let block_is : c ≡ b = (let one = clash (wanted.LaterBlock c) (wanted.LaterBlock b) m wants' wants in cc) in
        let kept : r ≡ later_reply b (option_map (λ x. x.content) (body_for from (what_is_asked m).request.path (moment_of s e) s.coap.bodies)) =
        is ∙ ap (λ (x : Block). later_reply x (option_map (λ y. y.content) (body_for from (what_is_asked m).request.path (moment_of s e) u.bodies))) block_is
        ∙ ap (λ (bs : List Body). later_reply b (option_map (λ y. y.content) (body_for from (what_is_asked m).request.path (moment_of s e) bs))) met.same_bodies in (
          r,
          (at_once site from m s t e seen p slot u r parts bytes met.same_id replies h).replied_to,
          later_is site exchanges epoch comes.took comes.before from (what_is_asked m).request.path (moment_of s e) b s past r kept,
        )
    by p slot u met (replied r parts bytes (joined c added none wants' adding is) replies h) = absurd (let no = clash (wanted.LaterBlock b) (wanted.Joining c) m wants wants' in cc)
    by p slot u met (replied r parts bytes (takes_no_other_verb none wants' links other is same) replies h) = absurd (let no = clash (wanted.LaterBlock b) wanted.Act m wants wants' in cc)
    by p slot u met (replied r parts bytes (takes_no_body c place whole none wants' links adding is same) replies h) = absurd (let no = clash (wanted.LaterBlock b) (wanted.Joining c) m wants wants' in cc)
    by p slot u met (bad_option_ignored number fault non h same) = absurd (fault_free _ _ fine fault)
    by p slot u met (gives_links bytes none wants' links get replies h) = absurd (let no = clash (wanted.LaterBlock b) wanted.Act m wants wants' in cc)
    by p slot u met (asks none wants' apart h same) = absurd (let no = clash (wanted.LaterBlock b) wanted.Act m wants wants' in cc)
    by p slot u met (asks_whole c place parts whole none wants' apart adding there h same) = absurd (let no = clash (wanted.LaterBlock b) (wanted.Joining c) m wants wants' in cc)

-- ---- blocks of a request

-- the parts of the state say the outcome of a block
adds_there : (from : Endpoint) (now : ℕ) (m : CoapMessage) (b : Block) (u s : Server) (added : Added) (parts : List Part) → u.parts ≡ s.parts → Adds from now m b u added parts
    → Adds from now m b s added parts
adds_there from now m b u s added parts same adding = record {
  answer_is = adding.answer_is ∙ ap (λ (ps : List Part). (after_block (block_arrival from now m b) (living now ps)).0) same;
  parts_are = adding.parts_are ∙ ap (λ (ps : List Part). (after_block (block_arrival from now m b) (living now ps)).1) same;
}

-- a body that is whole is a row of blocks of the run
record IsRow (took : List EventWithBytes) (a : BlockArrival) (bytes : List ℕ) : Type 0 where
  row : List BlockArrival
  of_run : AreBlocksFrom 0 took row
  in_order : IsRowFrom a.origin 0 (row ++ a ∷ [])
  bytes_are : bytes ≡ joined_payloads (row ++ a ∷ [])

last_origin : (o : Origin) (n : ℕ) (row : List BlockArrival) (a : BlockArrival) → IsRowFrom o n (row ++ a ∷ []) → a.origin ≡ o
last_origin o n [] a is = is.0
last_origin o n (b ∷ row) a is = last_origin o (n + length b.payload) row a is.2

same_part : (p q : Part) (o : Option Part) → o ≡ Some p → o ≡ Some q → p ≡ q
same_part p q o one other = let same : Some p ≡ Some q = sym one ∙ other in cc

is_row : (site : Site) (exchanges : ℕ) (epoch : Option ℕ) (took : List EventWithBytes) (before : List Sighting) (s : State) (a : BlockArrival) (place : ℕ) (parts : List Part) (p : Part)
    → Past site exchanges epoch took before s → Complete place ≡ (after_block a (living a.moment s.coap.parts)).0 → parts ≡ (after_block a (living a.moment s.coap.parts)).1
    → slice_get parts place ≡ Some p → IsRow took a p.bytes
is_row site exchanges epoch took before s a place parts p past answer_is parts_are there =
    let from_calls : (after_block a (living a.moment (parts_after [] past.calls))).0 ≡ Complete place =
    ap (λ (ps : List Part). (after_block a (living a.moment ps)).0) (sym past.parts) ∙ sym answer_is in
    let law = whole_bodies_are_rows past.calls a place from_calls in
    let same : p ≡ law.0 = same_part p law.0 (slice_get (after_block a (living a.moment (parts_after [] past.calls))).1 place)
    (ap (λ (ps : List Part). slice_get (after_block a (living a.moment ps)).1 place) (sym past.parts) ∙ (ap (λ (ps : List Part). slice_get ps place) (sym parts_are) ∙ there)) law.2 in
    record {
      row = law.1;
      of_run = row_left 0 took law.1 (blocks_among past.calls) law.4 past.blocks;
      in_order = subst (λ (o : Origin). IsRowFrom o 0 (law.1 ++ a ∷ [])) (sym (last_origin law.0.origin 0 law.1 a law.3.in_order)) law.3.in_order;
      bytes_are = ap (λ (x : Part). x.bytes) same ∙ law.3.bytes;
    }

pub joined_bodies_act_once : JoinedBodiesActOnce
joined_bodies_act_once site exchanges epoch from m b s t e seen comes fine wants other_path =
    let a = admits site exchanges epoch from m s t e seen comes in (
      (after_block (block_arrival from (moment_of s e) m b) (living (moment_of s e) s.coap.parts)).0,
      (after_block (block_arrival from (moment_of s e) m b) (living (moment_of s e) s.coap.parts)).1,
      record { answer_is = refl; parts_are = refl },
      by a.parts a.read.slot a.read.server a.read.met a.read.reads,
    )
  where
    past : Past site exchanges epoch comes.took comes.before s
    past = past_of site exchanges epoch comes.took comes.before s comes.run

    arrived : BlockArrival
    arrived = block_arrival from (moment_of s e) m b

    said : Added × List Part
    said = after_block arrived (living (moment_of s e) s.coap.parts)

    Comes : Type 0
    Comes = ComesOfBlock site comes.took from m b said.0 said.1 s e seen t

    -- the block of the request is this one
    same_block : (c : Block) → wanted_in m ≡ wanted.Joining c → c ≡ b
    same_block c wants' = let one = clash (wanted.Joining c) (wanted.Joining b) m wants' wants in cc

    of_block : (c : Block) (u : Server) (added : Added) (parts : List Part) → wanted_in m ≡ wanted.Joining c → u.parts ≡ s.coap.parts → Adds from (moment_of s e) m c u added parts
        → Adds from (moment_of s e) m b s.coap added parts
    of_block c u added parts wants' same adding =
        subst (λ (x : Block). Adds from (moment_of s e) m x s.coap added parts) (same_block c wants') (adds_there from (moment_of s e) m c u s.coap added parts same adding)

    not_whole : (p : Parts site from e.bytes e s seen t) (slot : ℕ) (u : Server) (r : Reply) (parts : List Part) (bytes : List ℕ) (c : Block) (added : Added) → u.next_id ≡ s.coap.next_id
        → u.parts ≡ s.coap.parts → Replies r (head_of m) slot bytes (with_parts parts u) p.server → p.what ≡ answered_at_once bytes → wanted_in m ≡ wanted.Joining c
        → Adds from (moment_of s e) m c u added parts → added_reply c added ≡ Some r → Comes
    not_whole p slot u r parts bytes c added id same replies h wants' adding is =
        let adds = of_block c u added parts wants' same adding in
        let done = at_once site from m s t e seen p slot u r parts bytes id replies h in
        laws.not_whole r
        (ap (λ (x : Added). added_reply b x) (sym adds.answer_is) ∙ (ap (λ (x : Block). added_reply x added) (sym (same_block c wants')) ∙ is))
        done.replied_to (done.left ∙ adds.parts_are)

    whole : (p : Parts site from e.bytes e s seen t) (slot : ℕ) (u : Server) (c : Block) (place : ℕ) (parts : List Part) (body : Part) → u.parts ≡ s.coap.parts
        → wanted_in m ≡ wanted.Joining c → Adds from (moment_of s e) m c u (Complete place) parts → slice_get parts place ≡ Some body
        → p.what ≡ asked (with_whole_body body.bytes (what_is_asked m)) (pending_joined from m slot c) → p.server.parts ≡ remove parts place → Comes
    whole p slot u c place parts body same wants' adding there h left =
        let adds = of_block c u (Complete place) parts wants' same adding in
        let row = is_row site exchanges epoch comes.took comes.before s arrived place parts body past adds.answer_is adds.parts_are there in
        let done = acts_and_says site from s t e seen p (with_whole_body body.bytes (what_is_asked m)) (pending_joined from m slot c) h in
        laws.whole place row.row done.done (sym adds.answer_is) row.of_run row.in_order
        (subst (λ (bytes : List ℕ). ActsOnce site (with_whole_body bytes (what_is_asked m)).request done.done s seen t) row.bytes_are done.once)
        (done.left ∙ (left ∙ ap (λ (ps : List Part). remove ps place) adds.parts_are))

    by : (p : Parts site from e.bytes e s seen t) (slot : ℕ) (u : Server) → IsMet from e.bytes (moment_of s e) m (Fresh slot) s.coap u → Reads from (moment_of s e) m slot p.what u p.server → Comes
    by p slot u met (replied r parts bytes (bad_option number fault con is same) replies h) = absurd (fault_free _ _ fine fault)
    by p slot u met (replied r parts bytes (bad_block fault is same) replies h) = absurd (fault_free _ _ fine fault)
    by p slot u met (replied r parts bytes (for_proxy fault is same) replies h) = absurd (fault_free _ _ fine fault)
    by p slot u met (replied r parts bytes (no_memory none is same) replies h) =
        let done = at_once site from m s t e seen p slot u r parts bytes met.same_id replies h in
        laws.not_joined (subst (λ (x : Reply). IsRepliedTo x from m s e seen t) is done.replied_to) (done.left ∙ (same ∙ met.same_parts))
    by p slot u met (replied r parts bytes (later_block c none wants' is same) replies h) = absurd (let no = clash (wanted.Joining b) (wanted.LaterBlock c) m wants wants' in cc)
    by p slot u met (replied r parts bytes (joined c added none wants' adding is) replies h) = not_whole p slot u r parts bytes c added met.same_id met.same_parts replies h wants' adding is
    by p slot u met (replied r parts bytes (takes_no_other_verb none wants' links other is same) replies h) = absurd (both_paths m links other_path)
    by p slot u met (replied r parts bytes (takes_no_body c place body none wants' links adding is same) replies h) = absurd (both_paths m links other_path)
    by p slot u met (bad_option_ignored number fault non h same) = absurd (fault_free _ _ fine fault)
    by p slot u met (gives_links bytes none wants' links get replies h) = absurd (both_paths m links other_path)
    by p slot u met (asks none wants' apart h same) = absurd (let no = clash (wanted.Joining b) wanted.Act m wants wants' in cc)
    by p slot u met (asks_whole c place parts body none wants' apart adding there h same) =
        whole p slot u c place parts body met.same_parts wants' adding there h (ap (λ (x : Server). x.parts) same)
