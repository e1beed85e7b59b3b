-- The effect of a datagram that is heard on the bodies and the parts, its ask, and the effect of answering that.
use Rattle.std.proofs.Common.{◌≡◌, ℕ, List, [], ◌∷◌, ◌++◌, refl, sym, ap, ap₂, subst, ◌∙◌, remove}
use Rattle.std.specs.Prelude.{Option, true}
use Rattle.std.proofs.lemmas.List.{append-nil}
use Rattle.std.proofs.lemmas.List.Elements.{filter_map-append}
use Rattle.coap_msg.specs.declared.block.Block.{Block}
use Rattle.coap_msg.specs.declared.endpoint.Endpoint.{Endpoint}
use Rattle.coap_msg.specs.declared.message.RequestType.{RequestType}
use Rattle.coap_msg.specs.declared.message.RequestType.TheVariants.{Confirmable, NonConfirmable}
use Rattle.coap_msg.specs.Grammar.{CoapMessage, Spells}
use Rattle.coap_msg.specs.Requests.{request_type}
use Rattle.coap_blocks.specs.Laws.{Call, adds, clears, blocks_among, parts_after}
use Rattle.coap_blocks.specs.Parts.{Arrival as BlockArrival, Part}
use Rattle.coap_opts.specs.Reading.{AskSeen, asked as what_is_asked}
use Rattle.coap_bind.specs.declared.blocks.BlockWish.TheVariants as wanted
use Rattle.coap_bind.specs.declared.pending.PendingReply.{PendingReply}
use Rattle.coap_bind.specs.declared.server.Server.{Server}
use Rattle.coap_bind.specs.Blocks.{answer_reply, bodies_after}
use Rattle.coap_bind.specs.Links.{size_asked, bodies_with_links}
use Rattle.coap_bind.specs.Server.{Heard, asked, is_request, with_id_used, with_kept, with_observers, with_bodies, with_parts, Replies, Answers, wanted_in, pending_of, pending_joined, with_whole_body, block_arrival, IsAnsweredAtOnce, bad_option, bad_block, for_proxy, no_memory, later_block, joined, takes_no_other_verb, takes_no_body, Reads, replied, bad_option_ignored, asks_links, gives_links, links_given, observing_in, asks, asks_whole as reads_whole, malformed, no_request, duplicate, full, settled, admitted, Hears, answered_at_once, ignored}
use Rattle.coap_bind.specs.Writing.{Reply, observed, ReplyHead, head_of, head_in}
use Rattle.coap_bind.proofs.HistoryLaws.{not_replied, not_duplicate}
use Rattle.thing_ops.specs.declared.outcome.Outcome.{Outcome}
use Rattle.thing_handler.specs.Turns.{HandlerCall}
use Rattle.thing_state.specs.State.{State as ThingState}
use Rattle.thing_core.specs.Thing.{Done, Acts}
use Rattle.servient_trace.specs.Trace.{Sighting, call_in, calls_in}
use Rattle.servient_core.specs.Machine.{Site, State, AnswersDatagram}
use Rattle.servient_core.specs.Meaning.{by_coap}
use Rattle.servient_core.proofs.MeaningLaws.{rest_quiet}
use Rattle.servient_core.proofs.PartLaws.{the_calls}
use Rattle.servient_laws.proofs.KeptBlocks.{delivers_each_same}

-- ---- what stays

used_blocks : (kind : RequestType) (s : Server) → ((with_id_used kind s).parts ≡ s.parts) × ((with_id_used kind s).bodies ≡ s.bodies) × ((with_id_used kind s).links ≡ s.links)
used_blocks Confirmable s = (refl, refl, refl)
used_blocks NonConfirmable s = (refl, refl, refl)

kept_blocks : (kind : RequestType) (slot : ℕ) (bytes : List ℕ) (s : Server)
    → ((with_kept kind slot bytes (with_id_used kind s)).parts ≡ s.parts) × ((with_kept kind slot bytes (with_id_used kind s)).bodies ≡ s.bodies)
    × ((with_kept kind slot bytes (with_id_used kind s)).links ≡ s.links)
kept_blocks Confirmable slot bytes s = (refl, refl, refl)
kept_blocks NonConfirmable slot bytes s = (refl, refl, refl)

-- a reply leaves them
pub replies_blocks : (r : Reply) (head : ReplyHead) (slot : ℕ) (bytes : List ℕ) (s t : Server) → Replies r head slot bytes s t
    → (t.parts ≡ s.parts) × (t.bodies ≡ s.bodies) × (t.links ≡ s.links)
replies_blocks r head slot bytes s t h =
    let kept = kept_blocks head.kind slot bytes s in
    (ap (λ (x : Server). x.parts) h.after ∙ kept.0, ap (λ (x : Server). x.bodies) h.after ∙ kept.1, ap (λ (x : Server). x.links) h.after ∙ kept.2)

-- an answer keeps a body that is given in blocks
answers_blocks : (ask : PendingReply) (o : Outcome) (target : Option ℕ) (bytes : List ℕ) (s t : Server) → Answers ask o target bytes s t
    → (t.parts ≡ s.parts) × (t.bodies ≡ bodies_after ask.blocks ask.from o s.bodies) × (t.links ≡ s.links)
answers_blocks ask o target bytes s t h =
    replies_blocks (observed h.observe (answer_reply ask.blocks o)) (head_in ask) ask.slot bytes (with_bodies (bodies_after ask.blocks ask.from o s.bodies) (with_observers h.observers s)) t h.replies

-- ---- what is heard

-- the blocks of a request in a datagram: one at most
pub data AreBlocksOf (from : Endpoint) (bytes : List ℕ) (now : ℕ) (row : List BlockArrival) : Type 0 where
  no_block : row ≡ [] → AreBlocksOf from bytes now row
  one_block : (m : CoapMessage) (b : Block) → Spells m bytes → is_request m ≡ true → wanted_in m ≡ wanted.Joining b → row ≡ block_arrival from now m b ∷ []
      → AreBlocksOf from bytes now row

-- the effect of a datagram on the bodies: none, or they have the links, which it asks for
pub data HearsBodies (from : Endpoint) (bytes : List ℕ) (now : ℕ) (s t : Server) : Type 0 where
  same_bodies : t.bodies ≡ s.bodies → HearsBodies from bytes now s t
  links_kept : (m : CoapMessage) → Spells m bytes → is_request m ≡ true → asks_links m ≡ true
      → t.bodies ≡ bodies_with_links from (what_is_asked m).request.path now (size_asked (observing_in m) (what_is_asked m)) s.links s.bodies
      → HearsBodies from bytes now s t

-- calls lead to the parts, by the blocks of the datagram; the links are as they were
pub record HearsBlocks (from : Endpoint) (bytes : List ℕ) (now : ℕ) (s t : Server) : Type 0 where
  pub calls : List Call
  pub parts : t.parts ≡ parts_after s.parts calls
  pub blocks : AreBlocksOf from bytes now (blocks_among calls)
  pub bodies : HearsBodies from bytes now s t
  pub links : t.links ≡ s.links

unheard : (from : Endpoint) (bytes : List ℕ) (now : ℕ) (s t : Server) → t.parts ≡ s.parts → t.bodies ≡ s.bodies → t.links ≡ s.links → HearsBlocks from bytes now s t
unheard from bytes now s t parts bodies links = record { calls = []; parts = parts; blocks = no_block refl; bodies = same_bodies bodies; links = links }

at_once_blocks : (from : Endpoint) (bytes : List ℕ) (now : ℕ) (m : CoapMessage) (r : Reply) (s t : Server) (parts : List Part) → Spells m bytes → is_request m ≡ true
    → IsAnsweredAtOnce from now m r s parts → t.parts ≡ parts → t.bodies ≡ s.bodies → t.links ≡ s.links → HearsBlocks from bytes now s t
at_once_blocks from bytes now m r s t parts spells request (bad_option number fault con is same) leaves bodies links = unheard from bytes now s t (leaves ∙ same) bodies links
at_once_blocks from bytes now m r s t parts spells request (bad_block fault is same) leaves bodies links = unheard from bytes now s t (leaves ∙ same) bodies links
at_once_blocks from bytes now m r s t parts spells request (for_proxy fault is same) leaves bodies links = unheard from bytes now s t (leaves ∙ same) bodies links
at_once_blocks from bytes now m r s t parts spells request (no_memory fine is same) leaves bodies links = unheard from bytes now s t (leaves ∙ same) bodies links
at_once_blocks from bytes now m r s t parts spells request (later_block b fine wants is same) leaves bodies links = unheard from bytes now s t (leaves ∙ same) bodies links
at_once_blocks from bytes now m r s t parts spells request (joined b added fine wants adding is) leaves bodies links = record {
  calls = adds (block_arrival from now m b) ∷ [];
  parts = leaves ∙ adding.parts_are;
  blocks = one_block m b spells request wants refl;
  bodies = same_bodies bodies;
  links = links;
}
at_once_blocks from bytes now m r s t parts spells request (takes_no_other_verb fine wants of_links other is same) leaves bodies links = unheard from bytes now s t (leaves ∙ same) bodies links
at_once_blocks from bytes now m r s t parts spells request (takes_no_body b place whole fine wants of_links adding is same) leaves bodies links = record {
  calls = adds (block_arrival from now m b) ∷ clears place ∷ [];
  parts = leaves ∙ same ∙ ap (λ (ps : List Part). remove ps place) adding.parts_are;
  blocks = one_block m b spells request wants refl;
  bodies = same_bodies bodies;
  links = links;
}

reads_blocks : (from : Endpoint) (bytes : List ℕ) (now : ℕ) (m : CoapMessage) (slot : ℕ) (h : Heard) (s t : Server) → Spells m bytes → is_request m ≡ true
    → Reads from now m slot h s t → HearsBlocks from bytes now s t
reads_blocks from bytes now m slot h s t spells request (replied r parts sent why replies is) =
    let leaves = replies_blocks r (head_of m) slot sent (with_parts parts s) t replies in
    at_once_blocks from bytes now m r s t parts spells request why leaves.0 leaves.1 leaves.2
reads_blocks from bytes now m slot h s t spells request (bad_option_ignored number fault non is same) =
    unheard from bytes now s t (ap (λ (x : Server). x.parts) same) (ap (λ (x : Server). x.bodies) same) (ap (λ (x : Server). x.links) same)
reads_blocks from bytes now m slot h s t spells request (gives_links sent fine act of_links get replies is) =
    let leaves = replies_blocks _ (head_of m) slot sent (links_given from now m.token (observing_in m) (what_is_asked m) s) t replies in
    record { calls = []; parts = leaves.0; blocks = no_block refl; bodies = links_kept m spells request of_links leaves.1; links = leaves.2 }
reads_blocks from bytes now m slot h s t spells request (asks fine act apart is same) =
    unheard from bytes now s t (ap (λ (x : Server). x.parts) same) (ap (λ (x : Server). x.bodies) same) (ap (λ (x : Server). x.links) same)
reads_blocks from bytes now m slot h s t spells request (reads_whole b place parts body fine wants apart adding there is same) = record {
  calls = adds (block_arrival from now m b) ∷ clears place ∷ [];
  parts = ap (λ (x : Server). x.parts) same ∙ ap (λ (ps : List Part). remove ps place) adding.parts_are;
  blocks = one_block m b spells request wants refl;
  bodies = same_bodies (ap (λ (x : Server). x.bodies) same);
  links = ap (λ (x : Server). x.links) same;
}

-- of a server with the same parts, bodies and links
bodies_from : (from : Endpoint) (bytes : List ℕ) (now : ℕ) (s u t : Server) → u.bodies ≡ s.bodies → u.links ≡ s.links → HearsBodies from bytes now u t → HearsBodies from bytes now s t
bodies_from from bytes now s u t bodies links (same_bodies is) = same_bodies (is ∙ bodies)
bodies_from from bytes now s u t bodies links (links_kept m spells request of_links is) =
    links_kept m spells request of_links (is ∙ (λ i. bodies_with_links from (what_is_asked m).request.path now (size_asked (observing_in m) (what_is_asked m)) (links i) (bodies i)))

heard_from : (from : Endpoint) (bytes : List ℕ) (now : ℕ) (s u t : Server) → u.parts ≡ s.parts → u.bodies ≡ s.bodies → u.links ≡ s.links → HearsBlocks from bytes now u t
    → HearsBlocks from bytes now s t
heard_from from bytes now s u t parts bodies links h = record {
  calls = h.calls;
  parts = h.parts ∙ ap (λ (ps : List Part). parts_after ps h.calls) parts;
  blocks = h.blocks;
  bodies = bodies_from from bytes now s u t bodies links h.bodies;
  links = h.links ∙ links;
}

pub hears_blocks : (from : Endpoint) (bytes : List ℕ) (now : ℕ) (h : Heard) (s t : Server) → Hears from bytes now h s t → HearsBlocks from bytes now s t
hears_blocks from bytes now h s t (settled (malformed f fault is same)) =
    unheard from bytes now s t (ap (λ (x : Server). x.parts) same) (ap (λ (x : Server). x.bodies) same) (ap (λ (x : Server). x.links) same)
hears_blocks from bytes now h s t (settled (no_request m spells isnt is same)) =
    unheard from bytes now s t (ap (λ (x : Server). x.parts) same) (ap (λ (x : Server). x.bodies) same) (ap (λ (x : Server). x.links) same)
hears_blocks from bytes now h s t (settled (duplicate m kept e met found is)) = unheard from bytes now s t met.same_parts met.same_bodies met.same_links
hears_blocks from bytes now h s t (settled (full m u met is same)) =
    let used = used_blocks (request_type m.kind) u in
    unheard from bytes now s t (ap (λ (x : Server). x.parts) same ∙ (used.0 ∙ met.same_parts)) (ap (λ (x : Server). x.bodies) same ∙ (used.1 ∙ met.same_bodies))
    (ap (λ (x : Server). x.links) same ∙ (used.2 ∙ met.same_links))
hears_blocks from bytes now h s t (admitted m slot u met reads) =
    heard_from from bytes now s u t met.same_parts met.same_bodies met.same_links (reads_blocks from bytes now m slot h u t met.spells met.request reads)

-- ---- what is asked

-- nothing, or the request of a datagram as it is, or with a body that was joined
pub data AsksFor (from : Endpoint) (bytes : List ℕ) (now : ℕ) (h : Heard) : Type 0 where
  asks_nothing : ((what : AskSeen) (ask : PendingReply) → h ≡ asked what ask → ⊥) → AsksFor from bytes now h
  asks_act : (m : CoapMessage) (slot : ℕ) → Spells m bytes → is_request m ≡ true → h ≡ asked (what_is_asked m) (pending_of from now m slot) → AsksFor from bytes now h
  asks_whole : (m : CoapMessage) (slot : ℕ) (b : Block) (body : List ℕ) → h ≡ asked (with_whole_body body (what_is_asked m)) (pending_joined from m slot b)
      → AsksFor from bytes now h

at_once_asks : (bytes : List ℕ) (what : AskSeen) (ask : PendingReply) → answered_at_once bytes ≡ asked what ask → ⊥
at_once_asks bytes what ask is = absurd cc

ignored_asks : (what : AskSeen) (ask : PendingReply) → ignored ≡ asked what ask → ⊥
ignored_asks what ask is = absurd cc

reads_asks : (from : Endpoint) (bytes : List ℕ) (now : ℕ) (m : CoapMessage) (slot : ℕ) (h : Heard) (s t : Server) → Spells m bytes → is_request m ≡ true
    → Reads from now m slot h s t → AsksFor from bytes now h
reads_asks from bytes now m slot h s t spells request (replied r parts sent why replies is) = asks_nothing (λ what ask asks_it. at_once_asks sent what ask (sym is ∙ asks_it))
reads_asks from bytes now m slot h s t spells request (bad_option_ignored number fault non is same) = asks_nothing (λ what ask asks_it. ignored_asks what ask (sym is ∙ asks_it))
reads_asks from bytes now m slot h s t spells request (gives_links sent fine wants of_links get replies is) =
    asks_nothing (λ what ask asks_it. at_once_asks sent what ask (sym is ∙ asks_it))
reads_asks from bytes now m slot h s t spells request (asks fine wants apart is same) = asks_act m slot spells request is
reads_asks from bytes now m slot h s t spells request (reads_whole b place parts body fine wants apart adding there is same) = asks_whole m slot b body.bytes is

pub hears_asks : (from : Endpoint) (bytes : List ℕ) (now : ℕ) (h : Heard) (s t : Server) → Hears from bytes now h s t → AsksFor from bytes now h
hears_asks from bytes now h s t (settled (malformed f fault is same)) = asks_nothing (λ what ask asks_it. not_replied what ask _ (sym asks_it ∙ is))
hears_asks from bytes now h s t (settled (no_request m spells isnt is same)) = asks_nothing (λ what ask asks_it. not_replied what ask _ (sym asks_it ∙ is))
hears_asks from bytes now h s t (settled (duplicate m kept e met found is)) = asks_nothing (λ what ask asks_it. not_duplicate what ask (request_type m.kind) e.reply (sym asks_it ∙ is))
hears_asks from bytes now h s t (settled (full m u met is same)) = asks_nothing (λ what ask asks_it. at_once_asks _ what ask (sym is ∙ asks_it))
hears_asks from bytes now h s t (admitted m slot u met reads) = reads_asks from bytes now m slot h u t met.spells met.request reads

-- ---- what is answered

-- one act is made on it, the parts are as they were, and of the bodies one may be new
pub record Answered (site : Site) (what : AskSeen) (ask : PendingReply) (done : Done) (s : State) (seen : List Sighting) (t : State) : Type 0 where
  pub acts : Acts site what.request done s.thing (calls_in seen) t.thing
  pub parts : t.coap.parts ≡ s.coap.parts
  pub links : t.coap.links ≡ s.coap.links
  pub moment : t.moment ≡ s.moment
  pub bodies : t.coap.bodies ≡ bodies_after ask.blocks ask.from done.outcome s.coap.bodies

pub asked_is_answered : (site : Site) (from : Endpoint) (what : AskSeen) (ask : PendingReply) (s t : State) (seen : List Sighting)
    (answers : AnswersDatagram site from (asked what ask) s seen t) → Answered site what ask answers.0 s seen t
asked_is_answered site from what ask s t seen (done, w) =
    let written = w.other.one.1 in
    let quiet = rest_quiet site (by_coap from what ask) done w.mid t w.second w.other in
    let calls_are : w.one.1 ≡ calls_in seen =
    sym (ap calls_in w.whole ∙ filter_map-append call_in w.first w.second ∙ ap₂ (λ (x y : List HandlerCall). x ++ y) (ap calls_in w.one.3.saw ∙ the_calls w.one.1) quiet.calls ∙ append-nil w.one.1) in
    let thing_is : w.one.0 ≡ t.thing = sym (quiet.thing ∙ ap (λ (x : State). x.thing) w.one.3.next) in
    let performed : w.mid.coap ≡ s.coap = ap (λ (x : State). x.coap) w.one.3.next in
    let answers = answers_blocks ask done.outcome _ w.other.one.0 w.mid.coap written.one.0 written.one.1 in
    let sent : w.other.mid.coap ≡ written.one.0 = ap (λ (x : State). x.coap) written.other.next ∙ ap (λ (x : State). x.coap) written.one.2.next in
    let delivered = delivers_each_same done.emissions w.other.mid t w.other.second w.other.other in
    record {
      acts = subst (λ (x : ThingState). Acts site what.request done s.thing (calls_in seen) x) thing_is
          (subst (λ (x : List HandlerCall). Acts site what.request done s.thing x w.one.0) calls_are w.one.2);
      parts = delivered.parts ∙ (ap (λ (x : Server). x.parts) sent ∙ (answers.0 ∙ ap (λ (x : Server). x.parts) performed));
      links = delivered.links ∙ (ap (λ (x : Server). x.links) sent ∙ (answers.2 ∙ ap (λ (x : Server). x.links) performed));
      moment = delivered.moment
          ∙ (ap (λ (x : State). x.moment) written.other.next ∙ (ap (λ (x : State). x.moment) written.one.2.next ∙ ap (λ (x : State). x.moment) w.one.3.next));
      bodies = delivered.bodies ∙ (ap (λ (x : Server). x.bodies) sent ∙ (answers.1 ∙ ap (λ (x : Server). bodies_after ask.blocks ask.from done.outcome x.bodies) performed));
    }
