-- Each datagram that the server takes is passed over, or leads to one of the cases of `Led`.
use Rattle.std.proofs.Common.{◌≡◌, ◌≢◌, ◌⊎◌, ℕ, ◌∙◌, true, false, Option, Some, None, List, [], ◌∷◌, inl, inr, refl, sym, ap, subst}
use Rattle.std.specs.Prelude.{option_map, slice_get}
use Rattle.std.proofs.lemmas.Option.{same_Some}
use Rattle.coap_msg.specs.declared.block.Block.{Block}
use Rattle.coap_msg.specs.declared.endpoint.Endpoint.{Endpoint}
use Rattle.coap_msg.specs.declared.message.RequestType.{RequestType}
use Rattle.coap_msg.specs.declared.message.RequestType.TheVariants.{Confirmable, NonConfirmable}
use Rattle.coap_msg.specs.Grammar.{CoapMessage, spelling}
use Rattle.coap_msg.specs.Requests.{request_type}
use Rattle.coap_msg.proofs.Messages.{at_most_one_message}
use Rattle.coap_msg.proofs.FaultLaws.{no_fault_of_message}
use Rattle.coap_exchange.specs.declared.met.Met.TheVariants.{Fresh}
use Rattle.coap_blocks.specs.Bodies.{Body, body_for}
use Rattle.coap_blocks.specs.Parts.{Part, living, after_block, Gives}
use Rattle.coap_blocks.specs.declared.added.Added.{Added}
use Rattle.coap_blocks.specs.declared.added.Added.TheVariants.{Complete}
use Rattle.thing_ops.specs.Outcomes.{HasCode}
use Rattle.coap_opts.specs.declared.fault.AskFault.{AskFault}
use Rattle.coap_opts.specs.Reading.{AskSeen, faults_of, asked as what_is_asked}
use Rattle.coap_observe.specs.Watching.{Watching}
use Rattle.coap_bind.specs.declared.pending.PendingReply.{PendingReply}
use Rattle.coap_bind.specs.declared.server.Server.{Server}
use Rattle.coap_bind.specs.declared.blocks.BlockUse.{BlockUse}
use Rattle.coap_bind.specs.declared.blocks.BlockUse.TheVariants.{Joined}
use Rattle.coap_bind.specs.declared.blocks.BlockWish.TheVariants as wanted
use Rattle.coap_bind.specs.Blocks.{use_of, answer_reply, bodies_after}
use Rattle.coap_bind.specs.Links.{size_asked, links_reply, bodies_with_links}
use Rattle.coap_bind.specs.Observing.{effect_of, Watches}
use Rattle.coap_bind.specs.declared.observing.Observing.{Observing}
use Rattle.coap_bind.specs.Writing.{Reply, full_reply, observed, head_of, coap_reply, ReplyHead, head_in}
use Rattle.coap_bind.specs.Laws.{HasShortPlace}
use Rattle.coap_bind.specs.Server.{Heard, ignored, answered_at_once, asked, with_id_used, with_kept, with_parts, with_bodies, with_observers, with_whole_body, is_request, block_arrival, Adds, pending_of, pending_joined, observing_in, wanted_in, asks_links, links_given, Replies, IsMet, Settles, malformed, no_request, duplicate, full, bad_option, bad_block, for_proxy, no_memory, later_block, joined, takes_no_other_verb, takes_no_body, IsAnsweredAtOnce, replied, bad_option_ignored, gives_links, asks, asks_whole, settled, admitted, Hears, Answers}
use Rattle.coap_bind.specs.Treating.{Acted, ignores, answers, acts, sent_back}
use Rattle.coap_bind.proofs.HistoryLaws.{not_replied, not_duplicate}
use Rattle.servient_world.specs.Led.{Led, to_refusal, to_no_memory, to_links, to_later_block, to_parts, to_act, to_act_on_whole, act_in, LeadsTo, is_refused, finds_no_memory, gets_links, gets_no_links, gets_block, is_joined, is_acted_on, is_acted_on_whole, SameBlocks, BlockComes, leaves_text, leaves_nothing, drops_body, Leaves, IsPassedOver, IsLed, AllAreLed}

-- ---- the server after a reply

-- nothing but the table of exchanges and the next message ID changed
record Untouched (v t : Server) : Type 0 where
  bodies : t.bodies ≡ v.bodies
  parts : t.parts ≡ v.parts
  links : t.links ≡ v.links
  observers : t.observers ≡ v.observers

reply_leaves : (kind : RequestType) (slot : ℕ) (bytes : List ℕ) (v : Server) → Untouched v (with_kept kind slot bytes (with_id_used kind v))
reply_leaves Confirmable slot bytes v = record { bodies = refl; parts = refl; links = refl; observers = refl }
reply_leaves NonConfirmable slot bytes v = record { bodies = refl; parts = refl; links = refl; observers = refl }

replied_leaves : (r : Reply) (head : ReplyHead) (slot : ℕ) (bytes : List ℕ) (v t : Server) → Replies r head slot bytes v t → Untouched v t
replied_leaves r head slot bytes v t replies = subst (Untouched v) (sym replies.after) (reply_leaves head.kind slot bytes v)

id_leaves : (kind : RequestType) (v : Server) → Untouched v (with_id_used kind v) × ((with_id_used kind v).exchanges ≡ v.exchanges)
id_leaves Confirmable v = (record { bodies = refl; parts = refl; links = refl; observers = refl }, refl)
id_leaves NonConfirmable v = (record { bodies = refl; parts = refl; links = refl; observers = refl }, refl)

some_fault : (m : CoapMessage) (f : AskFault) → slice_get (faults_of m.options) 0 ≡ Some f → faults_of m.options ≢ []
some_fault m f e none = let no_fault : slice_get (faults_of m.options) 0 ≡ None = ap (λ l. slice_get l 0) none in absurd (cc)

abbrev what_in : AskSeen → Heard → AskSeen
what_in w ignored = w
what_in w (answered_at_once bytes) = w
what_in w (asked what ask) = what

abbrev ask_in : PendingReply → Heard → PendingReply
ask_in a ignored = a
ask_in a (answered_at_once bytes) = a
ask_in a (asked what ask) = ask

-- ---- datagrams that aren't admitted

settled_over : (from : Endpoint) (bytes : List ℕ) (now : ℕ) (h : Heard) (act : Option Acted) (s t : Server) → act ≡ None → Settles from bytes now h s t
    → IsPassedOver bytes now act s t
settled_over from bytes now h act s t none (malformed f fault e same) = record {
  act_is = none;
  same = record { bodies = ap (λ (x : Server). x.bodies) same; parts = ap (λ (x : Server). x.parts) same };
  links = ap (λ (x : Server). x.links) same;
  exchanges = λ m spells request. absurd (no_fault_of_message f m bytes spells fault);
}
settled_over from bytes now h act s t none (no_request n spells isnt e same) = record {
  act_is = none;
  same = record { bodies = ap (λ (x : Server). x.bodies) same; parts = ap (λ (x : Server). x.parts) same };
  links = ap (λ (x : Server). x.links) same;
  exchanges = λ m other request.
      let one : is_request m ≡ false = subst (λ (x : CoapMessage). is_request x ≡ false) (at_most_one_message n m bytes spells other) isnt in
      absurd (cc);
}
settled_over from bytes now h act s t none (duplicate m kept e met found is) = record {
  act_is = none;
  same = record { bodies = met.same_bodies; parts = met.same_parts };
  links = met.same_links;
  exchanges = λ n spells request. met.meets.1;
}
settled_over from bytes now h act s t none (full m u met e same) =
    let left = id_leaves (request_type m.kind) u in
    record {
      act_is = none;
      same = record {
        bodies = ap (λ (x : Server). x.bodies) same ∙ (left.0.bodies ∙ met.same_bodies);
        parts = ap (λ (x : Server). x.parts) same ∙ (left.0.parts ∙ met.same_parts);
      };
      links = ap (λ (x : Server). x.links) same ∙ (left.0.links ∙ met.same_links);
      exchanges = λ n spells request. ap (λ (x : Server). x.exchanges) same ∙ (left.1 ∙ met.meets.1.1);
    }

-- ---- requests that are answered at once

-- a request that is admitted was replied to without an act
led_so : (from : Endpoint) (bytes : List ℕ) (now : ℕ) (act : Option Acted) (back : List (List ℕ)) (s v u t : Server) (m : CoapMessage) (slot : ℕ) (led : Led) (r : Reply) (b : List ℕ)
    → act ≡ None → act_in led ≡ None → IsMet from bytes now m (Fresh slot) s u → Replies r (head_of m) slot b v t → v.next_id ≡ u.next_id → v.links ≡ u.links → back ≡ b ∷ []
    → LeadsTo from now m s.links None led r → Leaves from now m led s t → IsLed from bytes now act back s t
led_so from bytes now act back s v u t m slot led r b none no_act met replies id links is leads leaves = record {
  message = m;
  slot = slot;
  between = u;
  met = met;
  seen = None;
  led = led;
  reply = r;
  leads = leads;
  leaves = leaves;
  act_is = none ∙ sym no_act;
  watches = λ a some. absurd (let wrong : None ≡ Some a = sym none ∙ some in cc);
  sent = inl (is ∙ ap (λ (x : List ℕ). x ∷ []) (replies.bytes_are ∙ ap (λ (n : ℕ). spelling (coap_reply r (head_of m) n)) (id ∙ met.same_id)));
  links = (replied_leaves r (head_of m) slot b v t replies).links ∙ (links ∙ met.same_links);
}

-- the reply was the only thing that was done, but for the parts
left_with : (from : Endpoint) (bytes : List ℕ) (now : ℕ) (s u t : Server) (m : CoapMessage) (slot : ℕ) (r : Reply) (b : List ℕ) (parts : List Part)
    → IsMet from bytes now m (Fresh slot) s u → Replies r (head_of m) slot b (with_parts parts u) t → (t.bodies ≡ s.bodies) × (t.parts ≡ parts)
left_with from bytes now s u t m slot r b parts met replies =
    let left = replied_leaves r (head_of m) slot b (with_parts parts u) t replies in (left.bodies ∙ met.same_bodies, left.parts)

same_left : (s u t : Server) (parts : List Part) → (t.bodies ≡ s.bodies) × (t.parts ≡ parts) → parts ≡ u.parts → u.parts ≡ s.parts → SameBlocks s t
same_left s u t parts left same stays = record { bodies = left.0; parts = left.1 ∙ (same ∙ stays) }

block_comes : (from : Endpoint) (now : ℕ) (m : CoapMessage) (b : Block) (added : Added) (s u : Server) (parts : List Part) → u.parts ≡ s.parts → Adds from now m b u added parts
    → BlockComes from now m (block_arrival from now m b) added s parts
block_comes from now m b added s u parts same adds = record {
  arrival = refl;
  gives = subst (λ (ps : List Part). Gives (after_block (block_arrival from now m b) (living now ps)) added parts) same adds;
}

led_at_once : (from : Endpoint) (bytes : List ℕ) (now : ℕ) (act : Option Acted) (back : List (List ℕ)) (s u t : Server) (m : CoapMessage) (slot : ℕ) (r : Reply) (parts : List Part) (b : List ℕ)
    → act ≡ None → IsMet from bytes now m (Fresh slot) s u → Replies r (head_of m) slot b (with_parts parts u) t → back ≡ b ∷ [] → IsAnsweredAtOnce from now m r u parts
    → IsLed from bytes now act back s t
led_at_once from bytes now act back s u t m slot r parts b none met replies is (bad_option number fault con says same) =
    led_so from bytes now act back s (with_parts parts u) u t m slot to_refusal r b none refl met replies refl refl is (is_refused (some_fault m _ fault) refl)
    (same_left s u t parts (left_with from bytes now s u t m slot r b parts met replies) same met.same_parts)
led_at_once from bytes now act back s u t m slot r parts b none met replies is (bad_block fault says same) =
    led_so from bytes now act back s (with_parts parts u) u t m slot to_refusal r b none refl met replies refl refl is (is_refused (some_fault m _ fault) refl)
    (same_left s u t parts (left_with from bytes now s u t m slot r b parts met replies) same met.same_parts)
led_at_once from bytes now act back s u t m slot r parts b none met replies is (for_proxy fault says same) =
    led_so from bytes now act back s (with_parts parts u) u t m slot to_refusal r b none refl met replies refl refl is (is_refused (some_fault m _ fault) refl)
    (same_left s u t parts (left_with from bytes now s u t m slot r b parts met replies) same met.same_parts)
led_at_once from bytes now act back s u t m slot r parts b none met replies is (no_memory faultless says same) =
    led_so from bytes now act back s (with_parts parts u) u t m slot to_no_memory r b none refl met replies refl refl is (finds_no_memory refl says)
    (same_left s u t parts (left_with from bytes now s u t m slot r b parts met replies) same met.same_parts)
led_at_once from bytes now act back s u t m slot r parts b none met replies is (later_block block faultless wants says same) =
    let found = option_map (λ (x : Body). x.content) (body_for from (what_is_asked m).request.path now u.bodies) in
    led_so from bytes now act back s (with_parts parts u) u t m slot (to_later_block (what_is_asked m).request.path block found) r b none refl met replies refl refl is
    (gets_block block found wants refl says)
    (ap (λ (bs : List Body). option_map (λ (x : Body). x.content) (body_for from (what_is_asked m).request.path now bs)) met.same_bodies, same_left s u t parts (left_with from bytes now s u t m slot r b parts met replies) same met.same_parts)
led_at_once from bytes now act back s u t m slot r parts b none met replies is (joined block added faultless wants adds says) =
    let left = left_with from bytes now s u t m slot r b parts met replies in
    let comes = block_comes from now m block added s u parts met.same_parts adds in
    led_so from bytes now act back s (with_parts parts u) u t m slot (to_parts (block_arrival from now m block) added) r b none refl met replies refl refl is
    (is_joined block added wants refl says)
    (subst (BlockComes from now m (block_arrival from now m block) added s) (sym left.1) comes, left.0)
led_at_once from bytes now act back s u t m slot r parts b none met replies is (takes_no_other_verb faultless wants links other says same) =
    led_so from bytes now act back s (with_parts parts u) u t m slot to_links r b none refl met replies refl refl is (gets_no_links links refl says)
    (leaves_nothing (same_left s u t parts (left_with from bytes now s u t m slot r b parts met replies) same met.same_parts))
led_at_once from bytes now act back s u t m slot r parts b none met replies is (takes_no_body block place whole faultless wants links adds says same) =
    let left = left_with from bytes now s u t m slot r b parts met replies in
    led_so from bytes now act back s (with_parts parts u) u t m slot to_links r b none refl met replies refl refl is (gets_no_links links refl says)
    (drops_body (block_arrival from now m block) place whole (block_comes from now m block (Complete place) s u whole met.same_parts adds) (left.1 ∙ same) left.0)

-- the links are given
led_to_links : (from : Endpoint) (bytes : List ℕ) (now : ℕ) (act : Option Acted) (back : List (List ℕ)) (s u t : Server) (m : CoapMessage) (slot : ℕ) (b : List ℕ)
    → act ≡ None → IsMet from bytes now m (Fresh slot) s u → wanted_in m ≡ wanted.Act → asks_links m ≡ true
    → Replies (links_reply (size_asked (observing_in m) (what_is_asked m)) u.links) (head_of m) slot b (links_given from now m.token (observing_in m) (what_is_asked m) u) t
    → back ≡ b ∷ [] → IsLed from bytes now act back s t
led_to_links from bytes now act back s u t m slot b none met wants links replies is =
    let v : Server = links_given from now m.token (observing_in m) (what_is_asked m) u in
    let size : Option ℕ = size_asked (observing_in m) (what_is_asked m) in
    let left = replied_leaves (links_reply size u.links) (head_of m) slot b v t replies in
    let with_text : List ℕ → List Body → List Body = λ text bodies. bodies_with_links from (what_is_asked m).request.path now size text bodies in
    led_so from bytes now act back s v u t m slot to_links (links_reply size u.links) b none refl met replies refl refl is
    (gets_links wants links refl (ap (links_reply size) met.same_links))
    (leaves_text links (left.bodies ∙ (ap (λ (text : List ℕ). with_text text u.bodies) met.same_links ∙ ap (with_text s.links) met.same_bodies)) (left.parts ∙ met.same_parts))

-- ---- requests that are asked and answered

-- a request that is admitted was acted on
led_acted : (from : Endpoint) (bytes : List ℕ) (now : ℕ) (act : Option Acted) (back : List (List ℕ)) (s v u t : Server) (m : CoapMessage) (slot : ℕ) (led : Led) (a : Acted) (use_it : BlockUse) (ask : PendingReply) (b : List ℕ)
    → act ≡ Some a → act_in led ≡ Some a → IsMet from bytes now m (Fresh slot) s u → head_in ask ≡ head_of m → ask.slot ≡ slot → ask.from ≡ from → ask.observing ≡ observing_in m → ask.blocks ≡ use_it
    → v.next_id ≡ u.next_id → v.links ≡ u.links → v.observers ≡ u.observers
    → (answer : Answers ask a.outcome a.target b v t) → back ≡ b ∷ []
    → LeadsTo from now m s.links answer.observe led (observed answer.observe (answer_reply use_it a.outcome))
    → (t.bodies ≡ bodies_after use_it from a.outcome v.bodies → t.parts ≡ v.parts → Leaves from now m led s t) → IsLed from bytes now act back s t
led_acted from bytes now act back s v u t m slot led a use_it ask b acted_is same_act met head at place observing blocks id links observers answer is leads leaves =
    let x : Server = with_bodies (bodies_after ask.blocks ask.from a.outcome v.bodies) (with_observers answer.observers v) in
    let r : Reply = observed answer.observe (answer_reply ask.blocks a.outcome) in
    let left = replied_leaves r (head_in ask) ask.slot b x t answer.replies in
    let says : r ≡ observed answer.observe (answer_reply use_it a.outcome) = ap (λ (k : BlockUse). observed answer.observe (answer_reply k a.outcome)) blocks in
    record {
      message = m;
      slot = slot;
      between = u;
      met = met;
      seen = answer.observe;
      led = led;
      reply = observed answer.observe (answer_reply use_it a.outcome);
      leads = leads;
      leaves = leaves (left.bodies ∙ (ap (λ (k : BlockUse). bodies_after k ask.from a.outcome v.bodies) blocks ∙ ap (λ (p : Endpoint). bodies_after use_it p a.outcome v.bodies) place)) left.parts;
      act_is = acted_is ∙ sym same_act;
      watches = λ other some.
          let one : a ≡ other = same_Some a other (sym acted_is ∙ some) in
          subst (λ (y : Acted). Watches (effect_of (observing_in m) y.outcome y.target) from m.token s.observers answer.observe t.observers) one
          (subst (λ (y : Watching). Watches (effect_of (observing_in m) a.outcome a.target) from m.token s.observers answer.observe y) (sym left.observers)
          (subst (λ (y : Watching). Watches (effect_of (observing_in m) a.outcome a.target) from m.token y answer.observe answer.observers) (observers ∙ met.same_observers)
          (subst (λ (q : ReplyHead). Watches (effect_of (observing_in m) a.outcome a.target) from q.token v.observers answer.observe answer.observers) head
          (subst (λ (p : Endpoint). Watches (effect_of (observing_in m) a.outcome a.target) p ask.token v.observers answer.observe answer.observers) place
          (subst (λ (o : Observing). Watches (effect_of o a.outcome a.target) ask.from ask.token v.observers answer.observe answer.observers) observing answer.watches)))));
      sent = inl (is ∙ ap (λ (y : List ℕ). y ∷ []) (answer.replies.bytes_are
          ∙ (ap (λ (q : ReplyHead). spelling (coap_reply r q v.next_id)) head
          ∙ (ap (λ (y : Reply). spelling (coap_reply y (head_of m) v.next_id)) says
          ∙ ap (λ (n : ℕ). spelling (coap_reply (observed answer.observe (answer_reply use_it a.outcome)) (head_of m) n)) (id ∙ met.same_id)))));
      links = left.links ∙ (links ∙ met.same_links);
    }

led_asked : (from : Endpoint) (bytes : List ℕ) (now : ℕ) (act : Option Acted) (back : List (List ℕ)) (s v t : Server) (a : Acted) (ask : PendingReply) (reply : List ℕ)
    → Hears from bytes now (asked a.what ask) s v → HasCode a.outcome → HasShortPlace a.outcome
    → Answers ask a.outcome a.target reply v t → act ≡ Some a → back ≡ reply ∷ [] → IsLed from bytes now act back s t
led_asked from bytes now act back s v t a ask reply (settled (malformed f fault h same)) code place answer acted_is is = absurd (not_replied a.what ask _ h)
led_asked from bytes now act back s v t a ask reply (settled (no_request n spells isnt h same)) code place answer acted_is is = absurd (not_replied a.what ask _ h)
led_asked from bytes now act back s v t a ask reply (settled (duplicate m kept e met found h)) code place answer acted_is is = absurd (not_duplicate a.what ask (request_type m.kind) e.reply h)
led_asked from bytes now act back s v t a ask reply (settled (full m u met h same)) code place answer acted_is is = absurd (cc)
led_asked from bytes now act back s v t a ask reply (admitted m slot u met (replied r parts b why replies h)) code place answer acted_is is = absurd (cc)
led_asked from bytes now act back s v t a ask reply (admitted m slot u met (bad_option_ignored number fault non h same)) code place answer acted_is is = absurd (cc)
led_asked from bytes now act back s v t a ask reply (admitted m slot u met (gives_links b faultless wants links get replies h)) code place answer acted_is is = absurd (cc)
led_asked from bytes now act back s v t a ask reply (admitted m slot u met (asks faultless wants apart h same)) code place answer acted_is is =
    let which : ask ≡ pending_of from now m slot = ap (ask_in ask) h in
    let what : a.what ≡ what_is_asked m = ap (what_in a.what) h in
    let use_it : BlockUse = use_of now m.code (observing_in m) (what_is_asked m) in
    led_acted from bytes now act back s v u t m slot (to_act a) a use_it ask reply acted_is refl met
    (ap head_in which) (ap (λ (x : PendingReply). x.slot) which) (ap (λ (x : PendingReply). x.from) which) (ap (λ (x : PendingReply). x.observing) which) (ap (λ (x : PendingReply). x.blocks) which)
    (ap (λ (x : Server). x.next_id) same) (ap (λ (x : Server). x.links) same) (ap (λ (x : Server). x.observers) same) answer is
    (is_acted_on a wants apart refl what code place refl)
    (λ bodies parts. (bodies ∙ ap (bodies_after use_it from a.outcome) (ap (λ (x : Server). x.bodies) same ∙ met.same_bodies), parts ∙ (ap (λ (x : Server). x.parts) same ∙ met.same_parts)))
led_asked from bytes now act back s v t a ask reply (admitted m slot u met (asks_whole b at parts whole faultless wants apart adds there h same)) code place answer acted_is is =
    let which : ask ≡ pending_joined from m slot b = ap (ask_in ask) h in
    let what : a.what ≡ with_whole_body whole.bytes (what_is_asked m) = ap (what_in a.what) h in
    let arrival = block_arrival from now m b in
    led_acted from bytes now act back s v u t m slot (to_act_on_whole arrival a) a (Joined b) ask reply acted_is refl met
    (ap head_in which) (ap (λ (x : PendingReply). x.slot) which) (ap (λ (x : PendingReply). x.from) which) (ap (λ (x : PendingReply). x.observing) which) (ap (λ (x : PendingReply). x.blocks) which)
    (ap (λ (x : Server). x.next_id) same) (ap (λ (x : Server). x.links) same) (ap (λ (x : Server). x.observers) same) answer is
    (is_acted_on_whole a b whole.bytes wants apart refl what code place refl)
    (λ bodies parts_are. (
      record {
        place = at;
        parts = parts;
        whole = whole;
        comes = block_comes from now m b (Complete at) s u parts met.same_parts adds;
        there = there;
        after = parts_are ∙ ap (λ (x : Server). x.parts) same;
        bodies = bodies ∙ (ap (λ (x : Server). x.bodies) same ∙ met.same_bodies);
      },
      ap (λ (x : AskSeen). x.request.body) what,
    ))

-- ---- all

led_unasked : (from : Endpoint) (bytes : List ℕ) (now : ℕ) (h : Heard) (act : Option Acted) (back : List (List ℕ)) (s t : Server) → act ≡ None → back ≡ sent_back h
    → Hears from bytes now h s t → ((what : AskSeen) (ask : PendingReply) → h ≡ asked what ask → ⊥) → IsPassedOver bytes now act s t ⊎ IsLed from bytes now act back s t
led_unasked from bytes now h act back s t none is (settled settles) unasked = inl (settled_over from bytes now h act s t none settles)
led_unasked from bytes now h act back s t none is (admitted m slot u met (replied r parts b why replies e)) unasked =
    inr (led_at_once from bytes now act back s u t m slot r parts b none met replies (is ∙ ap sent_back e) why)
led_unasked from bytes now h act back s t none is (admitted m slot u met (gives_links b faultless wants links get replies e)) unasked =
    inr (led_to_links from bytes now act back s u t m slot b none met wants links replies (is ∙ ap sent_back e))
led_unasked from bytes now h act back s t none is (admitted m slot u met (bad_option_ignored number fault non e same)) unasked =
    inr (record {
      message = m;
      slot = slot;
      between = u;
      met = met;
      seen = None;
      led = to_refusal;
      reply = full_reply;
      leads = is_refused (some_fault m _ fault) refl;
      leaves = record { bodies = ap (λ (x : Server). x.bodies) same ∙ met.same_bodies; parts = ap (λ (x : Server). x.parts) same ∙ met.same_parts };
      act_is = none;
      watches = λ a some. absurd (let wrong : None ≡ Some a = sym none ∙ some in cc);
      sent = inr (is ∙ ap sent_back e, refl);
      links = ap (λ (x : Server). x.links) same ∙ met.same_links;
    })
led_unasked from bytes now h act back s t none is (admitted m slot u met (asks faultless wants apart e same)) unasked = absurd (unasked _ _ e)
led_unasked from bytes now h act back s t none is (admitted m slot u met (asks_whole b place parts whole faultless wants apart adds there e same)) unasked = absurd (unasked _ _ e)

pub all_are_led : AllAreLed
all_are_led from bytes now act back s t (ignores hears none is) = led_unasked from bytes now ignored act back s t none is hears (λ what ask e. cc)
all_are_led from bytes now act back s t (answers reply hears none is) = led_unasked from bytes now (answered_at_once reply) act back s t none is hears (λ what ask e. cc)
all_are_led from bytes now act back s t (acts a ask reply u hears code place answer acted_is is) =
    inr (led_asked from bytes now act back s u t a ask reply hears code place answer acted_is is)
