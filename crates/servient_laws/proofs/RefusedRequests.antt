-- What is seen of a request that is refused because memory was wanting, and that what is seen of any other begins with
-- something else.
use Rattle.std.proofs.Common.{◌≡◌, ℕ, Bool, List, [], ◌∷◌, ◌++◌, map, Option, Some, None, refl, sym, ap, ap₂, subst, ◌∙◌}
use Rattle.std.specs.Prelude.{if◌then◌else◌}
use Rattle.coap_msg.specs.declared.endpoint.Endpoint.{Endpoint}
use Rattle.coap_msg.specs.Grammar.{spelling}
use Rattle.coap_observe.specs.Watching.{Watching}
use Rattle.thing_ops.specs.declared.outcome.Outcome.{Outcome}
use Rattle.thing_ops.specs.declared.outcome.Outcome.TheVariants as outcome
use Rattle.thing_handler.specs.Turns.{HandlerCall}
use Rattle.thing_core.specs.Thing.{Done, only}
use Rattle.thing_core.proofs.ApartLaws.{PartsAt}
use Rattle.coap_opts.specs.Reading.{AskSeen}
use Rattle.coap_blocks.specs.Bodies.{Body}
use Rattle.coap_bind.specs.declared.pending.PendingReply.{PendingReply}
use Rattle.coap_bind.specs.declared.observing.Observing.{Observing}
use Rattle.coap_bind.specs.declared.observing.Observing.TheVariants as observing
use Rattle.coap_bind.specs.declared.observing.Effect.{Effect}
use Rattle.coap_bind.specs.declared.observing.Effect.TheVariants as effect
use Rattle.coap_bind.specs.declared.server.Server.{Server}
use Rattle.coap_bind.specs.declared.blocks.BlockUse.{BlockUse}
use Rattle.coap_bind.specs.declared.blocks.BlockUse.TheVariants as blocks
use Rattle.coap_bind.specs.Observing.{effect_of, Watches, leaves, cancels, registers}
use Rattle.coap_bind.specs.Blocks.{answer_reply, bodies_after}
use Rattle.coap_bind.specs.Writing.{Reply, reply_of, observed, coap_reply, ReplyHead, head_in}
use Rattle.coap_bind.specs.Server.{Replies, Answers}
use Rattle.http_bind.specs.Replying.{reply}
use Rattle.http_bind.specs.Streams.{HttpReply, Streams, Answers as AnswersRequest, lets_wait, sends_reply}
use Rattle.servient_outside.specs.declared.net.Act.{Act}
use Rattle.servient_outside.specs.declared.net.Act.TheVariants as act
use Rattle.servient_outside.specs.Network.{did}
use Rattle.servient_trace.specs.Trace.{Sighting, at_network, at_handler}
use Rattle.servient_core.specs.Machine.{Site, State, Sends, SendsIfAny, observed_target, AnswersAsk, AnswersMessage}
use Rattle.servient_laws.specs.Determined.{by_coap, IsSign}
use Rattle.servient_laws.proofs.AlikeRequests.{GoesOn, has_called, has_ended}
use Rattle.servient_laws.proofs.MemoryReplies.{answer_says, differs_by_http}
use Rattle.servient_laws.proofs.OwedReplies.{Owes, IsNoRefusal}

-- two lists part where they begin
pub part_here : (x y : Sighting) (rest other a b : List Sighting) → IsSign x → (y ≡ x → ⊥) → a ≡ x ∷ rest → b ≡ y ∷ other → PartsAt IsSign a b
part_here x y rest other a b is apart first second = record { common = []; sign = x; rest = rest; instead = y; other = other; is_sign = is; apart = apart; first = first; second = second }

-- ---- CoAP

abbrev pub sent_to : Endpoint → List ℕ → Sighting
sent_to from bytes = at_network (did (act.Datagram from bytes))

-- the bytes that refuse a request
abbrev pub memory_bytes : ReplyHead → ℕ → List ℕ
memory_bytes head id = spelling (coap_reply (reply_of outcome.Memory) head id)

pub sent_is_sign : (from : Endpoint) (head : ReplyHead) (id : ℕ) → IsSign (sent_to from (memory_bytes head id))
sent_is_sign from head id = by_coap from head id refl

pub sent_once : (from : Endpoint) (a b : List ℕ) → sent_to from a ≡ sent_to from b → a ≡ b
sent_once from a b same = cc

pub no_call_is_sent : (c : HandlerCall) (from : Endpoint) (bytes : List ℕ) → at_handler c ≡ sent_to from bytes → ⊥
no_call_is_sent c from bytes same = cc

-- where memory was wanting, nobody is registered and no number is said
no_effect : (o : Observing) (target : Option ℕ) → effect_of o outcome.Memory target ≡ effect.Nothing
no_effect observing.Unchanged target = refl
no_effect observing.Registers target = refl
no_effect observing.Deregisters target = refl

-- the observers stay
pub record Unwatched (old new : Watching) (observe : Option ℕ) : Type 0 where
  pub says_none : observe ≡ None
  pub stay : new ≡ old

unwatched : (does : Effect) (from : Endpoint) (token : List ℕ) (old new : Watching) (observe : Option ℕ) → does ≡ effect.Nothing → Watches does from token old observe new → Unwatched old new observe
unwatched does from token old new observe none (leaves is isnt same) = record { says_none = isnt; stay = same }
unwatched does from token old new observe none (cancels is isnt same) = absurd (let apart : effect.Nothing ≡ effect.Cancels = sym none ∙ is in cc)
unwatched does from token old new observe none (registers target r is move number) = absurd (let apart : effect.Nothing ≡ effect.Registers target = sym none ∙ is in cc)

pub unwatched_by_memory : (r : PendingReply) (target : Option ℕ) (old new : Watching) (observe : Option ℕ) → Watches (effect_of r.observing outcome.Memory target) r.from r.token old observe new
    → Unwatched old new observe
unwatched_by_memory r target old new observe w = unwatched (effect_of r.observing outcome.Memory target) r.from r.token old new observe (no_effect r.observing target) w

-- want of memory is never said in blocks, and no body is kept for it
memory_is_whole : (x : BlockUse) → answer_reply x outcome.Memory ≡ reply_of outcome.Memory
memory_is_whole blocks.Whole = refl
memory_is_whole (blocks.Gives g) = refl
memory_is_whole (blocks.Joined b) = refl

no_body : (x : BlockUse) (from : Endpoint) (bodies : List Body) → bodies_after x from outcome.Memory bodies ≡ bodies
no_body blocks.Whole from bodies = refl
no_body (blocks.Gives g) from bodies = refl
no_body (blocks.Joined b) from bodies = refl

-- the reply to a request that was out of memory, of the server as it was but for what is kept
pub record RepliesOfMemory (r : PendingReply) (bytes : List ℕ) (s t : Server) : Type 0 where
  pub between : Server
  pub table : between.exchanges ≡ s.exchanges
  pub observers : between.observers ≡ s.observers
  pub next : between.next_id ≡ s.next_id
  pub bodies : between.bodies ≡ s.bodies
  pub parts : between.parts ≡ s.parts
  pub links : between.links ≡ s.links
  pub replies : Replies (reply_of outcome.Memory) (head_in r) r.slot bytes between t

pub refused_by : (r : PendingReply) (o : Outcome) (target : Option ℕ) (bytes : List ℕ) (s t : Server) → o ≡ outcome.Memory → Answers r o target bytes s t → RepliesOfMemory r bytes s t
refused_by r o target bytes s t memory answers =
    let of : Answers r outcome.Memory target bytes s t = subst (λ (x : Outcome). Answers r x target bytes s t) memory answers in
    let un = unwatched_by_memory r target s.observers of.observers of.observe of.watches in
    let said : observed of.observe (answer_reply r.blocks outcome.Memory) ≡ reply_of outcome.Memory =
    ap (λ (n : Option ℕ). observed n (answer_reply r.blocks outcome.Memory)) un.says_none ∙ ap (λ (x : Reply). observed None x) (memory_is_whole r.blocks) in
    record {
      between = record s { observers = of.observers; bodies = bodies_after r.blocks r.from outcome.Memory s.bodies };
      table = refl;
      observers = un.stay;
      next = refl;
      bodies = no_body r.blocks r.from s.bodies;
      parts = refl;
      links = refl;
      replies = subst (λ (x : Reply). Replies x (head_in r) r.slot bytes (record s { observers = of.observers; bodies = bodies_after r.blocks r.from outcome.Memory s.bodies }) t) said of.replies;
    }

-- what is seen of the answer to a request, and the CoAP server then
pub record AnswerSeen (from : Endpoint) (r : PendingReply) (o : Outcome) (target : Option ℕ) (s : State) (a : List Sighting) (t : State) : Type 0 where
  pub bytes : List ℕ
  pub coap : Server
  pub answers : Answers r o target bytes s.coap coap
  pub seen : a ≡ sent_to from bytes ∷ []
  pub after : t ≡ record s { coap = coap }

pub answer_seen : (site : Site) (from : Endpoint) (ask : AskSeen) (r : PendingReply) (done : Done) (s u : State) (a : List Sighting) → AnswersAsk site from ask r done s a u
    → AnswerSeen from r done.outcome (observed_target site s.thing ask) s a u
answer_seen site from ask r done s u a (bytes, w) = record {
  bytes = bytes;
  coap = w.one.0;
  answers = w.one.1;
  seen = w.whole ∙ ap₂ (λ (x y : List Sighting). x ++ y) w.one.2.saw w.other.saw;
  after = w.other.next ∙ w.one.2.next;
}

-- a request that was out of memory is refused by these bytes
pub refusal_seen : (from : Endpoint) (r : PendingReply) (o : Outcome) (target : Option ℕ) (s t : State) (a : List Sighting) → o ≡ outcome.Memory → (e : AnswerSeen from r o target s a t)
    → a ≡ sent_to from (memory_bytes (head_in r) s.coap.next_id) ∷ []
refusal_seen from r o target s t a memory e =
    let by = refused_by r o target e.bytes s.coap e.coap memory e.answers in
    e.seen ∙ ap (λ (x : List ℕ). sent_to from x ∷ []) (by.replies.bytes_are ∙ ap (λ (n : ℕ). memory_bytes (head_in r) n) by.next)

-- and any other by other bytes
pub other_seen : (from : Endpoint) (r : PendingReply) (o : Outcome) (target : Option ℕ) (s t : State) (a : List Sighting) → (o ≡ outcome.Memory → ⊥) → (e : AnswerSeen from r o target s a t)
    → e.bytes ≡ memory_bytes (head_in r) s.coap.next_id → ⊥
other_seen from r o target s t a isnt e same =
    answer_says e.answers.observe r.observing r.blocks o target r.from r.token s.coap.observers e.answers.observers isnt e.answers.watches (head_in r) s.coap.next_id
    (sym e.answers.replies.bytes_are ∙ same)

-- A request in a run was refused before its first call, and the same one goes on in another: then they part here.
pub asks_part : (site : Site) (from : Endpoint) (ask : AskSeen) (r q : PendingReply) (x y : Done) (m n k l : State) (a b first second more other : List Sighting)
    → x ≡ only outcome.Memory → GoesOn b y → head_in r ≡ head_in q → m.coap.next_id ≡ n.coap.next_id
    → AnswersAsk site from ask r x m first k → AnswersAsk site from ask q y n second l → a ≡ [] → PartsAt IsSign (a ++ (first ++ more)) (b ++ (second ++ other))
asks_part site from ask r q x y m n k l a b first second more other is goes heads ids one two none = by goes
  where
    refusal : Sighting
    refusal = sent_to from (memory_bytes (head_in r) m.coap.next_id)

    begins : a ++ (first ++ more) ≡ refusal ∷ more
    begins =
        ap₂ (λ (z w : List Sighting). z ++ (w ++ more)) none
        (refusal_seen from r x.outcome (observed_target site m.thing ask) m k first (ap (λ (d : Done). d.outcome) is) (answer_seen site from ask r x m k first one))

    by : GoesOn b y → PartsAt IsSign (a ++ (first ++ more)) (b ++ (second ++ other))
    by (has_called c rest called) =
        part_here refusal (at_handler c) more (rest ++ (second ++ other)) (a ++ (first ++ more)) (b ++ (second ++ other)) (sent_is_sign from (head_in r) m.coap.next_id)
        (no_call_is_sent c from (memory_bytes (head_in r) m.coap.next_id)) begins (ap (λ (z : List Sighting). z ++ (second ++ other)) called)
    by (has_ended nothing isnt) =
        let e = answer_seen site from ask q y n l second two in
        part_here refusal (sent_to from e.bytes) more other (a ++ (first ++ more)) (b ++ (second ++ other)) (sent_is_sign from (head_in r) m.coap.next_id)
        (λ same. other_seen from q y.outcome (observed_target site n.thing ask) n l second isnt e
        (sent_once from e.bytes (memory_bytes (head_in r) m.coap.next_id) same ∙ ap₂ (λ (h : ReplyHead) (i : ℕ). memory_bytes h i) heads ids))
        begins (ap₂ (λ (z w : List Sighting). z ++ (w ++ other)) nothing e.seen)

-- ---- HTTP

abbrev pub sent_on : ℕ → List ℕ → Sighting
sent_on c bytes = at_network (did (act.Sent c bytes))

pub sent_on_once : (c : ℕ) (a b : List ℕ) → sent_on c a ≡ sent_on c b → a ≡ b
sent_on_once c a b same = cc

pub no_call_is_sent_on : (h : HandlerCall) (c : ℕ) (bytes : List ℕ) → at_handler h ≡ sent_on c bytes → ⊥
no_call_is_sent_on h c bytes same = cc

-- a request by HTTP was refused
pub record RefusedByHttp (c : ℕ) (a : List Sighting) : Type 0 where
  pub bodiless : Bool
  pub closes : Bool
  pub bytes : List ℕ
  pub says : reply bodiless closes outcome.Memory ≡ Some bytes
  pub more : List Sighting
  pub seen : a ≡ sent_on c bytes ∷ more

-- or it wasn't: it has another reply, or it waits and nothing is seen
pub data AnsweredByHttp (c : ℕ) (a : List Sighting) (t : State) : Type 0 where
  has_replied : (bytes : List ℕ) (more : List Sighting) → a ≡ sent_on c bytes ∷ more → IsNoRefusal c (sent_on c bytes) → AnsweredByHttp c a t
  has_to_wait : a ≡ [] → Owes c t.http → AnsweredByHttp c a t

pub refused_by_http : (c : ℕ) (done : Done) (s t : State) (a : List Sighting) → done.outcome ≡ outcome.Memory → AnswersMessage c done s a t → RefusedByHttp c a
refused_by_http c done s t a memory (sent, w) = by sent w.one.1 w.other
  where
    closing : Bool → List Act
    closing closes = if closes then act.Closed c ∷ [] else []

    by : (sent : Option HttpReply) → AnswersRequest c done.outcome s.moment sent s.http w.one.0 → SendsIfAny c sent w.mid w.second t → RefusedByHttp c a
    by sent (lets_wait target is waits none) sends = absurd (let apart : outcome.Memory ≡ outcome.Wait target = sym memory ∙ is in cc)
    by sent (sends_reply bytes closes none replies is) sends =
        let does : Sends c (record { bytes = bytes; closes = closes }) w.mid w.second t = subst (λ (x : Option HttpReply). SendsIfAny c x w.mid w.second t) is sends in
        record {
          bodiless = replies.1.bodiless;
          closes = closes;
          bytes = bytes;
          says = subst (λ (o : Outcome). reply replies.1.bodiless closes o ≡ Some bytes) memory replies.5;
          more = map (λ x. at_network (did x)) (closing closes);
          seen = w.whole ∙ ap₂ (λ (x y : List Sighting). x ++ y) w.one.2.saw does.saw;
        }

pub answered_by_http : (c : ℕ) (done : Done) (s t : State) (a : List Sighting) → (done.outcome ≡ outcome.Memory → ⊥) → AnswersMessage c done s a t → AnsweredByHttp c a t
answered_by_http c done s t a isnt (sent, w) = by sent w.one.1 w.other
  where
    closing : Bool → List Act
    closing closes = if closes then act.Closed c ∷ [] else []

    by : (sent : Option HttpReply) → AnswersRequest c done.outcome s.moment sent s.http w.one.0 → SendsIfAny c sent w.mid w.second t → AnsweredByHttp c a t
    by sent (lets_wait target is waits none) sends =
        let stays = subst (λ (x : Option HttpReply). SendsIfAny c x w.mid w.second t) none sends in
        has_to_wait (w.whole ∙ ap₂ (λ (x y : List Sighting). x ++ y) w.one.2.saw stays.saw)
        (subst (λ (z : State). Owes c z.http) (sym (stays.next ∙ w.one.2.next))
        (subst (λ (h : Streams). Owes c h) (sym waits.4) (record { connection = waits.0; owed = waits.1; there = waits.2; is = waits.3 })))
    by sent (sends_reply bytes closes none replies is) sends =
        let does : Sends c (record { bytes = bytes; closes = closes }) w.mid w.second t = subst (λ (x : Option HttpReply). SendsIfAny c x w.mid w.second t) is sends in
        has_replied bytes (map (λ x. at_network (did x)) (closing closes)) (w.whole ∙ ap₂ (λ (x y : List Sighting). x ++ y) w.one.2.saw does.saw)
        (λ bodiless shuts memory says same.
        differs_by_http done.outcome isnt replies.1.bodiless closes bodiless shuts bytes memory replies.5 says (sent_on_once c bytes memory same))
