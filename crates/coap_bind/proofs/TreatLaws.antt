-- The wish of a request, and its result.
use Rattle.std.proofs.lemmas.Bool.Decides.{nat_tests}
use Rattle.std.proofs.Common.{arith, ◌≡◌, ◌≢◌, ◌≤◌, ◌<◌, ◌∙◌, ℕ, Bool, true, false, List, [], length, remove, slice_get, Option, Some, None, Result, Ok, Err, refl, ap, sym, subst}
use Rattle.std.specs.Prelude.{◌==◌, ◌||◌, option_map, IfSome, if◌then◌else◌}
use Rattle.coap_msg.specs.declared.block.Block.{Block}
use Rattle.coap_msg.specs.declared.constants.TheConstants.{GET, POST, PUT}
use Rattle.coap_msg.specs.Blocks.{IsBlock}
use Rattle.coap_msg.specs.Grammar.{CoapMessage}
use Rattle.coap_blocks.specs.Bodies.{body_for}
use Rattle.coap_blocks.specs.Paths.{largest_path, path_size}
use Rattle.coap_blocks.specs.Parts.{Arrival, Part, living, after_block, Gives}
use Rattle.coap_blocks.specs.declared.added.Added.{Added}
use Rattle.coap_blocks.specs.declared.added.Added.TheVariants.{Complete}
use Rattle.coap_exchange.specs.Table.{IsAwaited}
use Rattle.coap_opts.specs.Reading.{HasBlocks, AskSeen, faults_of, asked as what_is_asked}
use Rattle.thing_ops.specs.declared.outcome.Outcome.TheVariants.{Memory}
use Rattle.coap_bind.specs.declared.blocks.BlockUse.{BlockUse}
use Rattle.coap_bind.specs.declared.blocks.BlockUse.TheVariants as use_of_blocks
use Rattle.coap_bind.specs.declared.blocks.BlockWish.{BlockWish}
use Rattle.coap_bind.specs.declared.blocks.BlockWish.TheVariants as wanted
use Rattle.coap_bind.specs.declared.next.CoapNext.TheVariants.{Send}
use Rattle.coap_bind.specs.declared.pending.PendingReply.{PendingReply}
use Rattle.coap_bind.specs.declared.server.Server.{Server}
use Rattle.coap_bind.specs.declared.observing.Observing.{Observing}
use Rattle.coap_bind.specs.declared.observing.Observing.TheVariants as observing
use Rattle.coap_bind.specs.Blocks.{IsUse, added_reply, block2_of, later_reply, use_of, wanted_by_body, wanted_by_get, wanted_of}
use Rattle.coap_bind.specs.Links.{is_links_path, size_asked, links_reply, method_reply}
use Rattle.coap_bind.specs.Server.{answered_at_once, asked, observing_in, pending_with, pending_of, pending_joined, wanted_in, with_parts, with_whole_body, block_arrival, Replies, no_memory, later_block, joined, takes_no_other_verb, takes_no_body, links_given, Reads, gives_links, asks, asks_whole}
use Rattle.coap_bind.specs.Observing.{observing_of}
use Rattle.coap_bind.specs.Settling.{AnswersBlock, answered, for_links, whole, AnswersLinks, gives, refuses, HasWhole, IsAdded, IsReadOf, ReadsAs}
use Rattle.coap_bind.specs.Telling.{MayAnswer, RepliesAs}
use Rattle.coap_bind.specs.Writing.{Reply, reply_of, ReplyHead, head_of, head_in}
use Rattle.coap_bind.proofs.ReadingLaws.{reads_replied}
use Rattle.coap_bind.proofs.WholeLaws.{whole_is_short}

pub wanted_is : (p : PendingReply) (code : ℕ) (what : AskSeen) (m : CoapMessage) (w : BlockWish) → IsReadOf p code what m → wanted_of code p.observing what ≡ w → wanted_in m ≡ w
wanted_is p code what m w r is = sym (λ i. wanted_of (r.code_is i) (r.observing i) (r.what_is i)) ∙ is

path_is : {a b : AskSeen} → a ≡ b → (is : Bool) → is_links_path a.request.path ≡ is → is_links_path b.request.path ≡ is
path_is {a} {b} same is h = subst (λ (x : AskSeen). is_links_path x.request.path ≡ is) same h

-- a request that was read, once its wish for the observers is known
pub is_read : (p : PendingReply) (o : Observing) (what : AskSeen) (m : CoapMessage) → head_in p ≡ head_of m → what ≡ what_is_asked m → faults_of m.options ≡ []
    → o ≡ observing_of m.code what.observe → IsReadOf (record p { observing = o }) m.code what m
is_read p o what m head what_is none is = record {
  head = head;
  observing = is ∙ ap (λ (x : AskSeen). observing_of m.code x.observe) what_is;
  code_is = refl;
  what_is = what_is;
  faultless = none;
}

-- the reply that is pending is that to the request, where blocks have this part in it
abbrev with_use : BlockUse → PendingReply → PendingReply
with_use u p = record p { blocks = u }

pending_is : (p : PendingReply) (m : CoapMessage) (u v : BlockUse) → head_in p ≡ head_of m → p.observing ≡ observing_in m → u ≡ v → with_use u p ≡ pending_with v p.from m p.slot
pending_is p m u v head observing same = λ i. record {
  kind = (head i).kind;
  id = (head i).id;
  token = (head i).token;
  slot = p.slot;
  from = p.from;
  observing = observing i;
  blocks = same i;
}

-- the pending reply to a request that wants an act
abbrev pub asked_pending : PendingReply → ℕ → ℕ → AskSeen → PendingReply
asked_pending p now code what = record p { blocks = use_of now code p.observing what }

pub treat_asks : (p : PendingReply) (now code : ℕ) (what : AskSeen) (ticket : PendingReply) (m : CoapMessage) (s : Server) → IsReadOf p code what m
    → wanted_in m ≡ wanted.Act → is_links_path what.request.path ≡ false → ticket ≡ asked_pending p now code what → Reads p.from now m p.slot (asked what ticket) s s
treat_asks p now code what ticket m s r act apart is =
    let which : ticket ≡ pending_of p.from now m p.slot =
    is ∙ pending_is p m (use_of now code p.observing what) (use_of now m.code (observing_in m) (what_is_asked m)) r.head r.observing
    (λ i. use_of now (r.code_is i) (r.observing i) (r.what_is i)) in
    asks r.faultless act (path_is r.what_is false apart) (λ i. asked (r.what_is i) (which i)) refl

pub treat_out_of_memory : (p : PendingReply) (now code : ℕ) (what : AskSeen) (m : CoapMessage) (n : ℕ) (old new : List ℕ) (s t : Server) → IsReadOf p code what m
    → RepliesAs (reply_of Memory) p n old new s t → ReadsAs p.from now m p.slot (Send n) old new s t
treat_out_of_memory p now code what m n old new s t r h =
    reads_replied p now m n (reply_of Memory) s.parts old new s t r.head (no_memory r.faultless refl refl) h

-- ---- the links

-- a request with this head that wants this of the observers and asks this was replied to with the links
abbrev LinksReplied : PendingReply → ℕ → Observing → AskSeen → ReplyHead → List ℕ → Server → Server → Type 0
LinksReplied p now o a head bytes s t =
    Replies (links_reply (size_asked o a) s.links) head p.slot bytes (links_given p.from now head.token o a s) t

pub treat_links : (p : PendingReply) (now code : ℕ) (what : AskSeen) (m : CoapMessage) (n : ℕ) (old new : List ℕ) (s t : Server) → IsReadOf p code what m
    → wanted_in m ≡ wanted.Act → is_links_path what.request.path ≡ true → AnswersLinks p code now what n old new s t
    → ReadsAs p.from now m p.slot (Send n) old new s t
treat_links p now code what m n old new s t r act links (gives get h) =
    let F : Observing → AskSeen → ReplyHead → Type 0 = λ o a x. LinksReplied p now o a x h.bytes s t in
    let given : F (observing_in m) (what_is_asked m) (head_of m)
    = subst (λ (x : ReplyHead). F (observing_in m) (what_is_asked m) x) r.head
    (subst (λ (a : AskSeen). F (observing_in m) a (head_in p)) r.what_is (subst (λ (o : Observing). F o what (head_in p)) r.observing h.replies)) in
    (answered_at_once h.bytes, gives_links h.bytes r.faultless act (path_is r.what_is true links) (sym r.code_is ∙ get) given refl, (h.bytes, refl, h.written))
treat_links p now code what m n old new s t r act links (refuses other h) =
    reads_replied p now m n method_reply s.parts old new s t r.head
    (takes_no_other_verb r.faultless act (path_is r.what_is true links) (λ get. other (r.code_is ∙ get)) refl refl) h

-- the reply to a request for a later block
abbrev pub later_of : PendingReply → ℕ → Block → AskSeen → Server → Reply
later_of p now b what s = later_reply b (option_map (λ x. x.content) (body_for p.from what.request.path now s.bodies))

pub treat_later : (p : PendingReply) (now code : ℕ) (what : AskSeen) (m : CoapMessage) (b : Block) (n : ℕ) (old new : List ℕ) (s t : Server) → IsReadOf p code what m
    → wanted_of code p.observing what ≡ wanted.LaterBlock b → RepliesAs (later_of p now b what s) p n old new s t
    → ReadsAs p.from now m p.slot (Send n) old new s t
treat_later p now code what m b n old new s t r later h =
    reads_replied p now m n (later_of p now b (what_is_asked m) s) s.parts old new s t r.head
    (later_block b r.faultless (wanted_is p code what m (wanted.LaterBlock b) r later) refl refl)
    (subst (λ (x : AskSeen). RepliesAs (later_of p now b x s) p n old new s t) r.what_is h)

-- ---- joining

-- a block as the parts have it
abbrev pub block_of : PendingReply → ℕ → ℕ → Block → AskSeen → Arrival
block_of p now code b what = record {
  origin = record { from = p.from; code = code; path = what.request.path };
  block = b;
  payload = what.request.body;
  moment = now;
}

-- the block that was added is that of the request that was read
pub added_of : (p : PendingReply) (now code : ℕ) (what : AskSeen) (m : CoapMessage) (b : Block) (s : Server) (added : Added) (parts : List Part) → IsReadOf p code what m
    → wanted_of code p.observing what ≡ wanted.Joining b → Gives (after_block (block_of p now code b what) (living now s.parts)) added parts
    → IsAdded p now what m b added s (with_parts parts s)
added_of p now code what m b s added parts r joining gives_parts =
    let same : block_of p now code b what ≡ block_arrival p.from now m b =
    λ i. record {
      origin = record { from = p.from; code = r.code_is i; path = (r.what_is i).request.path };
      block = b;
      payload = (r.what_is i).request.body;
      moment = now;
    } in
    record {
      head = r.head;
      observing = r.observing;
      what_is = r.what_is;
      faultless = r.faultless;
      wanted = wanted_is p code what m (wanted.Joining b) r joining;
      adds = subst (λ (a : Arrival). Gives (after_block a (living now s.parts)) added parts) same gives_parts;
      after = refl;
    }

-- a body that becomes whole is in its place, and short
pub has_whole : (a : Arrival) (parts after : List Part) (added : Added) → Gives (after_block a parts) added after
    → ((place : ℕ) → added ≡ Complete place → place < length after) → HasWhole added after
has_whole a parts after added gives_parts within = λ place is.
    (within place is, whole_is_short a parts after place (subst (λ (x : Added). Gives (after_block a parts) x after) is gives_parts))

treat_added : (p : PendingReply) (now : ℕ) (what : AskSeen) (m : CoapMessage) (b : Block) (added : Added) (reply : Reply) (n : ℕ) (old new : List ℕ) (s u t : Server)
    → added_reply b added ≡ Some reply → RepliesAs reply p n old new u t → IsAdded p now what m b added s u
    → ReadsAs p.from now m p.slot (Send n) old new s t
treat_added p now what m b added reply n old new s u t is h r =
    reads_replied p now m n reply u.parts old new s t r.head (joined b added r.faultless r.wanted r.adds is)
    (subst (λ (x : Server). RepliesAs reply p n old new x t) r.after h)

-- a body that is whole, for the links
treat_no_body : (p : PendingReply) (now : ℕ) (what : AskSeen) (m : CoapMessage) (b : Block) (place n : ℕ) (old new : List ℕ) (s u t : Server)
    → is_links_path what.request.path ≡ true → RepliesAs method_reply p n old new (with_parts (remove u.parts place) u) t → IsAdded p now what m b (Complete place) s u
    → ReadsAs p.from now m p.slot (Send n) old new s t
treat_no_body p now what m b place n old new s u t links h r =
    reads_replied p now m n method_reply (remove u.parts place) old new s t r.head
    (takes_no_body b place u.parts r.faultless r.wanted (path_is r.what_is true links) r.adds refl refl)
    (subst (λ (x : Server). RepliesAs method_reply p n old new (with_parts (remove u.parts place) x) t) r.after h)

-- a block that is answered, in as many bytes
pub treat_answered : (p : PendingReply) (now : ℕ) (what : AskSeen) (m : CoapMessage) (b : Block) (added : Added) (n : ℕ) (answer : Result ℕ ℕ) (old new : List ℕ) (s u t : Server)
    → AnswersBlock p what.request.path b added answer old new u t → answer ≡ Err n → IsAdded p now what m b added s u
    → ReadsAs p.from now m p.slot (Send n) old new s t
treat_answered p now what m b added n answer old new s u t (answered reply k is h said) err r =
    let same : k ≡ n = cc in
    subst (λ (x : ℕ). ReadsAs p.from now m p.slot (Send x) old new s t) same (treat_added p now what m b added reply k old new s u t is h r)
treat_answered p now what m b added n answer old new s u t (for_links place k is links h said) err r =
    let same : k ≡ n = cc in
    subst (λ (x : ℕ). ReadsAs p.from now m p.slot (Send x) old new s t) same
    (treat_no_body p now what m b place k old new s u t links h (subst (λ (x : Added). IsAdded p now what m b x s u) is r))
treat_answered p now what m b added n answer old new s u t (whole place is apart same_bytes same said) err r = absurd (cc)

-- the findings where a body is whole
pub record IsWhole (path : List (List ℕ)) (added : Added) (place : ℕ) (old new : List ℕ) (s t : Server) : Type 0 where
  pub added_is : added ≡ Complete place
  pub apart : is_links_path path ≡ false
  pub same_bytes : new ≡ old
  pub same : t ≡ s

pub whole_found : (p : PendingReply) (path : List (List ℕ)) (b : Block) (added : Added) (place : ℕ) (answer : Result ℕ ℕ) (old new : List ℕ) (s t : Server)
    → AnswersBlock p path b added answer old new s t → answer ≡ Ok place → IsWhole path added place old new s t
whole_found p path b added place answer old new s t (answered reply k is h said) ok = absurd (cc)
whole_found p path b added place answer old new s t (for_links at k is links h said) ok = absurd (cc)
whole_found p path b added place answer old new s t (whole at is apart same_bytes same said) ok =
    let one : at ≡ place = cc in
    record { added_is = is ∙ ap Complete one; apart = apart; same_bytes = same_bytes; same = same }

-- the block that made it whole
pub added_whole : (p : PendingReply) (now : ℕ) (what : AskSeen) (m : CoapMessage) (b : Block) (added : Added) (place : ℕ) (old new : List ℕ) (s u v : Server)
    → IsAdded p now what m b added s u → IsWhole what.request.path added place old new u v → IsAdded p now what m b (Complete place) s v
added_whole p now what m b added place old new s u v r is =
    subst (λ (x : Server). IsAdded p now what m b (Complete place) s x) (sym is.same) (subst (λ (x : Added). IsAdded p now what m b x s u) is.added_is r)

-- the part whose bytes these are
part_there : (o : Option Part) (bytes : List ℕ) → option_map (λ p. p.bytes) o ≡ Some bytes → (p : Part) × (o ≡ Some p) × (p.bytes ≡ bytes)
part_there None bytes e = absurd cc
part_there (Some p) bytes e = (p, refl, cc)

-- the pending reply to a request that came in blocks
abbrev pub whole_pending : PendingReply → Block → PendingReply
whole_pending p b = record p { blocks = use_of_blocks.Joined b }

pub treat_whole : (p : PendingReply) (now : ℕ) (what whole_ask : AskSeen) (ticket : PendingReply) (m : CoapMessage) (b : Block) (place : ℕ) (bytes : List ℕ) (s u t : Server)
    → is_links_path what.request.path ≡ false → ticket ≡ whole_pending p b → option_map (λ x. x.bytes) (slice_get u.parts place) ≡ Some bytes
    → whole_ask ≡ with_whole_body bytes what → t ≡ with_parts (remove u.parts place) u → IsAdded p now what m b (Complete place) s u
    → Reads p.from now m p.slot (asked whole_ask ticket) s t
treat_whole p now what whole_ask ticket m b place bytes s u t apart is there whole_is after r =
    let part = part_there (slice_get u.parts place) bytes there in
    let which : ticket ≡ pending_joined p.from m p.slot b = is ∙ pending_is p m (use_of_blocks.Joined b) (use_of_blocks.Joined b) r.head r.observing refl in
    let what_of : whole_ask ≡ with_whole_body part.0.bytes (what_is_asked m) = whole_is ∙ (λ i. with_whole_body (sym part.2 i) (r.what_is i)) in
    asks_whole b place u.parts part.0 r.faultless r.wanted (path_is r.what_is false apart) r.adds part.1
    (λ i. asked (what_of i) (which i)) (after ∙ ap (λ (x : Server). with_parts (remove u.parts place) x) r.after)

-- ---- the bounds of a wish

later_block_at : (b : Block) (x : Option Block) → IfSome x IsBlock → wanted_by_get x ≡ wanted.LaterBlock b → IsBlock b
later_block_at b None fits e = absurd cc
later_block_at b (Some y) fits e = by_test (y.number == 0) e
  where
    by_test : (t : Bool) → (if t then wanted.Act else wanted.LaterBlock y) ≡ wanted.LaterBlock b → IsBlock b
    by_test true e' = absurd cc
    by_test false e' = let same : y ≡ b = cc in subst IsBlock same fits

joining_block_at : (b : Block) (x : Option Block) → IfSome x IsBlock → wanted_by_body x ≡ wanted.Joining b → IsBlock b
joining_block_at b None fits e = absurd cc
joining_block_at b (Some y) fits e = let same : y ≡ b = cc in subst IsBlock same fits

get_wants_no_joining : (b : Block) (x : Option Block) → wanted_by_get x ≡ wanted.Joining b → ⊥
get_wants_no_joining b None e = cc
get_wants_no_joining b (Some y) e = by_test (y.number == 0) e
  where
    by_test : (t : Bool) → (if t then wanted.Act else wanted.LaterBlock y) ≡ wanted.Joining b → ⊥
    by_test true e' = cc
    by_test false e' = cc

body_wants_no_later : (b : Block) (x : Option Block) → wanted_by_body x ≡ wanted.LaterBlock b → ⊥
body_wants_no_later b None e = cc
body_wants_no_later b (Some y) e = cc

block2_fits : (o : Observing) (a : AskSeen) → HasBlocks a → IfSome (block2_of o a) IsBlock
block2_fits observing.Registers a h = tt
block2_fits observing.Unchanged a h = h.block2
block2_fits observing.Deregisters a h = h.block2

pub later_is_block : (code : ℕ) (o : Observing) (a : AskSeen) (b : Block) → HasBlocks a → wanted_of code o a ≡ wanted.LaterBlock b → IsBlock b
later_is_block code o a b h e = by_tests (code == GET) (code == POST || code == PUT) e
  where
    by_tests : (get body : Bool) → (if get then wanted_by_get (block2_of o a) else if body then wanted_by_body a.block1 else wanted.Act) ≡ wanted.LaterBlock b → IsBlock b
    by_tests true body e' = later_block_at b (block2_of o a) (block2_fits o a h) e'
    by_tests false true e' = absurd (body_wants_no_later b a.block1 e')
    by_tests false false e' = absurd cc

pub joining_is_block : (code : ℕ) (o : Observing) (a : AskSeen) (b : Block) → HasBlocks a → wanted_of code o a ≡ wanted.Joining b → IsBlock b
joining_is_block code o a b h e = by_tests (code == GET) (code == POST || code == PUT) e
  where
    by_tests : (get body : Bool) → (if get then wanted_by_get (block2_of o a) else if body then wanted_by_body a.block1 else wanted.Act) ≡ wanted.Joining b → IsBlock b
    by_tests true body e' = absurd (get_wants_no_joining b (block2_of o a) e')
    by_tests false true e' = joining_block_at b a.block1 h.block1 e'
    by_tests false false e' = absurd cc

szx_fits : (x : Option Block) → IfSome x IsBlock → IfSome (option_map (λ b. b.szx) x) (λ z. z ≤ 6)
szx_fits None fits = tt
szx_fits (Some b) fits = fits.szx

-- the size that is asked for is such as there is
pub size_fits : (o : Observing) (a : AskSeen) → HasBlocks a → IfSome (size_asked o a) (λ z. z ≤ 6)
size_fits o a h = szx_fits (block2_of o a) (block2_fits o a h)

pub use_fits : (now code : ℕ) (o : Observing) (a : AskSeen) → HasBlocks a → path_size a.request.path ≤ largest_path → IsUse (use_of now code o a)
use_fits now code o a h short = by_test (code == GET)
  where
    by_test : (get : Bool) → IsUse (if get then use_of_blocks.Gives (record { path = a.request.path; szx = option_map (λ b. b.szx) (block2_of o a); moment = now }) else use_of_blocks.Whole)
    by_test true = (szx_fits (block2_of o a) (block2_fits o a h), short)
    by_test false = tt

-- a ticket that is open may be answered
pub open_ticket : (ticket other : PendingReply) (t : Server) → ticket ≡ other → IsAwaited other.slot t.exchanges → length other.token ≤ 8 → IsUse other.blocks → MayAnswer ticket t
open_ticket ticket other t same awaited token fits = subst (λ (a : PendingReply). MayAnswer a t) (sym same) (record { awaited = awaited; token = token; blocks = fits })

-- ---- the part of blocks in the reply to an act

pub whole_use : (now code : ℕ) (o : Observing) (a : AskSeen) → code ≢ GET → use_of_blocks.Whole ≡ use_of now code o a
whole_use now code o a other =
    let t : (code == GET) ≡ false = grind (arith, nat_tests) in
    ap (λ (b : Bool). if b then use_of_blocks.Gives (record { path = a.request.path; szx = size_asked o a; moment = now }) else use_of_blocks.Whole) (sym t)

pub gives_use : (now code : ℕ) (o : Observing) (a : AskSeen) (path : List (List ℕ)) (szx : Option ℕ) → code ≡ GET → path ≡ a.request.path → szx ≡ size_asked o a
    → use_of_blocks.Gives (record { path = path; szx = szx; moment = now }) ≡ use_of now code o a
gives_use now code o a path szx get path_is szx_is =
    let t : (code == GET) ≡ true = grind (arith, nat_tests) in
    (λ i. use_of_blocks.Gives (record { path = path_is i; szx = szx_is i; moment = now }))
    ∙ ap (λ (b : Bool). if b then use_of_blocks.Gives (record { path = a.request.path; szx = size_asked o a; moment = now }) else use_of_blocks.Whole) (sym t)
