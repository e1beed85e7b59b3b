-- The wishes of requests for blocks, and the replies that say or end a block: they are messages, say nothing of
-- Observe, and say a certain block (RFC 7959, section 2).
use Rattle.std.proofs.Common.{◌≡◌, ◌≢◌, ℕ, ◌+◌, ◌<◌, ◌≤◌, ◌^◌, Bool, true, false, Option, Some, None, List, [], ◌∷◌, ◌++◌, length, option_map, inl, inr, refl, sym, ap, subst, arith}
use Rattle.std.specs.Prelude.{◌==◌, ◌||◌, nat_lt, codes, unwrap_or, if◌then◌else◌}
use Rattle.std.proofs.lemmas.Bool.Decides.{nat_tests}
use Rattle.std.proofs.lemmas.Option.{same_Some}
use Rattle.coap_msg.specs.declared.block.Block.{Block}
use Rattle.coap_msg.specs.declared.constants.TheConstants.{GET, POST, PUT, DELETE, BLOCK2, LONGEST_TOKEN}
use Rattle.coap_msg.specs.Blocks.{IsBlock, block_number, block_bytes, block_start}
use Rattle.coap_msg.specs.Grammar.{CoapMessage, AreInOrder, IsWellFormed}
use Rattle.coap_msg.proofs.BlockValues.{blocks_are_read_again}
use Rattle.coap_msg.proofs.NumberValues.{number_length}
use Rattle.thing_ops.specs.declared.outcome.Outcome.{Outcome}
use Rattle.thing_ops.specs.Outcomes.{coap}
use Rattle.thing_ops.specs.declared.verb.Verb.{Verb}
use Rattle.thing_ops.specs.declared.verb.Verb.TheVariants as verb
use Rattle.coap_client.specs.Answers.{sequence_of, block2_of as block_said}
use Rattle.coap_blocks.specs.Bodies.{Content}
use Rattle.coap_blocks.specs.declared.added.Added.{Added}
use Rattle.coap_blocks.specs.declared.added.Added.TheVariants as answer
use Rattle.coap_opts.specs.Reading.{AskSeen, asked as what_is_asked}
use Rattle.coap_bind.specs.declared.blocks.BlockOption.{BlockOption}
use Rattle.coap_bind.specs.declared.blocks.BlockOption.TheVariants as option
use Rattle.coap_bind.specs.declared.blocks.BlockUse.{BlockUse}
use Rattle.coap_bind.specs.declared.blocks.BlockUse.TheVariants as blocks
use Rattle.coap_bind.specs.declared.blocks.BlockWish.{BlockWish}
use Rattle.coap_bind.specs.declared.blocks.BlockWish.TheVariants as wanted
use Rattle.coap_bind.specs.declared.observing.Observing.{Observing}
use Rattle.coap_bind.specs.declared.observing.Observing.TheVariants as observing
use Rattle.coap_bind.specs.Blocks.{block2_of, wanted_by_get, wanted_by_body, use_of, with_block, content_format, content_reply, portion_at, later_reply, block_reply, continue_reply, added_reply, answer_reply}
use Rattle.coap_bind.specs.Observing.{observing_at}
use Rattle.coap_bind.specs.Server.{observing_in, wanted_in, with_whole_body}
use Rattle.coap_bind.specs.Writing.{Reply, word_reply, etag_options, observe_options, reply_options, observed, coap_reply, ReplyHead}
use Rattle.coap_bind.proofs.MessageLaws.{IsResponse}
use Rattle.servient_world.specs.Laws.{blocks_joined, blocks_by, blocks_for}
use Rattle.servient_world.proofs.ReplyLaws.{id_at}

-- ---- the wish of a request

-- it asks for a block after the first
pub record WantsLater (m : CoapMessage) (b : Block) : Type 0 where
  pub code : m.code ≡ GET
  pub block : (what_is_asked m).block2 ≡ Some b
  pub later : b.number ≢ 0

pub not_zero : (n : ℕ) → (n == 0) ≡ false → n ≢ 0
not_zero n e = grind (arith, nat_tests)

same_number : (m n : ℕ) → (m == n) ≡ true → m ≡ n
same_number m n e = grind (arith, nat_tests)

later_at : (x : Option Block) (b : Block) → wanted_by_get x ≡ wanted.LaterBlock b → (x ≡ Some b) × (b.number ≢ 0)
later_at None b e = absurd cc
later_at (Some y) b e = by_test (y.number == 0) refl e
  where
    by_test : (t : Bool) → (y.number == 0) ≡ t → (if t then wanted.Act else wanted.LaterBlock y) ≡ wanted.LaterBlock b → (Some y ≡ Some b) × (b.number ≢ 0)
    by_test true h e' = absurd cc
    by_test false h e' = let same : y ≡ b = cc in (ap (λ (z : Block). Some z) same, subst (λ (z : Block). z.number ≢ 0) same (not_zero y.number h))

some_block2 : (x : Observing) (a : AskSeen) (b : Block) → block2_of x a ≡ Some b → a.block2 ≡ Some b
some_block2 observing.Registers a b e = absurd cc
some_block2 observing.Unchanged a b e = e
some_block2 observing.Deregisters a b e = e

pub wants_later : (m : CoapMessage) (b : Block) → wanted_in m ≡ wanted.LaterBlock b → WantsLater m b
wants_later m b e = by_tests (m.code == GET) (m.code == POST || m.code == PUT) refl e
  where
    body_at : (x : Option Block) → wanted_by_body x ≡ wanted.LaterBlock b → ⊥
    body_at None h = cc
    body_at (Some y) h = cc

    by_tests : (get body : Bool) → (m.code == GET) ≡ get
        → (if get then wanted_by_get (block2_of (observing_in m) (what_is_asked m)) else if body then wanted_by_body (what_is_asked m).block1 else wanted.Act) ≡ wanted.LaterBlock b
        → WantsLater m b
    by_tests true body h e' =
        let it = later_at (block2_of (observing_in m) (what_is_asked m)) b e' in
        record { code = same_number m.code GET h; block = some_block2 (observing_in m) (what_is_asked m) b it.0; later = it.1 }
    by_tests false true h e' = absurd (body_at (what_is_asked m).block1 e')
    by_tests false false h e' = absurd cc

get_at : (x : Option Block) (b : Block) → wanted_by_get x ≡ wanted.Joining b → ⊥
get_at None b e = cc
get_at (Some y) b e = by_test (y.number == 0) e
  where
    by_test : (t : Bool) → (if t then wanted.Act else wanted.LaterBlock y) ≡ wanted.Joining b → ⊥
    by_test true e' = cc
    by_test false e' = cc

body_at : (x : Option Block) (b : Block) → wanted_by_body x ≡ wanted.Joining b → x ≡ Some b
body_at None b e = absurd cc
body_at (Some y) b e = cc

-- it has a block of its body, which is joined to others
pub wants_joining : (m : CoapMessage) (b : Block) → wanted_in m ≡ wanted.Joining b → (what_is_asked m).block1 ≡ Some b
wants_joining m b e = by_tests (m.code == GET) (m.code == POST || m.code == PUT) e
  where
    by_tests : (get body : Bool)
        → (if get then wanted_by_get (block2_of (observing_in m) (what_is_asked m)) else if body then wanted_by_body (what_is_asked m).block1 else wanted.Act) ≡ wanted.Joining b
        → (what_is_asked m).block1 ≡ Some b
    by_tests true body e' = absurd (get_at (block2_of (observing_in m) (what_is_asked m)) b e')
    by_tests false true e' = body_at (what_is_asked m).block1 b e'
    by_tests false false e' = absurd cc

-- ---- the reply on an act is by its request

abbrev pub verb_if : Bool → Bool → Bool → Bool → Verb
verb_if get post put delete = if get then verb.Get else if post then verb.Post else if put then verb.Put else if delete then verb.Delete else verb.Other

abbrev pub observing_if : Bool → AskSeen → Observing
observing_if get a = if get then observing_at a.observe else observing.Unchanged

abbrev pub wanted_if : Bool → Bool → Bool → AskSeen → BlockWish
wanted_if get post put a = if get then wanted_by_get (block2_of (observing_if get a) a) else if post || put then wanted_by_body a.block1 else wanted.Act

abbrev pub use_if : Bool → ℕ → AskSeen → BlockUse
use_if get now a =
    if get then blocks.Gives (record { path = a.request.path; szx = option_map (λ (b : Block). b.szx) (block2_of (observing_if get a) a); moment = now }) else blocks.Whole

pub not_joined : (x : Option Block) → wanted_by_body x ≡ wanted.Act → blocks_joined x ≡ blocks.Whole
not_joined None e = refl
not_joined (Some b) e = absurd cc

said_if : (get post put delete : Bool) (now : ℕ) (a : AskSeen) (o : Outcome) → wanted_if get post put a ≡ wanted.Act
    → answer_reply (use_if get now a) o ≡ answer_reply (blocks_by (verb_if get post put delete) a) o
said_if true post put delete now a o wants = refl
said_if false true put delete now a o wants = ap (λ (u : BlockUse). answer_reply u o) (sym (not_joined a.block1 wants))
said_if false false true delete now a o wants = ap (λ (u : BlockUse). answer_reply u o) (sym (not_joined a.block1 wants))
said_if false false false true now a o wants = refl
said_if false false false false now a o wants = refl

pub said_as_asked : (now : ℕ) (m : CoapMessage) (o : Outcome) → wanted_in m ≡ wanted.Act
    → answer_reply (use_of now m.code (observing_in m) (what_is_asked m)) o ≡ answer_reply (blocks_for (what_is_asked m)) o
said_as_asked now m o wants = said_if (m.code == GET) (m.code == POST) (m.code == PUT) (m.code == DELETE) now (what_is_asked m) o wants

joined_if : (get post put delete : Bool) (a : AskSeen) (body : List ℕ) (b : Block) → wanted_if get post put a ≡ wanted.Joining b → blocks_by (verb_if get post put delete) (with_whole_body body a) ≡ blocks.Joined b
joined_if true post put delete a body b wants = absurd (get_at (block2_of (observing_at a.observe) a) b wants)
joined_if false true put delete a body b wants = ap blocks_joined (body_at a.block1 b wants)
joined_if false false true delete a body b wants = ap blocks_joined (body_at a.block1 b wants)
joined_if false false false delete a body b wants = absurd cc

pub joined_as_asked : (m : CoapMessage) (b : Block) (body : List ℕ) → wanted_in m ≡ wanted.Joining b → blocks_for (with_whole_body body (what_is_asked m)) ≡ blocks.Joined b
joined_as_asked m b body wants = joined_if (m.code == GET) (m.code == POST) (m.code == PUT) (m.code == DELETE) (what_is_asked m) body b wants

-- ---- replies are messages

response_message : (r : Reply) (head : ReplyHead) (next : ℕ) → IsResponse r.code → AreInOrder 0 (reply_options r) → head.id < 2 ^ 16 → length head.token ≤ LONGEST_TOKEN → next < 2 ^ 16
    → IsWellFormed (coap_reply r head next)
response_message r head next is order id token counter = record {
  code = let small = is.small in omega arith;
  class = inr is.class;
  id = id_at head.kind head.id next id counter;
  token = token;
  options = order;
  empty = λ none. absurd (some_code r.code is none);
}
  where
    some_code : (code : ℕ) → IsResponse code → code ≡ 0 → ⊥
    some_code code is' none = elim is'.class [
      | inl two ↦ omega arith
      | inr more ↦ elim more [
        | inl four ↦ omega arith
        | inr five ↦ omega arith
      ]
    ]

block_order : (b : Option BlockOption) (last : ℕ) → last ≤ 12 → AreInOrder last (with_block b [])
block_order None last low = tt
block_order (Some (option.Block2 b)) last low = let few = number_length (block_number b) in (record { order = omega arith; number = omega arith; value = omega arith }, tt)
block_order (Some (option.Block1 b)) last low = let few = number_length (block_number b) in (record { order = omega arith; number = omega arith; value = omega arith }, tt)

format_order : (format : Option ℕ) (b : Option BlockOption) (last : ℕ) → last ≤ 4 → AreInOrder last (with_block b (content_format format))
format_order None b last low = block_order b last (omega arith)
format_order (Some f) None last low = let few = number_length f in (record { order = omega arith; number = omega arith; value = omega arith }, tt)
format_order (Some f) (Some b) last low =
    let few = number_length f in (record { order = omega arith; number = omega arith; value = omega arith }, block_order (Some b) 12 (omega arith))

tag_order : (tag format : Option ℕ) (b : Option BlockOption) → AreInOrder 0 (etag_options tag ++ with_block b (content_format format))
tag_order None format b = format_order format b 0 (omega arith)
tag_order (Some v) format b =
    let few = number_length v in (record { order = omega arith; number = omega arith; value = omega arith }, format_order format b 4 (omega arith))

success : (n : ℕ) → n < 32 → IsResponse (64 + n)
success n low = record { small = omega arith; class = inl (omega arith) }

client_error : (n : ℕ) → n < 32 → IsResponse (128 + n)
client_error n low = record { small = omega arith; class = inr (inl (omega arith)) }

server_error : (n : ℕ) → n < 32 → IsResponse (160 + n)
server_error n low = record { small = omega arith; class = inr (inr (omega arith)) }

pub later_message : (b : Block) (found : Option Content) (head : ReplyHead) (next : ℕ) → head.id < 2 ^ 16 → length head.token ≤ LONGEST_TOKEN → next < 2 ^ 16
    → IsWellFormed (coap_reply (later_reply b found) head next)
later_message b None head next id token counter = response_message block_reply head next (client_error 0 (omega arith)) tt id token counter
later_message b (Some c) head next id token counter = by_test (nat_lt (block_start b) (length c.bytes))
  where
    by_test : (t : Bool) → IsWellFormed (coap_reply (if t then content_reply (portion_at b c.bytes) c else block_reply) head next)
    by_test true = response_message (content_reply (portion_at b c.bytes) c) head next (success 5 (omega arith)) (tag_order c.tag c.format (portion_at b c.bytes).block) id token counter
    by_test false = response_message block_reply head next (client_error 0 (omega arith)) tt id token counter

-- the refusals of a block
abbrev pub incomplete_reply : Reply
incomplete_reply = word_reply (coap 4 08) (codes "incomplete")

abbrev pub large_reply : Reply
large_reply = word_reply (coap 4 13) (codes "body")

abbrev pub blocks_reply : Reply
blocks_reply = word_reply (coap 5 03) (codes "blocks")

pub added_message : (b : Block) (added : Added) (r : Reply) (head : ReplyHead) (next : ℕ) → added_reply b added ≡ Some r → head.id < 2 ^ 16 → length head.token ≤ LONGEST_TOKEN → next < 2 ^ 16
    → IsWellFormed (coap_reply r head next)
added_message b added r head next is id token counter = by_answer added is
  where
    at : (x : Reply) → Some x ≡ Some r → IsWellFormed (coap_reply x head next) → IsWellFormed (coap_reply r head next)
    at x e h = subst (λ (y : Reply). IsWellFormed (coap_reply y head next)) (same_Some x r e) h

    by_answer : (x : Added) → added_reply b x ≡ Some r → IsWellFormed (coap_reply r head next)
    by_answer answer.Continue e = at (continue_reply b) e (response_message (continue_reply b) head next (success 31 (omega arith)) (block_order (Some (option.Block1 b)) 0 (omega arith)) id token counter)
    by_answer (answer.Complete place) e = absurd cc
    by_answer answer.BadBlock e = at block_reply e (response_message block_reply head next (client_error 0 (omega arith)) tt id token counter)
    by_answer answer.Incomplete e = at incomplete_reply e (response_message incomplete_reply head next (client_error 8 (omega arith)) tt id token counter)
    by_answer answer.TooLarge e = at large_reply e (response_message large_reply head next (client_error 13 (omega arith)) tt id token counter)
    by_answer answer.Full e = at blocks_reply e (response_message blocks_reply head next (server_error 3 (omega arith)) tt id token counter)

-- ---- and have no Observe

part_unnumbered : (tag format : Option ℕ) (b : Option BlockOption) → sequence_of (etag_options tag ++ with_block b (content_format format)) ≡ None
part_unnumbered None None None = refl
part_unnumbered None None (Some (option.Block2 b)) = refl
part_unnumbered None None (Some (option.Block1 b)) = refl
part_unnumbered None (Some f) None = refl
part_unnumbered None (Some f) (Some (option.Block2 b)) = refl
part_unnumbered None (Some f) (Some (option.Block1 b)) = refl
part_unnumbered (Some v) None None = refl
part_unnumbered (Some v) None (Some (option.Block2 b)) = refl
part_unnumbered (Some v) None (Some (option.Block1 b)) = refl
part_unnumbered (Some v) (Some f) None = refl
part_unnumbered (Some v) (Some f) (Some (option.Block2 b)) = refl
part_unnumbered (Some v) (Some f) (Some (option.Block1 b)) = refl

pub later_unnumbered : (b : Block) (found : Option Content) → sequence_of (reply_options (later_reply b found)) ≡ None
later_unnumbered b None = refl
later_unnumbered b (Some c) = by_test (nat_lt (block_start b) (length c.bytes))
  where
    by_test : (t : Bool) → sequence_of (reply_options (if t then content_reply (portion_at b c.bytes) c else block_reply)) ≡ None
    by_test true = part_unnumbered c.tag c.format (portion_at b c.bytes).block
    by_test false = refl

pub added_unnumbered : (b : Block) (added : Added) (r : Reply) → added_reply b added ≡ Some r → sequence_of (reply_options r) ≡ None
added_unnumbered b added r is = by_answer added is
  where
    at : (x : Reply) → Some x ≡ Some r → sequence_of (reply_options x) ≡ None → sequence_of (reply_options r) ≡ None
    at x e h = subst (λ (y : Reply). sequence_of (reply_options y) ≡ None) (same_Some x r e) h

    by_answer : (x : Added) → added_reply b x ≡ Some r → sequence_of (reply_options r) ≡ None
    by_answer answer.Continue e = at (continue_reply b) e refl
    by_answer (answer.Complete place) e = absurd cc
    by_answer answer.BadBlock e = at block_reply e refl
    by_answer answer.Incomplete e = at incomplete_reply e refl
    by_answer answer.TooLarge e = at large_reply e refl
    by_answer answer.Full e = at blocks_reply e refl

-- ---- the block that they say

-- Observe and ETag say none
pub observed_block : (seen : Option ℕ) (r : Reply) → block_said (reply_options (observed seen r)) ≡ block_said (reply_options r)
observed_block seen r = by_cases r.version seen
  where
    by_cases : (version seen : Option ℕ) → block_said (etag_options version ++ (observe_options seen ++ r.options)) ≡ block_said (etag_options version ++ r.options)
    by_cases None None = refl
    by_cases None (Some n) = refl
    by_cases (Some v) None = refl
    by_cases (Some v) (Some n) = refl

said_at : (b : Block) → IsBlock b → block_said ((BLOCK2, block_bytes b) ∷ []) ≡ Some b
said_at b is = ap (λ (o : Option Block). unwrap_or (option_map (λ (x : Block). Some x) o) None) (blocks_are_read_again b is)

-- a part of a body says its block
pub part_block : (tag format : Option ℕ) (b : Block) → IsBlock b → block_said (etag_options tag ++ with_block (Some (option.Block2 b)) (content_format format)) ≡ Some b
part_block None None b is = said_at b is
part_block None (Some f) b is = said_at b is
part_block (Some v) None b is = said_at b is
part_block (Some v) (Some f) b is = said_at b is

-- and all of it says none
pub no_part_block : (tag format : Option ℕ) → block_said (etag_options tag ++ with_block None (content_format format)) ≡ None
no_part_block None None = refl
no_part_block None (Some f) = refl
no_part_block (Some v) None = refl
no_part_block (Some v) (Some f) = refl
