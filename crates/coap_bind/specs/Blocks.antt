-- Blocks of bodies: the wish of a request for them, and the part of a payload that a reply has (RFC 7959, sections 2.1
-- to 2.5 and 2.9). Blocks inside notifications are left out.
use Rattle.std.specs.Prelude.{◌≤◌, ◌+◌, ◌/◌, ◌==◌, ◌&&◌, ◌||◌, ℕ, nat_lt, nat_le, Bool, true, false, List, [], ◌∷◌, ◌++◌, length, take, drop, codes, unwrap_or, option_map, is_some, IfSome, Option, Some, None, if◌then◌else◌}
use Rattle.coap_msg.specs.declared.block.Block.{Block}
use Rattle.coap_msg.specs.declared.constants.TheConstants.{GET, POST, PUT, BLOCK1, BLOCK2, CONTENT_FORMAT, LONGEST_PAYLOAD}
use Rattle.coap_msg.specs.declared.endpoint.Endpoint.{Endpoint}
use Rattle.coap_msg.specs.Blocks.{IsBlock, block_bytes, block_size, block_start}
use Rattle.coap_msg.specs.Grammar.{CoapOption}
use Rattle.coap_msg.specs.Numbers.{number_bytes}
use Rattle.thing_ops.specs.declared.outcome.Outcome.{Outcome}
use Rattle.thing_ops.specs.declared.outcome.Outcome.TheVariants as outcome
use Rattle.thing_ops.specs.Outcomes.{coap, payload_of, version_of}
use Rattle.coap_blocks.specs.Bodies.{Body, Content, longest_body, with_body}
use Rattle.coap_blocks.specs.Paths.{largest_path, path_size}
use Rattle.coap_blocks.specs.declared.added.Added.{Added}
use Rattle.coap_blocks.specs.declared.added.Added.TheVariants as answer
use Rattle.coap_opts.specs.Reading.{AskSeen}
use Rattle.coap_bind.specs.declared.blocks.BlockOption.{BlockOption}
use Rattle.coap_bind.specs.declared.blocks.BlockOption.TheVariants as option
use Rattle.coap_bind.specs.declared.blocks.BlockUse.{BlockUse}
use Rattle.coap_bind.specs.declared.blocks.BlockUse.TheVariants as blocks
use Rattle.coap_bind.specs.declared.blocks.BlockWish.{BlockWish}
use Rattle.coap_bind.specs.declared.blocks.BlockWish.TheVariants as wanted
use Rattle.coap_bind.specs.declared.observing.Observing.{Observing}
use Rattle.coap_bind.specs.declared.observing.Observing.TheVariants as observing
use Rattle.coap_bind.specs.Writing.{Reply, word_reply, long_reply, text_format, whole_reply}

-- ---- the wish of a request

-- Block2 of a GET, which isn't read where the request is to register.
abbrev pub block2_of : Observing → AskSeen → Option Block
block2_of observing.Registers a = None
block2_of observing.Unchanged a = a.block2
block2_of observing.Deregisters a = a.block2

-- A block after the first is one of a response that was given (section 2.4), and wants no act.
abbrev pub wanted_by_get : Option Block → BlockWish
wanted_by_get None = wanted.Act
wanted_by_get (Some b) = if b.number == 0 then wanted.Act else wanted.LaterBlock b

-- A block of a request is joined to those before it (section 2.5).
abbrev pub wanted_by_body : Option Block → BlockWish
wanted_by_body None = wanted.Act
wanted_by_body (Some b) = wanted.Joining b

-- The wish of a request of this code. Block2 is read of a GET alone, and Block1 of a PUT and a POST.
abbrev pub wanted_of : ℕ → Observing → AskSeen → BlockWish
wanted_of code o a =
    if code == GET then wanted_by_get (block2_of o a)
    else if code == POST || code == PUT then wanted_by_body a.block1
    else wanted.Act

-- The part that blocks have in the reply to an act that is asked for at a moment: the payload for a GET is given in
-- blocks, of the size that it says.
abbrev pub use_of : ℕ → ℕ → Observing → AskSeen → BlockUse
use_of now code o a =
    if code == GET then blocks.Gives (record { path = a.request.path; szx = option_map (λ b. b.szx) (block2_of o a); moment = now })
    else blocks.Whole

-- the sizes are such as there are, and the path may be kept
abbrev pub IsUse : BlockUse → Type 0
IsUse blocks.Whole = Unit {0}
IsUse (blocks.Gives g) = IfSome g.szx (λ z. z ≤ 6) × (path_size g.path ≤ largest_path)
IsUse (blocks.Joined b) = IsBlock b

-- ---- the part of a payload that a reply has

-- the option that says a block, of the response or of the request (section 2.1)
abbrev pub option_of : BlockOption → CoapOption
option_of (option.Block2 b) = (BLOCK2, block_bytes b)
option_of (option.Block1 b) = (BLOCK1, block_bytes b)

-- that option, if there is one
abbrev pub block_options : Option BlockOption → List CoapOption
block_options None = []
block_options (Some b) = option_of b ∷ []

-- options, and then that
abbrev pub with_block : Option BlockOption → List CoapOption → List CoapOption
with_block None os = os
with_block (Some b) os = os ++ option_of b ∷ []

-- a part of a payload, and the option that names it
pub record Portion : Type 0 where
  pub block : Option BlockOption
  pub payload : List ℕ

-- the whole payload, without such an option
abbrev pub all_of : List ℕ → Portion
all_of payload = record { block = None; payload = payload }

-- more of a body follows a block
abbrev pub goes_on : Block → List ℕ → Bool
goes_on b bytes = nat_lt (block_start b + block_size b) (length bytes)

-- the block of a body with this number and size: M says whether more follows (section 2.2)
abbrev pub portion_at : Block → List ℕ → Portion
portion_at b bytes = record {
  block = Some (option.Block2 (record b { more = goes_on b bytes }));
  payload = take (block_size b) (drop (block_start b) bytes);
}

-- the first block, of the size that is asked for, and else of 1,024 bytes
abbrev pub first_block : Option ℕ → Block
first_block szx = record { number = 0; more = false; szx = unwrap_or szx 6 }

-- a payload of n bytes is given in blocks: it is longer than one, or one was asked for and there is something to give
abbrev pub is_in_blocks : Option ℕ → ℕ → Bool
is_in_blocks szx n = nat_lt (block_size (first_block szx)) n || (is_some szx && nat_lt 0 n)

abbrev pub given_portion : Option ℕ → List ℕ → Portion
given_portion szx payload = if is_in_blocks szx (length payload) then portion_at (first_block szx) payload else all_of payload

-- the outcome is a representation of the resource at the path: a value or a description
abbrev pub is_representation : Outcome → Bool
is_representation (outcome.Content value tag) = true
is_representation (outcome.Description description as_td) = true
is_representation _ = false

-- A success says which block of its request was the last (section 2.3), and a refusal says none.
abbrev pub success_option : Outcome → Block → Option BlockOption
success_option o b = if (whole_reply o).code / 32 == 2 then Some (option.Block1 (record b { more = false })) else None

-- the part of an outcome's payload that a reply has
abbrev pub portion_of : BlockUse → Outcome → Portion
portion_of blocks.Whole o = all_of (payload_of o)
portion_of (blocks.Gives g) o = if is_representation o then given_portion g.szx (payload_of o) else all_of (payload_of o)
portion_of (blocks.Joined b) o = record { block = success_option o b; payload = payload_of o }

-- the most bytes of a payload: of one that is given in blocks those of a body, and else those of a message
abbrev pub most_bytes : BlockUse → Outcome → ℕ
most_bytes blocks.Whole o = LONGEST_PAYLOAD
most_bytes (blocks.Gives g) o = if is_representation o then longest_body else LONGEST_PAYLOAD
most_bytes (blocks.Joined b) o = LONGEST_PAYLOAD

-- a reply with a part of the payload of an outcome
abbrev pub reply_with : Portion → Outcome → Reply
reply_with p o = record (whole_reply o) { options = with_block p.block (whole_reply o).options; payload = p.payload }

-- The reply that says an outcome: a payload that is too long for a body, and for a message where it isn't given in blocks, is
-- refused.
abbrev pub answer_reply : BlockUse → Outcome → Reply
answer_reply u o = if nat_lt (most_bytes u o) (length (payload_of o)) then long_reply else reply_with (portion_of u o) o

-- ---- bodies that are kept for later blocks

-- an outcome as a body that is kept: the code 2.05, the content format, the version and the payload
abbrev pub outcome_content : Outcome → Content
outcome_content o = record { code = coap 2 05; format = Some (text_format o); tag = version_of o; bytes = payload_of o }

abbrev pub body_of : Endpoint → List (List ℕ) → ℕ → Outcome → Body
body_of from path now o = record { from = from; path = path; content = outcome_content o; moment = now }

-- it is given in more than one block
abbrev pub is_kept : Option ℕ → Outcome → Bool
is_kept szx o = is_representation o && (nat_lt (block_size (first_block szx)) (length (payload_of o)) && nat_le (length (payload_of o)) longest_body)

-- the bodies that are kept once a request of an endpoint has an outcome (section 2.4)
abbrev pub bodies_after : BlockUse → Endpoint → Outcome → List Body → List Body
bodies_after blocks.Whole from o bodies = bodies
bodies_after (blocks.Gives g) from o bodies = if is_kept g.szx o then with_body (body_of from g.path g.moment o) bodies else bodies
bodies_after (blocks.Joined b) from o bodies = bodies

-- ---- replies without an act

-- a block that there isn't, or that isn't as long as it says
abbrev pub block_reply : Reply
block_reply = word_reply (coap 4 00) (codes "block")

-- the content format of a body, if it has one
abbrev pub content_format : Option ℕ → List CoapOption
content_format None = []
content_format (Some format) = (CONTENT_FORMAT, number_bytes format) ∷ []

-- a reply with a part of a body; each body that is kept is one of 2.05, and a later block has its tag again (section 2.4)
abbrev pub content_reply : Portion → Content → Reply
content_reply p c = record { code = coap 2 05; version = c.tag; options = with_block p.block (content_format c.format); payload = p.payload }

-- the reply to a request for a later block, where this body is kept for it
abbrev pub later_reply : Block → Option Content → Reply
later_reply b None = block_reply
later_reply b (Some c) = if nat_lt (block_start b) (length c.bytes) then content_reply (portion_at b c.bytes) c else block_reply

-- others are to come after a block of a request (section 2.9.1)
abbrev pub continue_reply : Block → Reply
continue_reply b = record { code = coap 2 31; version = None; options = option_of (option.Block1 b) ∷ []; payload = [] }

-- The reply to a block of a request: 2.31 where others are to come, and none where the body is whole,
-- since an act is to come.
abbrev pub added_reply : Block → Added → Option Reply
added_reply b answer.Continue = Some (continue_reply b)
added_reply b (answer.Complete place) = None
added_reply b answer.BadBlock = Some block_reply
added_reply b answer.Incomplete = Some (word_reply (coap 4 08) (codes "incomplete"))
added_reply b answer.TooLarge = Some (word_reply (coap 4 13) (codes "body"))
added_reply b answer.Full = Some (word_reply (coap 5 03) (codes "blocks"))
