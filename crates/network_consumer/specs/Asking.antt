-- Requests over CoAP (RFC 7252, section 5.8; RFC 7641, section 3), and the blocks of the value that is handed in (RFC
-- 7959, section 2.5).
use Rattle.std.specs.Prelude.{◌≢◌, ◌<◌, ◌+◌, ◌*◌, ℕ, nat_lt, length, List, [], take, drop, Bool, true, false, Option, Some, None, unwrap_or, option_map, IfSome, if◌then◌else◌}
use Rattle.coap_msg.specs.declared.constants.TheConstants.{EMPTY, GET, POST, PUT, DELETE, JSON, LONGEST_PAYLOAD}
use Rattle.coap_msg.specs.declared.block.Block.{Block}
use Rattle.coap_msg.specs.Blocks.{IsBlock, block_size, block_start}
use Rattle.thing_ops.specs.declared.verb.Verb.{Verb}
use Rattle.thing_ops.specs.declared.verb.Verb.TheVariants as verb
use Rattle.wot_json.specs.Meaning.{json_of}
use Rattle.wot_forms.specs.declared.scheme.Scheme.{Scheme}
use Rattle.wot_forms.specs.declared.scheme.Scheme.TheVariants as scheme
use Rattle.wot_consumer.specs.declared.chosen.Chosen.{Chosen}
use Rattle.wot_consumer.specs.Choice.{IsChosen, wanted}
use Rattle.wot_consumer.specs.Places.{AreSendable}
use Rattle.coap_client.specs.Asking.{Asking}
use Rattle.network_consumer.specs.declared.operation.ThingOperation.{ThingOperation}
use Rattle.network_consumer.specs.declared.blocks.Blocks.{Blocks}

-- ## The blocks of a request

-- the block that it has of the value handed in, and the one of the answer that it asks for
abbrev pub blocks : Option Block → Option Block → Blocks
blocks block1 block2 = record { block1 = block1; block2 = block2 }

-- they are such as an option can say
pub record AreBlocks (b : Blocks) : Type 0 where
  pub block1 : IfSome b.block1 IsBlock
  pub block2 : IfSome b.block2 IsBlock

-- the block with this number of what is handed in, which has so many bytes: of 1,024 bytes, which is SZX 6, and M says that
-- more follows (RFC 7959, section 2.2)
abbrev pub input_block : ℕ → ℕ → Block
input_block size number = record { number = number; more = nat_lt (1024 * (number + 1)) size; szx = 6 }

-- The most blocks of it that are sent. There are twice as many message IDs (RFC 7252, section 4.4), so that one is left for
-- each request, those for the blocks of the answer with them.
abbrev pub most_input_blocks : ℕ
most_input_blocks = 32768

-- It goes whole where it is no longer than a payload may be (RFC 7252, section 4.6), and else its first block goes first.
abbrev pub first_block : ℕ → Option Block
first_block size = if nat_lt LONGEST_PAYLOAD size then Some (input_block size 0) else None

-- the number of bytes that are handed in
abbrev pub input_size : Option (List ℕ) → ℕ
input_size None = 0
input_size (Some bytes) = length bytes

-- the blocks of the first request
abbrev pub first_blocks : Option (List ℕ) → Blocks
first_blocks input = blocks (first_block (input_size input)) None

-- the part of it that a request has
abbrev pub part_of : Option Block → List ℕ → List ℕ
part_of None bytes = bytes
part_of (Some b) bytes = take (block_size b) (drop (block_start b) bytes)

-- ## The request

-- the code of a method; the others aren't chosen
abbrev pub method_code : Verb → ℕ
method_code verb.Get = GET
method_code verb.Post = POST
method_code verb.Put = PUT
method_code verb.Delete = DELETE
method_code verb.Head = EMPTY
method_code verb.Patch = EMPTY
method_code verb.Other = EMPTY

-- values are asked for as they come, or once
abbrev pub observe_for : Bool → Option Bool
observe_for true = Some true
observe_for false = None

-- the request with these blocks, where this value is handed in, if any is: it is JSON
abbrev pub asking_for : Chosen → Option (List ℕ) → Blocks → Asking
asking_for c input b = record {
  code = method_code c.verb;
  path = c.path;
  observe = observe_for c.observe;
  format = option_map (λ bytes. JSON) input;
  block1 = b.block1;
  block2 = b.block2;
  payload = part_of b.block1 (unwrap_or input []);
}

-- no further values are asked for (RFC 7641, section 3.6)
abbrev pub cancelling : Chosen → Asking
cancelling c = record { code = GET; path = c.path; observe = Some false; format = None; block1 = None; block2 = None; payload = [] }

-- This was chosen for an operation, where a scheme was wanted or either would do.
abbrev pub IsChoice : ThingOperation → Chosen → Type 0
IsChoice o c = (only : Option Scheme) × IsChosen (json_of o.tree.now) (wanted o.op only) o.name.now c

-- The chosen request can be sent over CoAP: its method has a code, and its path can be sent.
pub record IsAskable (c : Chosen) : Type 0 where
  pub code : method_code c.verb ≢ 0
  pub class : method_code c.verb < 32
  pub path : AreSendable scheme.Coap c.path
