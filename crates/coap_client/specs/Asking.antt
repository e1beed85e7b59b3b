-- The message that asks for something: a confirmable request (RFC 7252, sections 4.2, 5.2 and
-- 5.10; RFC 7641, section 2; RFC 7959, section 2.1).
use Rattle.std.specs.Prelude.{◌≢◌, ◌<◌, ◌≤◌, ℕ, Bool, true, false, List, [], ◌∷◌, ◌++◌, length, All, Option, Some, None, IfSome}
use Rattle.coap_msg.specs.declared.block.Block.{Block}
use Rattle.coap_msg.specs.declared.constants.TheConstants.{OBSERVE, URI_PATH, CONTENT_FORMAT, BLOCK1, BLOCK2, LONGEST_SEGMENT}
use Rattle.coap_msg.specs.Blocks.{IsBlock, block_bytes}
use Rattle.coap_msg.specs.Grammar.{CoapOption, CoapMessage}
use Rattle.coap_msg.specs.Numbers.{number_bytes}
use Rattle.coap_msg.specs.Opts.{segment_options}
use Rattle.coap_msg.specs.declared.message.Type4.TheVariants.{Con}
use Rattle.coap_client.specs.declared.ask.Ask.{Ask}

-- an ask, apart from its place in memory: the code, the path, whether to observe (true) or to observe no longer
-- (false), the content format of the payload, the block of its body that this is, the block of the response that is
-- wanted, and the payload
pub record Asking : Type 0 where
  pub code : ℕ
  pub path : List (List ℕ)
  pub observe : Option Bool
  pub format : Option ℕ
  pub block1 : Option Block
  pub block2 : Option Block
  pub payload : List ℕ

abbrev pub asking_of : Ask → Asking
asking_of a = record {
  code = a.code;
  path = a.path.now;
  observe = a.observe;
  format = a.format;
  block1 = a.block1;
  block2 = a.block2;
  payload = a.payload.now;
}

-- The asks that are allowed: a code of class 0 that isn't 0.00 (section 12.1.1), segments of at most 255 bytes (section
-- 5.10), and blocks that an option can say (RFC 7959, section 2.2).
pub record MayAsk (a : Asking) : Type 0 where
  pub code : a.code ≢ 0
  pub class : a.code < 32
  pub segments : All (λ segment. length segment ≤ LONGEST_SEGMENT) a.path
  pub block1 : IfSome a.block1 IsBlock
  pub block2 : IfSome a.block2 IsBlock

-- Observe is 0 to register and 1 to deregister (RFC 7641, section 2)
abbrev pub observe_option : Option Bool → List CoapOption
observe_option None = []
observe_option (Some true) = (OBSERVE, number_bytes 0) ∷ []
observe_option (Some false) = (OBSERVE, number_bytes 1) ∷ []

-- Content-Format (section 5.10.3)
abbrev pub format_option : Option ℕ → List CoapOption
format_option None = []
format_option (Some format) = (CONTENT_FORMAT, number_bytes format) ∷ []

-- Block1 or Block2, where there is a block to say (RFC 7959, section 2.1)
abbrev pub block_option : ℕ → Option Block → List CoapOption
block_option number None = []
block_option number (Some block) = (number, block_bytes block) ∷ []

-- Block2 and Block1
abbrev pub both_blocks : Option Block → Option Block → List CoapOption
both_blocks block2 block1 = block_option BLOCK2 block2 ++ block_option BLOCK1 block1

-- the options in order of their numbers: one Uri-Path for each segment (section 5.10.1)
abbrev pub options_for : Asking → List CoapOption
options_for a = observe_option a.observe ++ (segment_options URI_PATH a.path ++ (format_option a.format ++ both_blocks a.block2 a.block1))

-- the message with this id and this token
abbrev pub message_for : Asking → ℕ → List ℕ → CoapMessage
message_for a id token = record { kind = Con; code = a.code; id = id; token = token; options = options_for a; payload = a.payload }
