-- The view that contracts have of a `Transfer`, and the effect of a response on it: the body of a response that comes
-- in blocks, as far as it came (RFC 7959, section 2.4).
use Rattle.std.specs.Prelude.{◌≡◌, ◌+◌, ◌/◌, ◌==◌, ◌&&◌, ◌||◌, not, ℕ, Bool, false, List, ◌++◌, length, nat_lt, Option, Some, None, if◌then◌else◌}
use Rattle.coap_msg.specs.declared.block.Block.{Block}
use Rattle.coap_msg.specs.Blocks.{block_size, block_start}
use Rattle.coap_client.specs.declared.transfer.Taken.{Taken}
use Rattle.coap_client.specs.declared.transfer.Taken.TheVariants as answer

-- the most bytes of a body
abbrev pub longest_transfer : ℕ
longest_transfer = 65536

-- A response doesn't go on where the body so far ends, or isn't as long as its block, that others follow (section 2.3).
-- One without a block is the whole body, and goes on at 0.
abbrev pub is_broken : Option Block → List ℕ → ℕ → Bool
is_broken None payload length_so_far = not (length_so_far == 0)
is_broken (Some b) payload length_so_far =
    not (block_start b == length_so_far) || (b.more && not (length payload == block_size b))

-- The answer to a response that is taken, after which the body has this length: where others follow, the block to be
-- asked for is the next one of the same size.
abbrev pub answer_to : Option Block → ℕ → Taken
answer_to None length_now = answer.Complete
answer_to (Some b) length_now =
    if b.more then answer.More (record { number = length_now / block_size b; more = false; szx = b.szx }) else answer.Complete

-- the answer to a response, and the body then
abbrev pub after_response : Option Block → List ℕ → List ℕ → Taken × List ℕ
after_response b payload so_far =
    if is_broken b payload (length so_far) then (answer.Broken, so_far)
    else if nat_lt longest_transfer (length so_far + length payload) then (answer.TooLong, so_far)
    else (answer_to b (length so_far + length payload), so_far ++ payload)

-- this was answered, and this is the body then
pub record Takes (said : Taken × List ℕ) (answer : Taken) (body : List ℕ) : Type 0 where
  pub answer_is : answer ≡ said.0
  pub body_is : body ≡ said.1
