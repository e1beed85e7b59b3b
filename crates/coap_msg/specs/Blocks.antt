-- The value of a Block option (RFC 7959, section 2.2).
use Rattle.std.specs.Prelude.{◌≡◌, ◌+◌, ◌*◌, ◌/◌, ◌%◌, ◌^◌, ◌<◌, ◌≤◌, ◌==◌, ℕ, List, length, nat_lt, Option, Some, None, if◌then◌else◌}
use Rattle.coap_msg.specs.declared.block.Block.{Block}
use Rattle.coap_msg.specs.Numbers.{number_of, number_bytes}

-- a block whose number has 20 bits, and whose size is one of the seven there are: SZX 7 is reserved
pub record IsBlock (b : Block) : Type 0 where
  pub number : b.number < 2 ^ 20
  pub szx : b.szx ≤ 6

-- the size of a block, in bytes: two to the power of SZX + 4
abbrev pub block_size : Block → ℕ
block_size b = 2 ^ (b.szx + 4)

-- the place of a block's first byte in its body
abbrev pub block_start : Block → ℕ
block_start b = b.number * block_size b

-- NUM, then the bit M, then the three bits of SZX
abbrev pub block_number : Block → ℕ
block_number b = 16 * b.number + (if b.more then 8 else 0) + b.szx

-- the bytes of a block, from 0 to 3
abbrev pub block_bytes : Block → List ℕ
block_bytes b = number_bytes (block_number b)

-- the block that a number says
abbrev pub block_in : ℕ → Option Block
block_in n = if n % 8 == 7 then None else Some (record { number = n / 16; more = n / 8 % 2 == 1; szx = n % 8 })

-- the block that bytes say: none where they are more than three, or say the reserved size
abbrev pub block_of : List ℕ → Option Block
block_of value = if nat_lt 3 (length value) then None else block_in (number_of value)

-- a block that is written is read again
abbrev pub BlocksAreReadAgain : Type 0
BlocksAreReadAgain = (b : Block) → IsBlock b → block_of (block_bytes b) ≡ Some b

-- each block that is read may be written
abbrev pub ReadBlocksAreBlocks : Type 0
ReadBlocksAreBlocks = (value : List ℕ) (b : Block) → length value ≤ 3 → number_of value < 2 ^ 24 → block_of value ≡ Some b → IsBlock b
