-- Values of Block options that are written and read again, and the sizes of blocks.
use Rattle.std.proofs.Common.{◌≡◌, ℕ, zero, suc, ◌+◌, ◌*◌, ◌/◌, ◌%◌, ◌^◌, ◌<◌, ◌≤◌, Bool, true, false, List, length, Option, Some, None, refl, ap, ◌∙◌, arith}
use Rattle.std.specs.Prelude.{◌==◌, nat_lt, if◌then◌else◌}
use Rattle.std.proofs.lemmas.Bool.Decides.{nat_tests}
use Rattle.coap_msg.specs.declared.block.Block.{Block}
use Rattle.coap_msg.specs.Numbers.{number_of}
use Rattle.coap_msg.proofs.NumberValues.{number_is_read, short_length}
use Rattle.coap_msg.specs.Blocks.{IsBlock, block_number, block_bytes, block_in, BlocksAreReadAgain, ReadBlocksAreBlocks}

-- the seven sizes, from 16 to 1,024 bytes
pub sizes : (z : ℕ) → z ≤ 6 → (16 * 2 ^ z % 18446744073709551616 ≡ 2 ^ (z + 4)) × (16 ≤ 2 ^ (z + 4)) × (2 ^ (z + 4) ≤ 1024)
sizes zero h = (refl, omega arith, omega arith)
sizes (suc zero) h = (refl, omega arith, omega arith)
sizes (suc (suc zero)) h = (refl, omega arith, omega arith)
sizes (suc (suc (suc zero))) h = (refl, omega arith, omega arith)
sizes (suc (suc (suc (suc zero)))) h = (refl, omega arith, omega arith)
sizes (suc (suc (suc (suc (suc zero))))) h = (refl, omega arith, omega arith)
sizes (suc (suc (suc (suc (suc (suc zero)))))) h = (refl, omega arith, omega arith)
sizes (suc (suc (suc (suc (suc (suc (suc z))))))) h = absurd (omega (arith, h))

-- the bit M of the number of a block
more_at : (number szx : ℕ) (more : Bool) → szx ≤ 6 → ((16 * number + (if more then 8 else 0) + szx) / 8 % 2 == 1) ≡ more
more_at number szx true h = grind (arith, nat_tests)
more_at number szx false h = grind (arith, nat_tests)

number_at : (number szx : ℕ) (more : Bool) → szx ≤ 6 → (16 * number + (if more then 8 else 0) + szx) / 16 ≡ number
number_at number szx true h = omega arith
number_at number szx false h = omega arith

szx_at : (number szx : ℕ) (more : Bool) → szx ≤ 6 → (16 * number + (if more then 8 else 0) + szx) % 8 ≡ szx
szx_at number szx true h = omega arith
szx_at number szx false h = omega arith

below_at : (number szx : ℕ) (more : Bool) → szx ≤ 6 → number < 2 ^ 20 → 16 * number + (if more then 8 else 0) + szx < 2 ^ 24
below_at number szx true h k = omega arith
below_at number szx false h k = omega arith

pub block_is_short : (b : Block) → IsBlock b → block_number b < 2 ^ 24
block_is_short b is = below_at b.number b.szx b.more is.szx is.number

-- a block is read from its number
unreserved : (n szx : ℕ) (o : Option Block) → n % 8 ≡ szx → szx ≤ 6 → (if n % 8 == 7 then None else o) ≡ o
unreserved n szx o e h = let no : (n % 8 == 7) ≡ false = grind (arith, nat_tests) in rw no refl

pub block_is_read : (b : Block) → IsBlock b → block_in (block_number b) ≡ Some b
block_is_read b is =
    let at : ℕ → Bool → ℕ → Option Block = λ number more szx. Some (record { number = number; more = more; szx = szx }) in
    let n : ℕ = block_number b in
    unreserved (block_number b) b.szx _ (szx_at b.number b.szx b.more is.szx) is.szx
    ∙ ap (λ (x : ℕ). at x (block_number b / 8 % 2 == 1) (block_number b % 8)) (number_at b.number b.szx b.more is.szx)
    ∙ ap (λ (m : Bool). at b.number m (block_number b % 8)) (more_at b.number b.szx b.more is.szx)
    ∙ ap (λ (z : ℕ). at b.number b.more z) (szx_at b.number b.szx b.more is.szx)

few : (n : ℕ) (o : Option Block) → n ≤ 3 → (if nat_lt 3 n then None else o) ≡ o
few n o h = let no : nat_lt 3 n ≡ false = grind (arith, nat_tests) in rw no refl

pub blocks_are_read_again : BlocksAreReadAgain
blocks_are_read_again b is =
    few (length (block_bytes b)) (block_in (number_of (block_bytes b))) (short_length (block_number b) (block_is_short b is))
    ∙ ap block_in (number_is_read (block_number b) (let low = block_is_short b is in omega arith))
    ∙ block_is_read b is

-- a block that is read is within the bounds
block_at : (n : ℕ) (b : Block) (reserved : Bool) → (n % 8 == 7) ≡ reserved → n < 2 ^ 24
    → (if reserved then None else Some (record { number = n / 16; more = n / 8 % 2 == 1; szx = n % 8 })) ≡ Some b → IsBlock b
block_at n b true e h is = cc
block_at n b false e h is =
    let number : n / 16 ≡ b.number = cc in
    let szx : n % 8 ≡ b.szx = cc in
    record { number = omega arith; szx = let less : n % 8 ≤ 6 = grind (arith, nat_tests) in omega arith }

long_at : (value : List ℕ) (b : Block) (long : Bool) → number_of value < 2 ^ 24
    → (if long then None else block_in (number_of value)) ≡ Some b → IsBlock b
long_at value b true h is = cc
long_at value b false h is = block_at (number_of value) b (number_of value % 8 == 7) refl h is

pub read_blocks_are_blocks : ReadBlocksAreBlocks
read_blocks_are_blocks value b short h is = long_at value b (nat_lt 3 (length value)) h is
