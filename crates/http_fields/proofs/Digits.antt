-- Hexadecimal digits, one after another, as the sizes of chunks are read.
use Rattle.std.proofs.Common.{◌≡◌, ℕ, ◌+◌, ◌*◌, ◌^◌, ◌<◌, ◌≤◌, arith}
use Rattle.std.proofs.Math.Nat.{pow-le-pow_right}
use Rattle.std.proofs.lemmas.Nat.{pow-add}

-- one digit more, below the next power
pub below_next_power : (n i d : ℕ) → n < 16 ^ i → d ≤ 15 → n * 16 + d < 16 ^ (i + 1)
below_next_power n i d below digit =
    let power : 16 ^ (i + 1) ≡ 16 ^ i * 16 = pow-add 16 i 1 in omega arith

-- a number of under 8 digits has room for one more
pub below_eighth_power : (n i : ℕ) → n < 16 ^ i → i < 8 → n < 268435456
below_eighth_power n i below short =
    let seven : i ≤ 7 = omega arith in
    let most : 16 ^ i ≤ 16 ^ 7 = pow-le-pow_right {n = 16} (omega arith) {i = i} {j = 7} seven in omega arith
