use Rattle.std.proofs.Common.{arith}
use Rattle.http_fields.proofs.Digits.{below_eighth_power}
use Rattle.http_fields.proofs.chunks.hexadecimal.Goals as goal

pub overflow_mul-number : goal.overflow_mul-number
overflow_mul-number c =
    let small = below_eighth_power c.loop-byte.number c.loop-byte.byte-index c.loop-byte.invariant.2 (omega arith) in omega arith

pub overflow_add-number : goal.overflow_add-number
overflow_add-number c =
    let small = below_eighth_power c.loop-byte.number c.loop-byte.byte-index c.loop-byte.invariant.2 (omega arith) in omega arith
