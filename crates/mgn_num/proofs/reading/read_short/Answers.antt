use Rattle.std.proofs.Common.{◌≤◌, ◌^◌, arith}
use Rattle.std.proofs.Math.Nat.{pow-le-pow_right}
use Rattle.mgn_num.proofs.reading.read_short.Goals as goal

pub overflow_mul-number : goal.overflow_mul-number
overflow_mul-number c =
    let most : 10 ^ c.loop-byte.byte-index ≤ 10 ^ 17 = pow-le-pow_right {n = 10} (omega arith) {i = c.loop-byte.byte-index} {j = 17} (omega arith) in
    omega (arith, most)

pub overflow_add-number : goal.overflow_add-number
overflow_add-number c =
    let most : 10 ^ c.loop-byte.byte-index ≤ 10 ^ 17 = pow-le-pow_right {n = 10} (omega arith) {i = c.loop-byte.byte-index} {j = 17} (omega arith) in
    omega (arith, most)
