-- `wanted` meets its contract: a product that may not fit is never made.
use Prim.Native.Nat.{◌*◌, ◌<◌}
use native.Mathlib.Nat.{le-div_iff_mul-le, div-lt_iff_lt-mul, mul_left_comm}
use native.Mathlib.Omega.{arith}
use Rattle.lent_numbers.proofs.WidthLaws.{width_le, width_pos}
use Rattle.data_hex.proofs.scan.wanted.Goals as goal

pub overflow_mul-w : goal.overflow_mul-w
overflow_mul-w c = omega (arith, width_le _ c.requires.width)

pub nonzero_div-len : goal.nonzero_div-len
nonzero_div-len c = omega (arith, width_pos _ c.requires.width)

pub overflow_mul-result : goal.overflow_mul-result
overflow_mul-result c =
    let a = c.args in
    let pos : 0 < 2 * a.w = omega (arith, width_pos _ c.requires.width) in
    omega (arith, (le-div_iff_mul-le pos).0 c.if-n-len.true, mul_left_comm 2 a.n a.w)

pub overflow_mul-result-then-n-len : goal.overflow_mul-result-then-n-len
overflow_mul-result-then-n-len c =
    let a = c.args in
    let pos : 0 < 2 * a.w = omega (arith, width_pos _ c.requires.width) in
    omega (arith, (le-div_iff_mul-le pos).0 c.if-n-len.true, mul_left_comm 2 a.n a.w)

pub returns : goal.returns
returns c =
    let a = c.args in
    let pos : 0 < 2 * a.w = omega (arith, width_pos _ c.requires.width) in
    (omega (arith, (div-lt_iff_lt-mul pos).0 c.if-n-len.false, mul_left_comm 2 a.n a.w), λ h. omega arith)
