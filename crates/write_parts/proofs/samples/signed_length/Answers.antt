-- `write_parts::samples::signed_length` meets its contract. Assumes nothing.
use native.Mathlib.Omega.{arith}
use Rattle.write_parts.proofs.Signs.{sign_few, signed_long}
use Rattle.write_parts.proofs.samples.signed_length.Goals as goal

pub overflow_add-result : goal.overflow_add-result
overflow_add-result c =
    let x = c.args.x in
    omega (arith, sign_few x c.ranges.x.fits c.sign_length.result c.absolute.result c.sign_length.ensures c.absolute.ensures, c.decimal_length.ensures.few)

pub returns : goal.returns
returns c =
    let x = c.args.x in
    let k = c.sign_length in
    let m = c.absolute in
    let l = c.ranges.x.fits in
    omega (arith, sign_few x l k.result m.result k.ensures m.ensures, signed_long x l k.result m.result k.ensures m.ensures, c.decimal_length.ensures)
