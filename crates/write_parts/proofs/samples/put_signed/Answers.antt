-- `write_parts::samples::put_signed` meets its contract. Assumes nothing.
use mathlib.Core.Path.{refl, ◌∙◌}
use native.Mathlib.Omega.{arith}
use lib.ListN.{length-set}
use Rattle.write_parts.specs.Stored.{absolute}
use Rattle.write_parts.proofs.Signs.{sign_few, signed_not_empty, signed_long, signed_stored}
use Rattle.write_parts.proofs.samples.put_signed.Goals as goal

pub bounds-out-at : goal.bounds-out-at
bounds-out-at c = omega (arith, c.requires, signed_not_empty c.args.x)

pub overflow_add-at : goal.overflow_add-at
overflow_add-at c = omega (arith, c.requires, sign_few c.args.x c.ranges.x.fits c.sign_length.result (absolute c.args.x) c.sign_length.ensures refl, signed_not_empty c.args.x)

pub put_decimal-requires : goal.put_decimal-requires
put_decimal-requires c = simp length-set (omega (arith, c.requires, signed_long c.args.x c.ranges.x.fits c.sign_length.result c.absolute.result c.sign_length.ensures c.absolute.ensures))

pub shape_of-out : goal.shape_of-out
shape_of-out c = simp length-set at c.put_decimal.auto.out

pub returns : goal.returns
returns c =
    let a = c.args in
    let l = c.ranges.x.fits in
    let k = c.sign_length in
    let m = c.absolute in
    let p = c.put_decimal in
    (record { place = omega (arith, p.ensures.place.0, signed_long a.x l k.result m.result k.ensures m.ensures); stored = p.ensures.stored ∙ signed_stored a.x l k.result m.result k.ensures m.ensures a.out.now a.at })
