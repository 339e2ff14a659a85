-- `write_parts::decimals::put_decimal` meets its contract: `decimal_stored` of Digits.antt. Assumes nothing.
use Prim.Native.Nat.{ℕ, ◌+◌, ◌%◌, ◌^◌}
use mathlib.Core.Path.{◌≡◌, ap, ◌∙◌}
use mathlib.Core.List.{List}
use native.Mathlib.Omega.{arith}
use lib.ListN.{length}
use lib.Seq.{sets}
use Rattle.write_parts.specs.Stored.{digits}
use Rattle.format.specs.Writer.{decimal}
use Rattle.write_parts.proofs.Digits.{decimal_long, decimal_stored, at_most_20}
use Rattle.write_parts.proofs.decimals.put_decimal.Goals as goal

pub returns-then-n-lt100000000 : goal.returns-then-n-lt100000000
returns-then-n-lt100000000 c = (record { place = (c.put_to_8.ensures.place, omega (arith, c.put_to_8.ensures.place, at_most_20 c.args.n c.ranges.n.fits)); stored = c.put_to_8.ensures.stored })

pub put_to_12-o-requires : goal.put_to_12-o-requires
put_to_12-o-requires c = omega (arith, c.requires, decimal_long 8 c.args.n c.if-n-lt100000000.false)

pub put_eight-requires : goal.put_eight-requires
put_eight-requires c =
    let p = c.put_to_12-o in
    (omega arith, omega (arith, c.requires, p.ensures.place, p.auto.out, decimal_long 8 c.args.n c.if-n-lt100000000.false))

pub returns-else-n-lt100000000 : goal.returns-else-n-lt100000000
returns-else-n-lt100000000 c =
    let a = c.args in
    let p = c.put_to_12-o in
    let q = c.put_eight in
    let h = c.if-n-lt100000000.false in
    let r : q.result ≡ a.at + length (decimal a.n) = omega (arith, p.ensures.place, q.ensures.place, decimal_long 8 a.n h) in
    (record { place = (r, omega (arith, at_most_20 a.n c.ranges.n.fits)); stored = q.ensures.stored ∙ ap (λ (d : List ℕ). sets d p.result (digits 8 (a.n % 10 ^ 8))) p.ensures.stored ∙ decimal_stored 8 a.n a.out.now a.at p.result h p.ensures.place })
