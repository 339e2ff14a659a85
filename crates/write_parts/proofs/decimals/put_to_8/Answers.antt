-- `write_parts::decimals::put_to_8` meets its contract: `decimal_stored` of Digits.antt. Assumes nothing.
use Prim.Native.Nat.{ℕ, ◌+◌, ◌%◌, ◌^◌}
use mathlib.Core.Path.{◌≡◌, ap, ◌∙◌}
use mathlib.Core.List.{List}
use native.Mathlib.Omega.{arith}
use lib.ListN.{length}
use lib.Seq.{sets}
use Rattle.write_parts.specs.Stored.{digits}
use Rattle.format.specs.Writer.{decimal}
use Rattle.write_parts.proofs.Digits.{decimal_long, decimal_stored}
use Rattle.write_parts.proofs.decimals.put_to_8.Goals as goal

pub returns-then-n-lt10000 : goal.returns-then-n-lt10000
returns-then-n-lt10000 c = c.put_to_4.ensures

pub put_to_4-o-requires : goal.put_to_4-o-requires
put_to_4-o-requires c = (omega (arith, c.requires.0), omega (arith, c.requires.1, decimal_long 4 c.args.n c.if-n-lt10000.false))

pub put_four-requires : goal.put_four-requires
put_four-requires c =
    let p = c.put_to_4-o in
    (omega arith, omega (arith, c.requires.1, p.ensures.place, p.auto.out, decimal_long 4 c.args.n c.if-n-lt10000.false))

pub returns-else-n-lt10000 : goal.returns-else-n-lt10000
returns-else-n-lt10000 c =
    let a = c.args in
    let p = c.put_to_4-o in
    let q = c.put_four in
    let h = c.if-n-lt10000.false in
    let r : q.result ≡ a.at + length (decimal a.n) = omega (arith, p.ensures.place, q.ensures.place, decimal_long 4 a.n h) in
    (record { place = r; stored = q.ensures.stored ∙ ap (λ (d : List ℕ). sets d p.result (digits 4 (a.n % 10 ^ 4))) p.ensures.stored ∙ decimal_stored 4 a.n a.out.now a.at p.result h p.ensures.place })
