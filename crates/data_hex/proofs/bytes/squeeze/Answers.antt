-- `squeeze` meets its contract. The invariant: what is stored are the digits of the bytes passed.
use native.Mathlib.Omega.{arith}
use mathlib.Core.Path.{◌≡◌, refl}
use Rattle.data_hex.proofs.BlockLaws.{squeezing_none, squeezing_more}
use borrow.Author.Rules.{rules}
use Rattle.data_hex.proofs.bytes.squeeze.Goals as goal

pub loop-j-init : goal.loop-j-init
loop-j-init c = let a = c.args in (refl, squeezing_none a.s.now a.c a.at a.d.now a.o)

pub loop-j-preserved : goal.loop-j-preserved
loop-j-preserved c =
    let a = c.args in
    let i = c.loop-j in
    (search rules, squeezing_more a.s.now a.c a.at a.d.now a.o i.invariant.1 (omega arith) (omega arith) (omega arith) (omega arith) _ c.one_if.ensures)

pub returns : goal.returns
returns c =
    let i = c.loop-j in
    let j : i.j ≡ c.args.c = omega arith in
    let p = rw j at i.invariant.1 in
    record { between = (p.from, p.to); moved = p.same }
