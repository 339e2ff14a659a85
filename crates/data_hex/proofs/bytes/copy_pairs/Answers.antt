-- `copy_pairs` meets its contract. The invariant: where the digits are good, what is stored are those of the bytes passed.
use native.Mathlib.Omega.{arith}
use mathlib.Core.Path.{◌≡◌, refl}
use Rattle.data_hex.proofs.BlockLaws.{copy_none, pairs_more}
use borrow.Author.Rules.{rules}
use Rattle.data_hex.proofs.bytes.copy_pairs.Goals as goal

pub loop-j-init : goal.loop-j-init
loop-j-init c =
    let a = c.args in
    (refl, λ f. copy_none a.s.now a.at a.d.now a.o)

pub loop-j-preserved : goal.loop-j-preserved
loop-j-preserved c =
    let a = c.args in
    let i = c.loop-j in
    let x = c.load_pair-x.ensures in
    (search rules, λ f. pairs_more a.s.now a.at a.d.now a.o c.requires.bytes_there (omega arith) f c.requires.spaced c.requires.ends_blank i.d i.j (i.invariant.1 f) (omega arith) (omega arith) _ x _ c.store_pair.ensures)

pub returns : goal.returns
returns c =
    let i = c.loop-j in
    let j : i.j ≡ 16 = omega arith in
    rw j at i.invariant.1
