-- `read_decimals::valued` meets its contract.
use borrow.Author.Rules.{sfits_of}
use borrow.Author.Tests.{ltb-true, leb-true}
use lib.Dec.{ltb, leb}
use mir.Syntax.{w32, w64}
use mir.Facts.{to_z-of_z}
use Rattle.format.specs.Decimals.{past_number, max_power}
use Rattle.format.proofs.Bytes.{and_left, and_right}
use Rattle.read_decimals.proofs.valued.Goals as goal

pub signed_64-number-requires : goal.signed_64-number-requires
signed_64-number-requires c =
    let a = c.args in
    ltb-true a.n past_number (and_left (ltb a.n past_number) (leb a.p.size max_power) c.if-n-size.true)

pub signed_32-power-requires : goal.signed_32-power-requires
signed_32-power-requires c =
    let a = c.args in
    leb-true a.p.size max_power (and_right (ltb a.n past_number) (leb a.p.size max_power) c.if-n-size.true)

pub returns-then-n-size : goal.returns-then-n-size
returns-then-n-size c =
    let n = to_z-of_z {w = w64} {z = c.signed_64-number.result} (sfits_of c.signed_64-number.type_inv) in
    let p = to_z-of_z {w = w32} {z = c.signed_32-power.result} (sfits_of c.signed_32-power.type_inv) in
    rw (c.if-n-size.true, n, c.signed_64-number.ensures, p, c.signed_32-power.ensures)

pub returns : goal.returns
returns c = rw c.if-n-size.false
