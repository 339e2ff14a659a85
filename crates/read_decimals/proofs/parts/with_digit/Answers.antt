-- `read_decimals::parts::with_digit` meets its contract.
use borrow.Author.Tests.{leb-true}
use native.Mathlib.Omega.{arith}
use lib.Dec.{leb}
use Rattle.format.proofs.Bytes.{and_left, and_right}
use Rattle.read_decimals.proofs.parts.with_digit.Goals as goal

pub overflow_sub-result : goal.overflow_sub-result
overflow_sub-result c =
    let b = c.args.b in
    omega (arith, leb-true 48 b (and_left (leb 48 b) (leb b 57) c.requires))

pub returns-then-m : goal.returns-then-m
returns-then-m c =
    let b = c.args.b in
    omega (arith, leb-true b 57 (and_right (leb 48 b) (leb b 57) c.requires))
