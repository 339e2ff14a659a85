-- `read_decimals::read_component` meets its contract.
use native.Mathlib.Omega.{arith}
use Rattle.format.specs.Decimals.{component}
use Rattle.read_decimals.proofs.DigitLaws.{suffix, suffix_short}
use Rattle.read_decimals.proofs.read_component.Goals as goal

pub read_unsigned-requires : goal.read_unsigned-requires
read_unsigned-requires c =
    let t = c.args.t.now in
    omega (arith, suffix_short t c.read_sign-sign.result.length, c.requires)

pub returns : goal.returns
unfolding component
returns c =
    let g = c.read_sign-sign in
    let t = c.args.t.now in
    rw (← g.ensures.minus, ← g.ensures.rest, ← (suffix t g.result.length)) c.read_unsigned.ensures
