-- `write_checks::check::from_lowest` meets its contract. Assumes nothing.
use Rattle.std.proofs.Common.{refl}
use Rattle.write_checks.proofs.Bits.{range_bits}
use Rattle.write_checks.proofs.check.from_lowest.Goals as goal

pub returns : goal.returns
returns c high h =
    let a = c.args in
    range_bits a.x c.ranges.x.fits a.low high _ c.requires h refl
