-- `names::read_conversion` meets its contract.
use Rattle.read_files.proofs.FileLaws.{conversion_unsized, conversion_wrong, conversion_right}
use Rattle.read_files.proofs.names.read_conversion.Goals as goal

pub returns-in_err-width : goal.returns-in_err-width
returns-in_err-width c = rw c.from_residual.ensures (conversion_unsized c.args.s.now c.begins-zeros.ensures c.in_err-width.ensures)

pub returns-then-not-is_rest : goal.returns-then-not-is_rest
returns-then-not-is_rest c =
    conversion_wrong c.args.s.now c.begins-zeros.ensures c.in_ok-width.ensures c.is_rest.ensures c.if-not-is_rest.true

pub returns : goal.returns
returns c = conversion_right c.args.s.now c.begins-zeros.ensures c.in_ok-width.ensures c.is_rest.ensures c.if-not-is_rest.false
