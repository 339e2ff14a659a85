-- `names::read_pattern` meets its contract.
use native.Mathlib.Omega.{arith}
use Prim.Native.Nat.{◌<◌}
use mathlib.Core.Path.{sym, ◌∙◌}
use lib.ListN.{length}
use Rattle.read_files.proofs.PatternLaws.{pattern_missing}
use Rattle.read_files.proofs.FileLaws.{pattern_wrong, pattern_right}
use Rattle.read_files.proofs.names.read_pattern.Goals as goal

pub returns-then-percent-w : goal.returns-then-percent-w
returns-then-percent-w c = pattern_missing c.args.w.now (sym c.find_byte-percent.ensures.0 ∙ c.if-percent-w.true)

pub returns-in_err-c : goal.returns-in_err-c
returns-in_err-c c =
    let h : c.find_byte-percent.result < length c.args.w.now = omega arith in
    rw c.from_residual.ensures (pattern_wrong c.args.w.now c.find_byte-percent.ensures.0 h c.in_err-c.ensures)

pub returns : goal.returns
returns c =
    let h : c.find_byte-percent.result < length c.args.w.now = omega arith in
    pattern_right c.args.w.now c.find_byte-percent.ensures.0 h c.in_ok-c.ensures
