-- `pattern::read_pattern` meets its contract.
use native.Mathlib.Omega.{arith}
use Prim.Native.Nat.{◌<◌}
use mathlib.Core.Path.{sym, ◌∙◌}
use mathlib.Core.Bool.{false≢true}
use lib.ListN.{length}
use Rattle.read_files.proofs.PatternLaws.{pattern_missing, conversion_within, pattern_read}
use Rattle.read_files.proofs.pattern.read_pattern.Goals as goal

pub returns-then-percent-w : goal.returns-then-percent-w
returns-then-percent-w c =
    record {
      said = pattern_missing c.args.w.now (sym c.find_byte-percent.ensures.0 ∙ c.if-percent-w.true);
      small = omega arith;
      ordered = omega arith;
      apart = λ z. absurd (false≢true z);
      within = omega arith;
    }

pub overflow_add-result : goal.overflow_add-result
overflow_add-result c =
    let h : c.find_byte-percent.result < length c.args.w.now = omega arith in
    omega (arith, conversion_within c.args.w.now c.find_byte-percent.ensures.0 h c.read_conversion-c.ensures)

pub returns : goal.returns
returns c =
    let h : c.find_byte-percent.result < length c.args.w.now = omega arith in
    pattern_read c.args.w.now c.find_byte-percent.ensures.0 h c.read_conversion-c.ensures
