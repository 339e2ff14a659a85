-- `pattern::is_rest` meets its contract.
use mathlib.Core.Path.{◌≡◌, sym, ◌∙◌}
use mathlib.Core.Bool.{true}
use Rattle.read_decimals.proofs.DigitLaws.{suffix}
use Rattle.read_files.specs.Parts.{begins}
use Rattle.read_files.proofs.PatternLaws.{begins_there}
use Rattle.read_files.proofs.pattern.is_rest.Goals as goal

pub returns-then-not-begins : goal.returns-then-not-begins
returns-then-not-begins c = rw (sym c.begins.ensures ∙ c.if-not-begins.true)

-- the `d` is there
pub slice_bounds-has_percent-count : goal.slice_bounds-has_percent-count
slice_bounds-has_percent-count c = begins_there 100 c.args.s.now 0 (sym c.begins.ensures ∙ c.if-not-begins.false)

pub slice_bounds-has_percent-start : goal.slice_bounds-has_percent-start
slice_bounds-has_percent-start c = begins_there 100 c.args.s.now 0 (sym c.begins.ensures ∙ c.if-not-begins.false)

pub returns : goal.returns
returns c =
    let s = c.args.s.now in
    let there : begins 100 s ≡ true = sym c.begins.ensures ∙ c.if-not-begins.false in
    rw (there, c.has_percent.ensures, suffix s 1)
