-- `read_decimals::read_numeral` meets its contract.
use native.Mathlib.Omega.{arith}
use mathlib.Core.Path.{refl, ◌∙◌}
use Rattle.read_decimals.proofs.DigitLaws.{digits_few, digits_within}
use Rattle.read_decimals.proofs.ValueLaws.{numeral_short, size_few, numeral_empty, numeral_bad, numeral_good}
use Rattle.read_decimals.proofs.read_numeral.Goals as goal

pub slice_bounds-rest-count : goal.slice_bounds-rest-count
slice_bounds-rest-count c = digits_within c.read_digits-whole.result 0 _ c.read_digits-whole.ensures

pub slice_bounds-rest-start : goal.slice_bounds-rest-start
slice_bounds-rest-start c = digits_within c.read_digits-whole.result 0 _ c.read_digits-whole.ensures

pub read_fraction-fraction-requires : goal.read_fraction-fraction-requires
read_fraction-fraction-requires c = digits_few c.read_digits-whole.result 0 _ c.read_digits-whole.ensures

pub overflow_add-count : goal.overflow_add-count
overflow_add-count c =
    let w = c.read_digits-whole in
    let s = numeral_short c.args.minus c.args.t.now w.result c.read_fraction-fraction.result w.ensures c.read_fraction-fraction.ensures in
    omega (arith, s.0, s.1, c.requires)

pub returns-then-count-places-eq0 : goal.returns-then-count-places-eq0
returns-then-count-places-eq0 c =
    let a = c.args in
    let w = c.read_digits-whole in
    let g = c.read_fraction-fraction in
    numeral_empty a.minus a.t.now w.result g.result w.ensures g.ensures c.if-count-places-eq0.true

pub returns-in_err-exponent : goal.returns-in_err-exponent
returns-in_err-exponent c =
    let a = c.args in
    let w = c.read_digits-whole in
    let g = c.read_fraction-fraction in
    c.from_residual.ensures ∙ numeral_bad a.minus a.t.now w.result g.result w.ensures g.ensures _ refl c.in_err-exponent.ensures

pub power_of-power-requires : goal.power_of-power-requires
power_of-power-requires c =
    let a = c.args in
    let w = c.read_digits-whole in
    let g = c.read_fraction-fraction in
    let s = numeral_short a.minus a.t.now w.result g.result w.ensures g.ensures in
    let f = size_few a.minus a.t.now w.result g.result w.ensures g.ensures _ refl c.in_ok-exponent.ensures in
    omega (arith, f, s.1, c.requires)

pub returns : goal.returns
returns c =
    let a = c.args in
    let w = c.read_digits-whole in
    let g = c.read_fraction-fraction in
    let p = c.power_of-power in
    c.valued.ensures
    ∙ numeral_good a.minus a.t.now w.result g.result w.ensures g.ensures _ refl c.in_ok-exponent.ensures p.result p.ensures c.if-count-places-eq0.false c.requires
