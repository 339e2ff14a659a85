-- `write_checks::check::all_in_range` meets its contract. The loop's invariant: what the bits so far tell, and of the samples from i on. Assumes nothing.
use Rattle.std.proofs.Common.{◌+◌, ◌<◌, Bool, ◌&&◌, leb, length, drop, sym, ap, ◌∙◌, arith}
use mathlib.Core.Bool.{and-true}
use Rattle.write_checks.specs.Refused.{in_range, all_in_range}
use Rattle.write_checks.proofs.Bits.{or_within}
use Rattle.write_checks.proofs.Refuse.{range_start, range_next, range_end}
use Rattle.write_checks.proofs.check.all_in_range.Goals as goal

pub loop-i-init : goal.loop-i-init
loop-i-init g c =
    let a = c.args in
    range_start a.low a.high (a.low + a.high) (g.S.Source.samples a.samples.now)

pub bits_at-requires : goal.bits_at-requires
bits_at-requires g c = omega (arith, c.count-i-end.ensures, c.loop-i-test.true)

pub loop-i-preserved : goal.loop-i-preserved
loop-i-preserved g c =
    let a = c.args in
    let zs = g.S.Source.samples a.samples.now in
    let l = c.loop-i in
    let pre = c.requires in
    let high = a.low + a.high in
    let y = c.from_lowest-all.result in
    let h : l.i < length zs = omega (arith, c.count-i-end.ensures, c.loop-i-test.true) in
    let e = c.from_lowest-all.ensures a.high pre.both_small.1 ∙ ap (in_range a.low a.high) c.bits_at.ensures in
    let p = range_next a.low a.high zs l.i (leb l.all high) (leb y high) h e l.invariant in
    p ∙ ap (λ (b : Bool). b && all_in_range a.low a.high (drop (l.i + 1) zs)) (sym (or_within pre.whole_range.0 high l.all y pre.whole_range.1))

pub returns : goal.returns
returns g c =
    let a = c.args in
    let zs = g.S.Source.samples a.samples.now in
    let l = c.loop-i in
    let fine = leb l.all (a.low + a.high) in
    sym (l.invariant ∙ ap (λ (b : Bool). fine && b) (range_end a.low a.high zs l.i (omega (arith, c.count-i-end.ensures, c.loop-i-test.false))) ∙ and-true fine)
