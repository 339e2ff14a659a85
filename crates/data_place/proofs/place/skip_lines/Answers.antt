-- `data_place::place::skip_lines` meets its contract.
use borrow.Author.Rules.{rules}
use native.Mathlib.Omega.{arith}
use Prim.Native.Nat.{◌+◌, ◌-◌}
use mathlib.Core.Path.{◌≡◌, ◌∙◌}
use lib.ListN.{drop}
use Rattle.data_place.proofs.Skips.{skip_past, skip_next, skip_none}
use Rattle.data_place.proofs.place.skip_lines.Goals as goal

pub returns-then-k-rest : goal.returns-then-k-rest
returns-then-k-rest c =
    let l = c.loop in
    let a = c.args in
    let k = c.find_byte-k in
    l.invariant.1 ∙ skip_past a.s.now l.at (a.n - l.counter) k.result (omega arith) k.ensures.0 c.if-k-rest.true

pub loop-preserved : goal.loop-preserved
loop-preserved c =
    let l = c.loop in
    let a = c.args in
    let k = c.find_byte-k in
    let e : a.n - l.counter - 1 ≡ a.n - (l.counter + 1) = omega arith in
    (search rules, l.invariant.1 ∙ rw e at (skip_next a.s.now l.at (a.n - l.counter) k.result (omega arith) k.ensures.0 (search rules)))

pub returns : goal.returns
returns c =
    let l = c.loop in
    let a = c.args in
    (l.invariant.1 ∙ skip_none (drop l.at a.s.now) (a.n - l.counter) (omega arith), l.invariant.0)
