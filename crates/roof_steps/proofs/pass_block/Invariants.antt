-- `pass_block` meets its contract. The loop's invariant: while all steps were right, the search from the first row of the block is the search from the next row.
use Rattle.std.proofs.Common.{◌≡◌, ℕ, ◌+◌, ◌≤◌, true}
use Rattle.roof_steps.specs.Steps.{wrong_left}
use Rattle.roof_steps.proofs.pass_block.Given as goal

abbrev pub invariant-loop-j : goal.invariant-loop-j
invariant-loop-j g l =
    let zs = g.C.Lent.samples l.samples in
    (rows : ℕ) → l.from + 8 ≤ rows → l.right ≡ true → wrong_left l.largest rows l.m zs l.from l.before ≡ wrong_left l.largest rows l.m zs (l.from + l.j) l.last
