-- `data_files::lines::start_of` meets its contract: line by line the same text stays ahead.
use native.Mathlib.Omega.{arith}
use mathlib.Core.Path.{◌≡◌, subst}
use Prim.Native.Nat.{ℕ, ◌+◌, ◌-◌}
use Rattle.data_files.specs.Asked.{Ahead, line_text}
use Rattle.data_files.proofs.LineLaws.{ahead_starts, ahead_short, ahead_not_past, ahead_next}
use Rattle.data_files.proofs.lines.start_of.Goals as goal

pub loop-init : goal.loop-init
loop-init c =
    let e : c.args.count - 0 ≡ c.args.count = omega arith in
    rw e c.requires

pub line_at-requires : goal.line_at-requires
line_at-requires c = let w = c.loop.invariant in (ahead_starts w, ahead_short w)

pub returns-in_default : goal.returns-in_default
returns-in_default c = absurd (ahead_not_past c.loop.invariant c.in_default.ensures)

pub loop-preserved : goal.loop-preserved
loop-preserved c =
    let l = c.loop in
    let a = c.args in
    let e : a.count - l.counter - 1 ≡ a.count - (l.counter + 1) = omega arith in
    rw e at (ahead_next l.invariant (omega arith) c.in-Some.ensures)

pub returns : goal.returns
returns c =
    let a = c.args in
    let l = c.loop in
    let z : a.count - l.counter ≡ 0 = omega arith in
    subst (λ (n : ℕ). Ahead a.file.now l.at n (line_text a.file.now a.count)) z l.invariant
