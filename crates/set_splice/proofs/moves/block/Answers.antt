-- The array holds the part before it is written.
use Rattle.std.proofs.Common.{◌+◌, ◌-◌, ◌≡◌, ◌∙◌, ap, take, drop, length, length-take-le, length-drop, arith}
use Rattle.set_splice.proofs.Bridges.{put_sets}
use Rattle.set_splice.proofs.moves.block.Goals as goal

pub returns : goal.returns
returns g c =
    let a = c.args in
    let n = g.row.N in
    let T = take n (drop a.from a.d.now) in
    let long : length T ≡ n = length-take-le n (drop a.from a.d.now) (omega (arith, length-drop a.from a.d.now, c.requires.from)) in
    let whole = rw c.unwrap-bytes.ensures at c.try_into.ensures.1 in
    let e : a.from + n - a.from ≡ n = omega arith in
    put_sets a.d.now _ T a.to (a.to + n) (omega arith) c.requires.to (omega (arith, long)) (c.copy_from_slice.ensures.after ∙ whole.same ∙ ap (λ m. take m (drop a.from a.d.now)) e)
