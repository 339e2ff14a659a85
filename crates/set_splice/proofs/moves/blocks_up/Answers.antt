-- The bytes from k on are moved.
use Rattle.std.proofs.Common.{◌+◌, ◌-◌, ◌≡◌, ◌∙◌, ap, take, drop, arith}
use Rattle.std.proofs.lemmas.List.Edits.{sets}
use Rattle.set_splice.proofs.Sets.{up_step}
use Rattle.set_splice.proofs.moves.blocks_up.Goals as goal

pub loop-k-preserved : goal.loop-k-preserved
loop-k-preserved g c =
    let a = c.args in
    let l = c.loop-k in
    let k = l.k - g.row.N in
    let n : g.row.N ≡ l.k - k = omega (arith, c.loop-k-test.true) in (
      omega (arith, l.invariant.0),
      c.block.ensures ∙ ap (λ m. sets l.d (a.to + k) (take m (drop (a.from + k) l.d))) n
          ∙ up_step a.d.now l.d a.to a.from a.n l.k k c.requires.up (omega (arith, c.requires.up, c.requires.within)) (omega arith) l.invariant.0 l.invariant.1,
    )
