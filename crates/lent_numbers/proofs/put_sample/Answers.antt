-- `put_sample` meets its contract: the bytes of the bits, the least first.
use Prim.Native.Nat.{ℕ, ◌*◌}
use mathlib.Core.Path.{ap, ◌∙◌}
use lib.IntN.{ℤ}
use lib.Seq.{sets}
use mir.Syntax.{w64}
use mir.Facts.{to_z-of_z}
use Rattle.format.specs.Descriptors.{little}
use Rattle.format.specs.Samples.{to_bytes, value_bytes}
use Rattle.lent_numbers.proofs.put_sample.Goals as goal

pub returns : goal.returns
unfolding value_bytes
returns c =
    let a = c.args in
    let d = a.d.now in
    c.store.ensures
    ∙ ap (λ (x : ℕ). sets d (8 * a.k) (to_bytes 8 x)) c.bits_of.ensures
    ∙ ap (λ (z : ℤ). sets d (8 * a.k) (value_bytes 8 little z)) (to_z-of_z {w = w64} c.ranges.z)
