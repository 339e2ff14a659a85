-- `write_parts::samples::put_text_line` meets its contract. Assumes nothing.
use Prim.Native.Nat.{ℕ}
use mathlib.Core.Path.{ap, ◌∙◌}
use mathlib.Core.List.{List, [], ◌∷◌}
use native.Mathlib.Omega.{arith}
use lib.ListN.{set}
use Rattle.format.specs.Samples.{to_signed}
use Rattle.format.specs.Writer.{signed_decimal}
use Rattle.format.proofs.Stores.{sets_then}
use Rattle.write_parts.proofs.Signs.{line_length}
use Rattle.write_parts.proofs.samples.put_text_line.Goals as goal

pub put_signed-end-requires : goal.put_signed-end-requires
put_signed-end-requires c = omega (arith, c.requires, line_length (to_signed 8 c.args.x))

pub bounds-out-end : goal.bounds-out-end
bounds-out-end c = omega (arith, c.requires, c.put_signed-end.ensures.place, c.put_signed-end.auto.out, line_length (to_signed 8 c.args.x))

pub overflow_add-result : goal.overflow_add-result
overflow_add-result c = omega (arith, c.requires, c.put_signed-end.ensures.place, line_length (to_signed 8 c.args.x))

pub returns : goal.returns
returns c =
    let a = c.args in
    let p = c.put_signed-end in
    (record { place = omega (arith, p.ensures.place, line_length (to_signed 8 a.x)); stored = ap (λ (d : List ℕ). set d p.result 10) p.ensures.stored ∙ sets_then a.out.now (signed_decimal (to_signed 8 a.x)) (10 ∷ []) a.at p.result p.ensures.place })
