-- `values::all_records` meets its contract: the first i records are those of the first i axes.
use Prim.Native.Nat.{ℕ, ◌<◌}
use native.Mathlib.Omega.{arith}
use native.Mathlib.Nat.{zero-add}
use mathlib.Core.Path.{refl, sym, ap, subst, ◌∙◌}
use mathlib.Core.List.{List, ◌++◌}
use lib.ListN.{take, drop, set, replicate}
use Rattle.format.specs.declared.Axis.{Axis}
use Rattle.format.specs.Bytes.{each}
use Rattle.format.specs.Limits.{max_axes}
use Rattle.format.proofs.Bytes.{length_each, each_from}
use Rattle.read_records.specs.Values.{axis_from}
use Rattle.format.specs.AxisRecords.{no_axis}
use Rattle.read_records.proofs.Filling.{fill_more, filled}
use Rattle.read_records.proofs.values.all_records.Goals as goal

pub loop-i-init : goal.loop-i-init
loop-i-init c = (refl, refl)

pub loop-i-preserved : goal.loop-i-preserved
loop-i-preserved c =
    let a = c.args in
    let l = c.loop-i in
    let less = c.loop-i-test.true in
    let v = axis_from a.sizes a.centrings a.kinds a.labels a.units in
    let all₀ = replicate max_axes no_axis in (
      ap (λ (ys : List Axis). set ys l.i (v l.i)) l.invariant.0
          ∙ ap (set (take l.i (each v 0 max_axes) ++ drop l.i all₀) l.i) (sym (each_from v no_axis 0 max_axes l.i less ∙ ap v (zero-add l.i)))
          ∙ fill_more l.i (each v 0 max_axes) all₀ no_axis (subst (λ (k : ℕ). l.i < k) (sym (length_each v 0 max_axes)) less) less,
      refl,
    )

pub returns : goal.returns
returns c =
    let a = c.args in
    let l = c.loop-i in
    let v = axis_from a.sizes a.centrings a.kinds a.labels a.units in
    l.invariant.0 ∙ filled l.i (each v 0 max_axes) (replicate max_axes no_axis) (length_each v 0 max_axes) refl (omega arith) (omega arith)
