-- `offset_for` meets its contract: the file and the largest step are tested before the key is looked up.
use Rattle.std.proofs.Common.{◌≡◌, sym, ap, ◌∙◌, arith}
use mathlib.Core.Option.{none}
use Rattle.roof_steps.specs.Steps.{number_found}
use Rattle.roof_sweep.specs.Sweeps.{offset_for}
use Rattle.roof_sweep.proofs.OffsetLaws.{not_sweep, step_low, step_high, step_fine}
use Rattle.roof_sweep.proofs.offset_for.Goals as goal
use Rattle.roof_sweep.proofs.offset_for.Goals.{else-is_sweep-via-then-is_sweep+then-largest-ge1+else-largest-le-MAX_STEP, else-is_sweep-via-then-is_sweep+else-largest-ge1, else-is_sweep-via-else-is_sweep}

pub returns-then-largest-le-MAX_STEP : goal.returns-then-largest-le-MAX_STEP
returns-then-largest-le-MAX_STEP c =
    let a = c.args in
    c.find_offset.ensures ∙ ap number_found (sym (step_fine a.file.now a.largest a.reading.now c.requires (sym c.is_sweep.ensures ∙ c.if-is_sweep.true) c.if-largest-ge1.true (omega (arith, c.if-largest-le-MAX_STEP.true))))

pub returns-else-is_sweep : goal.returns-else-is_sweep
returns-else-is_sweep c =
    let a = c.args in
    let s = c.is_sweep.ensures in
    let q : offset_for a.file.now a.largest ≡ none =
    elim c.else-is_sweep.branch [ else-is_sweep-via-then-is_sweep+then-largest-ge1+else-largest-le-MAX_STEP w ↦ step_high a.file.now a.largest a.reading.now c.requires (sym s ∙ w.if-is_sweep.true) w.if-largest-ge1.true (omega (arith, w.if-largest-le-MAX_STEP.false)) | else-is_sweep-via-then-is_sweep+else-largest-ge1 w ↦ step_low a.file.now a.largest a.reading.now c.requires (sym s ∙ w.if-is_sweep.true) (omega (arith, w.if-largest-ge1.false)) | else-is_sweep-via-else-is_sweep w ↦ not_sweep a.file.now a.largest a.reading.now c.requires (sym s ∙ w.if-is_sweep.false) ] in
    sym (ap number_found q)
