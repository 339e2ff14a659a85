-- `craneholt::craneholt_sample_number` meets its contract: 17 coordinates answer as all.
use native.Mathlib.Omega.{arith}
use mathlib.Core.Path.{ap, ◌∙◌}
use Rattle.format.specs.Boundary.{numbers_of}
use Rattle.format.specs.Calls.{sample_number_call}
use Rattle.craneholt.proofs.CutCoordinates.{number_cut}
use Rattle.craneholt.proofs.Fronts.{front_lent}
use Rattle.craneholt.proofs.craneholt_sample_number.Goals as goal

pub returns : goal.returns
returns c =
    let a = c.args in
    let x = c.numbers-n in
    c.sample_number.ensures
    ∙ ap (sample_number_call a.file.now) (front_lent 8 a.coords.now x.new.t _ x.result 17 x.ensures.0 x.ensures.1)
    ∙ number_cut a.file.now (numbers_of 8 a.coords.now) 17 (omega arith)
