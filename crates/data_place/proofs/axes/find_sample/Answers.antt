-- `data_place::axes::find_sample` meets its contract: the reading, then the number.
use native.Mathlib.Omega.{arith}
use mathlib.Core.Path.{refl, ◌∙◌}
use Rattle.data_place.proofs.Numbers.{number_axes}
use Rattle.data_place.proofs.axes.find_sample.Goals as goal

pub shared_ref_as_front-number_in : goal.shared_ref_as_front-number_in
shared_ref_as_front-number_in c = omega (arith, (number_axes c.args.file.now c.args.coords.now _ c.in_ok-reading.ensures refl).many)

pub number_in-requires : goal.number_in-requires
number_in-requires c = (number_axes c.args.file.now c.args.coords.now _ c.in_ok-reading.ensures refl).few

pub returns : goal.returns
returns c = c.number_in.ensures ∙ (number_axes c.args.file.now c.args.coords.now _ c.in_ok-reading.ensures refl).number
