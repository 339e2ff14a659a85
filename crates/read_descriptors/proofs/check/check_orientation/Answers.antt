-- `check::check_orientation` meets its contract: each arm's field is the one that it matched, and the last arm's is none of them. Assumes nothing.
use mathlib.Core.Path.{◌≡◌}
use native.Mathlib.Omega.{arith}
use Rattle.format.specs.Fields.{space, space_dimension, space_origin, space_directions, measurement_frame}
use Rattle.format.specs.Spaces.{space_named}
use Rattle.format.specs.Descriptors.{no_space, may_describe}
use Rattle.read_descriptors.specs.Checked.{NoneOf, oriented}
use Rattle.read_descriptors.proofs.check.check_orientation.Goals as goal

pub returns-in-16 : goal.returns-in-16
unfolding may_describe
returns-in-16 c h d m l =
    let a = c.args in
    let e : a.f ≡ space = omega arith in
    rw e (c.check_row.ensures (space_named a.t.now) no_space c.space_named.ensures)

pub returns-in-17 : goal.returns-in-17
unfolding may_describe
returns-in-17 c h d m l = let e : c.args.f ≡ space_dimension = omega arith in rw e c.check_number.ensures

pub returns-in-19 : goal.returns-in-19
unfolding may_describe
returns-in-19 c h d m l = let e : c.args.f ≡ space_origin = omega arith in rw e (c.check_vectors.ensures m l)

pub returns-in-20 : goal.returns-in-20
unfolding may_describe
returns-in-20 c h d m l = let e : c.args.f ≡ space_directions = omega arith in rw e (c.check_directions.ensures m l)

pub returns-in-21 : goal.returns-in-21
unfolding may_describe
returns-in-21 c h d m l = let e : c.args.f ≡ measurement_frame = omega arith in rw e (c.check_vectors-in-21.ensures m l)

pub returns-in_default : goal.returns-in_default
returns-in_default c h d m l =
    let k : NoneOf c.args.f oriented = grind arith in
    c.check_axes.ensures c.args.space h k d l
