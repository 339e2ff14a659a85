-- `write_vectors::components::put_number` meets its contract. Assumes nothing.
use Rattle.std.proofs.Common.{◌∙◌, arith, length-set, w32, w64}
use Rattle.write_vectors.proofs.Signs.{sized_back, number_few, power_few}
use Rattle.write_vectors.proofs.Pieces.{parted_put}
use Rattle.write_vectors.proofs.components.put_number.Goals as goal

pub put_sized-a-requires : goal.put_sized-a-requires
put_sized-a-requires c = omega (arith, c.requires, number_few c.unsigned_abs.result c.unsigned_abs.ensures.bound)

pub bounds-out-a : goal.bounds-out-a
bounds-out-a c =
    let p = c.put_sized-a in
    omega (arith, c.requires, p.auto.out, p.ensures.long, number_few c.unsigned_abs.result c.unsigned_abs.ensures.bound)

pub overflow_add-a : goal.overflow_add-a
overflow_add-a c = omega (arith, c.requires, c.put_sized-a.ensures.long, number_few c.unsigned_abs.result c.unsigned_abs.ensures.bound)

pub put_sized-requires : goal.put_sized-requires
put_sized-requires c =
    let p = c.put_sized-a in
    let n = c.unsigned_abs-2 in
    simp length-set (omega (arith, c.requires, p.auto.out, p.ensures.long, number_few c.unsigned_abs.result c.unsigned_abs.ensures.bound, power_few n.result n.ensures.bound))

pub shape_of-out : goal.shape_of-out
shape_of-out c = simp length-set at c.put_sized.auto.out ∙ c.put_sized-a.auto.out

pub returns : goal.returns
returns c =
    let a = c.args in
    let m = c.unsigned_abs in
    let n = c.unsigned_abs-2 in
    let p = c.put_sized-a.ensures in
    let q = c.put_sized.ensures in
    let e = sized_back w64 a.number c.ranges.number m.result m.ensures.value in
    let f = sized_back w32 a.power c.ranges.power n.result n.ensures.value in
    let put = parted_put a.out.now a.at 101 e f p.place p.stored q.place q.stored in
    record { place = put.0; stored = put.1; long = omega (arith, p.long, q.long, number_few m.result m.ensures.bound, power_few n.result n.ensures.bound) }
