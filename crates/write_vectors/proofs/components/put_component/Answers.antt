-- `write_vectors::components::put_component` meets its contract. Assumes nothing.
use Rattle.std.proofs.Common.{rules, w32, w64, arith}
use mir.Val.{SFits}
use Rattle.write_vectors.proofs.Signs.{number_is, mark_is}
use Rattle.write_vectors.proofs.Pieces.{put_is}
use Rattle.write_vectors.proofs.components.put_component.Goals as goal

pub returns-then-d-eq-NUMERIC : goal.returns-then-d-eq-NUMERIC
returns-then-d-eq-NUMERIC c =
    let a = c.args in
    let f : SFits w64 a.d.number = search rules in
    let g : SFits w32 a.d.power = search rules in
    let p = c.put_number.ensures in
    let put = put_is a.out.now a.at (number_is a.d c.if-d-eq-NUMERIC.true f g) p.place p.stored in
    record { place = put.0; stored = put.1; long = p.long }

pub returns-else-d-eq-NUMERIC : goal.returns-else-d-eq-NUMERIC
returns-else-d-eq-NUMERIC c =
    let a = c.args in
    let m = c.mark.ensures in
    let p = c.put_bytes.ensures in
    let put = put_is a.out.now a.at (mark_is a.d c.if-d-eq-NUMERIC.false) (rw m.is at p.place) (rw m.is at p.stored) in
    record { place = put.0; stored = put.1; long = omega (arith, p.place, m.short) }
