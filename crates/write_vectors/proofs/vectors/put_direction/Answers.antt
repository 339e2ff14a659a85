-- `write_vectors::vectors::put_direction` meets its contract. Assumes nothing.
use Rattle.std.proofs.Common.{rules}
use lib.ListN.{length}
use mathlib.Core.Path.{◌≡◌}
use native.Mathlib.Omega.{arith}
use Rattle.write_vectors.proofs.Counting.{none_is, along_is}
use Rattle.write_vectors.proofs.Pieces.{put_is}
use Rattle.write_vectors.proofs.vectors.put_direction.Goals as goal

pub returns-then-kind-eq-NO_DIRECTION : goal.returns-then-kind-eq-NO_DIRECTION
returns-then-kind-eq-NO_DIRECTION c =
    let a = c.args in
    let long : length a.v.now ≡ 8 = search rules in
    let p = c.put_bytes.ensures in
    let put = put_is a.out.now a.at (none_is a.v.now a.n _ (omega (arith, long)) c.if-kind-eq-NO_DIRECTION.true) p.place p.stored in
    record { place = put.0; stored = put.1; long = omega (arith, p.place) }

pub returns-else-kind-eq-NO_DIRECTION : goal.returns-else-kind-eq-NO_DIRECTION
returns-else-kind-eq-NO_DIRECTION c =
    let a = c.args in
    let long : length a.v.now ≡ 8 = search rules in
    let p = c.put_vector.ensures in
    let put = put_is a.out.now a.at (along_is a.v.now a.n _ (omega (arith, long)) c.if-kind-eq-NO_DIRECTION.false) p.place p.stored in
    record { place = put.0; stored = put.1; long = p.long }
