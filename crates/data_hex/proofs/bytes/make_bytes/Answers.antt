-- `make_bytes` meets its contract. The invariant: the bytes passed are those of the values.
use Prim.Native.Nat.{◌*◌}
use native.Mathlib.Omega.{arith}
use mathlib.Core.Path.{◌∙◌}
use Rattle.data_hex.specs.Forms.{pairs_of}
use Rattle.data_hex.proofs.BlockLaws.{partly_none, partly_more, partly_done, pairs_length, pair_at}
use Rattle.data_hex.proofs.bytes.make_bytes.Goals as goal

pub loop-j-init : goal.loop-j-init
loop-j-init c = let a = c.args in partly_none (pairs_of a.d.now) a.bytes.now (16 * a.k)

pub bounds-bytes-j : goal.bounds-bytes-j
bounds-bytes-j c = omega (arith, c.loop-j.invariant.long)

pub loop-j-preserved : goal.loop-j-preserved
loop-j-preserved c =
    let a = c.args in
    let i = c.loop-j in
    let l = pairs_length a.d.now in
    partly_more (pairs_of a.d.now) a.bytes.now (16 * a.k) (omega arith) (omega arith) i.invariant (omega arith) _
    (c.byte_of.ensures ∙ pair_at i.j a.d.now (omega arith) _ c.load_pair.ensures)

pub shape_of-bytes : goal.shape_of-bytes
shape_of-bytes c = c.loop-j.invariant.long

pub returns : goal.returns
returns c =
    let a = c.args in
    let l = pairs_length a.d.now in
    partly_done (pairs_of a.d.now) a.bytes.now (16 * a.k) (omega arith) (omega arith) c.loop-j.invariant (omega arith)
