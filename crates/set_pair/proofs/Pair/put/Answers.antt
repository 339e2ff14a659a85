-- Key, `:=` and value are one run of stores.
use Rattle.std.proofs.Common.{arith, length-set}
use Rattle.format.proofs.Pairs.{length_pair}
use Rattle.set_pair.proofs.Escapes.{pair_eq}
use Rattle.set_pair.proofs.Pair.put.Goals as goal

pub bounds-buf-mark-2 : goal.bounds-buf-mark-2
bounds-buf-mark-2 c =
    let p = c.args.self.now in
    simp length-set (omega (arith, c.requires, length_pair p.key.now p.value.now, c.escape_into-mark.ensures.place))

pub escape_into-requires : goal.escape_into-requires
escape_into-requires c =
    let p = c.args.self.now in
    simp length-set (omega (arith, c.requires, length_pair p.key.now p.value.now, c.escape_into-mark.ensures.place))

pub returns : goal.returns
returns c =
    let a = c.args in
    let p = a.self.now in
    let h = c.escape_into-mark in
    cc (pair_eq a.buf.now p.key.now p.value.now a.at h.result h.ensures.place, h.ensures.stored, c.escape_into.ensures.stored)
