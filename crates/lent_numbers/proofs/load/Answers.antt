-- `load` meets its contract, by the width.
use Rattle.std.proofs.Common.{◌∙◌, arith}
use Rattle.lent_numbers.proofs.WidthLaws.{width_1}
use Rattle.lent_numbers.proofs.Arrays.{le_2, le_4, le_8, chunk_long, chunk_bits, one_bits}
use Rattle.lent_numbers.proofs.load.Goals as goal

pub returns-in-8 : goal.returns-in-8
returns-in-8 g c =
    let a = c.args in
    let l = c.chunk.result in
    let long = chunk_long g.row.W 8 a.at 0 a.s.now l c.in-8.is c.requires.bytes_there c.chunk.ensures in
    chunk_bits g.row.W 8 a.at _ a.s.now l c.in-8.is c.requires.bytes_there c.chunk.ensures (c.from_le_bytes.ensures ∙ le_8 l long) (omega (arith, c.from_le_bytes.type_inv))

pub returns-in-4 : goal.returns-in-4
returns-in-4 g c =
    let a = c.args in
    let l = c.chunk-in-4.result in
    let long = chunk_long g.row.W 4 a.at 0 a.s.now l c.in-4.is c.requires.bytes_there c.chunk-in-4.ensures in
    chunk_bits g.row.W 4 a.at _ a.s.now l c.in-4.is c.requires.bytes_there c.chunk-in-4.ensures (c.from_le_bytes-in-4.ensures ∙ le_4 l long) (omega (arith, c.from_le_bytes-in-4.type_inv))

pub returns-in-2 : goal.returns-in-2
returns-in-2 g c =
    let a = c.args in
    let l = c.chunk-in-2.result in
    let long = chunk_long g.row.W 2 a.at 0 a.s.now l c.in-2.is c.requires.bytes_there c.chunk-in-2.ensures in
    chunk_bits g.row.W 2 a.at _ a.s.now l c.in-2.is c.requires.bytes_there c.chunk-in-2.ensures (c.from_le_bytes-in-2.ensures ∙ le_2 l long) (omega (arith, c.from_le_bytes-in-2.type_inv))

pub returns-in_default : goal.returns-in_default
returns-in_default g c = one_bits g.row.W c.args.at c.args.s.now (width_1 g.row.W c.requires.width (λ e. omega arith) (λ e. omega arith) (λ e. omega arith)) c.requires.bytes_there (omega (arith, c.type_inv.s c.args.at))
