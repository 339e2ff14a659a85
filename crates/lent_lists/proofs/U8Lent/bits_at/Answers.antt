-- The number of 8 bytes at a sample's place is its bits.
use Rattle.std.proofs.Common.{arith}
use Rattle.format.specs.Samples.{from_bytes}
use Rattle.format.proofs.Boundary.{lent_room, length_samples}
use Rattle.lent_lists.proofs.Bits.{bits_lent}
use Rattle.lent_lists.proofs.U8Lent.bits_at.Goals as goal

pub word_at-requires : goal.word_at-requires
word_at-requires c = let a = c.args in lent_room from_bytes 8 a.cells.now a.k (omega (arith, c.requires, length_samples a.cells.now))

pub returns : goal.returns
returns c =
    let a = c.args in
    bits_lent a.cells.now a.k c.word_at.result (omega (arith, c.requires, length_samples a.cells.now)) (omega (arith, c.word_at.type_inv)) c.word_at.ensures
