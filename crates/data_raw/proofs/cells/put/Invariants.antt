-- `put` meets its contract. The invariant: the samples before k are stored.
use Rattle.data_raw.proofs.BlockLaws.{storing}
use Rattle.data_raw.proofs.RawLaws.{Filling}
use Rattle.lent_numbers.specs.Widths.{kind_by, endian_by}
use Rattle.data_raw.proofs.cells.put.Given as goal

abbrev pub invariant-loop-k : goal.invariant-loop-k
invariant-loop-k g l = Filling (kind_by l.signed) l.w (endian_by l.big) l.n l.s (storing g.C.Cell.stores) l.initial.dst l.dst l.k
