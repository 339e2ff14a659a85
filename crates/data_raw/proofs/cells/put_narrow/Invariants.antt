-- `list::put_narrow` meets its contract: the samples before the end of the block before are stored.
use Rattle.std.proofs.Common.{◌-◌}
use Rattle.data_raw.proofs.BlockLaws.{storing}
use Rattle.data_raw.proofs.NarrowLaws.{Narrow}
use Rattle.data_raw.proofs.cells.put_narrow.Given as goal

abbrev pub invariant-loop-k : goal.invariant-loop-k
invariant-loop-k g l = Narrow (storing g.C.Cell.stores) l.s l.n l.w l.signed l.big l.up l.initial.dst l.last l.dst l.k

abbrev pub decreases-loop-k : goal.decreases-loop-k
decreases-loop-k g l = l.last - l.k
