-- `put_lifted` meets its contract: the samples before j are stored.
use Rattle.std.proofs.Common.{◌+◌}
use Rattle.data_raw.specs.Bits.{lows}
use Rattle.data_raw.proofs.BlockLaws.{storing, Run}
use Rattle.data_raw.proofs.cells.put_lifted.Given as goal

abbrev pub invariant-loop-j : goal.invariant-loop-j
invariant-loop-j g l = let cell = g.C.Cell in Run (storing cell.stores) (lows l.signed l.up l.a) l.initial.dst (cell.place l.k) l.dst (cell.place (l.k + l.j)) l.j
