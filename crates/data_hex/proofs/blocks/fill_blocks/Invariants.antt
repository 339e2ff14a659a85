-- `fill_blocks` meets its contract. The invariant: the samples before `at` stand in front.
use Prim.Native.Nat.{◌-◌}
use mathlib.Core.Path.{◌≡◌}
use lib.ListN.{length}
use Rattle.lent_numbers.specs.Widths.{kind_by, endian_by}
use Rattle.data_hex.proofs.LoopLaws.{storing, Filling}
use Rattle.data_hex.proofs.blocks.fill_blocks.Given as goal

abbrev pub invariant-loop-k : goal.invariant-loop-k
invariant-loop-k g l = Filling (storing g.C.Cell.stores) (kind_by l.signed) l.w (endian_by l.big) l.n l.s l.initial.dst l.dst l.at l.k × ((length l.d ≡ 256) × (length l.bytes ≡ 128))

abbrev pub decreases-loop-k : goal.decreases-loop-k
decreases-loop-k g l = l.n - l.k
