-- `store::put_columns` meets its contract. The invariant: the first c columns are stored.
use mathlib.Core.Path.{◌≡◌}
use lib.ListN.{length}
use lib.Seq.{sets}
use Rattle.format.specs.Boundary.{decimals_bytes}
use Rattle.read_orientation.specs.Told.{columns_in}
use Rattle.read_orientation.proofs.store.put_columns.Given as goal

abbrev pub invariant-loop-c : goal.invariant-loop-c
invariant-loop-c l = (length l.list ≡ length l.initial.list) × (l.list ≡ sets l.initial.list 0 (decimals_bytes (columns_in l.n l.m l.c)))
