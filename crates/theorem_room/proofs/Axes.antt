-- Where the list has room for the records of the most axes that a header may have, no refusal of their calls is 22.
-- Assumes nothing.
use Prim.Native.Nat.{ℕ, ◌/◌, ◌≤◌}
use native.Mathlib.Omega.{arith}
use mathlib.Core.Path.{◌≡◌, refl}
use mathlib.Core.List.{List}
use lib.ListN.{length}
use borrow.Author.Tests.{le-ltb}
use Rattle.format.specs.declared.Axis.{Axis}
use Rattle.format.specs.Descriptors.{dimension_of}
use Rattle.format.specs.Header.{Outcome, refused, accepted, header}
use Rattle.format.specs.AxisRecords.{axes_in, axes_call, axis_width, axes_listed, axes_entry}
use Rattle.format.specs.Room.{Enough, axis_records, axes_room}
use Rattle.format.proofs.Numbered.{NumberedOutcome, header_numbered}
use Rattle.format.proofs.Oriented.{axes_few}

pub records_enough : (file : List ℕ) (list : List Axis) → axis_records ≤ length list → Enough (axes_call file list).0.refusal
unfolding axes_in
records_enough file list h = go (header file) refl (header_numbered file)
  where
    go : (o : Outcome) → header file ≡ o → NumberedOutcome o → Enough (axes_in list o).0.refusal
    go (refused r) e n = λ q. omega arith
    go (accepted es gs ls) e n = rw (le-ltb (length list) (dimension_of gs) (omega (arith, h, axes_few file e))) (λ q. omega arith)

pub axes_enough : (file list : List ℕ) → axes_room ≤ length list → Enough (axes_entry file list).0.refusal
unfolding axes_listed
axes_enough file list h = go (header file) refl (header_numbered file)
  where
    go : (o : Outcome) → header file ≡ o → NumberedOutcome o → Enough (axes_listed list o).0.refusal
    go (refused r) e n = λ q. omega arith
    go (accepted es gs ls) e n = rw (le-ltb (length list / axis_width) (dimension_of gs) (omega (arith, h, axes_few file e))) (λ q. omega arith)
