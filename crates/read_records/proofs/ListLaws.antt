-- The records worked out by value, once they lie at the front of the lent list, are what the call for the list hands over.
--     few, within     as many records as are handed over are among the 16, and have room in the list
--     handed_over     the answer, and the list with these records at its front, are those of the call
--     handed_bytes    the same of lent bytes with the records' bytes at their front
-- Assumes nothing.
use Rattle.std.specs.Prelude.{if◌then◌else◌}
use mathlib.Core.Path.{◌≡◌, refl}
use mathlib.Core.Bool.{Bool, true, false}
use mathlib.Core.List.{List, ◌++◌}
use Prim.Native.Nat.{ℕ, ◌/◌, ◌≤◌, zero-le}
use lib.Dec.{ltb}
use lib.ListN.{length, take, drop}
use borrow.Author.Tests.{ltb-false}
use Rattle.format.specs.declared.Axis.{Axis}
use Rattle.format.specs.declared.Axes.{Axes}
use Rattle.format.specs.declared.CountAnswer.{CountAnswer}
use Rattle.format.specs.Bytes.{each, over}
use Rattle.format.specs.Limits.{max_axes}
use Rattle.format.specs.Refusals.{lent_too_short, refusal, fine}
use Rattle.format.specs.Fields.{Given}
use Rattle.format.specs.Descriptors.{dimension_of}
use Rattle.format.specs.Header.{Entry, Outcome, refused, accepted, header}
use Rattle.format.specs.AxisRecords.{axis_of, axes_of, no_axes, records_in, records_call, axes_in, axes_call, axis_width, axes_bytes, axes_listed, axes_entry}
use Rattle.format.proofs.Bytes.{length_each, take_each}
use Rattle.format.proofs.Oriented.{axes_few}

-- the lent list with as many of the records at its front as the answer says
abbrev pub laid : Axes → List Axis → List Axis
laid x ys = take x.answer.count x.records ++ drop x.answer.count ys

-- what is worked out for an accepted header, in a list that is too short and in one that is not
abbrev short : Axes
short = no_axes (refusal lent_too_short)

abbrev enough : List Entry → List Given → Axes
enough es gs = record { answer = record { refusal = fine; count = dimension_of gs }; records = each (axis_of es gs) 0 max_axes }

module _ (file : List ℕ) (room : ℕ) where
  pub few : (records_call file room).answer.count ≤ max_axes
  unfolding records_in
  few = go (header file) refl
    where
      go : (o : Outcome) → header file ≡ o → (records_in room o).answer.count ≤ max_axes
      go (refused r) e = zero-le
      go (accepted es gs ls) e = tested (ltb room (dimension_of gs))
        where
          tested : (t : Bool) → (if t then short else enough es gs).answer.count ≤ max_axes
          tested true = zero-le
          tested false = axes_few file e

  pub within : (records_call file room).answer.count ≤ room
  unfolding records_in
  within = go (header file)
    where
      go : (o : Outcome) → (records_in room o).answer.count ≤ room
      go (refused r) = zero-le
      go (accepted es gs ls) = tested (ltb room (dimension_of gs)) refl
        where
          tested : (t : Bool) → ltb room (dimension_of gs) ≡ t → (if t then short else enough es gs).answer.count ≤ room
          tested true e = zero-le
          tested false e = ltb-false room (dimension_of gs) e

module _ (file : List ℕ) (ys : List Axis) where
  abbrev Handed : Axes → CountAnswer × List Axis → Type 0
  Handed x y = ◌≡◌ {A = CountAnswer × List Axis} (x.answer, laid x ys) y

  pub handed_over : Handed (records_call file (length ys)) (axes_call file ys)
  unfolding records_in axes_in
  handed_over = go (header file) refl
    where
      go : (o : Outcome) → header file ≡ o → Handed (records_in (length ys) o) (axes_in ys o)
      go (refused r) e = refl
      go (accepted es gs ls) e = tested (ltb (length ys) (dimension_of gs))
        where
          tested : (t : Bool) → Handed (if t then short else enough es gs) (if t then (short.answer, ys) else ((enough es gs).answer, over (axes_of es gs) ys))
          tested true = refl
          tested false = rw (take_each (axis_of es gs) 0 (dimension_of gs) max_axes (axes_few file e), length_each (axis_of es gs) 0 (dimension_of gs))

-- the same in lent bytes, 32 for a record
module _ (file list : List ℕ) where
  abbrev room : ℕ
  room = length list / axis_width

  abbrev Stored : Axes → CountAnswer × List ℕ → Type 0
  Stored x y = ◌≡◌ {A = CountAnswer × List ℕ} (x.answer, over (axes_bytes (take x.answer.count x.records)) list) y

  pub handed_bytes : Stored (records_call file room) (axes_entry file list)
  unfolding records_in axes_listed axes_bytes
  handed_bytes = go (header file) refl
    where
      go : (o : Outcome) → header file ≡ o → Stored (records_in room o) (axes_listed list o)
      go (refused r) e = refl
      go (accepted es gs ls) e = tested (ltb room (dimension_of gs))
        where
          tested : (t : Bool) → Stored (if t then short else enough es gs) (if t then (short.answer, list) else ((enough es gs).answer, over (axes_bytes (axes_of es gs)) list))
          tested true = refl
          tested false = rw (take_each (axis_of es gs) 0 (dimension_of gs) max_axes (axes_few file e))
