-- What is known of the sizes of an accepted header: there is one for each axis, and the reading has them, with zeros after them.
-- Assumes nothing.
use Prim.Native.Nat.{ℕ, ◌-◌, ◌≤◌}
use native.Mathlib.Omega.{arith}
use mathlib.Core.Path.{◌≡◌}
use mathlib.Core.List.{List, ◌++◌}
use lib.ListN.{length, replicate, take, length-append}
use lib.Seq.{take_at}
use Rattle.format.specs.Limits.{max_axes}
use Rattle.format.specs.Lines.{Line}
use Rattle.format.specs.Fields.{Given}
use Rattle.format.specs.Descriptors.{dimension_of, sizes_of}
use Rattle.format.specs.Header.{Entry, accepted, header}
use Rattle.format.proofs.Oriented.{axes_few}
use Rattle.format.proofs.Named.{sizes_many}

module _ (s : List ℕ) {es : List Entry} {gs : List Given} {r : List Line} (e : header s ≡ accepted es gs r) where
  -- there are at most 16
  pub header_few : length (sizes_of gs) ≤ max_axes
  header_few = omega (arith, sizes_many s e, axes_few s e)

  -- the reading's sizes are at least as many
  pub header_axes : dimension_of gs ≤ length (sizes_of gs ++ replicate (max_axes - length (sizes_of gs)) 0)
  header_axes = omega (arith, sizes_many s e, length-append (sizes_of gs) (replicate (max_axes - length (sizes_of gs)) 0))

  -- the first of them are those of the axes
  pub header_sizes : take (dimension_of gs) (sizes_of gs ++ replicate (max_axes - length (sizes_of gs)) 0) ≡ sizes_of gs
  header_sizes = take_at (sizes_of gs) (replicate (max_axes - length (sizes_of gs)) 0) (dimension_of gs) (sizes_many s e)
