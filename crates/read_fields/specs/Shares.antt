-- Internal to this crate. Whether data files fit the sizes, as the code asks it: by products that stop at the least number that is no extent, and without the test
-- that their number divides that of the samples, which follows (`Sharing.fits_is`).
use Rattle.std.specs.Prelude.{ℕ, ◌-◌, ◌%◌, Bool, true, false, List, ◌==◌, nat_lt, drop, slice_index, if◌then◌else◌, Option, Some, None}
use Rattle.format.specs.Descriptors.{product, capped}
use Rattle.read_files.specs.declared.cover.Cover.{Cover}
use Rattle.read_files.specs.declared.cover.Cover.TheVariants.{Open, Axes}

-- k files, each for one place on the axes from c on
abbrev pub slices_fit : List ℕ → ℕ → ℕ → Bool
slices_fit ns k c = capped (product (drop c ns)) == k

-- k slabs along the slowest of n axes
abbrev pub slabs_fit : ℕ → List ℕ → ℕ → Bool
slabs_fit n ns k = slice_index ns (n - 1) % k == 0

-- k files, each of which covers c of n axes
unfoldable pub fits : ℕ → List ℕ → ℕ → ℕ → Bool
fits n ns k c = if c == 0 then false else if nat_lt n c then false else if nat_lt c n then slices_fit ns k c else slabs_fit n ns k

-- by how many axes one covers, as it is kept
unfoldable pub fits_by : ℕ → List ℕ → ℕ → Option Cover → Bool
fits_by n ns k None = true
fits_by n ns k (Some Open) = fits n ns k (n - 1)
fits_by n ns k (Some (Axes c)) = fits n ns k c
