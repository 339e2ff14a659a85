-- Internal to the library. The answers of the functions on numbers.
use Rattle.std.specs.Prelude.{ℕ, ◌+◌, ◌-◌, true, false, ◌&&◌, List, [], ◌∷◌, ◌++◌, map, nat_le, replicate, if◌then◌else◌}
use Rattle.std.proofs.Math.Option.{Option, none, some}
use Rattle.format.specs.Bytes.{space_or_tab}
use Rattle.format.specs.Limits.{max_axes, max_size}
use Rattle.format.specs.Words.{value_of_number}
use Rattle.format.specs.Descriptors.{sizes_fine}
use Rattle.std.specs.Prelude.{Option as Maybe}
use Rattle.std.specs.Prelude.{Some, None}
use Rattle.read_text.specs.declared.numbers.Sizes.{Sizes}

-- the least number that no field has: larger ones are cut to it
abbrev pub past_size : ℕ
past_size = max_size + 1

-- a number up to the largest that any field has
abbrev pub number_answer : Option ℕ → Maybe ℕ
number_answer none = None
number_answer (some n) = if nat_le n max_size then Some n else None

-- a size, or 0 where it is none
abbrev pub size_answer : Option ℕ → ℕ
size_answer none = 0
size_answer (some n) = if nat_le n max_size then n else 0

-- what stands before the first space or tab, or all where there is none
unfoldable pub first_word : List ℕ → List ℕ
first_word [] = []
first_word (b ∷ s) = if space_or_tab b then [] else b ∷ first_word s

abbrev pub no_sizes : Sizes
no_sizes = record { fine = false; sizes = replicate max_axes 0 }

-- the sizes of so many axes in the words, 0 past them
unfoldable pub sizes_answer : ℕ → List (List ℕ) → Sizes
sizes_answer n ws =
    if nat_le n max_axes && sizes_fine n ws then record { fine = true; sizes = map value_of_number ws ++ replicate (max_axes - n) 0 }
    else no_sizes

-- the sizes of so many axes in the words, 0 past them
unfoldable pub sizes_in : ℕ → List (List ℕ) → Maybe (List ℕ)
sizes_in n ws =
    if nat_le n max_axes && sizes_fine n ws then Some (map value_of_number ws ++ replicate (max_axes - n) 0)
    else None
