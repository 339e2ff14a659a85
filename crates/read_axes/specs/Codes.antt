-- Internal to the library. The answers of the functions on centrings and kinds.
use Rattle.std.specs.Prelude.{ℕ, Bool, true, false, List, replicate, if◌then◌else◌}
use Rattle.std.specs.Prelude.{Option as Maybe}
use Rattle.std.specs.Prelude.{Some, None}
use Rattle.std.proofs.Math.Option.{Option, none, some}
use Rattle.format.specs.Limits.{max_axes}
use Rattle.format.specs.Words.{words}
use Rattle.format.specs.Vectors.{said_by}
use Rattle.format.specs.Kinds.{centring_named, kind_named}
use Rattle.format.specs.Calls.{padded}
use Rattle.read_axes.specs.declared.codes.Codes.{Codes}

-- the number of a word, of a kind or else of a centring
unfoldable pub code_named : Bool → List ℕ → Option ℕ
code_named k w = if k then kind_named w else centring_named w

-- the numbers of the words of a descriptor, where there is one for each of n axes: `kinds_said`, or else `centrings_said`
unfoldable pub codes_said : Bool → ℕ → List ℕ → Option (List ℕ)
codes_said k n t = said_by n (code_named k) (words t)

-- the numbers, 0 past them
abbrev pub codes_answer : Option (List ℕ) → Codes
codes_answer none = record { fine = false; codes = replicate max_axes 0 }
codes_answer (some ns) = record { fine = true; codes = padded ns }

abbrev pub codes_padded : Option (List ℕ) → Maybe (List ℕ)
codes_padded none = None
codes_padded (some ns) = Some (padded ns)
