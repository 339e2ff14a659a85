-- How the entries of a line table are held in cells: what is read from them, and what they are once they hold other entries.
use Rattle.std.specs.Prelude.{◌≡◌, ℕ, ◌<◌, List, ◌++◌, length, slice_index, refl}
use Rattle.std.proofs.Common.{ap, arith}
use Rattle.format.specs.Boundary.{numbers_of, number_bytes, lent_numbers}
use Rattle.format.proofs.Samples.{all_bytes}
use Rattle.format.proofs.Boundary.{over_past, length_number_bytes, lent_of_numbers}

pub record HoldsEntries {A : Type 0} (entries : List A → List ℕ) (holding : List ℕ → List A → List A) (whole : List A → Type 0) : Type 0 where
  -- cells hold their own entries
  pub own : (d : List A) → whole d → holding (entries d) d ≡ d
  -- of two lists of entries as long as one another the second is held
  pub again : (ns ms : List ℕ) (d : List A) → length ms ≡ length ns → holding ms (holding ns d) ≡ holding ms d

pub list_holds : HoldsEntries {A = ℕ} (λ ns. ns) (λ ns d. ns) (λ d. Unit {0})
list_holds = record { own = λ d w. refl; again = λ ns ms d e. refl }

bytes_again : (ns ms d : List ℕ) → length ms ≡ length ns → lent_numbers 4 ms (lent_numbers 4 ns d) ≡ lent_numbers 4 ms d
bytes_again ns ms d e =
    let l : length (number_bytes 4 ns) ≡ length (number_bytes 4 ms) = omega (arith, length_number_bytes 4 ns, length_number_bytes 4 ms, e) in
    ap (λ u. number_bytes 4 ms ++ u) (over_past (number_bytes 4 ns) d (length (number_bytes 4 ms)) (omega (arith, l)))

pub bytes_hold : HoldsEntries (numbers_of 4) (lent_numbers 4) (λ d. (i : ℕ) → slice_index d i < 256)
bytes_hold = record { own = λ d w. lent_of_numbers 4 d (all_bytes d w); again = bytes_again }
