-- An entry stored in lent bytes.
-- Assumes nothing.
use Rattle.std.proofs.Common.{◌≡◌, ◌*◌, ◌<◌, ◌^◌, ℕ, zero, suc, List, [], ◌∷◌, length, set, length-set, ap, sym, ◌∙◌}
use Rattle.std.proofs.lemmas.List.Edits.{sets}
use Rattle.format.specs.Bytes.{over}
use Rattle.format.specs.Samples.{to_bytes}
use Rattle.format.specs.Boundary.{numbers_of, lent_numbers}
use Rattle.format.specs.Laws.{AllBelow}
use Rattle.format.proofs.Samples.{AllBytes, length_to_bytes}
use Rattle.format.proofs.Boundary.{length_numbers, numbers_below, numbers_of_lent, lent_of_numbers, number_bytes_flat}
use Rattle.lent_numbers.proofs.Stores.{over_set}

below_set : (m : ℕ) (ns : List ℕ) (k x : ℕ) → x < m → AllBelow m ns → AllBelow m (set ns k x)
below_set m [] k x h p = tt
below_set m (n ∷ ns) zero x h p = (h, p.1)
below_set m (n ∷ ns) (suc k) x h p = (p.0, below_set m ns k x h p.1)

module _ (d : List ℕ) (k x : ℕ) (bytes : AllBytes d) (h : k < length (numbers_of 4 d)) where
  pub put_cells : sets d (4 * k) (to_bytes 4 x) ≡ lent_numbers 4 (set (numbers_of 4 d) k x) d
  put_cells =
      ap (λ b. sets b (4 * k) (to_bytes 4 x)) (sym (lent_of_numbers 4 d bytes) ∙ ap (λ u. over u d) (number_bytes_flat 4 (numbers_of 4 d)))
      ∙ over_set (to_bytes 4) 4 (length_to_bytes 4) (numbers_of 4 d) d k x h
      ∙ ap (λ u. over u d) (sym (number_bytes_flat 4 (set (numbers_of 4 d) k x)))

  pub put_entries : x < 256 ^ 4 → numbers_of 4 (sets d (4 * k) (to_bytes 4 x)) ≡ set (numbers_of 4 d) k x
  put_entries l =
      ap (numbers_of 4) put_cells
      ∙ numbers_of_lent 4 (set (numbers_of 4 d) k x) d (length-set (numbers_of 4 d) k x ∙ length_numbers 4 d) (below_set (256 ^ 4) (numbers_of 4 d) k x l (numbers_below 4 d bytes))
