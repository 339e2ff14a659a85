-- The shares of files are all samples, and each sample is in one place.
-- Assumes nothing.
use Prim.Native.Nat.{ℕ, zero, suc, ◌+◌, ◌*◌, ◌%◌, ◌≤◌, ◌<◌}
use native.Mathlib.Nat.{mul-zero, suc-mul, mul-le-mul_right, eq_of_mul-eq-mul_right, mod-lt, div-add-mod, div-add-mod', div-lt_iff_lt-mul}
use native.Mathlib.Omega.{arith}
use mathlib.Core.Path.{◌≡◌, refl, ap}
use lib.Arith.{digits_lt, digits_div, digits_mod}
use Rattle.format.specs.FileNames.{share, share_file, share_byte}
use Rattle.theorem_files.specs.Files.{SharesTile}

module _ (samples files w : ℕ) (not_None : 1 ≤ samples) (divides : samples % files ≡ 0) (wide : 1 ≤ w) where
  whole : files * share samples files ≡ samples
  whole = omega (arith, div-add-mod samples files)

  -- no share is empty
  share_some : 1 ≤ share samples files
  share_some = go (share samples files) whole
    where
      go : (q : ℕ) → files * q ≡ samples → 1 ≤ q
      go zero e = absurd (omega (arith, mul-zero files))
      go (suc q) e = omega arith

  in_files : (s : ℕ) → s < samples → share_file samples files s < files
  in_files s h = (div-lt_iff_lt-mul share_some).1 (omega (arith, whole))

  in_share : (s : ℕ) → share_byte samples files w s + w ≤ share samples files * w
  in_share s = omega (arith, mul-le-mul_right w (mod-lt s share_some), suc-mul (s % share samples files) w)

  apart : (s r : ℕ) → share_file samples files s ≡ share_file samples files r → share_byte samples files w s ≡ share_byte samples files w r → s ≡ r
  apart s r e b =
      let q = share samples files in
      omega (arith, div-add-mod' s q, div-add-mod' r q, ap (λ (x : ℕ). x * q) e, eq_of_mul-eq-mul_right w wide (s % q) (r % q) b)

  filled : (j p : ℕ) → j < files → p < share samples files
      → (s : ℕ) × (s ≡ j * share samples files + p) × (s < samples) × (share_file samples files s ≡ j) × (share_byte samples files w s ≡ p * w)
  filled j p h l =
      let q = share samples files in
      (j * q + p, refl, omega (arith, digits_lt h l, whole), digits_div j l, ap (λ (x : ℕ). x * w) (digits_mod j l))

  pub shares_tile : SharesTile samples files w
  shares_tile = record { whole = whole; in_files = in_files; in_share = λ s h. in_share s; apart = apart; filled = filled }
