-- Stamps of samples in lent bytes: they are those of the samples that were put into the bytes, whatever these were.
-- Assumes nothing.
use Prim.Native.Nat.{ℕ, zero, suc, ◌+◌, ◌*◌, ◌/◌, ◌%◌, ◌^◌, ◌<◌}
use native.Mathlib.Nat.{pow-suc}
use native.Mathlib.Omega.{arith}
use mathlib.Core.Path.{◌≡◌, refl, sym, ap, ◌∙◌}
use mathlib.Core.List.{List, [], ◌∷◌, ◌++◌, append_assoc, map}
use lib.IntN.{ℤ, pos}
use lib.ListN.{length, get_or, drop}
use lib.Seq.{take_at, drop_at}
use Rattle.format.specs.Bytes.{over}
use Rattle.format.specs.Descriptors.{signed, little}
use Rattle.format.specs.Samples.{from_bytes, to_bytes, to_signed, from_signed, sample_value, value_bytes}
use Rattle.format.specs.Boundary.{groups, words_of_samples, samples_lent, lent_samples}
use Rattle.format.proofs.Samples.{length_to_bytes, to_bytes_bytes, from_bytes_below, length_value_bytes}
use Rattle.format.proofs.Boundary.{length_over, length_words, length_samples}
use Rattle.roof_steps.specs.Steps.{counter_values, stamp_of, stamps}
use Rattle.roof_steps.proofs.Stamps.{stamp_bits}

-- ---- one sample

-- w bytes of a number, and what is above them
above : (w n : ℕ) → (q : ℕ) × (n ≡ from_bytes (to_bytes w n) + 256 ^ w * q)
unfolding from_bytes to_bytes
above zero n = (n, omega arith)
above (suc w) n =
    let h = above w (n / 256) in
    (h.0, omega (arith, h.1, ap (λ (k : ℕ). k * h.0) (pow-suc 256 w)))

-- 8 bytes keep the stamp of any sample
stamp_back : (z : ℤ) → stamp_of (sample_value signed little (value_bytes 8 little z)) ≡ stamp_of z
unfolding stamp_of sample_value value_bytes
stamp_back z =
    let x : ℕ = from_signed 8 z in
    let s : List ℕ = to_bytes 8 x in
    let l : length s ≡ 8 = length_to_bytes 8 x in
    let b : from_bytes s < 18446744073709551616 = ap_lt l (from_bytes_below s (to_bytes_bytes 8 x)) in
    ap (λ (w : ℕ). stamp_of (to_signed w (from_bytes s))) l ∙ sym (stamp_bits (from_bytes s) b) ∙ low x
  where
    ap_lt : {n k : ℕ} → n ≡ 8 → k < 256 ^ n → k < 18446744073709551616
    ap_lt e h = rw e at h

    low : (x : ℕ) → from_bytes (to_bytes 8 x) % counter_values ≡ x % counter_values
    low x = let h = above 8 x in by (from_bytes (to_bytes 8 x)) x h.0 h.1
      where
        by : (f x q : ℕ) → x ≡ f + 18446744073709551616 * q → f % counter_values ≡ x % counter_values
        by f x q e = omega arith

-- ---- all of them

words_stamps : (zs : List ℤ) (t : List ℕ) → map stamp_of (map (sample_value signed little) (groups 8 (length zs) (words_of_samples zs ++ t))) ≡ map stamp_of zs
unfolding words_of_samples groups
words_stamps [] t = refl
words_stamps (z ∷ zs) t =
    let v : List ℕ = value_bytes 8 little z in
    let r : List ℕ = words_of_samples zs ++ t in
    let l : length v ≡ 8 = length_value_bytes 8 little z in
    rw (append_assoc v (words_of_samples zs) t, take_at v r 8 l, drop_at v r 8 l, stamp_back z, words_stamps zs t)

pub lent_stamps : (zs : List ℤ) (s : List ℕ) → length zs ≡ length (samples_lent s) → map stamp_of (samples_lent (lent_samples zs s)) ≡ map stamp_of zs
lent_stamps zs s h =
    let u : List ℕ = words_of_samples zs in
    let n : length zs ≡ length s / 8 = h ∙ length_samples s in
    let k : length (over u s) ≡ length s = length_over u s (omega (arith, n, length_words zs)) in
    ap (λ (n : ℕ). map stamp_of (map (sample_value signed little) (groups 8 n (over u s)))) (ap (λ (n : ℕ). n / 8) k ∙ sym n)
    ∙ words_stamps zs (drop (length u) s)

-- ---- rows

-- the stamps of rows depend on the stamps of the samples alone
first_stamp : (a b : List ℤ) → map stamp_of a ≡ map stamp_of b → stamp_of (get_or a 0 (pos 0)) ≡ stamp_of (get_or b 0 (pos 0))
first_stamp a b e = sym (at_front a) ∙ ap (λ (l : List ℕ). get_or l 0 (stamp_of (pos 0))) e ∙ at_front b
  where
    at_front : (l : List ℤ) → get_or (map stamp_of l) 0 (stamp_of (pos 0)) ≡ stamp_of (get_or l 0 (pos 0))
    at_front [] = refl
    at_front (z ∷ l) = refl

drop_stamps : (k : ℕ) (l : List ℤ) → drop k (map stamp_of l) ≡ map stamp_of (drop k l)
drop_stamps zero l = refl
drop_stamps (suc k) [] = refl
drop_stamps (suc k) (z ∷ l) = drop_stamps k l

pub same_stamps : (rows m : ℕ) (a b : List ℤ) → map stamp_of a ≡ map stamp_of b → stamps rows m a ≡ stamps rows m b
unfolding stamps
same_stamps zero m a b e = refl
same_stamps (suc rows) m a b e =
    rw (first_stamp a b e, same_stamps rows m (drop m a) (drop m b) (sym (drop_stamps m a) ∙ ap (drop m) e ∙ drop_stamps m b))
