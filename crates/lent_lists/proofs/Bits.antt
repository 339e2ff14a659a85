-- The bits of a sample in lent bytes.
use Rattle.std.specs.Prelude.{if◌then◌else◌}
use Rattle.std.proofs.Common.{◌≡◌, ℕ, ◌*◌, ◌/◌, ◌-◌, ◌<◌, Bool, true, false, ltb, List, length, get_or, take, drop, pos, negsuc, sym, refl, ap, ◌∙◌, arith, length-drop, length-take-le}
use Rattle.format.specs.Samples.{from_bytes, to_signed, from_signed, sample_value}
use Rattle.format.specs.Boundary.{samples_lent}
use Rattle.format.proofs.Boundary.{lent_room, sample_at}

-- the bits of the sample whose bits are x
bits_back : (x : ℕ) → x < 18446744073709551616 → x ≡ from_signed 8 (to_signed 8 x)
bits_back x h = go (ltb x 9223372036854775808)
  where
    go : (t : Bool) → x ≡ from_signed 8 (if t then pos x else negsuc (18446744073709551615 - x))
    go true = refl
    go false = omega arith

-- the bits of sample k
pub bits_lent : (s : List ℕ) (k x : ℕ) → k < length s / 8 → x < 18446744073709551616 → x ≡ from_bytes (take 8 (drop (8 * k) s)) → x ≡ from_signed 8 (get_or (samples_lent s) k (pos 0))
unfolding sample_value
bits_lent s k x h f e =
    let l : length (take 8 (drop (8 * k) s)) ≡ 8 = length-take-le 8 (drop (8 * k) s) (omega (arith, length-drop (8 * k) s, lent_room from_bytes 8 s k h)) in
    bits_back x f
    ∙ ap (λ n. from_signed 8 (to_signed 8 n)) e
    ∙ sym (ap (from_signed 8) (sample_at s k (pos 0) h ∙ ap (λ w. to_signed w (from_bytes (take 8 (drop (8 * k) s)))) l))
