-- Samples that are decoded: each one that is seen is of its type, and where none is refused there are as many as are wanted.
-- Assumes nothing.
use Rattle.std.specs.Prelude.{if◌then◌else◌}
use Prim.Native.Nat.{ℕ, zero, suc, ◌<◌}
use native.Mathlib.Omega.{arith}
use mathlib.Core.Path.{◌≡◌, refl, ap}
use mathlib.Core.Bool.{Bool, true, false}
use mathlib.Core.List.{List, [], ◌∷◌, ◌++◌}
use mathlib.Core.Option.{Option, none, some}
use lib.Dec.{eqb}
use lib.IntN.{ℤ}
use lib.ListN.{length, get_or, take, drop}
use Rattle.format.specs.Refusals.{bad_sample, data_ends_early}
use Rattle.format.specs.Descriptors.{NumberKind, raw, as_text}
use Rattle.format.specs.Samples.{Decoded, stopped, with_sample, then_samples, in_type, sample_value, raw_samples, without_blanks, hex_digit, HexRun, no_hex, hex_run, hex_pair, hex_alone, hex_bytes, hex_sample, hex_samples, skip_blanks, token, after_token, token_value, text_sample, tokens, text_samples, samples_of}
use Rattle.format.specs.Writer.{all_in_type}
use Rattle.format.proofs.Bytes.{and_left, and_right, and_both}

-- hex that is refused has the number of its refusal
abbrev Numbered : HexRun → Type 0
Numbered (no_hex n) = 0 < n
Numbered (hex_run s r) = Unit {0}

hex_numbered : (w : ℕ) (s : List ℕ) → Numbered (hex_bytes w s)
unfolding hex_bytes
hex_numbered zero s = tt
hex_numbered (suc w) [] = omega arith
hex_numbered (suc w) (b ∷ []) = go (hex_digit b)
  where
    go : (o : Option ℕ) → Numbered (hex_alone o)
    go none = omega arith
    go (some h) = omega arith
hex_numbered (suc w) (b ∷ c ∷ s) = go (hex_digit b) (hex_digit c) (hex_bytes w s) (hex_numbered w s)
  where
    go : (x y : Option ℕ) (rest : HexRun) → Numbered rest → Numbered (hex_pair x y rest)
    go none y rest t = omega arith
    go (some h) none rest t = omega arith
    go (some h) (some l) (no_hex n) t = t
    go (some h) (some l) (hex_run u r) t = tt

module _ (k : NumberKind) (w : ℕ) where
  -- of n samples that are wanted
  abbrev pub Seen : ℕ → Decoded → Type 0
  Seen n d = (all_in_type k w d.seen ≡ true) × (d.number ≡ 0 → length d.seen ≡ n)

  -- a sample among them, whatever follows them in a list
  pub in_type_at : (zs rest : List ℤ) (i : ℕ) (z : ℤ) → all_in_type k w zs ≡ true → i < length zs → in_type k w (get_or (zs ++ rest) i z) ≡ true
  unfolding all_in_type
  in_type_at [] rest i z e l = absurd (omega arith)
  in_type_at (y ∷ ys) rest zero z e l = and_left (in_type k w y) (all_in_type k w ys) e
  in_type_at (y ∷ ys) rest (suc i) z e l = in_type_at ys rest i z (and_right (in_type k w y) (all_in_type k w ys) e) (omega arith)

  none_wanted : Seen 0 (stopped 0)
  unfolding all_in_type
  none_wanted = (refl, λ e. refl)

  refused_seen : (m n : ℕ) → 0 < m → Seen n (stopped m)
  unfolding all_in_type
  refused_seen m n l = (refl, λ e. absurd (omega arith))

  then_seen : (z : ℤ) (n : ℕ) (rest : Decoded) → Seen n rest → Seen (suc n) (then_samples k w z rest)
  unfolding all_in_type
  then_seen z n rest s = go (in_type k w z) refl
    where
      go : (x : Bool) → in_type k w z ≡ x → Seen (suc n) (if x then with_sample z rest else stopped bad_sample)
      go true e = (and_both (in_type k w z) (all_in_type k w rest.seen) e s.0, λ h. ap suc (s.1 h))
      go false e = refused_seen bad_sample (suc n) (omega arith)

  text_seen : (n : ℕ) (s : List ℕ) → Seen n (tokens k w n s)
  unfolding tokens
  text_seen zero s = none_wanted
  text_seen (suc n) [] = refused_seen data_ends_early (suc n) (omega arith)
  text_seen (suc n) (b ∷ s) = go (token_value (token (b ∷ s))) (tokens k w n (skip_blanks (after_token (b ∷ s)))) (text_seen n (skip_blanks (after_token (b ∷ s))))
    where
      go : (o : Option ℤ) (rest : Decoded) → Seen n rest → Seen (suc n) (text_sample k w o rest)
      go none rest t = refused_seen bad_sample (suc n) (omega arith)
      go (some z) rest t = then_seen z n rest t

  module _ (endian : ℕ) where
    raw_seen : (n : ℕ) (s : List ℕ) → Seen n (raw_samples k w endian n s)
    unfolding raw_samples
    raw_seen zero s = none_wanted
    raw_seen (suc n) s = then_seen (sample_value k endian (take w s)) n (raw_samples k w endian n (drop w s)) (raw_seen n (drop w s))

    hex_seen : (n : ℕ) (s : List ℕ) → Seen n (hex_samples k w endian n s)
    unfolding hex_samples
    hex_seen zero s = none_wanted
    hex_seen (suc n) s = go (hex_bytes w s) (hex_numbered w s) (hex_seen n)
      where
        go : (x : HexRun) → Numbered x → ((r : List ℕ) → Seen n (hex_samples k w endian n r)) → Seen (suc n) (hex_sample k w endian x (λ r. hex_samples k w endian n r))
        go (no_hex m) t f = refused_seen m (suc n) t
        go (hex_run u r) t f = then_seen (sample_value k endian u) n (hex_samples k w endian n r) (f r)

    pub samples_seen : (encoding n : ℕ) (s : List ℕ) → Seen n (samples_of encoding k w endian n s)
    unfolding samples_of
    samples_seen encoding n s = go (eqb encoding raw) (eqb encoding as_text)
      where
        go : (x y : Bool) → Seen n (if x then raw_samples k w endian n s else if y then text_samples k w n s else hex_samples k w endian n (without_blanks s))
        go true y = raw_seen n s
        go false true = text_seen n (skip_blanks s)
        go false false = hex_seen n (without_blanks s)
