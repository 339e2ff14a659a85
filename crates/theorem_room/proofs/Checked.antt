-- Where the list is long enough, no refusal of samples is 22.
-- Assumes nothing.
use Rattle.std.specs.Prelude.{if◌then◌else◌}
use mathlib.Core.Bool.{Bool, true, false}
use mathlib.Core.List.{List, [], ◌∷◌}
use mathlib.Core.Option.{Option, none, some}
use Prim.Native.Nat.{ℕ, zero, suc, ◌≤◌}
use native.Mathlib.Omega.{arith}
use lib.Dec.{eqb}
use lib.IntN.{ℤ}
use lib.ListN.{take, drop}
use borrow.Author.Tests.{le-ltb}
use Rattle.format.specs.Refusals.{bad_sample, data_ends_early, refusal, fine}
use Rattle.format.specs.Fields.{Given}
use Rattle.format.specs.Descriptors.{NumberKind, encoding_of, endian_of, type_of, number_kind, sample_bytes, raw, as_text}
use Rattle.format.specs.Data.{Place, nowhere, part, part_of}
use Rattle.format.specs.Samples.{Decoded, stopped, with_sample, then_samples, in_type, sample_value, raw_samples, without_blanks, hex_digit, HexRun, no_hex, hex_run, hex_pair, hex_alone, hex_bytes, hex_sample, hex_samples, skip_blanks, token, after_token, token_value, text_sample, tokens, text_samples, samples_of}
use Rattle.format.specs.Calls.{no_samples, count_of, decoded, answer_decoded, check_at}
use Rattle.format.proofs.Places.{NumberedPlace}
use Rattle.format.specs.Room.{Enough}

-- ---- samples that are decoded are refused by 20 or 21

abbrev Told : Decoded → Type 0
Told d = d.number ≤ data_ends_early

abbrev ToldHex : HexRun → Type 0
ToldHex (no_hex n) = n ≤ data_ends_early
ToldHex (hex_run s r) = Unit {0}

hex_told : (w : ℕ) (s : List ℕ) → ToldHex (hex_bytes w s)
unfolding hex_bytes
hex_told zero s = tt
hex_told (suc w) [] = omega arith
hex_told (suc w) (b ∷ []) = go (hex_digit b)
  where
    go : (o : Option ℕ) → ToldHex (hex_alone o)
    go none = omega arith
    go (some h) = omega arith
hex_told (suc w) (b ∷ c ∷ s) = go (hex_digit b) (hex_digit c) (hex_bytes w s) (hex_told w s)
  where
    go : (x y : Option ℕ) (rest : HexRun) → ToldHex rest → ToldHex (hex_pair x y rest)
    go none y rest t = omega arith
    go (some h) none rest t = omega arith
    go (some h) (some l) (no_hex n) t = t
    go (some h) (some l) (hex_run u r) t = tt

module _ (k : NumberKind) (w : ℕ) where
  then_told : (z : ℤ) (rest : Decoded) → Told rest → Told (then_samples k w z rest)
  then_told z rest t = go (in_type k w z)
    where
      go : (x : Bool) → Told (if x then with_sample z rest else stopped bad_sample)
      go true = t
      go false = omega arith

  text_told : (n : ℕ) (s : List ℕ) → Told (tokens k w n s)
  unfolding tokens
  text_told zero s = omega arith
  text_told (suc n) [] = omega arith
  text_told (suc n) (b ∷ s) = go (token_value (token (b ∷ s))) (tokens k w n (skip_blanks (after_token (b ∷ s)))) (text_told n (skip_blanks (after_token (b ∷ s))))
    where
      go : (o : Option ℤ) (rest : Decoded) → Told rest → Told (text_sample k w o rest)
      go none rest t = omega arith
      go (some z) rest t = then_told z rest t

  module _ (endian : ℕ) where
    raw_told : (n : ℕ) (s : List ℕ) → Told (raw_samples k w endian n s)
    unfolding raw_samples
    raw_told zero s = omega arith
    raw_told (suc n) s = then_told (sample_value k endian (take w s)) (raw_samples k w endian n (drop w s)) (raw_told n (drop w s))

    hexes_told : (n : ℕ) (s : List ℕ) → Told (hex_samples k w endian n s)
    unfolding hex_samples
    hexes_told zero s = omega arith
    hexes_told (suc n) s = go (hex_bytes w s) (hex_told w s) (hexes_told n)
      where
        go : (x : HexRun) → ToldHex x → ((r : List ℕ) → Told (hex_samples k w endian n r)) → Told (hex_sample k w endian x (λ r. hex_samples k w endian n r))
        go (no_hex m) t f = t
        go (hex_run u r) t f = then_told (sample_value k endian u) (hex_samples k w endian n r) (f r)

    samples_told : (encoding n : ℕ) (s : List ℕ) → Told (samples_of encoding k w endian n s)
    unfolding samples_of
    samples_told encoding n s = go (eqb encoding raw) (eqb encoding as_text)
      where
        go : (x y : Bool) → Told (if x then raw_samples k w endian n s else if y then text_samples k w n s else hex_samples k w endian n (without_blanks s))
        go true y = raw_told n s
        go false true = text_told n (skip_blanks s)
        go false false = hexes_told n (without_blanks s)

-- ---- the answer

answer_told : (n : ℕ) (d : Decoded) → Told d → Enough (answer_decoded n d).refusal
answer_told n d t = go (eqb d.number 0)
  where
    go : (x : Bool) → Enough (if x then record { refusal = fine; count = n } else no_samples (refusal d.number)).refusal
    go true = λ e. omega arith
    go false = λ e. omega arith

pub list_long : (gs : List Given) (p : Place) → NumberedPlace p → (room : ℕ) (file second : List ℕ) → count_of gs ≤ room → Enough (check_at gs p room file second).refusal
list_long gs (nowhere n) t room file second l = λ e. omega arith
list_long gs (part s start n) t room file second l =
    rw (le-ltb room (count_of gs) (omega arith))
    (answer_told (count_of gs) (decoded gs (part_of (part s start n) file second))
    (samples_told (number_kind (type_of gs)) (sample_bytes (type_of gs)) (endian_of gs) (encoding_of gs) (count_of gs) (part_of (part s start n) file second)))
