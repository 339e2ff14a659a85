-- How long a written file is at most.
-- Assumes nothing.
use Rattle.std.specs.Prelude.{if◌then◌else◌}
use mathlib.Core.Path.{◌≡◌, refl, sym}
use mathlib.Core.Bool.{Bool, true, false, not}
use mathlib.Core.List.{List, [], ◌∷◌, ◌++◌}
use Prim.Native.Nat.{ℕ, suc, ◌+◌, ◌*◌, ◌^◌, ◌≤◌, ◌<◌}
use native.Mathlib.Nat.{pow-le-pow_right, mul-le-mul}
use native.Mathlib.Omega.{arith}
use lib.Dec.{eqb, ltb, lit<}
use lib.IntN.{ℤ, pos, negsuc}
use lib.ListN.{length, length-append}
use borrow.Author.Tests.{ltb-true, leb-true, le-ltb}
use Rattle.format.specs.Bytes.{LF}
use Rattle.format.specs.Limits.{max_file, max_extent}
use Rattle.format.specs.Refusals.{file_too_long, bad_descriptor, extent_too_large, float_samples, bad_sample, lent_too_short, wrong_count}
use Rattle.format.specs.Lines.{unlines}
use Rattle.format.specs.Descriptors.{NumberKind, signed, unsigned, floating, raw, as_text, endian_needed, sample_bytes, number_kind, is_floating, product, extent}
use Rattle.format.specs.Samples.{in_type, lowest, highest}
use Rattle.format.specs.Writer.{signed_decimal, hex_text, raw_data, text_data, data_bytes, header_lines, file_bytes, all_in_type, writable, write_refusal}
use Rattle.format.proofs.Bytes.{and_left, and_right}
use Rattle.format.proofs.Writer.{digits_few, hex_length}
use Rattle.theorem_roundtrip.proofs.Names.{sample_bytes_to}
use Rattle.theorem_roundtrip.proofs.Accepted.{Accepted, accepted_is}
use Rattle.theorem_roundtrip.proofs.Data.{raw_length}
use Rattle.theorem_roundtrip.proofs.Written.{lines_of_entries, short_entries}
use Rattle.format.specs.Room.{write_room}

-- ---- the data

module _ (w : ℕ) (narrow : w ≤ 8) where
  small : 256 ^ w ≤ 256 ^ 8
  small = pow-le-pow_right {n = 256} (lit< tt) narrow

  -- a sample of a type is written with at most a sign and 19 digits
  few_bytes : (k : NumberKind) (z : ℤ) → in_type k w z ≡ true → length (signed_decimal z) ≤ 20
  unfolding in_type
  few_bytes k (pos n) e = omega (arith, digits_few n 18 (under k (leb-true n (highest k w) e)))
    where
      under : (k : NumberKind) → n ≤ highest k w → n < 10 ^ 19
      under signed h = omega (arith, small)
      under unsigned h = omega arith
      under floating h = omega arith
  few_bytes k (negsuc n) e = omega (arith, digits_few (suc n) 18 (under k (ltb-true n (lowest k w) e)))
    where
      under : (k : NumberKind) → n < lowest k w → suc n < 10 ^ 19
      under signed h = omega (arith, small)
      under unsigned h = absurd (omega arith)
      under floating h = absurd (omega arith)

  -- and a line of text takes one byte more
  pub text_bound : (k : NumberKind) (zs : List ℤ) → all_in_type k w zs ≡ true → length (text_data zs) ≤ 21 * length zs
  unfolding text_data all_in_type
  text_bound k [] e = omega arith
  text_bound k (z ∷ zs) e =
      omega (arith, length-append (signed_decimal z) (LF ∷ text_data zs), few_bytes k z (and_left (in_type k w z) (all_in_type k w zs) e), text_bound k zs (and_right (in_type k w z) (all_in_type k w zs) e))

  -- in every encoding
  data_bound : (encoding : ℕ) (k : NumberKind) (endian : ℕ) (zs : List ℤ) → all_in_type k w zs ≡ true → length (data_bytes encoding w endian zs) ≤ 1 + 21 * length zs
  unfolding data_bytes
  data_bound encoding k endian zs e =
      let r = raw_length w endian zs in
      let m : length zs * w ≤ length zs * 8 = mul-le-mul (omega arith) narrow in
      go (eqb encoding raw) (eqb encoding as_text) r m
    where
      go : (a b : Bool) → length (raw_data w endian zs) ≡ length zs * w → length zs * w ≤ length zs * 8
          → length (if a then raw_data w endian zs else if b then text_data zs else hex_text (raw_data w endian zs) ++ LF ∷ []) ≤ 1 + 21 * length zs
      go true b r m = omega arith
      go false true r m = omega (arith, text_bound k zs e)
      go false false r m = simp length-append (omega (arith, hex_length (raw_data w endian zs)))

-- ---- the file

module _ (version : ℕ) (ns : List ℕ) (t e n : ℕ) (zs : List ℤ) where
  abbrev file : List ℕ
  file = file_bytes version ns t e n zs

  file_bound : Accepted version ns t e n zs → length file ≤ write_room (length zs)
  unfolding file_bytes
  file_bound a =
      let h = short_entries version ns t e n zs a (endian_needed t e) in
      let s : length (unlines (header_lines version ns t e n)) ≤ 511 = rw (sym (lines_of_entries (endian_needed t e) version ns t e n refl)) h in
      simp length-append (omega (arith, data_bound (sample_bytes t) (sample_bytes_to t a.numbers.type_in) e (number_kind t) n zs a.in_type))

  -- a file that is refused for its room alone is written to as much room as it takes
  short_of : (room : ℕ) → write_refusal version ns t e n zs room ≡ lent_too_short
      → (room < length file) × (write_refusal version ns t e n zs (length file) ≡ 0)
  unfolding write_refusal
  short_of room h =
      go (not (writable version ns t e n)) (ltb max_extent (extent ns t)) (is_floating (number_kind t)) (not (eqb (length zs) (product ns)))
      (not (all_in_type (number_kind t) (sample_bytes t) zs)) (ltb max_file (length file)) (ltb room (length file)) refl h
    where
      all : Bool → Bool → Bool → Bool → Bool → Bool → Bool → ℕ
      all a b c d f g x = if a then bad_descriptor else if b then extent_too_large else if c then float_samples else if d then wrong_count else if f then bad_sample else if g then file_too_long else if x then lent_too_short else 0

      go : (a b c d f g x : Bool) → ltb room (length file) ≡ x → all a b c d f g x ≡ lent_too_short → (room < length file) × (all a b c d f g (ltb (length file) (length file)) ≡ 0)
      go true b c d f g x q h = absurd (omega arith)
      go false true c d f g x q h = absurd (omega arith)
      go false false true d f g x q h = absurd (omega arith)
      go false false false true f g x q h = absurd (omega arith)
      go false false false false true g x q h = absurd (omega arith)
      go false false false false false true x q h = absurd (omega arith)
      go false false false false false false false q h = absurd (omega arith)
      go false false false false false false true q h = (ltb-true room (length file) q, rw (le-ltb (length file) (length file) (omega arith)))

  pub room_for_file : (room : ℕ) → write_room (length zs) ≤ room → write_refusal version ns t e n zs room ≡ lent_too_short → ⊥
  room_for_file room l h =
      let s = short_of room h in
      omega (arith, s.0, file_bound (accepted_is version ns t e n zs (length file) s.1).0)
