-- Laws of tables that are one number: a digit of it is what its row says.
-- Assumes nothing.
use Prim.Native.Nat.{ℕ, zero, suc, ◌+◌, ◌-◌, ◌*◌, ◌^◌, ◌/◌, ◌%◌, ◌≤◌, ◌<◌}
use native.Mathlib.Nat.{not-suc-le-zero, le_of_suc-le-suc, mul-zero, mul-suc, pow-zero, div-one, one-mul, add_comm, mod-lt}
use native.Mathlib.Omega.{arith}
use mathlib.Core.Path.{◌≡◌, refl, ap, ◌∙◌}
use mathlib.Core.Bool.{Bool, true, false}
use mathlib.Core.List.{List, [], ◌∷◌, map}
use lib.Arith.{digits_div, digits_mod}
use lib.Dec.{eqb}
use lib.ListN.{length, take, drop, get_or, get_or-eq_default}
use lib.Pow.{pow_pos, shr-shr}
use lib.Seq.{get_or-take, get_or-drop}
use Rattle.format.specs.Fields.{FieldRow, field_table, field_count, field_at, no_field, field_since, since_of}
use Rattle.format.specs.Spaces.{spaces, space_row, space_count, space_axes, space_at, space_size}
use Rattle.format_values.specs.Packed.{packed, bit, field_set}

module _ {A : Type 0} (view : A → ℕ) (w : ℕ) where
  pub digit_at : (rows : List A) (i : ℕ) (d : A) → i < length rows
      → packed w (map view rows) / 2 ^ (w * i) % 2 ^ w ≡ view (get_or rows i d) % 2 ^ w
  unfolding packed
  digit_at [] i d l = absurd (not-suc-le-zero l)
  digit_at (r ∷ rows) zero d l =
      let above = packed w (map view rows) in
      rw (mul-zero w, pow-zero 2, div-one (above * 2 ^ w + view r % 2 ^ w)) (digits_mod above (mod-lt (view r) (pow_pos w)))
  digit_at (r ∷ rows) (suc i) d l =
      let above = packed w (map view rows) in
      rw (mul-suc w i, add_comm (w * i) w, ← shr-shr (above * 2 ^ w + view r % 2 ^ w) w (w * i), digits_div above (mod-lt (view r) (pow_pos w)))
      (digit_at rows i d (le_of_suc-le-suc l))

  -- where each row's number is below 2 ^ w, its digit is that number
  pub digit_is : (rows : List A) (i : ℕ) (d : A) → map (λ r. view r % 2 ^ w) rows ≡ map view rows → i < length rows
      → packed w (map view rows) / 2 ^ (w * i) % 2 ^ w ≡ view (get_or rows i d)
  digit_is rows i d e l = digit_at rows i d l ∙ go rows i e l
    where
      go : (rows : List A) (i : ℕ) → map (λ r. view r % 2 ^ w) rows ≡ map view rows → i < length rows → view (get_or rows i d) % 2 ^ w ≡ view (get_or rows i d)
      go [] i e l = absurd (not-suc-le-zero l)
      go (r ∷ rows) zero e l = ap (λ (ns : List ℕ). get_or ns 0 0) e
      go (r ∷ rows) (suc i) e l = go rows i (ap (λ (ns : List ℕ). drop 1 ns) e) (le_of_suc-le-suc l)

-- ---- the table of fields

-- past it stands the stand-in
pub past_table : (f : ℕ) → field_count ≤ f → field_at f ≡ no_field
unfolding field_at
past_table f h = get_or-eq_default field_table no_field h

-- a field is in a set where p holds of its row
pub in_set : (p : FieldRow → Bool) {set f : ℕ} → set ≡ field_set p → f < field_count → eqb (set / 2 ^ f % 2) 1 ≡ p (field_at f)
unfolding field_at
in_set p {set} {f} e l = rw (e, rw (one-mul f) at (digit_at (λ r. bit (p r)) 1 field_table f no_field l)) (of_bit (p (field_at f)))
  where
    of_bit : (x : Bool) → eqb (bit x % 2) 1 ≡ x
    of_bit true = refl
    of_bit false = refl

-- the first version of a field is its digit: of one of the first 16 fields, and of another
pub since_first : (f : ℕ) → f < 16 → packed 4 (map since_of (take 16 field_table)) / 2 ^ (4 * f) % 16 ≡ field_since f
unfolding field_at
since_first f l = digit_is since_of 4 (take 16 field_table) f no_field refl l ∙ ap since_of (get_or-take 16 field_table f no_field l)

pub since_later : (f : ℕ) → 16 ≤ f → f < field_count → packed 4 (map since_of (drop 16 field_table)) / 2 ^ (4 * (f - 16)) % 16 ≡ field_since f
unfolding field_at
since_later f h l =
    let e : 16 + (f - 16) ≡ f = omega arith in
    digit_is since_of 4 (drop 16 field_table) (f - 16) no_field refl (omega arith)
    ∙ ap since_of (get_or-drop 16 field_table (f - 16) no_field ∙ ap (λ (g : ℕ). get_or field_table g no_field) e)

-- ---- the table of spaces

-- the dimension of a space is its digit in a number that holds those of all; past the list there is none
pub space_digit : (i : ℕ) → i < space_count → {sizes r : ℕ} → r ≡ sizes / 2 ^ (4 * i) % 16 → sizes ≡ packed 4 (map space_axes spaces) → r ≡ space_size i
unfolding space_at
space_digit i l q e = q ∙ ap (λ (n : ℕ). n / 2 ^ (4 * i) % 16) e ∙ digit_is space_axes 4 spaces i (space_row [] 0) refl l

pub space_past : (i : ℕ) → space_count ≤ i → space_size i ≡ 0
unfolding space_at
space_past i h = ap space_axes (get_or-eq_default spaces (space_row [] 0) h)
