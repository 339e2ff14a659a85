-- Bounds on the texts of a written header, where the decimals that are meant are kept; `text_short` (Taken.antt) adds them up.
-- Assumes nothing.
use Rattle.std.specs.Prelude.{if◌then◌else◌}
use Prim.Native.Nat.{ℕ, suc, ◌+◌, ◌*◌, ◌^◌, ◌≤◌, ◌<◌}
use Prim.Native.String.{String}
use native.Mathlib.Omega.{arith}
use native.Mathlib.Nat.{suc-mul}
use mathlib.Core.Path.{◌≡◌, refl}
use mathlib.Core.Bool.{Bool, true, false, ◌&&◌}
use mathlib.Core.List.{List, [], ◌∷◌, ◌++◌, map}
use mathlib.Core.Option.{Option, none, some}
use lib.Dec.{eqb, ltb, leb}
use lib.IntN.{ℤ, pos, negsuc, nat_abs}
use lib.ListN.{length, length-append}
use borrow.Author.Tests.{ltb-true, leb-true}
use Rattle.format.specs.declared.Decimal.{Decimal}
use Rattle.format.specs.Bytes.{bytes, every_below, SPACE, COMMA}
use Rattle.format.specs.Lines.{Line, unlines}
use Rattle.format.specs.Decimals.{numeric, nan, inf, minus_inf, past_number, max_power}
use Rattle.format.specs.Spaces.{space_at, space_count, space_size}
use Rattle.format.specs.Vectors.{Direction, without, along}
use Rattle.format.specs.Writer.{signed_decimal, field_line}
use Rattle.format.specs.HeaderWriter.{component_text, joined, vector_text, direction_text, space_text, directions_text, frame_text, line_for}
use Rattle.format.proofs.Bytes.{and_left, and_right, every_below_lem}
use Rattle.format.proofs.Lines.{length_unlines_cons}
use Rattle.format.proofs.Writer.{digits_few}
use Rattle.theorem_orientation.specs.ReadBack.{kept, each, each_of, kept_vector, kept_direction, meant, meant_direction}
use Rattle.theorem_orientation.proofs.Vectors.{count_kept}
use Rattle.theorem_headers.proofs.Lined.{If}

-- ---- a component

number_short : (z : ℤ) (k : ℕ) → nat_abs z < 10 ^ suc k → length (signed_decimal z) ≤ suc k + 1
number_short (pos n) k h = omega (arith, digits_few n k h)
number_short (negsuc n) k h = omega (arith, digits_few (suc n) k h)

if_short : (x : Bool) (a b : List ℕ) (k : ℕ) → length a ≤ k → length b ≤ k → length (if x then a else b) ≤ k
if_short true a b k h i = h
if_short false a b k h i = i

-- at most a sign and 18 digits, `e`, a sign and 3 digits
component_short : (d : Decimal) → kept (meant d) ≡ true → length (component_text d) < 25
unfolding component_text
component_short d h = go (eqb d.kind numeric) refl
  where
    go : (x : Bool) → eqb d.kind numeric ≡ x → length (component_text d) < 25
    go true q =
        let k : (ltb (nat_abs d.number) past_number && leb (nat_abs d.power) max_power) ≡ true = rw (q, q) at h in
        let a = ltb-true (nat_abs d.number) past_number (and_left (ltb (nat_abs d.number) past_number) (leb (nat_abs d.power) max_power) k) in
        let b = leb-true (nat_abs d.power) max_power (and_right (ltb (nat_abs d.number) past_number) (leb (nat_abs d.power) max_power) k) in
        rw q (simp length-append (omega (arith, number_short d.number 17 (omega arith), number_short d.power 2 (omega arith))))
    go false q =
        let l : length (if eqb d.kind nan then bytes "nan" else if eqb d.kind inf then bytes "inf" else if eqb d.kind minus_inf then bytes "-inf" else bytes "none") ≤ 4 =
        if_short (eqb d.kind nan) (bytes "nan") _ 4 (omega arith)
        (if_short (eqb d.kind inf) (bytes "inf") _ 4 (omega arith) (if_short (eqb d.kind minus_inf) (bytes "-inf") (bytes "none") 4 (omega arith) (omega arith))) in
        rw q (omega arith)

-- ---- joined texts: with the byte after it each takes at most k bytes

module _ {A : Type 0} (text : A → List ℕ) (keeps : A → Bool) (means : A → A) (b k : ℕ) (short : (a : A) → keeps (means a) ≡ true → length (text a) < k) where
  joined_short : (as' : List A) → each keeps (map means as') ≡ true → length (joined b (map text as')) ≤ length as' * k
  unfolding joined each
  joined_short [] h = omega arith
  joined_short (a ∷ []) h = omega (arith, short a (and_left (keeps (means a)) true h), suc-mul 0 k)
  joined_short (a ∷ c ∷ as') h =
      let rest = each keeps (map means (c ∷ as')) in
      simp length-append
      (omega (arith, short a (and_left (keeps (means a)) rest h), joined_short (c ∷ as') (and_right (keeps (means a)) rest h), suc-mul (length (c ∷ as')) k))

  -- n of them
  of_short : (n : ℕ) (as' : List A) → each_of n keeps (map means as') ≡ true → length (joined b (map text as')) ≤ n * k
  of_short n as' h =
      rw (← count_kept keeps means n as' h) (joined_short as' (and_right (eqb (length (map means as')) n) (each keeps (map means as')) h))

-- in a space of at most 8 dimensions: 8 components of a vector take 8 * 25 bytes, its brackets 2; 16 directions take 16 * 203, 8 columns 8 * 203
module _ (n : ℕ) (small : n ≤ 8) where
  vector_short : (ds : List Decimal) → kept_vector n (map meant ds) ≡ true → length (vector_text ds) < 203
  unfolding vector_text
  vector_short ds h =
      let l = of_short component_text kept meant COMMA 25 component_short n ds (and_right (ltb 0 n) (each_of n kept (map meant ds)) h) in
      simp length-append (omega arith)

  direction_short : (d : Direction) → kept_direction n (meant_direction d) ≡ true → length (direction_text d) < 203
  direction_short without h = omega arith
  direction_short (along ds) h = vector_short ds h

  pub origin_short : (ds : List Decimal) → kept_vector n (map meant ds) ≡ true → length (vector_text ds) ≤ 202
  origin_short ds h = omega (arith, vector_short ds h)

  pub directions_short : (axes : ℕ) → axes ≤ 16 → (ds : List Direction) → each_of axes (kept_direction n) (map meant_direction ds) ≡ true → length (directions_text ds) ≤ 3248
  directions_short axes few ds h = omega (arith, of_short direction_text (kept_direction n) meant_direction SPACE 203 direction_short axes ds h)

  pub frame_short : (cs : List (List Decimal)) → each_of n (kept_vector n) (map (map meant) cs) ≡ true → length (frame_text cs) ≤ 1624
  frame_short cs h = omega (arith, of_short vector_text (kept_vector n) (map meant) SPACE 203 vector_short n cs h)

-- ---- spaces, each computed

pub space_short : (i : ℕ) → i < space_count → length (space_text i) ≤ 28
unfolding every_below space_at
space_short i h = leb-true (length (space_text i)) 28 (every_below_lem (λ i. leb (length (space_text i)) 28) space_count refl i h)

pub size_of_space : (i : ℕ) → i < space_count → space_size i ≤ 8
unfolding every_below space_at
size_of_space i h = leb-true (space_size i) 8 (every_below_lem (λ i. leb (space_size i) 8) space_count refl i h)

-- ---- lines, before others of at most j bytes

pub field_short : (name : String) (d : List ℕ) (k : ℕ) → length d ≤ k → (ls : List Line) (j : ℕ) → length (unlines ls) ≤ j
    → length (unlines (field_line name d ∷ ls)) ≤ length (bytes name) + 3 + k + j
field_short name d k h ls j l = rw length_unlines_cons (simp length-append (omega arith))

module _ {A : Type 0} (name : String) (show : A → List ℕ) (k : ℕ) where
  pub option_short : (o : Option A) → If o (λ a. length (show a) ≤ k) → (ls : List Line) (j : ℕ) → length (unlines ls) ≤ j
      → length (unlines (line_for name show o ++ ls)) ≤ length (bytes name) + 3 + k + j
  option_short none h ls j l = omega arith
  option_short (some a) h ls j l = field_short name (show a) k h ls j l

-- one line at most
pub option_count : {A : Type 0} (name : String) (show : A → List ℕ) (o : Option A) → length (line_for name show o) ≤ 1
option_count name show none = omega arith
option_count name show (some a) = omega arith
