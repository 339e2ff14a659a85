-- Numbers as a header is written with them: the dimension, and sizes parted by one space.
-- Assumes nothing.
use mathlib.Core.Path.{◌≡◌, refl, sym}
use Prim.Native.Nat.{ℕ, zero, suc, ◌*◌, ◌≤◌}
use native.Mathlib.Omega.{arith}
use native.Mathlib.Nat.{mul_comm, one-le-mul, le-mul_of_pos_right}
use mathlib.Core.Bool.{true, false, false≢true}
use mathlib.Core.List.{List, [], ◌∷◌, ◌++◌, map, append-nil}
use lib.Dec.{leb}
use lib.ListN.{length, length-append}
use borrow.Author.Tests.{leb-true, le-leb, ne_eqb}
use Rattle.format.specs.Bytes.{space_or_tab, is_digit, every, is_in, SPACE}
use Rattle.format.specs.Limits.{max_size}
use Rattle.format.specs.Pairs.{plain}
use Rattle.format.specs.Words.{trim_front, trim_byte, trim_end, value_of_number, parts, not_empty, words, numbers_in}
use Rattle.format.specs.Descriptors.{product}
use Rattle.format.specs.Writer.{decimal, spaced}
use Rattle.format.proofs.Bytes.{and_left, and_right, every_append, every_weaker}
use Rattle.format.proofs.Writer.{decimal_digits, decimal_not_empty, digits_few, number_of_decimal}
use Rattle.theorem_roundtrip.proofs.Names.{Text}

-- ---- digits

digit_bounds : (b : ℕ) → is_digit b ≡ true → (48 ≤ b) × (b ≤ 57)
digit_bounds b h = (leb-true 48 b (and_left (leb 48 b) (leb b 57) h), leb-true b 57 (and_right (leb 48 b) (leb b 57) h))

digit_plain : (b : ℕ) → is_digit b ≡ true → plain b ≡ true
digit_plain b h =
    let l = digit_bounds b h in
    rw (ne_eqb b 9 (omega arith), le-leb 32 b (omega arith), le-leb b 126 (omega arith))

digit_no_space : (b : ℕ) → is_digit b ≡ true → space_or_tab b ≡ false
digit_no_space b h =
    let l = digit_bounds b h in
    rw (ne_eqb b 32 (omega arith), ne_eqb b 9 (omega arith))

-- the digits of a number have plain bytes
pub decimal_plain : (n : ℕ) → every plain (decimal n) ≡ true
decimal_plain n = every_weaker is_digit plain digit_plain (decimal n) (decimal_digits n)

-- a number up to the largest size has at most 10 digits
pub decimal_short : (n : ℕ) → n ≤ max_size → length (decimal n) ≤ 10
decimal_short n h = digits_few n 9 (omega arith)

-- ---- texts of digits, and what stands before or after them

-- a text that begins with digits has nothing to trim in front
trim_front_lem : (w s : List ℕ) → 1 ≤ length w → every is_digit w ≡ true → trim_front (w ++ s) ≡ w ++ s
unfolding every trim_front
trim_front_lem [] s n h = absurd (omega arith)
trim_front_lem (b ∷ w) s n h = rw (digit_no_space b (and_left (is_digit b) (every is_digit w) h))

-- nothing at the end of digits, nor of a text with such an end
trim_byte_lem : (b : ℕ) (s : List ℕ) → 1 ≤ length s → trim_byte b s ≡ b ∷ s
trim_byte_lem b [] n = absurd (omega arith)
trim_byte_lem b (c ∷ s) n = refl

trim_back : (w : List ℕ) → every is_digit w ≡ true → trim_end w ≡ w
unfolding every trim_end
trim_back [] h = refl
trim_back (b ∷ w) h =
    rw (trim_back w (and_right (is_digit b) (every is_digit w) h)) (go w (digit_no_space b (and_left (is_digit b) (every is_digit w) h)))
  where
    go : (w : List ℕ) → space_or_tab b ≡ false → trim_byte b w ≡ b ∷ w
    go [] q = rw q
    go (c ∷ w) q = refl

pub trim_back_after : (a s : List ℕ) → 1 ≤ length s → trim_end s ≡ s → trim_end (a ++ s) ≡ a ++ s
unfolding trim_end
trim_back_after [] s n h = h
trim_back_after (b ∷ a) s n h = rw (trim_back_after a s n h) (trim_byte_lem b (a ++ s) (simp length-append (omega arith)))

-- digits are one word, up to a space or the end
parts_past : (w s : List ℕ) → every is_digit w ≡ true → parts (w ++ SPACE ∷ s) ≡ w ∷ parts s
unfolding every parts
parts_past [] s h = refl
parts_past (b ∷ w) s h =
    rw (digit_no_space b (and_left (is_digit b) (every is_digit w) h), parts_past w s (and_right (is_digit b) (every is_digit w) h))

parts_alone : (w : List ℕ) → every is_digit w ≡ true → parts w ≡ w ∷ []
unfolding every parts
parts_alone [] h = refl
parts_alone (b ∷ w) h =
    rw (digit_no_space b (and_left (is_digit b) (every is_digit w) h), parts_alone w (and_right (is_digit b) (every is_digit w) h))

not_empty_lem : (w : List ℕ) (ws : List (List ℕ)) → 1 ≤ length w → not_empty (w ∷ ws) ≡ w ∷ not_empty ws
unfolding not_empty
not_empty_lem [] ws n = absurd (omega arith)
not_empty_lem (b ∷ w) ws n = refl

-- ---- numbers parted by one space

-- the text is not empty
spaced_full : (n : ℕ) (ns : List ℕ) → 1 ≤ length (spaced (n ∷ ns))
unfolding spaced
spaced_full n [] = decimal_not_empty n
spaced_full n (m ∷ ns) = simp length-append (omega arith)

-- it is a descriptor as it stands
spaced_plain : (ns : List ℕ) → every plain (spaced ns) ≡ true
unfolding every spaced
spaced_plain [] = refl
spaced_plain (n ∷ []) = decimal_plain n
spaced_plain (n ∷ m ∷ ns) = every_append plain (decimal n) (SPACE ∷ spaced (m ∷ ns)) (decimal_plain n) (spaced_plain (m ∷ ns))

spaced_front : (ns : List ℕ) → trim_front (spaced ns) ≡ spaced ns
unfolding spaced trim_front
spaced_front [] = refl
spaced_front (n ∷ []) = rw append-nil at (trim_front_lem (decimal n) [] (decimal_not_empty n) (decimal_digits n))
spaced_front (n ∷ m ∷ ns) = trim_front_lem (decimal n) (SPACE ∷ spaced (m ∷ ns)) (decimal_not_empty n) (decimal_digits n)

spaced_back : (ns : List ℕ) → trim_end (spaced ns) ≡ spaced ns
unfolding spaced trim_end
spaced_back [] = refl
spaced_back (n ∷ []) = trim_back (decimal n) (decimal_digits n)
spaced_back (n ∷ m ∷ ns) =
    let s = spaced (m ∷ ns) in
    trim_back_after (decimal n) (SPACE ∷ s) (omega arith) (trim_back_after (SPACE ∷ []) s (spaced_full m ns) (spaced_back (m ∷ ns)))

pub spaced_text : (ns : List ℕ) → Text (spaced ns)
spaced_text ns = record { bytes_plain = spaced_plain ns; front = spaced_front ns; back = spaced_back ns }

-- one number alone
pub decimal_text : (n : ℕ) → Text (decimal n)
unfolding spaced
decimal_text n = spaced_text (n ∷ [])

-- its words are the numbers, which are read back
pub words_of_spaced : (ns : List ℕ) → words (spaced ns) ≡ map decimal ns
unfolding parts not_empty spaced
words_of_spaced [] = refl
words_of_spaced (n ∷ []) =
    rw (parts_alone (decimal n) (decimal_digits n), not_empty_lem (decimal n) [] (decimal_not_empty n))
words_of_spaced (n ∷ m ∷ ns) =
    let s = spaced (m ∷ ns) in
    rw (parts_past (decimal n) s (decimal_digits n), not_empty_lem (decimal n) (parts s) (decimal_not_empty n), words_of_spaced (m ∷ ns))

pub values_of_decimals : (ns : List ℕ) → map value_of_number (map decimal ns) ≡ ns
values_of_decimals [] = refl
values_of_decimals (n ∷ ns) = rw (number_of_decimal n, values_of_decimals ns)

-- ---- sizes: each is from 1 to the largest size

abbrev pub Sizes : List ℕ → Type 0
Sizes [] = Unit {0}
Sizes (n ∷ ns) = (1 ≤ n) × (n ≤ max_size) × Sizes ns

-- 0 is neither the first of the numbers nor among the others
no_zero : (n : ℕ) (ns : List ℕ) → is_in 0 (n ∷ ns) ≡ false → (1 ≤ n) × (is_in 0 ns ≡ false)
unfolding is_in
no_zero zero ns h = absurd (false≢true (sym h))
no_zero (suc n) ns h = (omega arith, rw (ne_eqb 0 (suc n) (λ q. omega arith)) at h)

-- without a 0 the product is at least 1, and no number is above the product
product_full : (ns : List ℕ) → is_in 0 ns ≡ false → 1 ≤ product ns
unfolding product
product_full [] h = omega arith
product_full (n ∷ ns) h = let z = no_zero n ns h in one-le-mul z.0 (product_full ns z.1)

pub sizes_fine : (ns : List ℕ) → is_in 0 ns ≡ false → product ns ≤ max_size → Sizes ns
unfolding product
sizes_fine [] h l = tt
sizes_fine (n ∷ ns) h l =
    let z = no_zero n ns h in
    let a : n ≤ n * product ns = le-mul_of_pos_right n (product_full ns z.1) in
    let b : product ns ≤ product ns * n = le-mul_of_pos_right (product ns) z.0 in
    (z.0, omega arith, sizes_fine ns z.1 (omega (arith, mul_comm n (product ns))))

pub sizes_in : (ns : List ℕ) → Sizes ns → numbers_in 1 max_size (map decimal ns) ≡ true
unfolding numbers_in
sizes_in [] s = refl
sizes_in (n ∷ ns) s = rw (number_of_decimal n, le-leb 1 n s.0, le-leb n max_size s.1, sizes_in ns s.2)

-- sizes take at most 11 bytes each
pub sizes_short : (ns : List ℕ) → Sizes ns → length (spaced ns) ≤ 11 * length ns
unfolding spaced
sizes_short [] s = omega arith
sizes_short (n ∷ []) s = omega (arith, decimal_short n s.1)
sizes_short (n ∷ m ∷ ns) s = simp length-append (omega (arith, decimal_short n s.1, sizes_short (m ∷ ns) s.2))
