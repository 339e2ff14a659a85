-- Laws of a pattern: a width, what follows the `%`, and the word.
-- Assumes nothing.
use Rattle.std.specs.Prelude.{if◌then◌else◌}
use Prim.Native.Nat.{ℕ, suc, ◌+◌, ◌-◌, ◌≤◌, ◌<◌, min}
use native.Mathlib.Omega.{arith}
use mathlib.Core.Path.{◌≡◌, refl, sym, ◌∙◌}
use mathlib.Core.Bool.{Bool, true, false, not, ◌&&◌, and_assoc, false≢true}
use mathlib.Core.List.{List, [], ◌∷◌}
use mathlib.Core.Option.{none, some}
use lib.Dec.{eqb, leb}
use lib.ListN.{length, take, drop, get_or, length-drop, drop_of_length-le}
use lib.Seq.{drop-drop}
use mir.Val.{bool_byte}
use borrow.Author.Tests.{leb-true, leb-false, le-leb, lt-leb}
use Rattle.format.specs.Bytes.{is_digit, every, PERCENT}
use Rattle.format.specs.Limits.{max_width}
use Rattle.format.specs.Words.{number, value_of_number}
use Rattle.format.specs.Decimals.{past_number, digits_of, after_digits}
use Rattle.format.specs.DataFiles.{has_percent, pattern, width_fine, after_width, after_percent, byte_before, pattern_of}
use Rattle.format.proofs.Bytes.{and_left, and_right}
use Rattle.read_text.specs.Places.{before}
use Rattle.read_decimals.specs.Parts.{number_from, digits_answer}
use Rattle.read_decimals.specs.declared.parts.Digits.{Digits}
use Rattle.read_decimals.proofs.DigitLaws.{suffix, after_digits_lem, digits_short, digits_only, all_digits}
use Rattle.read_files.specs.declared.pattern.Width.{Width}
use Rattle.read_files.specs.declared.pattern.Conversion.{Conversion}
use Rattle.read_files.specs.Parts.{begins, is_rest, WidthRead, ConversionRead, WordRead}
use Rattle.read_files.proofs.WordLaws.{digits_count, digits_number, begins_within}

-- ---- a width

-- no digits
pub no_digits : (ds : List ℕ) → length ds ≡ 0 → ds ≡ []
no_digits [] h = refl
no_digits (b ∷ ds) h = absurd (omega arith)

-- the number of digits that are there
number_there : (ds : List ℕ) → every is_digit ds ≡ true → (length ds ≡ 0 → ⊥) → number ds ≡ some (number_from 0 ds)
unfolding number
number_there [] h n = absurd (n refl)
number_there (b ∷ ds) h n = all_digits (b ∷ ds) 0 h

-- the first digit is the first byte
digits_first : (s : List ℕ) → (length (digits_of s) ≡ 0 → ⊥) → get_or (digits_of s) 0 0 ≡ get_or s 0 0
unfolding digits_of
digits_first [] n = absurd (n refl)
digits_first (b ∷ s) n = go (is_digit b) n
  where
    go : (x : Bool) → (length (if x then b ∷ digits_of s else []) ≡ 0 → ⊥) → get_or (if x then b ∷ digits_of s else []) 0 0 ≡ b
    go true n = refl
    go false n = absurd (n refl)

-- of digits that are there, by the number that they write
width_there : (zeros : Bool) (ds : List ℕ) (v : ℕ) → (length ds ≡ 0 → ⊥) → number ds ≡ some v
    → width_fine zeros ds ≡ (not (eqb (get_or ds 0 0) 48) && (leb 1 v && leb v max_width))
width_there zeros [] v n e = absurd (n refl)
width_there zeros (b ∷ ds) v n e = rw e

-- a number that is cut far above passes a limit as it does uncut
cut_below : (v m : ℕ) → m ≡ min v past_number → leb m max_width ≡ leb v max_width
cut_below v m e = go (leb v max_width) refl
  where
    go : (x : Bool) → leb v max_width ≡ x → leb m max_width ≡ x
    go true q = le-leb m max_width (omega (arith, leb-true))
    go false q = lt-leb m max_width (omega (arith, leb-false))

cut_above : (v m : ℕ) → m ≡ min v past_number → leb 1 m ≡ leb 1 v
cut_above v m e = go (leb 1 v) refl
  where
    go : (x : Bool) → leb 1 v ≡ x → leb 1 m ≡ x
    go true q = le-leb 1 m (omega (arith, leb-true))
    go false q = lt-leb 1 m (omega (arith, leb-false))

-- the test of a width that has digits: s begins with them, and m is their number
abbrev pub width_test : List ℕ → ℕ → Bool
width_test s m = (not (eqb (get_or s 0 0) 48) && leb 1 m) && leb m max_width

module _ (zeros : Bool) (s : List ℕ) {d : Digits} (q : d ≡ digits_answer 0 s) where
  pub short : d.count ≤ length s
  short = rw (digits_count d s q) (digits_short s)

  pub width_missing : d.count ≡ 0 → WidthRead zeros s record { fine = not zeros; value = 0; length = d.count }
  unfolding number
  width_missing z =
      let e : digits_of s ≡ [] = no_digits (digits_of s) (sym (digits_count d s q) ∙ z) in
      record { fine = rw e; value = λ f. rw e; small = omega arith; digits = digits_count d s q; within = short }

  module _ (n : d.count ≡ 0 → ⊥) where
    pub there : length (digits_of s) ≡ 0 → ⊥
    there e = n (digits_count d s q ∙ e)

    pub number_some : number (digits_of s) ≡ some (number_from 0 (digits_of s))
    number_some = number_there (digits_of s) (digits_only s) there

    pub some_byte : 0 < length s
    some_byte = omega (arith, short, n)

    -- it is the definition's
    pub tested : width_test s d.number ≡ width_fine zeros (digits_of s)
    tested =
        let v = number_from 0 (digits_of s) in
        let e = digits_number d s q in
        rw (cut_above v d.number e, cut_below v d.number e, and_assoc, ← digits_first s there)
        (sym (width_there zeros (digits_of s) v there number_some))

    pub width_bad : width_test s d.number ≡ false → WidthRead zeros s record { fine = false; value = 0; length = d.count }
    width_bad e =
        record { fine = sym e ∙ tested; value = λ z. absurd (false≢true z); small = omega arith; digits = digits_count d s q; within = short }

    pub width_small : width_test s d.number ≡ true → d.number ≤ max_width
    width_small e = leb-true d.number max_width (and_right (not (eqb (get_or s 0 0) 48) && leb 1 d.number) (leb d.number max_width) e)

    pub width_good : width_test s d.number ≡ true → WidthRead zeros s record { fine = true; value = d.number; length = d.count }
    width_good e =
        let v : d.number ≡ number_from 0 (digits_of s) = omega (arith, digits_number d s q, width_small e) in
        record { fine = sym e ∙ tested; value = λ z. v ∙ rw number_some; small = width_small e; digits = digits_count d s q; within = short }

-- ---- what follows the `%`

-- by the first byte: a zero
pub percent_is : (s : List ℕ)
    → (let z = begins 48 s in let t = drop (bool_byte z) s in after_percent s ≡ after_width z (digits_of t) (after_digits t))
unfolding digits_of after_digits
percent_is [] = refl
percent_is (b ∷ s) = go (eqb b 48)
  where
    go : (x : Bool)
        → (if x then after_width true (digits_of s) (after_digits s) else after_width false (digits_of (b ∷ s)) (after_digits (b ∷ s)))
        ≡ after_width x (digits_of (drop (bool_byte x) (b ∷ s))) (after_digits (drop (bool_byte x) (b ∷ s)))
    go true = refl
    go false = refl

-- by the first byte after the width: a `d`
pub width_is : (zeros : Bool) (w r : List ℕ)
    → after_width zeros w r
    ≡ (if begins 100 r && (width_fine zeros w && not (has_percent (drop 1 r))) then some (pattern [] zeros (value_of_number w) (drop 1 r)) else none)
width_is zeros w [] = refl
width_is zeros w (b ∷ r) = refl

-- the same tests in another order
pub and_turned : (a b c : Bool) → (a && (b && c)) ≡ (b && (a && c))
and_turned true b c = refl
and_turned false true c = refl
and_turned false false c = refl

-- a byte that stands at a place
pub begins_there : (b : ℕ) (s : List ℕ) (i : ℕ) → begins b (drop i s) ≡ true → i < length s
begins_there b s i e = go (leb (length s) i) refl
  where
    go : (x : Bool) → leb (length s) i ≡ x → i < length s
    go true q = absurd (false≢true (rw (drop_of_length-le s (leb-true (length s) i q)) at e))
    go false q = leb-false (length s) i q

-- a zero or none, as z says, and the width after it
module _ (s : List ℕ) {z : Bool} {w : Width} (e : z ≡ begins 48 s) (q : WidthRead z (take (length s - bool_byte z) (drop (bool_byte z) s)) w) where
  read : WidthRead z (drop (bool_byte z) s) w
  read = rw (suffix s (bool_byte z)) at q

  pub end_within : bool_byte z + w.length ≤ length s
  end_within =
      let a : bool_byte z ≤ length s = rw e (begins_within 48 s) in
      let b : w.length ≤ length s - bool_byte z = rw (← length-drop) read.within in
      omega arith

  conversion_is : after_percent s
      ≡ (if w.fine && is_rest (drop (bool_byte z + w.length) s)
      then some (pattern [] z (value_of_number (digits_of (drop (bool_byte z) s))) (drop (bool_byte z + w.length + 1) s)) else none)
  conversion_is =
      let t = drop (bool_byte z) s in
      let r = drop (bool_byte z + w.length) s in
      let rest : after_digits t ≡ r = sym (after_digits_lem t) ∙ rw (← read.digits) (drop-drop w.length (bool_byte z) s) in
      let after : drop 1 r ≡ drop (bool_byte z + w.length + 1) s = drop-drop 1 (bool_byte z + w.length) s in
      let p : after_percent s ≡ after_width z (digits_of t) (after_digits t) = rw e (percent_is s) in
      p ∙ rw (rest, ← after, read.fine, and_turned) (width_is z (digits_of t) r)

  -- x says whether what follows the width is right
  module _ {x : Bool} (f : x ≡ is_rest (take (length s - (bool_byte z + w.length)) (drop (bool_byte z + w.length) s))) where
    rest_is : x ≡ is_rest (drop (bool_byte z + w.length) s)
    rest_is = rw (suffix s (bool_byte z + w.length)) at f

    pub conversion_bad : (w.fine && x) ≡ false → ConversionRead s record { fine = false; zeros = false; width = 0; length = 0 }
    conversion_bad n = record { said = conversion_is ∙ rw (← rest_is, n); small = omega arith; within = omega arith }

    pub d_within : (w.fine && x) ≡ true → bool_byte z + w.length < length s
    d_within n =
        let r = drop (bool_byte z + w.length) s in
        let k : is_rest r ≡ true = sym rest_is ∙ and_right w.fine x n in
        begins_there 100 s (bool_byte z + w.length) (and_left (begins 100 r) (not (has_percent (drop 1 r))) k)

    pub conversion_good : (w.fine && x) ≡ true
        → ConversionRead s record { fine = true; zeros = z; width = w.value; length = bool_byte z + w.length + 1 }
    conversion_good n =
        let v = read.value (and_left w.fine x n) in
        let h = d_within n in
        record { said = conversion_is ∙ rw (← rest_is, n, v); small = read.small; within = omega arith }

-- ---- a word

-- no `%`
pub pattern_missing : (w : List ℕ) → before PERCENT w ≡ length w → pattern_of w ≡ none
unfolding before pattern_of
pattern_missing [] e = refl
pattern_missing (b ∷ w) e = go (eqb b PERCENT) e (pattern_missing w)
  where
    go : (x : Bool) → (if x then 0 else suc (before PERCENT w)) ≡ suc (length w) → (before PERCENT w ≡ length w → pattern_of w ≡ none)
        → (if x then after_percent w else byte_before b (pattern_of w)) ≡ none
    go true e i = absurd (omega arith)
    go false e i = rw (i (omega arith))

-- by what follows the first `%`
pub pattern_after : (w : List ℕ) (f z : Bool) (n : ℕ) (a : List ℕ) → before PERCENT w < length w
    → after_percent (drop (before PERCENT w + 1) w) ≡ (if f then some (pattern [] z n a) else none)
    → pattern_of w ≡ (if f then some (pattern (take (before PERCENT w) w) z n a) else none)
unfolding before pattern_of
pattern_after [] f z n a h e = absurd (omega arith)
pattern_after (b ∷ w) f z n a h e = go (eqb b PERCENT) h e (pattern_after w f z n a)
  where
    front : (x : Bool) → byte_before b (if x then some (pattern (take (before PERCENT w) w) z n a) else none)
        ≡ (if x then some (pattern (b ∷ take (before PERCENT w) w) z n a) else none)
    front true = refl
    front false = refl

    go : (x : Bool) → (if x then 0 else suc (before PERCENT w)) < suc (length w)
        → after_percent (drop ((if x then 0 else suc (before PERCENT w)) + 1) (b ∷ w)) ≡ (if f then some (pattern [] z n a) else none)
        → (before PERCENT w < length w
        → after_percent (drop (before PERCENT w + 1) w) ≡ (if f then some (pattern [] z n a) else none)
        → pattern_of w ≡ (if f then some (pattern (take (before PERCENT w) w) z n a) else none))
        → (if x then after_percent w else byte_before b (pattern_of w))
        ≡ (if f then some (pattern (take (if x then 0 else suc (before PERCENT w)) (b ∷ w)) z n a) else none)
    go true h e i = e
    go false h e i =
        let q : suc (before PERCENT w) + 1 ≡ suc (before PERCENT w + 1) = omega arith in
        rw (i (omega arith) (rw q at e)) (front f)

-- a `%` at the place p, and what was read after it
module _ (w : List ℕ) {p : ℕ} {c : Conversion} (e : p ≡ before PERCENT w) (h : p < length w)
    (q : ConversionRead (take (length w - (p + 1)) (drop (p + 1) w)) c) where
  after_it : ConversionRead (drop (p + 1) w) c
  after_it = rw (suffix w (p + 1)) at q

  pub conversion_within : p + 1 + c.length ≤ length w
  conversion_within = let k : c.length ≤ length w - (p + 1) = rw (← length-drop) after_it.within in omega arith

  pub pattern_read : WordRead w record { fine = c.fine; percent = p; zeros = c.zeros; width = c.width; after = p + 1 + c.length }
  pattern_read =
      let a : after_percent (drop (before PERCENT w + 1) w) ≡ (if c.fine then some (pattern [] c.zeros c.width (drop (p + 1 + c.length) w)) else none)
      = rw (← e, ← drop-drop c.length (p + 1) w) after_it.said in
      record {
        said = rw (← e) at (pattern_after w c.fine c.zeros c.width (drop (p + 1 + c.length) w) (rw (← e) h) a);
        small = after_it.small;
        ordered = omega arith;
        apart = λ f. omega arith;
        within = conversion_within;
      }
