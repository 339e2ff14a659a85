-- A word is taken as a pattern exactly where it writes it.
-- Assumes nothing.
use Rattle.std.specs.Prelude.{if◌then◌else◌}
use Prim.Native.Nat.{ℕ, ◌+◌, ◌*◌, ◌-◌, ◌≤◌, ◌<◌}
use native.Mathlib.Omega.{arith}
use mathlib.Core.Path.{◌≡◌, refl, sym, ap, subst, ◌∙◌}
use mathlib.Core.Bool.{Bool, true, false, not, ◌&&◌, ◌||◌, false≢true}
use mathlib.Core.List.{List, [], ◌∷◌, ◌++◌, append_assoc}
use mathlib.Core.Option.{Option, none, some, none-ne-some, some-injective}
use lib.Dec.{eqb, leb}
use borrow.Author.Tests.{leb-true, eqb-true, eqb-false, ne_eqb}
use Rattle.format.specs.Bytes.{is_digit, is_in, every, every_below, same, PERCENT}
use Rattle.format.specs.Limits.{max_width}
use Rattle.format.specs.Words.{digits_from, number, number_in, value_of_number}
use Rattle.format.specs.Decimals.{digits_of, after_digits}
use Rattle.format.specs.Writer.{decimal_from}
use Rattle.format.specs.DataFiles.{has_percent, Pattern, pattern, width_fine, after_width, after_percent, byte_before, pattern_of}
use Rattle.format.proofs.Bytes.{and_left, and_right, or-false, every_below_lem, same_true}
use Rattle.theorem_files.specs.Files.{width_text, conversion_text, PatternWord}
use Rattle.theorem_files.proofs.Numbers.{said_in}

-- ---- digits at the front

digits_only : (t : List ℕ) → every is_digit (digits_of t) ≡ true
unfolding digits_of every
digits_only [] = refl
digits_only (b ∷ t) = go (is_digit b) refl (digits_only t)
  where
    go : (x : Bool) → is_digit b ≡ x → every is_digit (digits_of t) ≡ true → every is_digit (if x then b ∷ digits_of t else []) ≡ true
    go true q i = rw (q, i)
    go false q i = refl

digits_and_after : (t : List ℕ) → t ≡ digits_of t ++ after_digits t
unfolding digits_of after_digits
digits_and_after [] = refl
digits_and_after (b ∷ t) = go (is_digit b) (digits_and_after t)
  where
    go : (x : Bool) → t ≡ digits_of t ++ after_digits t → b ∷ t ≡ (if x then b ∷ digits_of t else []) ++ (if x then after_digits t else b ∷ t)
    go true i = ap (λ (u : List ℕ). b ∷ u) i
    go false i = refl

-- before a `d`
module _ (s : List ℕ) where
  digits_taken : (ds : List ℕ) → every is_digit ds ≡ true → digits_of (ds ++ (100 ∷ s)) ≡ ds
  unfolding every digits_of
  digits_taken [] h = refl
  digits_taken (b ∷ ds) h = rw (and_left (is_digit b) (every is_digit ds) h, digits_taken ds (and_right (is_digit b) (every is_digit ds) h))

  digits_left : (ds : List ℕ) → every is_digit ds ≡ true → after_digits (ds ++ (100 ∷ s)) ≡ 100 ∷ s
  unfolding every after_digits
  digits_left [] h = refl
  digits_left (b ∷ ds) h = rw (and_left (is_digit b) (every is_digit ds) h, digits_left ds (and_right (is_digit b) (every is_digit ds) h))

-- ---- the digits of a width

-- what the digits of a width are, tested of all of one and of two digits
abbrev written : List ℕ → Bool
written ds = not (width_fine false ds) || same (width_text (value_of_number ds)) ds

one_digit : every_below (λ b. written (b ∷ [])) 58 ≡ true
unfolding every_below same number digits_from decimal_from
one_digit = refl

two_digits : every_below (λ b. every_below (λ c. written (b ∷ c ∷ [])) 58) 58 ≡ true
unfolding every_below same number digits_from decimal_from
two_digits = refl

by_test : (ds : List ℕ) → width_fine false ds ≡ true → written ds ≡ true → width_text (value_of_number ds) ≡ ds
by_test ds f w = same_true (width_text (value_of_number ds)) ds (rw f at w)

digit_in : (b : ℕ) → is_digit b ≡ true → (48 ≤ b) × (b < 58)
digit_in b h =
    let l = leb-true 48 b (and_left (leb 48 b) (leb b 57) h) in
    let k = leb-true b 57 (and_right (leb 48 b) (leb b 57) h) in
    (l, omega arith)

-- more digits write no smaller number
digits_grow : (n : ℕ) (s : List ℕ) (m : ℕ) → digits_from n s ≡ some m → n ≤ m
unfolding digits_from
digits_grow n [] m e = omega (arith, some-injective n m e)
digits_grow n (b ∷ s) m e = go (is_digit b) (digits_grow (n * 10 + (b - 48)) s m) e
  where
    go : (x : Bool) → (digits_from (n * 10 + (b - 48)) s ≡ some m → n * 10 + (b - 48) ≤ m) → (if x then digits_from (n * 10 + (b - 48)) s else none) ≡ some m → n ≤ m
    go true i e = omega (arith, i e)
    go false i e = absurd (none-ne-some _ e)

-- three digits or more write too large a number
too_many : (b c d : ℕ) (r : List ℕ) → is_digit b ≡ true → is_digit c ≡ true → is_digit d ≡ true → width_fine false (b ∷ c ∷ d ∷ r) ≡ true → ⊥
unfolding number digits_from
too_many b c d r hb hc hd f = go (eqb b 48) refl (and_left (not (eqb b 48)) (number_in 1 max_width (b ∷ c ∷ d ∷ r)) f)
  where
    go : (x : Bool) → eqb b 48 ≡ x → not x ≡ true → ⊥
    go true q n = false≢true n
    go false q n =
        let v = value_of_number (b ∷ c ∷ d ∷ r) in
        let i = said_in 1 max_width (b ∷ c ∷ d ∷ r) (and_right (not (eqb b 48)) (number_in 1 max_width (b ∷ c ∷ d ∷ r)) f) in
        let e : number (b ∷ c ∷ d ∷ r) ≡ digits_from (((0 * 10 + (b - 48)) * 10 + (c - 48)) * 10 + (d - 48)) r = rw (hb, hc, hd) in
        let g = digits_grow (((0 * 10 + (b - 48)) * 10 + (c - 48)) * 10 + (d - 48)) r v (sym e ∙ i.0) in
        let l = digit_in b hb in
        omega (arith, g, i.2, l.0, eqb-false b 48 q)

-- digits of a width are those of its number
canonical : (ds : List ℕ) → every is_digit ds ≡ true → width_fine false ds ≡ true → width_text (value_of_number ds) ≡ ds
unfolding every number
canonical [] h f = refl
canonical (b ∷ []) h f = by_test (b ∷ []) f (every_below_lem (λ x. written (x ∷ [])) 58 one_digit b (digit_in b (and_left (is_digit b) true h)).1)
canonical (b ∷ c ∷ []) h f =
    let k = and_right (is_digit b) (is_digit c && true) h in
    let t = every_below_lem (λ x. every_below (λ y. written (x ∷ y ∷ [])) 58) 58 two_digits b (digit_in b (and_left (is_digit b) (is_digit c && true) h)).1 in
    by_test (b ∷ c ∷ []) f (every_below_lem (λ y. written (b ∷ y ∷ [])) 58 t c (digit_in c (and_left (is_digit c) true k)).1)
canonical (b ∷ c ∷ d ∷ r) h f =
    let i = and_right (is_digit b) (is_digit c && (is_digit d && every is_digit r)) h in
    let j = and_right (is_digit c) (is_digit d && every is_digit r) i in
    absurd (too_many b c d r (and_left (is_digit b) (is_digit c && (is_digit d && every is_digit r)) h) (and_left (is_digit c) (is_digit d && every is_digit r) i) (and_left (is_digit d) (every is_digit r) j) f)

-- a width with a zero before it is one without it, and is not 0
width_bare : (zeros : Bool) (ds : List ℕ) → width_fine zeros ds ≡ true → width_fine false ds ≡ true
width_bare zeros [] f = refl
width_bare zeros (b ∷ ds) f = f

width_in : (zeros : Bool) (ds : List ℕ) → width_fine zeros ds ≡ true → (value_of_number ds ≤ max_width) × (zeros ≡ true → 1 ≤ value_of_number ds)
unfolding number
width_in true [] f = absurd (false≢true f)
width_in false [] f = (omega arith, λ e. absurd (false≢true e))
width_in zeros (b ∷ ds) f =
    let i = said_in 1 max_width (b ∷ ds) (and_right (not (eqb b 48)) (number_in 1 max_width (b ∷ ds)) f) in
    (i.2, λ e. i.1)

-- ---- what is taken writes the pattern

abbrev Word : List ℕ → Pattern → Type 0
Word w (pattern before zeros width after) = PatternWord w before zeros width after

abbrev zero_text : Bool → List ℕ
zero_text zeros = if zeros then 48 ∷ [] else []

-- a conversion and what follows it
conversion_past : (zeros : Bool) (width : ℕ) (s : List ℕ) → conversion_text zeros width ++ s ≡ PERCENT ∷ (zero_text zeros ++ (width_text width ++ (100 ∷ s)))
conversion_past true width s = ap (λ (u : List ℕ). PERCENT ∷ 48 ∷ u) (append_assoc (width_text width) (100 ∷ []) s)
conversion_past false width s = ap (λ (u : List ℕ). PERCENT ∷ u) (append_assoc (width_text width) (100 ∷ []) s)

none_in_nothing : has_percent [] ≡ false
unfolding is_in
none_in_nothing = refl

width_word : (zeros : Bool) (ds r u : List ℕ) (p : Pattern) → every is_digit ds ≡ true → u ≡ zero_text zeros ++ (ds ++ r) → after_width zeros ds r ≡ some p → Word (PERCENT ∷ u) p
width_word zeros ds [] u p h q e = absurd (none-ne-some _ e)
width_word zeros ds (c ∷ s) u p h q e = go (eqb c 100) refl (width_fine zeros ds) refl (has_percent s) refl e
  where
    go : (x : Bool) → eqb c 100 ≡ x → (y : Bool) → width_fine zeros ds ≡ y → (z : Bool) → has_percent s ≡ z
        → (if x && (y && not z) then some (pattern [] zeros (value_of_number ds) s) else none) ≡ some p → Word (PERCENT ∷ u) p
    go false a y f z k e = absurd (none-ne-some _ e)
    go true a false f z k e = absurd (none-ne-some _ e)
    go true a true f true k e = absurd (none-ne-some _ e)
    go true a true f false k e =
        let i = width_in zeros ds f in
        let d : c ≡ 100 = eqb-true c 100 a in
        let t : PERCENT ∷ u ≡ conversion_text zeros (value_of_number ds) ++ s =
        rw (q, d) (ap (λ (v : List ℕ). PERCENT ∷ (zero_text zeros ++ (v ++ (100 ∷ s)))) (sym (canonical ds h (width_bare zeros ds f))) ∙ sym (conversion_past zeros (value_of_number ds) s)) in
        let w : PatternWord (PERCENT ∷ u) [] zeros (value_of_number ds) s = record { text_is = t; none_before = none_in_nothing; none_after = k; width_small = i.0; width_given = i.1 } in
        subst (Word (PERCENT ∷ u)) (some-injective (pattern [] zeros (value_of_number ds) s) p e) w

percent_word : (t : List ℕ) (p : Pattern) → after_percent t ≡ some p → Word (PERCENT ∷ t) p
percent_word [] p e = absurd (none-ne-some _ e)
percent_word (b ∷ s) p e = go (eqb b 48) refl e
  where
    go : (x : Bool) → eqb b 48 ≡ x → (if x then after_width true (digits_of s) (after_digits s) else after_width false (digits_of (b ∷ s)) (after_digits (b ∷ s))) ≡ some p → Word (PERCENT ∷ b ∷ s) p
    go true q e =
        let d : b ≡ 48 = eqb-true b 48 q in
        let t : b ∷ s ≡ 48 ∷ (digits_of s ++ after_digits s) = rw d (ap (λ (u : List ℕ). 48 ∷ u) (digits_and_after s)) in
        width_word true (digits_of s) (after_digits s) (b ∷ s) p (digits_only s) t e
    go false q e = width_word false (digits_of (b ∷ s)) (after_digits (b ∷ s)) (b ∷ s) p (digits_only (b ∷ s)) (digits_and_after (b ∷ s)) e

no_percent : (b : ℕ) (a : List ℕ) → eqb b PERCENT ≡ false → has_percent a ≡ false → has_percent (b ∷ a) ≡ false
unfolding is_in
no_percent b a e h = rw (ne_eqb PERCENT b (omega (arith, eqb-false b PERCENT e)), h)

byte_word : (b : ℕ) (t : List ℕ) (q : Pattern) (p : Pattern) → eqb b PERCENT ≡ false → Word t q → byte_before b (some q) ≡ some p → Word (b ∷ t) p
byte_word b t (pattern a z n s) p h r e =
    let w : PatternWord (b ∷ t) (b ∷ a) z n s =
    record {
      text_is = ap (λ (u : List ℕ). b ∷ u) r.text_is;
      none_before = no_percent b a h r.none_before;
      none_after = r.none_after;
      width_small = r.width_small;
      width_given = r.width_given;
    } in
    subst (Word (b ∷ t)) (some-injective (pattern (b ∷ a) z n s) p e) w

pub pattern_word : (w : List ℕ) (p : Pattern) → pattern_of w ≡ some p → Word w p
unfolding pattern_of
pattern_word [] p e = absurd (none-ne-some _ e)
pattern_word (b ∷ t) p e = go (eqb b PERCENT) refl (pattern_of t) (pattern_word t) e
  where
    go : (x : Bool) → eqb b PERCENT ≡ x → (o : Option Pattern) → ((q : Pattern) → o ≡ some q → Word t q) → (if x then after_percent t else byte_before b o) ≡ some p → Word (b ∷ t) p
    go true h o i e = rw (eqb-true b PERCENT h) (percent_word t p e)
    go false h none i e = absurd (none-ne-some _ e)
    go false h (some q) i e = byte_word b t q p h (i q refl) e

-- ---- what writes a pattern is taken

-- of every width that is in its range
abbrev width_test : ℕ → Bool
width_test n = width_fine false (width_text n) && (eqb (value_of_number (width_text n)) n && every is_digit (width_text n))

widths : every_below width_test 100 ≡ true
unfolding every_below every number digits_from decimal_from
widths = refl

-- a width that is not 0 has digits
width_zeros : (zeros : Bool) (ds : List ℕ) → width_fine false ds ≡ true → (zeros ≡ true → 1 ≤ value_of_number ds) → width_fine zeros ds ≡ true
unfolding number
width_zeros false ds f g = f
width_zeros true [] f g = absurd (omega (arith, g refl))
width_zeros true (b ∷ ds) f g = f

width_taken : (zeros : Bool) (ds s : List ℕ) → width_fine zeros ds ≡ true → has_percent s ≡ false → after_width zeros ds (100 ∷ s) ≡ some (pattern [] zeros (value_of_number ds) s)
width_taken zeros ds s f k = go (width_fine zeros ds) f
  where
    go : (y : Bool) → y ≡ true → (if y && not (has_percent s) then some (pattern [] zeros (value_of_number ds) s) else none) ≡ some (pattern [] zeros (value_of_number ds) s)
    go y f = rw (f, k)

percent_taken : (zeros : Bool) (ds s : List ℕ) → every is_digit ds ≡ true → width_fine zeros ds ≡ true → has_percent s ≡ false
    → after_percent (zero_text zeros ++ (ds ++ (100 ∷ s))) ≡ some (pattern [] zeros (value_of_number ds) s)
percent_taken true ds s h f k = rw (digits_taken s ds h, digits_left s ds h) (width_taken true ds s f k)
percent_taken false [] s h f k = rw (digits_taken s [] h, digits_left s [] h) (width_taken false [] s f k)
percent_taken false (b ∷ ds) s h f k = go (eqb b 48) refl (and_left (not (eqb b 48)) (number_in 1 max_width (b ∷ ds)) f)
  where
    go : (x : Bool) → eqb b 48 ≡ x → not x ≡ true → after_percent (b ∷ (ds ++ (100 ∷ s))) ≡ some (pattern [] false (value_of_number (b ∷ ds)) s)
    go true q n = absurd (false≢true n)
    go false q n =
        rw (q, digits_taken s (b ∷ ds) h, digits_left s (b ∷ ds) h) (width_taken false (b ∷ ds) s f k)

module _ (zeros : Bool) (width : ℕ) (s : List ℕ) (k : has_percent s ≡ false) (small : width ≤ max_width) (given : zeros ≡ true → 1 ≤ width) where
  conversion_taken : after_percent (zero_text zeros ++ (width_text width ++ (100 ∷ s))) ≡ some (pattern [] zeros width s)
  conversion_taken =
      let t = every_below_lem width_test 100 widths width (omega arith) in
      let u = and_right (width_fine false (width_text width)) (eqb (value_of_number (width_text width)) width && every is_digit (width_text width)) t in
      let f = and_left (width_fine false (width_text width)) (eqb (value_of_number (width_text width)) width && every is_digit (width_text width)) t in
      let v : value_of_number (width_text width) ≡ width = eqb-true (value_of_number (width_text width)) width (and_left (eqb (value_of_number (width_text width)) width) (every is_digit (width_text width)) u) in
      let d = and_right (eqb (value_of_number (width_text width)) width) (every is_digit (width_text width)) u in
      percent_taken zeros (width_text width) s d (width_zeros zeros (width_text width) f (λ e. omega (arith, given e, v))) k
      ∙ ap (λ (n : ℕ). some (pattern [] zeros n s)) v

  before_taken : (a : List ℕ) → has_percent a ≡ false → pattern_of (a ++ (PERCENT ∷ (zero_text zeros ++ (width_text width ++ (100 ∷ s))))) ≡ some (pattern a zeros width s)
  unfolding pattern_of is_in
  before_taken [] h = conversion_taken
  before_taken (b ∷ a) h =
      let o = or-false (eqb PERCENT b) (is_in PERCENT a) h in
      rw (ne_eqb b PERCENT (omega (arith, eqb-false PERCENT b o.0)), before_taken a o.1)

pub pattern_taken : (w a : List ℕ) (zeros : Bool) (width : ℕ) (s : List ℕ) → PatternWord w a zeros width s → pattern_of w ≡ some (pattern a zeros width s)
pattern_taken w a zeros width s p =
    ap pattern_of (p.text_is ∙ ap (λ (u : List ℕ). a ++ u) (conversion_past zeros width s))
    ∙ before_taken zeros width s p.none_after p.width_small p.width_given a p.none_before
