-- A number in a name reads as it is, so names of different numbers differ; and the files of a descriptor with a pattern.
-- Assumes nothing.
use Rattle.std.specs.Prelude.{if◌then◌else◌}
use Prim.Native.Nat.{ℕ, zero, suc, ◌-◌, ◌≤◌, max}
use native.Mathlib.Nat.{sub-add-eq-max}
use native.Mathlib.Omega.{arith}
use mathlib.Core.Path.{◌≡◌, refl, sym, ap, ◌∙◌}
use mathlib.Core.Bool.{Bool, true, false, and-eq-true_iff}
use mathlib.Core.List.{List, [], ◌∷◌, ◌++◌, append_cancel_left, append_cancel_right}
use mathlib.Core.Option.{Option, none, some, none-ne-some, some-injective}
use lib.Dec.{leb}
use lib.ListN.{length, drop, replicate, length-append, length-replicate}
use borrow.Author.Tests.{leb-true, ne_eqb}
use Rattle.format.specs.Bytes.{is_digit, every, space_or_tab, is_empty, SPACE}
use Rattle.format.specs.Words.{trim_front, digits_from, number, words}
use Rattle.format.specs.Writer.{decimal}
use Rattle.format.specs.DataFiles.{is_list, has_percent, Pattern, pattern, pattern_of, Numbering, step_said, numbering_said, one_file, numbered_files, axes_said, listed, numbered, pattern_said, data_file_said, count_numbered, files_said}
use Rattle.format.specs.FileNames.{number_text, pattern_name, number_at, name_said}
use Rattle.format.proofs.Writer.{decimal_digits, decimal_not_empty, number_from, number_of_decimal}
use Rattle.theorem_files.specs.Files.{PatternFiles}
use Rattle.theorem_files.proofs.Numbers.{numbers_run}

-- ---- a number in a name

digit_no_blank : (b : ℕ) → is_digit b ≡ true → space_or_tab b ≡ false
digit_no_blank b e =
    let h : 48 ≤ b = leb-true 48 b ((and-eq-true_iff (leb 48 b) (leb b 57)).0 e).0 in
    rw (ne_eqb b 32 (omega arith), ne_eqb b 9 (omega arith))

-- no digit is trimmed
digits_kept : (s : List ℕ) → every is_digit s ≡ true → trim_front s ≡ s
unfolding every trim_front
digits_kept [] e = refl
digits_kept (b ∷ s) e = rw (digit_no_blank b ((and-eq-true_iff (is_digit b) (every is_digit s)).0 e).0)

spaces_trimmed : (k : ℕ) (s : List ℕ) → trim_front (replicate k SPACE ++ s) ≡ trim_front s
unfolding trim_front
spaces_trimmed zero s = refl
spaces_trimmed (suc k) s = spaces_trimmed k s

-- zeros are digits, and change no number
zeros_digits : (k : ℕ) (s : List ℕ) → every is_digit s ≡ true → every is_digit (replicate k 48 ++ s) ≡ true
unfolding every
zeros_digits zero s e = e
zeros_digits (suc k) s e = zeros_digits k s e

zeros_nothing : (k : ℕ) (s : List ℕ) → digits_from 0 (replicate k 48 ++ s) ≡ digits_from 0 s
unfolding digits_from
zeros_nothing zero s = refl
zeros_nothing (suc k) s = zeros_nothing k s

module _ (width n : ℕ) where
  abbrev pad : ℕ
  pad = width - length (decimal n)

  zeros_read : number (replicate pad 48 ++ decimal n) ≡ some n
  zeros_read =
      number_from (replicate pad 48 ++ decimal n) (simp length-append (omega (arith, decimal_not_empty n)))
      ∙ zeros_nothing pad (decimal n)
      ∙ sym (number_from (decimal n) (decimal_not_empty n))
      ∙ number_of_decimal n

  pub number_read : (zeros : Bool) → number (trim_front (number_text zeros width n)) ≡ some n
  number_read true = rw (digits_kept (replicate pad 48 ++ decimal n) (zeros_digits pad (decimal n) (decimal_digits n))) zeros_read
  number_read false = rw (spaces_trimmed pad (decimal n), digits_kept (decimal n) (decimal_digits n)) (number_of_decimal n)

  pub number_long : (zeros : Bool) → length (number_text zeros width n) ≡ max width (length (decimal n))
  number_long zeros = simp (length-append, length-replicate) (sub-add-eq-max width (length (decimal n)))

-- ---- names

names_apart : (p : Pattern) (a b : ℕ) → pattern_name p a ≡ pattern_name p b → a ≡ b
names_apart (pattern before zeros width after) a b e =
    let t = number_text zeros width a in
    let u = number_text zeros width b in
    let q : t ≡ u = append_cancel_right t u after (append_cancel_left before (t ++ after) (u ++ after) e) in
    some-injective a b (sym (number_read width a zeros) ∙ ap (λ (s : List ℕ). number (trim_front s)) q ∙ number_read width b zeros)

-- ---- the files of a descriptor with a pattern

module _ (t : List ℕ) (p : Pattern) (k : Numbering) (axes : Option ℕ) (said : data_file_said t ≡ some (numbered_files p k axes)) where
  as_many : (names : ℕ) → files_said (data_file_said t) names ≡ count_numbered k
  as_many names = rw said

  named : (names : List (List ℕ)) (n : ℕ) → name_said (data_file_said t) names n ≡ pattern_name p (number_at k n)
  unfolding name_said
  named names n = rw said

  -- the words, once the tests have found the form
  by_words : (ws : List (List ℕ)) → words t ≡ ws → pattern_said ws ≡ some (numbered_files p k axes) → PatternFiles t p k
  by_words [] w e = absurd (none-ne-some _ e)
  by_words (a ∷ []) w e = absurd (none-ne-some _ e)
  by_words (a ∷ b ∷ []) w e = absurd (none-ne-some _ e)
  by_words (a ∷ b ∷ c ∷ []) w e = absurd (none-ne-some _ e)
  by_words (a ∷ b ∷ c ∷ d ∷ more) w e = go (pattern_of a) refl (numbering_said b c (step_said d)) refl (axes_said more) e
    where
      go : (q : Option Pattern) → pattern_of a ≡ q → (r : Option Numbering) → numbering_said b c (step_said d) ≡ r → (x : Option (Option ℕ))
          → numbered q r x ≡ some (numbered_files p k axes) → PatternFiles t p k
      go none h r i x e = absurd (none-ne-some _ e)
      go (some q) h none i x e = absurd (none-ne-some _ e)
      go (some q) h (some r) i none e = absurd (none-ne-some _ e)
      go (some q) h (some r) i (some x) e =
          let u : q ≡ p = cc in
          let v : r ≡ k = cc in
          let is : numbering_said b c (step_said d) ≡ some k = rw v at i in
          record {
            word = a;
            first = b;
            last = c;
            step = d;
            more = more;
            words_are = w;
            pattern_is = rw u at h;
            numbers_are = is;
            run = numbers_run b c d k is;
            as_many = as_many;
            named = named;
            apart = λ n m g j e. (numbers_run b c d k is).apart n m g j (names_apart p (number_at k n) (number_at k m) e);
          }

  pub pattern_files : PatternFiles t p k
  unfolding data_file_said
  pattern_files = go (is_list t) (has_percent t) (is_empty t) said
    where
      list : (o : Option (Option ℕ)) → listed o ≡ some (numbered_files p k axes) → PatternFiles t p k
      list none e = absurd (none-ne-some _ e)
      list (some x) e = let z : ◌≡◌ {A = ℕ} 0 1 = cc in absurd (omega arith)

      go : (a b c : Bool) → (if a then listed (axes_said (words (drop 4 t))) else if b then pattern_said (words t) else if c then none else some (one_file t)) ≡ some (numbered_files p k axes) → PatternFiles t p k
      go true b c e = list (axes_said (words (drop 4 t))) e
      go false true c e = by_words (words t) refl e
      go false false true e = absurd (none-ne-some _ e)
      go false false false e = let z : ◌≡◌ {A = ℕ} 0 1 = cc in absurd (omega arith)
