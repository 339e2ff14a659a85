-- Laws of what the functions on a data file descriptor answer: part by part, and the whole.
-- Assumes nothing.
use Rattle.std.specs.Prelude.{if◌then◌else◌}
use Rattle.std.specs.Prelude.{Option as Maybe}
use Rattle.std.specs.Prelude.{Some, None}
use Prim.Native.Nat.{ℕ, suc, ◌+◌, ◌-◌, ◌*◌, ◌≤◌, ◌<◌, min}
use native.Mathlib.Omega.{arith}
use mathlib.Core.Path.{◌≡◌, refl, sym, ap, ◌∙◌}
use mathlib.Core.Bool.{Bool, true, false, not, ◌&&◌}
use mathlib.Core.List.{List, [], ◌∷◌}
use mathlib.Core.Option.{Option, none, some}
use lib.Dec.{eqb}
use lib.ListN.{length, take, drop, length-take, length-drop}
use lib.Seq.{drop-drop}
use mir.Val.{bool_byte}
use borrow.Author.Tests.{ne_eqb, eqb-true, eqb-false, le-leb}
use Rattle.format.specs.Bytes.{is_some, is_empty, MINUS, PERCENT}
use Rattle.format.specs.Limits.{max_axes, max_size, max_file_number, max_width}
use Rattle.format.specs.Words.{number, number_in, words, value_of_number}
use Rattle.format.specs.Decimals.{past_number, digits_of, after_digits}
use Rattle.format.specs.DataFiles.{is_list, has_percent, pattern, pattern_of, width_fine, after_width, after_percent, numbering, count_numbers, with_some, step_said, numbering_said, axes_number, axes_said, listed, numbered, one_file, numbered_files, pattern_said, DataFile, listed_files, count_numbered, cover_said, last_numbered, data_file_said}
use Rattle.read_text.specs.Numbers.{number_answer, size_answer}
use Rattle.read_text.specs.Places.{before}
use Rattle.read_text.proofs.NumberLaws.{number_is, number_wrong, size_out}
use Rattle.read_decimals.specs.Parts.{number_from, digits_answer}
use Rattle.read_decimals.specs.declared.parts.Digits.{Digits}
use Rattle.read_decimals.proofs.DigitLaws.{suffix, after_digits_lem, number_missing, number_partly, number_whole}
use Rattle.read_text.specs.declared.numbers.Place.{Place}
use Rattle.read_files.specs.declared.cover.Cover.{Cover}
use Rattle.read_files.specs.declared.cover.Cover.TheVariants.{Open, Axes}
use Rattle.read_files.specs.declared.names.Width.{Width}
use Rattle.read_files.specs.declared.names.Conversion.{Conversion}
use Rattle.read_files.specs.declared.names.Pattern.{Pattern as PatternAt}
use Rattle.read_files.specs.declared.numbers.Step.{Step}
use Rattle.read_files.specs.declared.numbers.Numbers.{Numbers}
use Rattle.read_files.specs.declared.NamePattern.{NamePattern}
use Rattle.read_files.specs.declared.Files.{Files}
use Rattle.read_files.specs.declared.Files.TheVariants.{One, Numbered, Listed}
use Rattle.read_files.specs.Parts.{begins, is_rest, part, first_of, rest_of, Next, numbering_of}
use Rattle.read_files.specs.Said.{is_listed}
use Rattle.read_files.specs.Files.{cover_told, cover_answer, WidthRead, WidthIs, ConversionRead, ConversionIs, PatternRead, PatternIs, StepRead, StepIs, NumbersRead, NumbersAre, Named, NamedBy, files_told, files_last, files_listed, files_cover}
use Rattle.read_files.proofs.WordLaws.{digits_count, digits_number, begins_within}
use Rattle.read_files.proofs.PatternLaws.{no_digits, tested, number_some, width_test, width_small, short, percent_is, width_is, and_turned, begins_there, pattern_missing, pattern_after}
use Rattle.read_files.proofs.NumberLaws.{step_is, sized_is, size_bound, numbers_reach, numbers_few, count_zero, count_said}
use Rattle.read_files.proofs.SaidLaws.{pattern_words, words_after, numbered_none, part_front, part_back, file_pattern}

-- ---- the number of axes

module _ (w : List ℕ) {d : Digits} (q : d ≡ digits_answer 0 w) where
  pub count_empty : d.count ≡ 0 → None ≡ cover_answer (axes_number (number w))
  count_empty z = rw (number_missing w (sym (digits_count d w q) ∙ z))

  pub count_partly : (d.count ≡ length w → ⊥) → None ≡ cover_answer (axes_number (number w))
  count_partly n = rw (number_partly w (λ e. n (digits_count d w q ∙ e)))

  pub count_whole : (d.count ≡ 0 → ⊥) → d.count ≡ length w → (m : ℕ) → m ≡ min d.number (max_axes + 1) → Some (Axes m) ≡ cover_answer (axes_number (number w))
  count_whole n h m e =
      let v : d.number ≡ min (number_from 0 (digits_of w)) past_number = digits_number d w q in
      let k : m ≡ min (number_from 0 (digits_of w)) (max_axes + 1) = omega arith in
      rw (number_whole w (λ z. n (digits_count d w q ∙ z)) (sym (digits_count d w q) ∙ h), k)

-- ---- a width

module _ (zeros : Bool) (s : List ℕ) {d : Digits} (q : d ≡ digits_answer 0 s) where
  -- no digits
  pub width_needed : d.count ≡ 0 → zeros ≡ true → width_fine zeros (digits_of s) ≡ false
  width_needed z e = rw (no_digits (digits_of s) (sym (digits_count d s q) ∙ z), e)

  pub width_left_out : d.count ≡ 0 → zeros ≡ false → WidthRead zeros s record { value = 0; length = d.count }
  unfolding number
  width_left_out z e =
      let none_there : digits_of s ≡ [] = no_digits (digits_of s) (sym (digits_count d s q) ∙ z) in
      record { fine = rw (none_there, e); value = rw none_there; small = omega arith; digits = digits_count d s q; within = short zeros s q }

  module _ (n : d.count ≡ 0 → ⊥) where
    pub width_wrong : width_test s d.number ≡ false → width_fine zeros (digits_of s) ≡ false
    width_wrong e = sym (tested zeros s q n) ∙ e

    pub width_right : width_test s d.number ≡ true → WidthRead zeros s record { value = d.number; length = d.count }
    width_right e =
        let v : d.number ≡ number_from 0 (digits_of s) = omega (arith, digits_number d s q, width_small zeros s q n e) in
        record {
          fine = sym (tested zeros s q n) ∙ e;
          value = v ∙ rw (number_some zeros s q n);
          small = width_small zeros s q n e;
          digits = digits_count d s q;
          within = short zeros s q;
        }

-- ---- what follows the `%`: z says whether a zero does

module _ (s : List ℕ) {z : Bool} (e : z ≡ begins 48 s) where
  sized : after_percent s ≡ after_width z (digits_of (drop (bool_byte z) s)) (after_digits (drop (bool_byte z) s))
  sized = rw e (percent_is s)

  -- a wrong width
  pub conversion_unsized : width_fine z (digits_of (take (length s - bool_byte z) (drop (bool_byte z) s))) ≡ false → after_percent s ≡ none
  conversion_unsized f =
      let t = drop (bool_byte z) s in
      let r = after_digits t in
      let g : width_fine z (digits_of t) ≡ false = rw (suffix s (bool_byte z)) at f in
      sized ∙ width_is z (digits_of t) r ∙ rw (and_turned (begins 100 r) (width_fine z (digits_of t)) (not (has_percent (drop 1 r))), g)

  module _ {w : Width} (q : WidthRead z (take (length s - bool_byte z) (drop (bool_byte z) s)) w) where
    read : WidthRead z (drop (bool_byte z) s) w
    read = rw (suffix s (bool_byte z)) at q

    end_within : bool_byte z + w.length ≤ length s
    end_within =
        let a : bool_byte z ≤ length s = rw e (begins_within 48 s) in
        let b : w.length ≤ length s - bool_byte z = rw (← length-drop) read.within in
        omega arith

    conversion_is : after_percent s
        ≡ (if is_rest (drop (bool_byte z + w.length) s) then some (pattern [] z w.value (drop (bool_byte z + w.length + 1) s)) else none)
    conversion_is =
        let t = drop (bool_byte z) s in
        let r = drop (bool_byte z + w.length) s in
        let rest : after_digits t ≡ r = sym (after_digits_lem t) ∙ rw (← read.digits) (drop-drop w.length (bool_byte z) s) in
        let after : drop 1 r ≡ drop (bool_byte z + w.length + 1) s = drop-drop 1 (bool_byte z + w.length) s in
        sized ∙ rw (rest, ← after, read.value) (width_is z (digits_of t) r ∙ rw (and_turned (begins 100 r) (width_fine z (digits_of t)) (not (has_percent (drop 1 r))), read.fine))

    -- x says whether what follows the width is right
    module _ {x : Bool} (f : x ≡ is_rest (take (length s - (bool_byte z + w.length)) (drop (bool_byte z + w.length) s))) where
      rest_is : x ≡ is_rest (drop (bool_byte z + w.length) s)
      rest_is = rw (suffix s (bool_byte z + w.length)) at f

      pub conversion_wrong : x ≡ false → after_percent s ≡ none
      conversion_wrong n = conversion_is ∙ rw (← rest_is, n)

      pub conversion_right : x ≡ true → ConversionRead s record { zeros = z; width = w.value; length = bool_byte z + w.length + 1 }
      conversion_right n =
          let r = drop (bool_byte z + w.length) s in
          let k : is_rest r ≡ true = sym rest_is ∙ n in
          let h = begins_there 100 s (bool_byte z + w.length) (front (begins 100 r) (not (has_percent (drop 1 r))) k) in
          record { said = conversion_is ∙ rw k; small = read.small; within = omega arith }
        where
          front : (a b : Bool) → (a && b) ≡ true → a ≡ true
          front true b e = refl
          front false b e = e

-- ---- a word as a pattern: its first `%` stands at p

module _ (w : List ℕ) {p : ℕ} (e : p ≡ before PERCENT w) (h : p < length w) where
  pub pattern_wrong : after_percent (take (length w - (p + 1)) (drop (p + 1) w)) ≡ none → pattern_of w ≡ none
  pattern_wrong f =
      let g : after_percent (drop (before PERCENT w + 1) w) ≡ none = rw (← e) (rw (suffix w (p + 1)) at f) in
      pattern_after w false false 0 [] (rw (← e) h) g

  pub pattern_right : {c : Conversion} → ConversionRead (take (length w - (p + 1)) (drop (p + 1) w)) c
      → PatternRead w record { percent = p; zeros = c.zeros; width = c.width; after = p + 1 + c.length }
  pattern_right {c} r =
      let q : ConversionRead (drop (p + 1) w) c = rw (suffix w (p + 1)) at r in
      let a : after_percent (drop (before PERCENT w + 1) w) ≡ some (pattern [] c.zeros c.width (drop (p + 1 + c.length) w))
      = rw (← e, ← drop-drop c.length (p + 1) w) q.said in
      let k : c.length ≤ length w - (p + 1) = rw (← length-drop) q.within in
      record {
        said = rw (← e) at (pattern_after w true c.zeros c.width (drop (p + 1 + c.length) w) (rw (← e) h) a);
        small = q.small;
        apart = omega arith;
        within = omega arith;
      }

-- ---- a word as a step

module _ (w : List ℕ) {m : Bool} {v : ℕ} (e : m ≡ begins MINUS w) (f : v ≡ size_answer (number (take (length w - bool_byte m) (drop (bool_byte m) w)))) where
  size_is : v ≡ size_answer (number (drop (bool_byte m) w))
  size_is = rw (suffix w (bool_byte m)) at f

  pub step_wrong : v ≡ 0 → step_said w ≡ none
  step_wrong n = rw e (step_is w) ∙ sized_is m (drop (bool_byte m) w) v size_is ∙ rw n

  pub step_right : (v ≡ 0 → ⊥) → StepRead w record { falls = m; size = v }
  step_right n =
      record {
        said = rw e (step_is w) ∙ sized_is m (drop (bool_byte m) w) v size_is ∙ rw (ne_eqb v 0 n);
        bounded = rw size_is (size_bound (number (drop (bool_byte m) w)));
      }

-- ---- the three words of a numbering, where they stand

module _ {t : List ℕ} {at : ℕ} {p q r : Place} (n : Next t at p) (m : Next t p.to q) (k : Next t q.to r) where
  three : numbering_of (words (drop at t)) ≡ numbering_said (part p.from p.to t) (part q.from q.to t) (step_said (part r.from r.to t))
  three = rw (n.word, m.word, k.word, m.rest, n.rest)

  after_three : words (drop r.to t) ≡ rest_of (rest_of (rest_of (words (drop at t))))
  after_three = k.rest ∙ ap rest_of (m.rest ∙ ap rest_of n.rest)

  pub first_wrong : None ≡ number_answer (number (part p.from p.to t)) → numbering_of (words (drop at t)) ≡ none
  first_wrong e =
      let f = number_wrong (number (part p.from p.to t)) e 0 max_file_number (omega arith) in
      three ∙ go (step_said (part r.from r.to t)) f
    where
      go : (o : Option (Bool × ℕ)) → number_in 0 max_file_number (part p.from p.to t) ≡ false → numbering_said (part p.from p.to t) (part q.from q.to t) o ≡ none
      go none f = refl
      go (some s) f = rw f

  module _ {a : ℕ} (e : Some a ≡ number_answer (number (part p.from p.to t))) where
    first_in : number_in 0 max_file_number (part p.from p.to t) ≡ true
    first_in = let i = number_is (number (part p.from p.to t)) a e in rw (i.0, le-leb 0 a (omega arith), le-leb a max_file_number i.1)

    pub last_wrong : None ≡ number_answer (number (part q.from q.to t)) → numbering_of (words (drop at t)) ≡ none
    last_wrong g =
        let f = number_wrong (number (part q.from q.to t)) g 0 max_file_number (omega arith) in
        three ∙ go (step_said (part r.from r.to t)) f
      where
        go : (o : Option (Bool × ℕ)) → number_in 0 max_file_number (part q.from q.to t) ≡ false → numbering_said (part p.from p.to t) (part q.from q.to t) o ≡ none
        go none f = refl
        go (some s) f = rw (first_in, f)

    pub step_missing : step_said (part r.from r.to t) ≡ none → numbering_of (words (drop at t)) ≡ none
    step_missing f = three ∙ rw f

    module _ {b : ℕ} (f : Some b ≡ number_answer (number (part q.from q.to t))) {s : Step} (g : StepRead (part r.from r.to t) s) where
      bounds : (a ≤ max_file_number) × (b ≤ max_file_number)
      bounds = ((number_is (number (part p.from p.to t)) a e).1, (number_is (number (part q.from q.to t)) b f).1)

      pub few : count_numbers s.falls a b s.size ≤ max_file_number + 1
      few = numbers_few s.falls a b s.size bounds.0 bounds.1

      module _ {c : ℕ} (h : c ≡ count_numbers s.falls a b s.size) where
        counted : numbering_of (words (drop at t)) ≡ with_some a s.falls s.size c
        counted =
            let i = number_is (number (part p.from p.to t)) a e in
            let j = number_is (number (part q.from q.to t)) b f in
            three ∙ rw (g.said, i.0, j.0, le-leb 0 a (omega arith), le-leb a max_file_number i.1, le-leb 0 b (omega arith), le-leb b max_file_number j.1, h)

        pub none_counted : c ≡ 0 → numbering_of (words (drop at t)) ≡ none
        none_counted z = counted ∙ count_zero c a s.size s.falls z

        pub some_counted : (c ≡ 0 → ⊥) → NumbersRead t at record { first = a; falls = s.falls; size = s.size; last = c - 1; end = r.to }
        some_counted z =
            record {
              said = counted ∙ count_said c a s.size s.falls z;
              rest = after_three;
              within = k.within;
              first = bounds.0;
              size = g.bounded;
              reach = rw h (numbers_reach s.falls a b s.size (λ o. z (h ∙ o)) bounds.0 bounds.1);
            }

-- ---- a pattern with its numbers

module _ {t : List ℕ} {p : Place} (n : Next t 0 p) where
  pub name_wrong : pattern_of (part p.from p.to t) ≡ none → pattern_said (words t) ≡ none
  name_wrong e = let o : pattern_of (first_of (words t)) ≡ none = rw (← n.word) e in pattern_words (words t) ∙ rw o

  pub numbers_wrong : numbering_of (words (drop p.to t)) ≡ none → pattern_said (words t) ≡ none
  numbers_wrong e =
      let o : numbering_of (rest_of (words t)) ≡ none = rw (← n.rest) e in
      pattern_words (words t) ∙ rw o (numbered_none (pattern_of (first_of (words t))) (axes_said (drop 4 (words t))))

  module _ {w : PatternAt} (q : PatternRead (part p.from p.to t) w) {k : Numbers} (m : NumbersRead t p.to k) where
    after_words : words (drop k.end t) ≡ drop 4 (words t)
    after_words = rw (words_after (words t), ← n.rest) m.rest

    said : (o : Option (Option ℕ)) → axes_said (words (drop k.end t)) ≡ o
        → pattern_said (words t) ≡ numbered (some (pattern (part p.from (p.from + w.percent) t) w.zeros w.width (part (p.from + w.after) p.to t))) (some (numbering k.first k.falls k.size (k.last + 1))) o
    said o e =
        let v = part p.from p.to t in
        let l : length v ≤ p.to - p.from = rw length-take (omega arith) in
        let a : pattern_of (first_of (words t)) ≡ some (pattern (part p.from (p.from + w.percent) t) w.zeros w.width (part (p.from + w.after) p.to t))
        = rw (← n.word, ← part_front t p.from p.to w.percent (omega (arith, q.apart, q.within, n.ordered)), ← part_back t p.from p.to w.after) q.said in
        let b : numbering_of (rest_of (words t)) ≡ some (numbering k.first k.falls k.size (k.last + 1)) = rw (← n.rest) m.said in
        let c : axes_said (drop 4 (words t)) ≡ o = rw (← after_words) e in
        pattern_words (words t) ∙ rw (a, b, c)

    pub axes_wrong : None ≡ cover_answer (axes_said (words (drop k.end t))) → pattern_said (words t) ≡ none
    axes_wrong e = go (axes_said (words (drop k.end t))) refl e
      where
        go : (o : Option (Option ℕ)) → axes_said (words (drop k.end t)) ≡ o → None ≡ cover_answer o → pattern_said (words t) ≡ none
        go none x f = said none x
        go (some axes) x f = cc

    pub all_right : {c : Cover} → Some c ≡ cover_answer (axes_said (words (drop k.end t)))
        → Named t record { from = p.from; percent = p.from + w.percent; zeros = w.zeros; width = w.width; after = p.from + w.after; to = p.to; first = k.first; falls = k.falls; size = k.size; last = k.last; cover = c }
    all_right {c} e = go (axes_said (words (drop k.end t))) refl e
      where
        go : (o : Option (Option ℕ)) → axes_said (words (drop k.end t)) ≡ o → Some c ≡ cover_answer o
            → Named t record { from = p.from; percent = p.from + w.percent; zeros = w.zeros; width = w.width; after = p.from + w.after; to = p.to; first = k.first; falls = k.falls; size = k.size; last = k.last; cover = c }
        go none x f = cc
        go (some axes) x f =
            let l : length (part p.from p.to t) ≤ p.to - p.from = rw length-take (omega arith) in
            record {
              axes = axes;
              said = said (some axes) x;
              cover = cc;
              before = omega arith;
              apart = omega (arith, q.apart);
              rest = omega (arith, q.within, n.ordered);
              within = n.within;
              width = q.small;
              first = m.first;
              size = m.size;
              reach = m.reach;
            }

-- ---- the whole descriptor

module _ (t : List ℕ) where
  module _ (e : is_list t ≡ true) where
    list_is : data_file_said t ≡ listed (axes_said (words (drop 4 t)))
    unfolding data_file_said
    list_is = rw e

    pub list_wrong : None ≡ cover_answer (axes_said (words (drop 4 t))) → None ≡ files_told (data_file_said t)
    list_wrong f = rw list_is (go (axes_said (words (drop 4 t))) f)
      where
        go : (o : Option (Option ℕ)) → None ≡ cover_answer o → None ≡ files_told (listed o)
        go none f = refl
        go (some axes) f = cc

    pub list_right : {c : Cover} → Some c ≡ cover_answer (axes_said (words (drop 4 t))) → Some (Listed c) ≡ files_told (data_file_said t)
    list_right {c} f = rw list_is (go (axes_said (words (drop 4 t))) f)
      where
        go : (o : Option (Option ℕ)) → Some c ≡ cover_answer o → Some (Listed c) ≡ files_told (listed o)
        go none f = cc
        go (some axes) f = let g : c ≡ cover_told axes = cc in rw g

  module _ (e : is_list t ≡ false) where
    module _ (h : has_percent t ≡ true) where
      pub pattern_none : pattern_said (words t) ≡ none → None ≡ files_told (data_file_said t)
      pattern_none f = rw (file_pattern t e h, f)

      pub pattern_some : {r : NamePattern} → Named t r → Some (Numbered r.last r.cover) ≡ files_told (data_file_said t)
      pattern_some {r} f = let l : r.last + 1 - 1 ≡ r.last = omega arith in rw (file_pattern t e h, f.said, f.cover, l)

    module _ (h : has_percent t ≡ false) where
      pub name_none : eqb (length t) 0 ≡ true → None ≡ files_told (data_file_said t)
      unfolding data_file_said
      name_none z = rw (e, h) (go t z)
        where
          go : (u : List ℕ) → eqb (length u) 0 ≡ true → None ≡ files_told (if is_empty u then none else some (one_file u))
          go [] z = refl
          go (b ∷ u) z = let k = eqb-true (suc (length u)) 0 z in absurd (omega arith)

      pub name_some : eqb (length t) 0 ≡ false → Some One ≡ files_told (data_file_said t)
      unfolding data_file_said
      name_some z = rw (e, h) (go t z)
        where
          go : (u : List ℕ) → eqb (length u) 0 ≡ false → Some One ≡ files_told (if is_empty u then none else some (one_file u))
          go [] z = absurd (eqb-false 0 0 z refl)
          go (b ∷ u) z = refl

-- ---- what an answer tells of what is said

pub told_none : (o : Option DataFile) → None ≡ files_told o → o ≡ none
told_none none e = refl
told_none (some (one_file t)) e = cc
told_none (some (numbered_files p k axes)) e = cc
told_none (some (listed_files axes)) e = cc

module _ {f : Files} where
  pub told_some : (o : Option DataFile) → Some f ≡ files_told o → is_some o ≡ true
  told_some none e = cc
  told_some (some d) e = refl

  pub told_last : (o : Option DataFile) → Some f ≡ files_told o → files_last f ≡ last_numbered o
  told_last none e = cc
  told_last (some (one_file t)) e = let g : f ≡ One = cc in rw g
  told_last (some (numbered_files p k axes)) e = let g : f ≡ Numbered (count_numbered k - 1) (cover_told axes) = cc in rw g
  told_last (some (listed_files axes)) e = let g : f ≡ Listed (cover_told axes) = cc in rw g

  pub told_listed : (o : Option DataFile) → Some f ≡ files_told o → files_listed f ≡ is_listed o
  told_listed none e = cc
  told_listed (some (one_file t)) e = let g : f ≡ One = cc in rw g
  told_listed (some (numbered_files p k axes)) e = let g : f ≡ Numbered (count_numbered k - 1) (cover_told axes) = cc in rw g
  told_listed (some (listed_files axes)) e = let g : f ≡ Listed (cover_told axes) = cc in rw g

  pub told_cover : (o : Option DataFile) → Some f ≡ files_told o → files_cover f ≡ cover_answer (cover_said o)
  told_cover none e = cc
  told_cover (some (one_file t)) e = let g : f ≡ One = cc in rw g
  told_cover (some (numbered_files p k axes)) e = let g : f ≡ Numbered (count_numbered k - 1) (cover_told axes) = cc in rw g
  told_cover (some (listed_files axes)) e = let g : f ≡ Listed (cover_told axes) = cc in rw g
