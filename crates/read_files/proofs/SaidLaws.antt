-- Laws of what a whole descriptor says, by what its words say.
-- Assumes nothing.
use Rattle.std.specs.Prelude.{if◌then◌else◌}
use Prim.Native.Nat.{ℕ, zero, suc, ◌+◌, ◌-◌, ◌≤◌}
use native.Mathlib.Omega.{arith}
use mathlib.Core.Path.{◌≡◌, refl, sym, ◌∙◌}
use mathlib.Core.Bool.{Bool, true, false, not, false≢true}
use mathlib.Core.List.{List, [], ◌∷◌}
use mathlib.Core.Option.{Option, none, some}
use lib.Dec.{eqb}
use lib.ListN.{length, take, drop, length-take}
use lib.Seq.{drop-drop, take-take, take-nil}
use borrow.Author.Tests.{ne_eqb}
use Rattle.format.specs.Bytes.{is_some, is_empty}
use Rattle.format.specs.Words.{words}
use Rattle.format.specs.DataFiles.{is_list, has_percent, Pattern, pattern, pattern_of, Numbering, one_file, numbered_files, axes_said, listed, numbered, pattern_said, data_file_said}
use Rattle.read_text.specs.declared.numbers.Place.{Place}
use Rattle.read_files.specs.declared.pattern.Pattern.{Pattern as PatternAt}
use Rattle.read_files.specs.declared.numbering.Numbers.{Numbers}
use Rattle.read_files.specs.declared.FilesSaid.{FilesSaid}
use Rattle.read_files.specs.declared.PatternSaid.{PatternSaid}
use Rattle.read_files.specs.Parts.{part, first_of, rest_of, Next, WordRead, numbering_of, NumberingRead}
use Rattle.read_files.specs.Said.{is_listed, cover_code, files_answer, pattern_at, numbering_at, axes_at, PatternRead}

-- ---- parts of a text

drop_take : (k m : ℕ) (l : List ℕ) → drop k (take m l) ≡ take (m - k) (drop k l)
drop_take zero m l = let e : m - 0 ≡ m = omega arith in rw e
drop_take (suc k) zero l = let e : 0 - suc k ≡ 0 = omega arith in rw e
drop_take (suc k) (suc m) [] = rw take-nil
drop_take (suc k) (suc m) (b ∷ l) = let e : suc m - suc k ≡ m - k = omega arith in rw e (drop_take k m l)

-- a part's first bytes, and what follows them, as parts of the text
module _ (t : List ℕ) (from to k : ℕ) where
  pub part_front : from + k ≤ to → take k (part from to t) ≡ part from (from + k) t
  part_front h = let e : from + k - from ≡ k = omega arith in rw e (take-take k (to - from) (drop from t) (omega arith))

  pub part_back : drop k (part from to t) ≡ part (from + k) to t
  part_back =
      let e : to - from - k ≡ to - (from + k) = omega arith in
      drop_take k (to - from) (drop from t) ∙ rw (e, drop-drop k from t)

-- ---- a pattern by its words

pub numbered_none : (o : Option Pattern) (a : Option (Option ℕ)) → numbered o none a ≡ none
numbered_none none a = refl
numbered_none (some p) a = refl

-- a word that is missing says what an empty one says
pub pattern_words : (ws : List (List ℕ)) → pattern_said ws ≡ numbered (pattern_of (first_of ws)) (numbering_of (rest_of ws)) (axes_said (drop 4 ws))
unfolding pattern_of
pattern_words [] = refl
pattern_words (p ∷ []) = sym (numbered_none (pattern_of p) (axes_said (drop 4 (p ∷ []))))
pattern_words (p ∷ f ∷ []) = sym (numbered_none (pattern_of p) (axes_said (drop 4 (p ∷ f ∷ []))))
pattern_words (p ∷ f ∷ l ∷ []) = sym (numbered_none (pattern_of p) (axes_said (drop 4 (p ∷ f ∷ l ∷ []))))
pattern_words (p ∷ f ∷ l ∷ s ∷ more) = refl

-- the words after the first four
pub words_after : (ws : List (List ℕ)) → drop 4 ws ≡ rest_of (rest_of (rest_of (rest_of ws)))
words_after [] = refl
words_after (p ∷ []) = refl
words_after (p ∷ f ∷ []) = refl
words_after (p ∷ f ∷ l ∷ []) = refl
words_after (p ∷ f ∷ l ∷ s ∷ more) = refl

-- ---- what `pattern_said` answers

abbrev no_pattern : PatternSaid
no_pattern =
    record { fine = false; from = 0; percent = 0; zeros = false; width = 0; after = 0; to = 0; first = 0; falls = false; size = 0; last = 0; cover = 0 }

no_pattern_lem : (t : List ℕ) → pattern_said (words t) ≡ none → PatternRead t no_pattern
no_pattern_lem t e =
    record {
      said = e;
      last = rw e;
      cover = rw e;
      before = omega arith;
      between = omega arith;
      apart = λ f. absurd (false≢true f);
      rest = omega arith;
      within = omega arith;
      width = omega arith;
      first = omega arith;
      size = omega arith;
      reach = λ f. absurd (false≢true f);
    }

-- the first word, as it was read
module _ {t : List ℕ} {p : Place} {w : PatternAt} (n : Next t 0 p) (q : WordRead (part p.from p.to t) w) where
  pub word_bad : w.fine ≡ false → PatternRead t no_pattern
  word_bad e =
      let o : pattern_of (first_of (words t)) ≡ none = rw (← n.word) (q.said ∙ rw e) in
      no_pattern_lem t (pattern_words (words t) ∙ rw o)

  pub after_within : p.from + w.after ≤ p.to
  after_within =
      let l : length (part p.from p.to t) ≤ p.to - p.from = rw length-take (omega arith) in
      omega (arith, q.within, n.ordered)

  -- and the three after it
  module _ {k : Numbers} (m : NumberingRead t p.to k) where
    pub numbers_bad : k.fine ≡ false → PatternRead t no_pattern
    numbers_bad e =
        let o : numbering_of (rest_of (words t)) ≡ none = rw (← n.rest) (m.said ∙ rw e) in
        no_pattern_lem t (pattern_words (words t) ∙ rw o (numbered_none (pattern_of (first_of (words t))) (axes_said (drop 4 (words t)))))

    -- and the words for the axes
    module _ {c : ℕ} (f : w.fine ≡ true) (g : k.fine ≡ true) (e : c ≡ cover_code (axes_said (words (drop k.end t)))) where
      axes_are : c ≡ cover_code (axes_said (drop 4 (words t)))
      axes_are = rw (words_after (words t), ← n.rest, ← (m.rest g)) e

      abbrev read : PatternSaid
      read =
          record {
            fine = true;
            from = p.from;
            percent = p.from + w.percent;
            zeros = w.zeros;
            width = w.width;
            after = p.from + w.after;
            to = p.to;
            first = k.first;
            falls = k.falls;
            size = k.size;
            last = k.last;
            cover = c;
          }

      pub axes_bad : c ≡ 0 → PatternRead t no_pattern
      axes_bad z = no_pattern_lem t (pattern_words (words t) ∙ go (axes_said (drop 4 (words t))) axes_are)
        where
          no_axes : (o : Option Pattern) (u : Option Numbering) → numbered o u none ≡ none
          no_axes none u = refl
          no_axes (some x) none = refl
          no_axes (some x) (some y) = refl

          go : (o : Option (Option ℕ)) → c ≡ cover_code o → numbered (pattern_of (first_of (words t))) (numbering_of (rest_of (words t))) o ≡ none
          go none a = no_axes (pattern_of (first_of (words t))) (numbering_of (rest_of (words t)))
          go (some none) a = absurd (omega arith)
          go (some (some x)) a = absurd (omega arith)

      pattern_there : pattern_of (first_of (words t)) ≡ some (pattern_at t read)
      pattern_there =
          let v = part p.from p.to t in
          let h = after_within in
          let a : pattern_of v ≡ some (pattern (take w.percent v) w.zeros w.width (drop w.after v)) = q.said ∙ rw f in
          rw (← n.word, ← part_front t p.from p.to w.percent (omega (arith, q.ordered)), ← part_back t p.from p.to w.after) a

      numbers_there : numbering_of (rest_of (words t)) ≡ some (numbering_at read)
      numbers_there = rw (← n.rest) (m.said ∙ rw g)

      said_there : (o : Option (Option ℕ)) → axes_said (drop 4 (words t)) ≡ o → c ≡ cover_code o → (c ≡ 0 → ⊥) → PatternRead t read
      said_there none x a z = absurd (z a)
      said_there (some axes) x a z =
          let s : pattern_said (words t) ≡ some (numbered_files (pattern_at t read) (numbering_at read) axes)
          = pattern_words (words t) ∙ rw (pattern_there, numbers_there, x) in
          let h = after_within in
          record {
            said = s ∙ rw x;
            last = rw s (omega arith);
            cover = rw s a;
            before = omega arith;
            between = omega (arith, q.ordered);
            apart = λ y. omega (arith, q.apart f);
            rest = h;
            within = n.within;
            width = q.small;
            first = m.first;
            size = m.size;
            reach = λ y. m.reach g;
          }

      pub pattern_read : (c ≡ 0 → ⊥) → PatternRead t read
      pattern_read = said_there (axes_said (drop 4 (words t))) refl axes_are

-- ---- what `said` answers

-- names on lines of their own, by the axes that are read
pub list_answer : (o : Option (Option ℕ)) (c : ℕ) → c ≡ cover_code o
    → record { fine = not (eqb c 0); list = not (eqb c 0); last = 0; cover = c } ≡ files_answer (listed o)
list_answer none c e = rw e
list_answer (some none) c e = rw e
list_answer (some (some n)) c e = rw (ne_eqb c 0 (λ z. omega arith), e)

-- a pattern
pattern_answer : (t : List ℕ) (r : PatternSaid) → PatternRead t r
    → record { fine = r.fine; list = false; last = r.last; cover = r.cover } ≡ files_answer (pattern_said (words t))
pattern_answer t r p =
    let fine : r.fine ≡ is_some (pattern_said (words t)) = rw p.said (some_there r.fine) in
    let list : false ≡ is_listed (pattern_said (words t)) = rw p.said (not_listed r.fine) in
    λ i. record { fine = fine i; list = list i; last = p.last i; cover = p.cover i }
  where
    some_there : (x : Bool) → x ≡ is_some (if x then some (numbered_files (pattern_at t r) (numbering_at r) (axes_at t)) else none)
    some_there true = refl
    some_there false = refl

    not_listed : (x : Bool) → false ≡ is_listed (if x then some (numbered_files (pattern_at t r) (numbering_at r) (axes_at t)) else none)
    not_listed true = refl
    not_listed false = refl

module _ (t : List ℕ) where
  pub said_list : (r : FilesSaid) → is_list t ≡ true → r ≡ files_answer (listed (axes_said (words (drop 4 t)))) → r ≡ files_answer (data_file_said t)
  unfolding data_file_said
  said_list r e q = rw e q

  module _ (e : is_list t ≡ false) where
    pub file_pattern : has_percent t ≡ true → data_file_said t ≡ pattern_said (words t)
    unfolding data_file_said
    file_pattern h = rw (e, h)

    pub said_pattern : (r : PatternSaid) → has_percent t ≡ true → PatternRead t r
        → record { fine = r.fine; list = false; last = r.last; cover = r.cover } ≡ files_answer (data_file_said t)
    said_pattern r h p = rw (file_pattern h) (pattern_answer t r p)

    -- a name, which is not empty
    pub said_name : has_percent t ≡ false → record { fine = not (eqb (length t) 0); list = false; last = 0; cover = 0 } ≡ files_answer (data_file_said t)
    unfolding data_file_said
    said_name h = rw (e, h) (go t)
      where
        go : (u : List ℕ) → record { fine = not (eqb (length u) 0); list = false; last = 0; cover = 0 } ≡ files_answer (if is_empty u then none else some (one_file u))
        go [] = refl
        go (b ∷ u) = rw (ne_eqb (suc (length u)) 0 (λ z. omega arith))
