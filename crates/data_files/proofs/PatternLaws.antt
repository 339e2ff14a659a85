-- Laws of a descriptor that is not LIST: the name that it is, or the pattern that it has.
-- Assumes nothing.
use Rattle.std.specs.Prelude.{if◌then◌else◌}
use Prim.Native.Nat.{ℕ, ◌+◌, ◌-◌, ◌≤◌, ◌<◌}
use native.Mathlib.Nat.{mul-le-mul_right}
use native.Mathlib.Omega.{arith}
use mathlib.Core.Path.{◌≡◌, refl, sym, ap, ◌∙◌}
use mathlib.Core.Bool.{Bool, true, false, ◌||◌, false≢true}
use mathlib.Core.List.{List, []}
use mathlib.Core.Option.{none, some}
use lib.ListN.{length, take, drop, length-take, length-drop}
use Rattle.format.specs.declared.WriteAnswer.{WriteAnswer}
use Rattle.format.specs.Bytes.{is_some, is_empty}
use Rattle.format.specs.Limits.{max_header}
use Rattle.format.specs.Words.{words}
use Rattle.format.specs.DataFiles.{is_list, has_percent, is_many_form, Pattern, pattern, numbering, one_file, numbered_files, listed, axes_said, pattern_said, data_file_said}
use Rattle.format.specs.FileNames.{pattern_name, number_at, name_said}
use Rattle.std.specs.Prelude.{IsSome, Some, None}
use Rattle.std.specs.Prelude.{Option as Maybe}
use Rattle.read_files.specs.declared.NamePattern.{NamePattern}
use Rattle.read_files.specs.Parts.{part, Reach}
use Rattle.read_files.specs.Files.{Named, NamedBy}
use Rattle.data_files.specs.Asked.{stored_name, value_at, NameAsked}

module _ (t : List ℕ) (n : ℕ) (w : NameAsked t n) where
  -- it is the name of one file
  pub name_itself : is_many_form t ≡ false → name_said (data_file_said t) [] n ≡ t
  unfolding data_file_said name_said
  name_itself e = go (is_list t) w.no_list (has_percent t) (is_empty t) e w.right
    where
      go : (x : Bool) → x ≡ false → (y z : Bool) → (x || y) ≡ false
          → is_some (if x then listed (axes_said (words (drop 4 t))) else if y then pattern_said (words t) else if z then none else some (one_file t)) ≡ true
          → name_said (if x then listed (axes_said (words (drop 4 t))) else if y then pattern_said (words t) else if z then none else some (one_file t)) [] n ≡ t
      go true l y z e s = absurd (false≢true (sym l))
      go false l true z e s = absurd (false≢true (sym e))
      go false l false true e s = absurd (false≢true s)
      go false l false false e s = refl

  -- it is a pattern
  said_pattern : is_many_form t ≡ true → data_file_said t ≡ pattern_said (words t)
  unfolding data_file_said
  said_pattern e = go (is_list t) w.no_list (has_percent t) e
    where
      go : (x : Bool) → x ≡ false → (y : Bool) → (x || y) ≡ true
          → (if x then listed (axes_said (words (drop 4 t))) else if y then pattern_said (words t) else if is_empty t then none else some (one_file t)) ≡ pattern_said (words t)
      go true l y e = absurd (false≢true (sym l))
      go false l true e = refl
      go false l false e = absurd (false≢true e)

-- a number that is not after the last one is within reach where the last one is
reach_less : (first : ℕ) (falls : Bool) (size n last : ℕ) → n ≤ last → Reach first falls size last → Reach first falls size n
reach_less first true size n last l h = omega (arith, h, mul-le-mul_right {m = n} {n = last} size l)
reach_less first false size n last l h = omega (arith, h, mul-le-mul_right {m = n} {n = last} size l)

-- the same number by both definitions
value_is : (first : ℕ) (falls : Bool) (size count n : ℕ) → number_at (numbering first falls size count) n ≡ value_at first falls size n
value_is first true size count n = refl
value_is first false size count n = refl

-- the pattern, by the places of its parts in the descriptor
abbrev pub pattern_at : List ℕ → NamePattern → Pattern
pattern_at t r = pattern (part r.from r.percent t) r.zeros r.width (part r.after r.to t)

-- the n-th file of a pattern that was read: its number is within reach, and its name has it in the pattern
pub record Numbered (t : List ℕ) (n : ℕ) (r : NamePattern) : Type 0 where
  pub reach : Reach r.first r.falls r.size n
  pub name : name_said (data_file_said t) [] n ≡ pattern_name (pattern_at t r) (value_at r.first r.falls r.size n)

module _ (t : List ℕ) (n : ℕ) (w : NameAsked t n) (e : is_many_form t ≡ true) where
  -- there is a pattern
  pub pattern_there : (o : Maybe NamePattern) → NamedBy t o → IsSome o
  pattern_there None p = absurd (false≢true (rw (said_pattern t n w e ∙ p) at w.right))
  pattern_there (Some r) p = refl

  pub name_numbered : {r : NamePattern} → Named t r → Numbered t n r
  unfolding name_said
  name_numbered {r} p =
      let q : data_file_said t ≡ some (numbered_files (pattern_at t r) (numbering r.first r.falls r.size (r.last + 1)) p.axes) = said_pattern t n w e ∙ p.said in
      let c : n < r.last + 1 = rw q at w.below in
      record {
        reach = reach_less r.first r.falls r.size n r.last (omega arith) p.reach;
        name = rw (q, value_is r.first r.falls r.size (r.last + 1) n);
      }

-- what is answered with the number in the pattern, as it was worked out, is answered with the name
pub numbered_called : (t : List ℕ) (n : ℕ) (r : NamePattern) → Numbered t n r → (v : ℕ) → v ≡ value_at r.first r.falls r.size n → (out : List ℕ)
    → {x : WriteAnswer × List ℕ} → x ≡ stored_name (pattern_name (pattern_at t r) v) out → x ≡ stored_name (name_said (data_file_said t) [] n) out
numbered_called t n r w v e out q = q ∙ ap (λ (s : List ℕ). stored_name s out) (ap (pattern_name (pattern_at t r)) e ∙ sym w.name)

-- both texts around the number stand in the descriptor
pub parts_short : (t : List ℕ) {r : NamePattern} → Named t r → length t ≤ max_header
    → length (take (r.percent - r.from) (drop r.from t)) + length (take (r.to - r.after) (drop r.after t)) ≤ max_header
parts_short t p h = simp (length-take, length-drop) (omega (arith, p.before, p.apart, p.rest, p.within))
