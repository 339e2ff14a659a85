-- Laws of a list of vectors: what is left of it from a word on.
-- Assumes nothing.
use Rattle.std.specs.Prelude.{if◌then◌else◌}
use Prim.Native.Nat.{ℕ, suc, ◌+◌, ◌-◌, ◌≤◌, ◌<◌}
use native.Mathlib.Numerals.{add-one}
use native.Mathlib.Omega.{arith}
use mathlib.Core.Path.{◌≡◌, refl, sym, ap, ◌∙◌}
use mathlib.Core.Bool.{Bool, true, false, ◌&&◌}
use mathlib.Core.List.{List, [], ◌∷◌, map}
use mathlib.Core.Option.{Option, none, some}
use Rattle.std.specs.Option.{unwrap_or}
use lib.Dec.{eqb}
use lib.ListN.{length, drop, set, replicate, length-set}
use lib.Seq.{sets, length-sets, set_out}
use Rattle.format.specs.declared.Decimal.{Decimal}
use Rattle.format.specs.Bytes.{is_some, or_default}
use Rattle.format.specs.Vectors.{Direction, without, along, along_said, said_by, vector_said, direction_said, vector_words, vectors_said}
use Rattle.read_vectors.specs.declared.vector.Vector.{Vector}
use Rattle.format.specs.Columns.{eight, column, matrix}
use Rattle.read_vectors.specs.Outside.{part, Next}
use Rattle.read_vectors.specs.Answers.{vector_answer, direction_answer, vector_column, direction_column, word_said, frame_said}
use Rattle.read_text.proofs.Said.{cons_some, said_done, said_short, said_long, said_cons, said_values, said_both}
use Rattle.read_vectors.proofs.WordLaws.{words_none, words_more}

-- a column of zeros for no vector
pub column_or : (o : Option (List Decimal)) → unwrap_or (vector_column o) (column []) ≡ column (or_default [] o)
column_or none = refl
column_or (some ds) = refl

-- ---- whether the vectors are there, `left` of them from a place on

along_some : (o : Option (List Decimal)) → is_some (along_said o) ≡ is_some o
along_some none = refl
along_some (some ds) = refl

direction_fine : (o : Option Direction) → (direction_answer o).fine ≡ is_some o
direction_fine none = refl
direction_fine (some without) = refl
direction_fine (some (along ds)) = refl

-- what a direction and a vector tell of a word
module _ (may : Bool) (n : ℕ) (w : List ℕ) (v : Vector) where
  pub fine_direction : may ≡ true → v ≡ direction_answer (direction_said n w) → v.fine ≡ is_some (word_said may n w)
  fine_direction e q = rw e (ap (λ (x : Vector). x.fine) q ∙ direction_fine (direction_said n w))

  pub fine_vector : may ≡ false → v ≡ vector_answer (vector_said n w) → v.fine ≡ is_some (word_said may n w)
  fine_vector e q = rw e (ap (λ (x : Vector). x.fine) q ∙ sym (along_some (vector_said n w)))

-- where `none` is not taken, directions are vectors
pub vectors_said_lem : (k n : ℕ) (ws : List (List ℕ)) → is_some (said_by k (word_said false n) ws) ≡ is_some (said_by k (vector_said n) ws)
vectors_said_lem k n ws = said_both (word_said false n) (vector_said n) (λ w. along_some (vector_said n w)) k ws

module _ (may : Bool) (n : ℕ) {t : List ℕ} {at from to : ℕ} (left : ℕ) (w : Next t at from to) where
  abbrev pub Fine : Bool
  Fine = is_some (said_by left (word_said may n) (vector_words (drop at t)))

  -- a word too few
  pub fine_short : from ≡ to → 0 < left → false ≡ Fine
  fine_short e h = rw (words_none w e, said_short (word_said may n) left h)

  fine_cons : (from ≡ to → ⊥) → 0 < left
      → Fine ≡ (is_some (word_said may n (part from to t)) && is_some (said_by (left - 1) (word_said may n) (vector_words (drop to t))))
  fine_cons e h =
      let f = word_said may n in
      let ws = vector_words (drop to t) in
      rw (words_more w e, said_cons f left (part from to t) ws h) (cons_some (f (part from to t)) (said_by (left - 1) f ws))

  -- a word that is wrong
  pub fine_wrong : (from ≡ to → ⊥) → 0 < left → is_some (word_said may n (part from to t)) ≡ false → false ≡ Fine
  fine_wrong e h x = sym (fine_cons e h ∙ rw x)

  -- one word more
  pub fine_more : (from ≡ to → ⊥) → 0 < left → is_some (word_said may n (part from to t)) ≡ true
      → Fine ≡ is_some (said_by (left - 1) (word_said may n) (vector_words (drop to t)))
  fine_more e h x = fine_cons e h ∙ rw x

  -- no word is wanted
  pub fine_end : left ≡ 0 → eqb from to ≡ Fine
  fine_end z = rw (w.words, z) (go (eqb from to))
    where
      go : (x : Bool) → x ≡ is_some (said_by 0 (word_said may n) (if x then [] else part from to t ∷ vector_words (drop to t)))
      go true = rw (said_done (word_said may n))
      go false = rw (said_long (word_said may n))

-- ---- a frame, whose columns are stored in the matrix m from c on

-- nothing is stored past the end
sets_out : {A : Type 0} (xs m : List A) (c : ℕ) → length m ≤ c → sets m c xs ≡ m
sets_out [] m c h = refl
sets_out (x ∷ xs) m c h = sets_out xs (set m c x) (suc c) (rw length-set (omega arith)) ∙ set_out m c x h

pub length_matrix : (cs : List (List Decimal)) → length (matrix cs) ≡ 8
unfolding eight
length_matrix cs = length-sets (replicate 8 (column [])) 0 (map column cs)

module _ (n : ℕ) where
  -- the columns that words are
  abbrev pub columns_of : List (List ℕ) → List (List Decimal)
  columns_of ws = map column (map (λ w. or_default [] (vector_said n w)) ws)

  pub frame_start : (m : List (List Decimal)) (t : List ℕ) → m ≡ matrix [] → frame_said n t ≡ sets m 0 (columns_of (vector_words t))
  unfolding eight
  frame_start m t e = rw e

  -- all columns are stored
  pub frame_full : (m : List (List Decimal)) (c : ℕ) (ws : List (List ℕ)) → length m ≡ 8 → 8 ≤ c → m ≡ sets m c (columns_of ws)
  frame_full m c ws l h = sym (sets_out (columns_of ws) m c (omega arith))

  module _ {t : List ℕ} {at from to : ℕ} (m : List (List Decimal)) (c : ℕ) (w : Next t at from to) where
    -- no word more
    pub frame_end : from ≡ to → m ≡ sets m c (columns_of (vector_words (drop at t)))
    frame_end e = rw (words_none w e)

    -- one column more
    pub frame_more : (from ≡ to → ⊥) → (ds : List Decimal) → ds ≡ column (or_default [] (vector_said n (part from to t)))
        → sets m c (columns_of (vector_words (drop at t))) ≡ sets (set m c ds) (c + 1) (columns_of (vector_words (drop to t)))
    frame_more e ds q = rw (words_more w e, q, add-one)

  -- of a text that says n vectors they are the matrix
  pub frame_of_lem : (k : ℕ) (t : List ℕ) (cs : List (List Decimal)) → vectors_said k n t ≡ some cs → frame_said n t ≡ matrix cs
  frame_of_lem k t cs e = ap matrix (said_values (vector_said n) [] k (vector_words t) cs e)
