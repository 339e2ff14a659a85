-- The lent table is compared with where the lines of the file start.
-- Assumes nothing.
use Prim.Native.Nat.{ℕ, suc, ◌+◌, ◌-◌, ◌≤◌, ◌<◌}
use native.Mathlib.Numerals.{add-one}
use native.Mathlib.Omega.{arith}
use mathlib.Core.Path.{◌≡◌, sym, ◌∙◌}
use mathlib.Core.Bool.{true, false, ◌&&◌}
use mathlib.Core.List.{List, [], ◌∷◌}
use lib.Dec.{eqb}
use lib.ListN.{length, take, drop, get_or, length-take}
use lib.Seq.{drop-cons}
use borrow.Author.Tests.{eq-eqb, ne_eqb, le-leb, lt-leb}
use Rattle.format.specs.Bytes.{same}
use Rattle.format.specs.Lines.{Line, lines, starts}
use Rattle.format.specs.Settings.{table_fine}
use Rattle.format.proofs.Lines.{length_starts}
use Rattle.read_lines.specs.Spans.{LineAt}
use Rattle.read_table.specs.Tables.{Lined, starts_of}
use Rattle.read_table.proofs.Lining.{one_left, lined_next}

-- the first k entries match, and the next line starts at `at`: what is left decides
pub record Matching (file table : List ℕ) (count at k : ℕ) : Type 0 where
  pub left : same (take count table) (starts_of file count) ≡ same (take (count - k) (drop k table)) (starts at (take (count - k) (lines (drop at file))))
  pub lined : Lined file at (count - k)
  pub room : count ≤ length table

pub matching_start : {file table : List ℕ} {count : ℕ} → Lined file 0 count → count ≤ length table → Matching file table count 0 0
matching_start {count = count} a room =
    let z : count - 0 ≡ count = omega arith in
    record { left = rw z; lined = rw z a; room = room }

module _ {file table : List ℕ} {count at k : ℕ} (m : Matching file table count at k) where
  pub matching_done : count ≤ k → true ≡ same (take count table) (starts_of file count)
  unfolding starts same
  matching_done h = let z : count - k ≡ 0 = omega arith in sym (m.left ∙ rw z)

  module _ (h : k < count) where
    one : count - k ≡ suc (count - (k + 1))
    one = one_left h

    -- one more line: its entry, and then the rest
    turn : {text_end next : ℕ} → LineAt file at text_end next
        → same (take count table) (starts_of file count)
        ≡ (eqb (get_or table k 0) at && same (take (count - (k + 1)) (drop (k + 1) table)) (starts next (take (count - (k + 1)) (lines (drop next file)))))
    unfolding starts same
    turn w = m.left ∙ rw (one, drop-cons table k 0 (omega (arith, m.room)), w.cut, w.bytes, add-one k)

    pub matching_next : {text_end next : ℕ} → LineAt file at text_end next → get_or table k 0 ≡ at → Matching file table count next (k + 1)
    matching_next w e = record { left = turn w ∙ rw (eq-eqb (get_or table k 0) at e); lined = lined_next m.lined one w; room = m.room }

    pub matching_not : (get_or table k 0 ≡ at → ⊥) → false ≡ same (take count table) (starts_of file count)
    unfolding starts same
    matching_not e = sym (m.left ∙ rw (one, drop-cons table k 0 (omega (arith, m.room))) (go (lines (drop at file)) (rw one at m.lined.there)))
      where
        go : (ls : List Line) → suc (count - (k + 1)) ≤ length ls
            → same (get_or table k 0 ∷ take (count - (k + 1)) (drop (suc k) table)) (starts at (take (suc (count - (k + 1))) ls)) ≡ false
        go [] q = absurd (omega arith)
        go (l ∷ ls) q = rw (ne_eqb (get_or table k 0) at e)

-- ---- the tests before

module _ (file table : List ℕ) (lines' count : ℕ) (a : Lined file 0 lines') where
  table_many : length (starts_of file lines') ≡ lines'
  table_many = rw (length_starts, length-take) (omega (arith, a.there))

  pub fine_count : (count ≡ lines' → ⊥) → false ≡ table_fine table count (starts_of file lines')
  unfolding table_fine
  fine_count h = rw (table_many, ne_eqb count lines' h)

  module _ (all : count ≡ lines') where
    pub fine_short : length table < count → false ≡ table_fine table count (starts_of file lines')
    unfolding table_fine
    fine_short h = rw (table_many, eq-eqb count lines' all, lt-leb count (length table) h)

    pub fine_same : count ≤ length table → same (take count table) (starts_of file count) ≡ table_fine table count (starts_of file lines')
    unfolding table_fine
    fine_same h = rw (table_many, eq-eqb count lines' all, le-leb count (length table) h, all)
