-- The table of lines, store by store.
-- Assumes nothing.
use Prim.Native.Nat.{ℕ, suc, ◌+◌, ◌-◌, ◌≤◌, ◌<◌}
use native.Mathlib.Nat.{zero-add}
use native.Mathlib.Numerals.{add-one}
use native.Mathlib.Omega.{arith}
use mathlib.Core.Path.{◌≡◌, ◌∙◌}
use mathlib.Core.List.{List}
use lib.ListN.{length, take, drop, set, length-take}
use lib.Seq.{sets, sets-eq}
use Rattle.format.specs.Bytes.{over}
use Rattle.format.specs.Lines.{lines, starts}
use Rattle.format.proofs.Lines.{length_starts}
use Rattle.read_lines.specs.Spans.{LineAt}
use Rattle.read_table.specs.Tables.{Lined, starts_of}
use Rattle.read_table.proofs.Lining.{one_left, lined_next}

-- a store, and then the starts of m lines from the next line on
fill_turn : (file table : List ℕ) (at k text_end next m : ℕ) → LineAt file at text_end next
    → sets (set table k at) (k + 1) (starts next (take m (lines (drop next file)))) ≡ sets table k (starts at (take (suc m) (lines (drop at file))))
unfolding starts
fill_turn file table at k text_end next m w = rw (w.cut, w.bytes, add-one)

-- the first k starts are in the table, and the next line starts at `at`: the stores that are left give what all stores give
pub record Filling (file table₀ : List ℕ) (count : ℕ) (table : List ℕ) (at k : ℕ) : Type 0 where
  pub same : sets table k (starts at (take (count - k) (lines (drop at file)))) ≡ sets table₀ 0 (starts_of file count)
  pub lined : Lined file at (count - k)

pub filling_start : {file table₀ : List ℕ} {count : ℕ} → Lined file 0 count → Filling file table₀ count table₀ 0 0
filling_start {count = count} a =
    let z : count - 0 ≡ count = omega arith in
    record { same = rw z; lined = rw z a }

module _ {file table₀ : List ℕ} {count : ℕ} {table : List ℕ} {at k : ℕ} (f : Filling file table₀ count table at k) where
  pub filling_done : count ≤ k → count ≤ length table₀ → table ≡ over (starts_of file count) table₀
  unfolding starts
  filling_done h room =
      let z : count - k ≡ 0 = omega arith in
      let n : length (starts_of file count) ≤ count = rw (length_starts, length-take) (omega arith) in
      rw z at f.same ∙ sets-eq (starts_of file count) table₀ 0 (omega arith) ∙ rw zero-add

  pub filling_next : k < count → {text_end next : ℕ} → LineAt file at text_end next → {table' : List ℕ} → table' ≡ set table k at → Filling file table₀ count table' next (k + 1)
  filling_next h {text_end} {next} w e =
      let one = one_left h in
      record { same = rw e (fill_turn file table at k text_end next (count - (k + 1)) w) ∙ rw one at f.same; lined = lined_next f.lined one w }
