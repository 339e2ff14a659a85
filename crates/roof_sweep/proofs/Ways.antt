-- The three ways in which an answer and the lent list are those of the call for a sweep: 28 or a refusal before it, a refusal of the samples, and found.
-- Assumes nothing.
use Rattle.std.specs.Prelude.{if◌then◌else◌}
use Prim.Native.Nat.{ℕ, ◌-◌, ◌*◌, ◌/◌, ◌≤◌, ◌<◌}
use native.Mathlib.Omega.{arith}
use mathlib.Core.Path.{◌≡◌, refl, sym, ap, ◌∙◌}
use mathlib.Core.Bool.{Bool, true, false, not}
use mathlib.Core.List.{List, [], map}
use mathlib.Core.Option.{Option, none, some}
use lib.Dec.{eqb}
use lib.IntN.{ℤ}
use lib.ListN.{length, get_or, take, drop, length-map}
use lib.Seq.{take_all}
use borrow.Author.Tests.{eq-eqb, ne_eqb}
use Rattle.roof_sweep.specs.declared.SweepAnswer.{SweepAnswer}
use Rattle.format.specs.declared.Refusal.{Refusal}
use Rattle.format.specs.declared.Reading.{Reading}
use Rattle.format.specs.declared.CountAnswer.{CountAnswer}
use Rattle.format.specs.Bytes.{over}
use Rattle.format.specs.Refusals.{no_sweep, refusal}
use Rattle.format.specs.Header.{header}
use Rattle.format.specs.Boundary.{words_of_samples, samples_lent, lent_samples}
use Rattle.format.specs.Calls.{read_header_call, check_samples_call, seen_in, samples_call}
use Rattle.format.specs.EntryPoints.{samples_entry}
use Rattle.format.proofs.Samples.{all_bytes}
use Rattle.format.proofs.Boundary.{length_over}
use Rattle.roof_steps.specs.Steps.{stamp_of, first_wrong}
use Rattle.roof_sweep.specs.Sweeps.{row_length, row_count, offset_for, refused_sweep, sweep_answer, stamps_in, sweep_found, sweep_call, sweep_entry}
use Rattle.lent_lists.specs.Views.{Views}
use Rattle.roof_sweep.specs.Rows.{Rows}
use Rattle.roof_sweep.proofs.RowLaws.{sweep_rows, offset_sweep, seen_few}
use Rattle.roof_sweep.specs.LentStamps.{same_stamps}

-- the answer with this offset, by the stamps of the rows
abbrev pub tells : ℕ → ℕ → List ℕ → SweepAnswer
tells n largest ts = sweep_answer n (first_wrong largest ts)

-- ---- a list of numbers

module _ (file : List ℕ) (list : List ℤ) (largest : ℕ) where
  -- there is no offset
  pub sweep_none : offset_for file largest ≡ none → (a : CountAnswer) → a ≡ check_samples_call file [] (length list)
      → ◌≡◌ {A = SweepAnswer × List ℤ} (refused_sweep (if eqb a.refusal.number 0 then refusal no_sweep else a.refusal), list) (sweep_call file list largest)
  unfolding sweep_call
  sweep_none o a e =
      ap (λ (x : CountAnswer). (refused_sweep (if eqb x.refusal.number 0 then refusal no_sweep else x.refusal), list)) e
      ∙ go (eqb (check_samples_call file [] (length list)).refusal.number 0) (offset_for file largest) o
    where
      c : Refusal
      c = (check_samples_call file [] (length list)).refusal

      go : (b : Bool) (x : Option ℕ) → x ≡ none
          → ◌≡◌ {A = SweepAnswer × List ℤ} (refused_sweep (if b then refusal no_sweep else c), list) (if not b then (refused_sweep c, list) else sweep_found x file list largest)
      go true x p = rw p
      go false x p = refl

  module _ (a : CountAnswer) (after : List ℤ) (e : ◌≡◌ {A = CountAnswer × List ℤ} (a, after) (samples_call file [] list)) where
    checked : a ≡ check_samples_call file [] (length list)
    checked = ap (λ (p : CountAnswer × List ℤ). p.0) e

    left : after ≡ (samples_call file [] list).1
    left = ap (λ (p : CountAnswer × List ℤ). p.1) e

    -- the samples are refused
    pub sweep_refused : (a.refusal.number ≡ 0 → ⊥) → ◌≡◌ {A = SweepAnswer × List ℤ} (refused_sweep a.refusal, after) (sweep_call file list largest)
    unfolding sweep_call
    sweep_refused n = rw (left, ← checked, ne_eqb a.refusal.number 0 n)

    module _ (z : a.refusal.number ≡ 0) {n : ℕ} (o : offset_for file largest ≡ some n) where
      answers_0 : (check_samples_call file [] (length list)).refusal.number ≡ 0
      answers_0 = sym (ap (λ (x : CountAnswer). x.refusal.number) checked) ∙ z

      -- the rows are there
      pub rows_there : Rows (read_header_call file).reading (length list)
      rows_there = sweep_rows file (length list) (offset_sweep file largest o) answers_0

      -- the samples are stored
      pub sweep_found_lem : ◌≡◌ {A = SweepAnswer × List ℤ} (tells n largest (stamps_in (read_header_call file).reading after), after) (sweep_call file list largest)
      unfolding sweep_call
      sweep_found_lem =
          let c = (check_samples_call file [] (length list)).refusal in
          (λ i. (tells n largest (stamps_in (read_header_call file).reading (left i)), left i))
          ∙ sym (go (eqb c.number 0) (offset_for file largest) (eq-eqb c.number 0 answers_0) o)
        where
          go : (b : Bool) (x : Option ℕ) → b ≡ true → x ≡ some n
              → (if not b then (refused_sweep (check_samples_call file [] (length list)).refusal, list) else sweep_found x file list largest) ≡ sweep_found (some n) file list largest
          go b x p q = rw (p, q)

      -- as many as there were
      samples_long : length after ≡ length list
      samples_long =
          let seen = seen_in file [] (header file) in
          ap length left
          ∙ ap (λ (n : ℕ). length (if eqb n 0 then over seen list else list)) answers_0
          ∙ length_over seen list (seen_few file (length list) (header file) answers_0)

-- ---- lent cells

module _ {A : Type 0} {store : List ℤ → List A} {place room : ℕ → ℕ} {Sound : List A → Type 0} {samples : List A → List ℤ} {lent : List ℤ → List A → List A}
    (v : Views store place room Sound samples lent) (keeps : (zs : List ℤ) (d : List A) → length zs ≡ length (samples d) → map stamp_of (samples (lent zs d)) ≡ map stamp_of zs)
    (file : List ℕ) (list : List A) (largest : ℕ) where
  -- the answer, and the cells once they hold the samples
  abbrev held : SweepAnswer × List ℤ → SweepAnswer × List A
  held p = (p.0, lent p.1 list)

  pub lent_none : Sound list → offset_for file largest ≡ none → (a : CountAnswer) → a ≡ check_samples_call file [] (length (samples list))
      → ◌≡◌ {A = SweepAnswer × List A} (refused_sweep (if eqb a.refusal.number 0 then refusal no_sweep else a.refusal), list) (held (sweep_call file (samples list) largest))
  lent_none s o a e =
      let x : SweepAnswer = refused_sweep (if eqb a.refusal.number 0 then refusal no_sweep else a.refusal) in
      (λ i. (x, sym (v.kept list s) i)) ∙ ap held (sweep_none file (samples list) largest o a e)

  module _ (a : CountAnswer) (after : List A) (e : ◌≡◌ {A = CountAnswer × List A} (a, after) (let b = samples_call file [] (samples list) in (b.0, lent b.1 list))) where
    -- the samples that the cells hold
    abbrev zs : List ℤ
    zs = (samples_call file [] (samples list)).1

    listed : ◌≡◌ {A = CountAnswer × List ℤ} (a, zs) (samples_call file [] (samples list))
    listed i = (ap (λ (p : CountAnswer × List A). p.0) e i, zs)

    lent_left : after ≡ lent zs list
    lent_left = ap (λ (p : CountAnswer × List A). p.1) e

    pub lent_refused : (a.refusal.number ≡ 0 → ⊥) → ◌≡◌ {A = SweepAnswer × List A} (refused_sweep a.refusal, after) (held (sweep_call file (samples list) largest))
    lent_refused n = (λ i. (refused_sweep a.refusal, lent_left i)) ∙ ap held (sweep_refused file (samples list) largest a zs listed n)

    module _ (z : a.refusal.number ≡ 0) {n : ℕ} (o : offset_for file largest ≡ some n) where
      stamps_kept : map stamp_of (samples after) ≡ map stamp_of zs
      stamps_kept = ap (λ d. map stamp_of (samples d)) lent_left ∙ keeps zs list (samples_long file (samples list) largest a zs listed z o)

      as_long : length (samples after) ≡ length (samples list)
      as_long = sym (length-map (samples after) stamp_of) ∙ ap length stamps_kept ∙ length-map zs stamp_of ∙ samples_long file (samples list) largest a zs listed z o

      module _ (r : Reading) (q : r ≡ (read_header_call file).reading) where
        pub lent_rows : Rows r (length (samples after))
        lent_rows = rw (as_long, q) (rows_there file (samples list) largest a zs listed z o)

        pub lent_found : {x : SweepAnswer} → x ≡ tells n largest (stamps_in r (samples after)) → ◌≡◌ {A = SweepAnswer × List A} (x, after) (held (sweep_call file (samples list) largest))
        lent_found p =
            let y = (read_header_call file).reading in
            let s : stamps_in r (samples after) ≡ stamps_in y zs = ap (λ w. stamps_in w (samples after)) q ∙ same_stamps (row_count y) (row_length y) (samples after) zs stamps_kept in
            (λ i. (p i, after)) ∙ (λ i. (tells n largest (s i), lent_left i)) ∙ ap held (sweep_found_lem file (samples list) largest a zs listed z o)
