-- Two files whose headers give the same fields, before the same lines: data and samples are the same, and the data's place moves with the
-- header's length.
-- Assumes nothing.
use Prim.Native.Nat.{ℕ, ◌+◌, ◌-◌, ◌≤◌}
use native.Mathlib.Omega.{arith}
use mathlib.Core.Path.{◌≡◌, refl, sym, ◌∙◌}
use mathlib.Core.Bool.{true, false, false≢true}
use mathlib.Core.List.{List}
use lib.Dec.{eqb}
use lib.IntN.{ℤ}
use borrow.Author.Tests.{ne_eqb}
use Rattle.format.specs.Lines.{Line, unlines}
use Rattle.format.specs.Fields.{Given}
use Rattle.format.specs.Header.{Entry, accepted, header, header_length}
use Rattle.format.specs.Data.{Place, nowhere, part, place_of}
use Rattle.format.specs.Calls.{data_answer, data_place_call, data_call, samples_call}
use Rattle.format.proofs.Places.{NumberedPlace, place_numbered, past, data_place_after, data_after, samples_after}
use Rattle.theorem_lists.specs.Lists.{in_first, moved_place}

-- ---- a place past the header, as an answer

not_0 : (m : ℕ) → NumberedPlace (nowhere m) → eqb m 0 ≡ false
not_0 m h = ne_eqb m 0 (λ e. let f : ⊥ = omega arith in f)

-- past a header of n bytes in place of h
answer_moved : (h n : ℕ) (p : Place) → NumberedPlace p → data_answer (past n p) ≡ moved_place h n (data_answer (past h p))
answer_moved h n (nowhere m) k = rw (not_0 m k)
answer_moved h n (part true start m) k = refl
answer_moved h n (part false start m) k = let e : h + start - h ≡ start = omega arith in rw e

-- not within the header
answer_past : (h : ℕ) (p : Place) → NumberedPlace p → in_first (data_answer (past h p)) ≡ true → h ≤ (data_answer (past h p)).start
answer_past h (nowhere m) k t = absurd (false≢true (rw (not_0 m k) at t))
answer_past h (part true start m) k t = absurd (false≢true t)
answer_past h (part false start m) k t = omega arith

-- ---- the files

module _ (first : List ℕ) {es : List Entry} {gs : List Given} {ls : List Line} (e : header first ≡ accepted es gs ls) (second : List ℕ) where
  abbrev place : Place
  place = place_of false gs 0 (unlines ls) second

  pub place_past : in_first (data_place_call first second) ≡ true → header_length es ≤ (data_place_call first second).start
  place_past =
      rw (data_place_after first e second) (answer_past (header_length es) place (place_numbered gs false 0 (unlines ls) second))

module _ (first file : List ℕ) {es fs : List Entry} {gs : List Given} {ls : List Line} (e : header first ≡ accepted es gs ls)
    (f : header file ≡ accepted fs gs ls) (second : List ℕ) where
  pub place_moved : data_place_call file second ≡ moved_place (header_length es) (header_length fs) (data_place_call first second)
  place_moved =
      rw (data_place_after first e second, data_place_after file f second)
      (answer_moved (header_length es) (header_length fs) (place first e second) (place_numbered gs false 0 (unlines ls) second))

  pub same_data : data_call file second ≡ data_call first second
  same_data = data_after file f second ∙ sym (data_after first e second)

  pub same_samples : (list : List ℤ) → samples_call file second list ≡ samples_call first second list
  same_samples list = samples_after file f second list ∙ sym (samples_after first e second list)
