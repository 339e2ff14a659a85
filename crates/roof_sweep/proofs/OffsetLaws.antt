-- Laws of the offset: the number that digits write, digit by digit, up to 255, and what an answer tells of it.
-- Assumes nothing.
use Rattle.std.specs.Prelude.{if◌then◌else◌}
use Prim.Native.Nat.{ℕ, ◌+◌, ◌-◌, ◌*◌, ◌≤◌, ◌<◌, min}
use native.Mathlib.Numerals.{add-one}
use native.Mathlib.Omega.{arith}
use mathlib.Core.Path.{◌≡◌, refl, sym, ap, ◌∙◌}
use mathlib.Core.Bool.{Bool, true, false, ◌&&◌, false≢true}
use mathlib.Core.List.{List, [], ◌∷◌}
use mathlib.Core.Option.{Option, none, some}
use lib.Dec.{leb}
use lib.ListN.{length, take, drop, get_or, drop_of_length-le}
use lib.Seq.{drop-cons}
use borrow.Author.Tests.{leb-true, leb-false, le-leb, lt-leb}
use Rattle.format.specs.declared.Reading.{Reading}
use Rattle.format.specs.declared.FindAnswer.{FindAnswer}
use Rattle.format.specs.Bytes.{is_digit, between}
use Rattle.format.specs.Words.{digits_from, number, within}
use Rattle.format.specs.Header.{Outcome, refused, accepted, header, value_of}
use Rattle.format.specs.Calls.{read_header_call, find_key_call}
use Rattle.format.specs.Found.{Finds, escaped, FindsKey}
use Rattle.roof_sweep.specs.Sweeps.{is_sweep, max_step, utc_offset, offset_said, offset_of, offset_for, sweep_answer}
use Rattle.roof_steps.specs.Steps.{number_found}
use Rattle.format.specs.Refusals.{fine}
use Rattle.std.specs.Prelude.{Option as Maybe}
use Rattle.std.specs.Prelude.{Some, None}
use Rattle.std.specs.Prelude.{is_some as some_there}
use Rattle.std.specs.Option.{unwrap_or}

-- ---- digit by digit

-- what a number from 0 to 255 says
abbrev pub answered : Option ℕ → Option ℕ
answered o = if within 0 255 o then o else none

-- a number above 255 stays above it, whatever digits follow
pub above : (n : ℕ) (s : List ℕ) → 255 < n → answered (digits_from n s) ≡ none
unfolding digits_from
above n [] h = rw (le-leb 0 n (omega arith), lt-leb n 255 h)
above n (b ∷ s) h = go (is_digit b) (above (n * 10 + (b - 48)) s (omega arith))
  where
    go : (x : Bool) → answered (digits_from (n * 10 + (b - 48)) s) ≡ none → answered (if x then digits_from (n * 10 + (b - 48)) s else none) ≡ none
    go true e = e
    go false e = refl

-- the empty text is no number, and any other is what its digits write
pub said_empty : (s : List ℕ) → length s ≡ 0 → offset_said s ≡ none
unfolding offset_said number
said_empty [] h = refl
said_empty (b ∷ s) h = absurd (omega arith)

pub said_digits : (s : List ℕ) → (length s ≡ 0 → ⊥) → offset_said s ≡ answered (digits_from 0 s)
unfolding offset_said number
said_digits [] h = absurd (h refl)
said_digits (b ∷ s) h = refl

drop_next : (s : List ℕ) (i : ℕ) → i < length s → drop i s ≡ get_or s i 0 ∷ drop (i + 1) s
drop_next s i h = rw add-one (drop-cons s i 0 h)

module _ (s : List ℕ) (i n : ℕ) where
  -- a byte that is no digit
  pub digits_low : i < length s → get_or s i 0 < 48 → answered (digits_from n (drop i s)) ≡ none
  unfolding digits_from
  digits_low h d = rw (drop_next s i h, lt-leb 48 (get_or s i 0) d)

  pub digits_high : i < length s → 57 < get_or s i 0 → answered (digits_from n (drop i s)) ≡ none
  unfolding digits_from
  digits_high h d = rw (drop_next s i h, le-leb 48 (get_or s i 0) (omega arith), lt-leb (get_or s i 0) 57 d)

  -- one digit more
  pub digits_next : i < length s → 48 ≤ get_or s i 0 → get_or s i 0 ≤ 57
      → answered (digits_from n (drop i s)) ≡ answered (digits_from (n * 10 + (get_or s i 0 - 48)) (drop (i + 1) s))
  unfolding digits_from
  digits_next h d e = rw (drop_next s i h, le-leb 48 (get_or s i 0) d, le-leb (get_or s i 0) 57 e)

  -- after the last digit
  pub digits_end : length s ≤ i → n ≤ 255 → answered (digits_from n (drop i s)) ≡ some n
  unfolding digits_from
  digits_end h l = rw (drop_of_length-le s h, le-leb 0 n (omega arith), le-leb n 255 l)

-- ---- the text of the key's value, by the place p where it lies in the file

module _ (file : List ℕ) (p : FindAnswer) where
  -- it lies within the file
  pub place_within : FindsKey file utc_offset (header file) p → p.found ≡ true → p.start + p.length ≤ length file
  place_within w t = go (header file) w
    where
      by : (o : Option (List ℕ)) → Finds file (escaped o) p → p.start + p.length ≤ length file
      by none q = absurd (false≢true (sym (ap (λ (x : FindAnswer). x.found) q) ∙ t))
      by (some v) q = q.within

      go : (o : Outcome) → FindsKey file utc_offset o p → p.start + p.length ≤ length file
      go (refused r) q = absurd (false≢true (sym (ap (λ (x : FindAnswer). x.found) q) ∙ t))
      go (accepted es gs ls) q = by (value_of utc_offset es) q

  module _ (e : p ≡ find_key_call file utc_offset) where
    pub offset_absent : p.found ≡ false → offset_of file ≡ none
    offset_absent f = rw (← e, f)

    pub offset_there : p.found ≡ true → offset_said (take (p.start + p.length - p.start) (drop p.start file)) ≡ offset_of file
    offset_there f =
        let l : p.start + p.length - p.start ≡ p.length = omega arith in
        ap (λ (k : ℕ). offset_said (take k (drop p.start file))) l ∙ rw (← e, f)

-- ---- the file and the largest step, by the tests in their order

module _ (file : List ℕ) (largest : ℕ) (r : Reading) (e : r ≡ (read_header_call file).reading) where
  pub not_sweep : is_sweep r ≡ false → offset_for file largest ≡ none
  unfolding offset_for
  not_sweep f = rw (← e, f)

  module _ (t : is_sweep r ≡ true) where
    pub step_low : largest < 1 → offset_for file largest ≡ none
    unfolding offset_for
    step_low h = rw (← e, t, lt-leb 1 largest h)

    pub step_high : 1 ≤ largest → max_step < largest → offset_for file largest ≡ none
    unfolding offset_for
    step_high l h = rw (← e, t, le-leb 1 largest l, lt-leb largest max_step h)

    pub step_fine : 1 ≤ largest → largest ≤ max_step → offset_for file largest ≡ offset_of file
    unfolding offset_for
    step_fine l h = rw (← e, t, le-leb 1 largest l, le-leb largest max_step h)

-- ---- what an answer tells

pub none_found : (o : Option ℕ) → None ≡ number_found o → o ≡ none
none_found none q = refl
none_found (some n) q = absurd (let x : ◌≡◌ {A = ℕ} 0 1 = cc in omega arith)

got : Maybe ℕ → ℕ
got None = 0
got (Some n) = n

pub some_found : (o : Option ℕ) (n : ℕ) → Some n ≡ number_found o → o ≡ some n
unfolding got
some_found none n q = absurd (let x : ◌≡◌ {A = ℕ} 0 1 = cc in omega arith)
some_found (some k) n q = ap some (sym (ap got q))

-- the answer by the first wrong row
pub row_told : (offset : ℕ) (o : Option ℕ) → record { refusal = fine; offset = offset; wrong = some_there (number_found o); row = unwrap_or (number_found o) 0 } ≡ sweep_answer offset o
row_told offset none = refl
row_told offset (some row) = refl
