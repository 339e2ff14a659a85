-- The rows of a sweep: where its samples are not refused there is a row, each has a sample, and the list has room for all.
-- Assumes nothing.
use Rattle.std.specs.Prelude.{if◌then◌else◌}
use Prim.Native.Nat.{ℕ, ◌*◌, ◌≤◌}
use native.Mathlib.Nat.{mul-one, mul_comm}
use native.Mathlib.Omega.{arith}
use mathlib.Core.Path.{◌≡◌, refl, ◌∙◌}
use mathlib.Core.Bool.{Bool, true, false, ◌&&◌, false≢true}
use mathlib.Core.List.{List, [], ◌∷◌, map}
use mathlib.Core.Option.{Option, none, some, none-ne-some}
use lib.Dec.{eqb, ltb, leb}
use lib.ListN.{length, get_or}
use borrow.Author.Tests.{eqb-true, leb-true, ltb-false}
use Rattle.format.specs.declared.Reading.{Reading}
use Rattle.format.specs.declared.CountAnswer.{CountAnswer}
use Rattle.format.specs.Bytes.{is_some, or_default, between}
use Rattle.format.specs.Limits.{max_size}
use Rattle.format.specs.Refusals.{lent_too_short, refusal, fine}
use Rattle.format.specs.Samples.{Decoded}
use Rattle.theorem_room.proofs.SamplesSeen.{samples_seen}
use Rattle.format.specs.Words.{number, within, number_in, numbers_in, words, value_of_number}
use Rattle.format.specs.Lines.{Line}
use Rattle.format.specs.Fields.{Given, descriptor_of, sizes}
use Rattle.format.specs.Descriptors.{meaning, may_describe, sizes_said, dimension_of, sizes_of, product, number_kind, type_of, sample_bytes, endian_of, encoding_of}
use Rattle.format.specs.Header.{Entry, Outcome, refused, accepted, header, header_length}
use Rattle.format.specs.Data.{Place, nowhere, part, place_of, part_of}
use Rattle.format.specs.Calls.{padded, no_reading, reading_of, read_answer, read_header_call, no_samples, count_of, decoded, answer_decoded, check_at, check_in, check_samples_call, seen_in}
use Rattle.format.proofs.Bytes.{and_left, and_right}
use Rattle.format.proofs.Rules.{accepted_keeps}
use Rattle.format.proofs.Oriented.{header_described}
use Rattle.format.proofs.Places.{NumberedPlace, place_numbered}
use Rattle.roof_sweep.specs.Sweeps.{attached, uint32, is_sweep, max_step, offset_of, offset_for}
use Rattle.roof_sweep.specs.Rows.{Rows}

-- ---- two sizes

-- a number from 1 on
positive : (t : List ℕ) → number_in 1 max_size t ≡ true → 1 ≤ value_of_number t
positive t e = go (number t) e
  where
    go : (o : Option ℕ) → within 1 max_size o ≡ true → 1 ≤ or_default 0 o
    go none e = absurd (false≢true e)
    go (some n) e = leb-true 1 n (and_left (leb 1 n) (leb n max_size) e)

-- the sizes of a reading are two numbers, from 1 on, and n is their product
pub record Two (ns : List ℕ) (n : ℕ) : Type 0 where
  pub first : 1 ≤ get_or ns 0 0
  pub second : 1 ≤ get_or ns 1 0
  pub all : get_or ns 1 0 * get_or ns 0 0 ≡ n

two_sizes : (ws : List (List ℕ)) → length ws ≡ 2 → numbers_in 1 max_size ws ≡ true → Two (padded (map value_of_number ws)) (product (map value_of_number ws))
unfolding numbers_in product
two_sizes [] l e = absurd (omega arith)
two_sizes (a ∷ []) l e = absurd (omega arith)
two_sizes (a ∷ b ∷ c ∷ ws) l e = absurd (omega arith)
two_sizes (a ∷ b ∷ []) l e =
    let r = and_right (number_in 1 max_size a) (number_in 1 max_size b && true) e in
    record {
      first = positive a (and_left (number_in 1 max_size a) (number_in 1 max_size b && true) e);
      second = positive b (and_left (number_in 1 max_size b) true r);
      all = rw (mul-one (value_of_number b)) (mul_comm (value_of_number b) (value_of_number a));
    }

module _ (file : List ℕ) {es : List Entry} {gs : List Given} {ls : List Line} (e : header file ≡ accepted es gs ls) where
  pub two_axes : dimension_of gs ≡ 2 → Two (padded (sizes_of gs)) (count_of gs)
  unfolding may_describe
  two_axes d = go (descriptor_of sizes gs) refl (accepted_keeps file e).needed.has_sizes
    where
      go : (o : Option (List ℕ)) → descriptor_of sizes gs ≡ o → is_some o ≡ true → Two (padded (meaning [] sizes_said o)) (product (meaning [] sizes_said o))
      go none q h = absurd (false≢true h)
      go (some t) q h =
          let k = (header_described file e sizes t q).described in
          let l = eqb-true (length (words t)) (dimension_of gs) (and_left (eqb (length (words t)) (dimension_of gs)) (numbers_in 1 max_size (words t)) k) in
          two_sizes (words t) (l ∙ d) (and_right (eqb (length (words t)) (dimension_of gs)) (numbers_in 1 max_size (words t)) k)

-- ---- the room

-- where the samples are not refused, the list is as long as the sizes ask
room_checked : (gs : List Given) (p : Place) (room : ℕ) (file second : List ℕ) → NumberedPlace p → (check_at gs p room file second).refusal.number ≡ 0 → count_of gs ≤ room
room_checked gs (nowhere n) room file second h z = absurd (let g : ⊥ = omega arith in g)
room_checked gs (part s start n) room file second h z = go (ltb room (count_of gs)) refl z
  where
    rest : CountAnswer
    rest = answer_decoded (count_of gs) (decoded gs (part_of (part s start n) file second))

    go : (b : Bool) → ltb room (count_of gs) ≡ b → (if b then no_samples (refusal lent_too_short) else rest).refusal.number ≡ 0 → count_of gs ≤ room
    go true e z = absurd (let g : ⊥ = omega arith in g)
    go false e z = ltb-false room (count_of gs) e

-- nothing is refused, so the samples are seen
module _ (file : List ℕ) (room : ℕ) (gs : List Given) where
  pub none_refused : (p : Place) → NumberedPlace p → (check_at gs p room file []).refusal.number ≡ 0 → (decoded gs (part_of p file [])).number ≡ 0
  none_refused (nowhere n) l e = absurd (omega arith)
  none_refused (part s start n) l e = go (ltb room (count_of gs)) (decoded gs (part_of (part s start n) file [])) e
    where
      by : (d : Decoded) (x : Bool) → eqb d.number 0 ≡ x → (if x then record { refusal = fine; count = count_of gs } else no_samples (refusal d.number)).refusal.number ≡ 0 → d.number ≡ 0
      by d true q e = eqb-true d.number 0 q
      by d false q e = e

      go : (x : Bool) (d : Decoded) → (if x then no_samples (refusal lent_too_short) else answer_decoded (count_of gs) d).refusal.number ≡ 0 → d.number ≡ 0
      go true d e = absurd (omega arith)
      go false d e = by d (eqb d.number 0) refl e

-- the samples are no more than the list has room for
pub seen_few : (file : List ℕ) (room : ℕ) (o : Outcome) → (check_in room file [] o).refusal.number ≡ 0 → length (seen_in file [] o) ≤ room
seen_few file room (refused r) z = omega arith
seen_few file room (accepted es gs ls) z =
    let p = place_of true gs (header_length es) file [] in
    let k = place_numbered gs true (header_length es) file [] in
    let n : length (decoded gs (part_of p file [])).seen ≡ count_of gs =
    (samples_seen (number_kind (type_of gs)) (sample_bytes (type_of gs)) (endian_of gs) (encoding_of gs) (count_of gs) (part_of p file [])).1 (none_refused file room gs p k z) in
    omega (arith, n, room_checked gs p room file [] k z)

-- ---- a sweep

sweep_axes : (r : Reading) → is_sweep r ≡ true → r.dimension ≡ 2
sweep_axes r e =
    let f = and_right (eqb r.form attached) (eqb r.sampletype uint32 && eqb r.dimension 2) e in
    eqb-true r.dimension 2 (and_right (eqb r.sampletype uint32) (eqb r.dimension 2) f)

module _ (file : List ℕ) (room : ℕ) where
  rows_in : (o : Outcome) → header file ≡ o → is_sweep (read_answer o).reading ≡ true → (check_in room file [] o).refusal.number ≡ 0 → Rows (read_answer o).reading room
  unfolding no_reading reading_of
  rows_in (refused r) e s z = absurd (false≢true s)
  rows_in (accepted es gs ls) e s z =
      let t = two_axes file e (sweep_axes (reading_of es gs) s) in
      let m = room_checked gs (place_of true gs (header_length es) file []) room file [] (place_numbered gs true (header_length es) file []) z in
      record { long = t.first; some = t.second; fit = rw t.all m }

  pub sweep_rows : is_sweep (read_header_call file).reading ≡ true → (check_samples_call file [] room).refusal.number ≡ 0 → Rows (read_header_call file).reading room
  sweep_rows s z = rows_in (header file) refl s z

-- what an offset tells of the file and of the largest step
module _ (file : List ℕ) (largest : ℕ) {n : ℕ} (e : offset_for file largest ≡ some n) where
  asked : (is_sweep (read_header_call file).reading && between 1 max_step largest) ≡ true
  unfolding offset_for
  asked = go (is_sweep (read_header_call file).reading && between 1 max_step largest) e
    where
      go : (b : Bool) → (if b then offset_of file else none) ≡ some n → b ≡ true
      go true q = refl
      go false q = absurd (none-ne-some _ q)

  pub offset_sweep : is_sweep (read_header_call file).reading ≡ true
  offset_sweep = and_left (is_sweep (read_header_call file).reading) (between 1 max_step largest) asked

  pub offset_step : largest ≤ max_step
  offset_step = leb-true largest max_step (and_right (leb 1 largest) (leb largest max_step) (and_right (is_sweep (read_header_call file).reading) (between 1 max_step largest) asked))
